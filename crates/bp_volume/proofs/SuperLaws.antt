-- Calls that store words of the superblock beside the first tree, as far as their marker: a quiet preparation, and then
-- one store alone in its epoch.
use Rattle.std.proofs.Common.{◌≡◌, ◌≢◌, ℕ, ◌*◌, ◌<◌, ◌≤◌, List, [], ◌∷◌, ◌++◌, true, false, None, Some, inl, inr, refl, sym, ◌∙◌, ap, subst, arith}
use Rattle.std.specs.Prelude.{◌&&◌, is_none, if◌then◌else◌}
use Rattle.pm_epochs.specs.declared.event.Event.{Event}
use Rattle.pm_epochs.specs.declared.event.Event.TheVariants.{CallEnd}
use Rattle.pm_epochs.specs.Crash.{IsQuiet, commit}
use Rattle.pm_epochs.specs.Log.{IsPiece}
use Rattle.pm_epochs.specs.May.{AnyAt, EachMay, StoresMay}
use Rattle.pm_epochs.proofs.MayLaws.{EachMay-stored, same_where_none}
use Rattle.pm_region.specs.Memory.{Adds, Memory, current_words, room_in, with_room}
use Rattle.pm_region.specs.Safe.{AddsCommit, IsSafe}
use Rattle.pm_region.proofs.MemoryLaws.{adds_both, capacity-adds, current_words-adds, current_words-with_room}
use Rattle.pm_region.proofs.SafeLaws.{room_after_commit, safe_committed}
use Rattle.bp_free.specs.declared.parts.Parts.{Parts}
use Rattle.bp_layout.specs.Formatted.{version_of}
use Rattle.bp_layout.specs.Trees.{AreInSnapshot}
use Rattle.bp_layout.specs.Whole.{IsFileSystem, SameFiles}
use Rattle.bp_layout.specs.Words.{Image}
use Rattle.bp_layout.proofs.BesideTrees.{SameTrees}
use Rattle.bp_limits.specs.CallLimits.{allows_attributes}
use Rattle.bp_limits.specs.Limits.{call_room, magic, super_magic, version_at}
use Rattle.bp_limits.specs.declared.version.Version.{Version}
use Rattle.bp_limits.specs.declared.version.Version.TheVariants.{One, Two, Three}
use Rattle.bp_plain.specs.Calls.{Answer, Call}
use Rattle.bp_plain.specs.Calls.Answer.{done}
use Rattle.bp_plain.specs.Plain.{answer, answer_or, changes, is_changing, plain, refusal, tree_after}
use Rattle.bp_plain.specs.PlainTree.{FileTree}
use Rattle.bp_plain.specs.Stands.{Stands}
use Rattle.bp_changes.specs.Sets.{IsExact, in_snapshot_of}
use Rattle.bp_roles.specs.Mounted.{roles_of}
use Rattle.bp_roles.specs.Roles.{exchanged, swapped}
use Rattle.bp_roles.specs.declared.roles.Roles.{Roles}
use Rattle.bp_roles.specs.declared.roles.Roles.TheVariants.{OutsideA}
use Rattle.bp_roles.proofs.KeptLaws.{IsOutside, LeavesSeen}
use Rattle.bp_roles.proofs.SwapLaws.{swapped-first}
use Rattle.bp_volume.specs.Carried.{ChangesTree}
use Rattle.bp_fs.specs.FileCall.{has_changed}
use Rattle.bp_fs.specs.FileCall.IsCheap.{reports}
use Rattle.bp_fs.specs.SuperEvents.{super_events}
use Rattle.bp_fs.specs.Step.{Fits, StepFor}
use Rattle.bp_fs.specs.Step.StepFor.{changed}
use Rattle.bp_volume.specs.Queries.{Answers}
use Rattle.bp_volume.specs.Volume.{IsVolume}
use Rattle.bp_volume.proofs.CarriedLaws.{blocks-adds}
use Rattle.bp_volume.proofs.FileCallLaws.{SeenCall, exact_parts, file_call_unchanged, volume-ended}
use Rattle.bp_volume.proofs.SafeLaws.{whole_self}
use Rattle.bp_volume.proofs.WholeLaws.{whole_equivalence}

-- the words of the superblock that do not describe the first tree
abbrev pub IsBeside : ℕ → Type 0
IsBeside place = (place ≤ 7) × (place ≢ 2) × (place ≢ 3)

-- stores to some of them leave the first tree as it was
pub trees_beside : (Stored : ℕ → Type 0) → ((place : ℕ) → Stored place → place < 512) → (Stored 2 → ⊥) → (Stored 3 → ⊥) → (old new : Image) → EachMay (AnyAt Stored) old new → SameTrees old new
trees_beside Stored low not_root not_size old new each = record {
  whole = each.size;
  root = same_where_none (AnyAt Stored) old new each 2 (λ value at. not_root at);
  size = same_where_none (AnyAt Stored) old new each 3 (λ value at. not_size at);
  blocks = λ place high. same_where_none (AnyAt Stored) old new each place (λ value at. omega (arith, low place at, high));
}

-- An image before version 3 has the roles `OutsideA`, so a magic number that is seen in it is one that is stored. None of those
-- that an upgrade stores is the second one of version 3.
outside_early : (roles : Roles) (image : Image) → allows_attributes (version_of image) ≡ false → IsOutside roles image → roles ≡ OutsideA
outside_early roles image early (inl same) = same
outside_early roles image early (inr marked) = absurd (let both : true ≡ false = sym (ap (λ value. allows_attributes (version_at value)) marked.1) ∙ early in cc)

first_magic : (version : Version) → roles_of (exchanged (magic Three) (magic Three) (magic version)) ≡ OutsideA
first_magic One = refl
first_magic Two = refl
first_magic Three = refl

pub magic_leaves : (version : Version) (roles : Roles) (image : Image) → allows_attributes (version_of image) ≡ false → IsOutside roles image → LeavesSeen roles super_magic (magic version)
magic_leaves version roles image early outside there =
    subst (λ roles. roles_of (swapped roles super_magic (magic version)) ≡ roles) (sym (outside_early roles image early outside))
    (ap roles_of (swapped-first OutsideA (magic version)) ∙ first_magic version)

-- The call has these events, makes a file system, and changes each tree for which the image stands.
pub record StoresSuper (memory made : Memory) (call : Call) : Type 0 where
  pub prepared : List Event
  pub place : ℕ
  pub value : ℕ
  pub adds : Adds memory made (prepared ++ commit place value)
  pub quiet : IsQuiet SameFiles (current_words memory) prepared
  pub piece : IsPiece 2 5 (prepared ++ commit place value)
  pub beside : StoresMay (AnyAt IsBeside) (prepared ++ commit place value)
  -- through a view by roles outside a transaction: a mount would take the same roles after each of them
  pub leaves : (roles : Roles) → IsOutside roles (current_words memory) → StoresMay (LeavesSeen roles) (prepared ++ commit place value)
  pub reported : super_events (current_words memory) call ≡ Some (prepared ++ commit place value)
  pub well : IsFileSystem (current_words made)
  pub changes : ChangesTree call done (current_words memory) (current_words made)

-- it does so, or it changes nothing and this may be its answer
pub data CallsSuper (memory made : Memory) (call : Call) (answer : Answer) : Type 0 where
  altered : answer ≡ done → StoresSuper memory made call → CallsSuper memory made call answer
  unchanged : made ≡ memory → Answers (current_words memory) call answer → CallsSuper memory made call answer

module _ (memory made : Memory) (call : Call) (does : StoresSuper memory made call) where
  abbrev events : List Event
  events = does.prepared ++ commit does.place does.value

  whole_commit : AddsCommit SameFiles does.place does.value 2 5 memory made
  whole_commit = record { prepared = does.prepared; adds = does.adds; quiet = does.quiet; piece = does.piece }

  pub super_trees : SameTrees (current_words memory) (current_words made)
  super_trees =
      trees_beside IsBeside (λ place at. omega (arith, at.0)) (λ at. at.1 refl) (λ at. at.2 refl) (current_words memory) (current_words made)
      (rw (current_words-adds memory made events does.adds) (EachMay-stored (AnyAt IsBeside) (current_words memory) events does.beside))

  super_fits : call_room ≤ room_in memory → 1 ≤ room_in made
  super_fits room = omega (arith, room, room_after_commit SameFiles does.place does.value 2 5 memory made whole_commit)

  module _ (ended : Memory) (ends : Adds made ended (CallEnd ∷ [])) where
    words : current_words ended ≡ current_words made
    words = current_words-adds made ended (CallEnd ∷ []) ends

    super_safe : IsSafe SameFiles memory → IsSafe SameFiles ended
    super_safe safe =
        safe_committed SameFiles whole_equivalence does.place does.value 2 5 memory made ended safe whole_commit ends (rw words (whole_self (current_words made) does.well))

    super_volume : {R : Type 0} (parts after : Parts R) (region : R) (pending : ℕ) → IsVolume memory parts pending → IsExact (current_words made) after → AreInSnapshot (current_words made) (in_snapshot_of after) →
        IsVolume ended (record after { region = region }) pending
    super_volume parts after region pending volume exact snapshot_blocks = record {
      safe = super_safe volume.safe;
      roomy = rw (capacity-adds made ended (CallEnd ∷ []) ends ∙ capacity-adds memory made events does.adds) volume.roomy;
      well_formed = rw words does.well;
      snapshot_blocks = rw words snapshot_blocks;
      exact = rw words (exact_parts (current_words made) after region exact);
      scans = volume.scans ∙ ap (λ n. 64 * n) (sym (blocks-adds made ended (CallEnd ∷ []) ends ∙ blocks-adds memory made events does.adds));
    }

-- ---- a call, after the room that it made

-- its marker has room
pub super_call_end_fits : (memory made : Memory) (call : Call) (answer : Answer) → CallsSuper memory made call answer → call_room ≤ room_in memory → 1 ≤ room_in made
super_call_end_fits memory made call answer (altered is does) room = super_fits memory made call does room
super_call_end_fits memory made call answer (unchanged same reported) room = rw same (omega (arith, room))

pub volume_super : {R : Type 0} (memory made ended : Memory) (call : Call) (answer : Answer) (parts after : Parts R) (region : R) (pending : ℕ) → IsVolume memory parts pending → CallsSuper memory made call answer →
    IsExact (current_words made) after → AreInSnapshot (current_words made) (in_snapshot_of after) → Adds made ended (CallEnd ∷ []) → IsVolume ended (record after { region = region }) pending
volume_super memory made ended call answer parts after region pending volume (altered is does) exact snapshot_blocks ends = super_volume memory made call does ended ends parts after region pending volume exact snapshot_blocks
volume_super memory made ended call answer parts after region pending volume (unchanged same reported) exact snapshot_blocks ends =
    let here : IsVolume memory after pending = record {
      safe = volume.safe;
      roomy = volume.roomy;
      well_formed = volume.well_formed;
      snapshot_blocks = rw same at snapshot_blocks;
      exact = rw same at exact;
      scans = volume.scans;
    } in
    volume-ended memory ended after region pending here (rw same at ends)

-- the whole call
pub file_call_super : (old middle made new : Memory) (call : Call) (answer : Answer) → middle ≡ with_room call_room old → IsSafe SameFiles middle → CallsSuper middle made call answer → Adds made new (CallEnd ∷ []) →
    SeenCall old call answer new
file_call_super old middle made new call answer room safe (altered is does) ends =
    let before : current_words middle ≡ current_words old = ap current_words room ∙ current_words-with_room call_room old in
    let made_events : List Event = events middle made call does in
    let reported : ChangesTree call answer (current_words old) (current_words new) =
    rw is (rw (words middle made call does new ends) (subst (λ image. ChangesTree call done image (current_words made)) before does.changes)) in
    record {
      added = made_events;
      no_call_end = does.piece.no_call_end;
      adds = subst (λ memory. Adds memory new (made_events ++ CallEnd ∷ [])) room (adds_both middle made new made_events (CallEnd ∷ []) does.adds ends);
      step = λ tree stands. (reported tree stands).1;
      silent = λ tree stands none. absurd (let both : true ≡ false = sym (reported tree stands).0 ∙ none in cc);
      short = λ tree stands changing. reports (subst (λ image. super_events image call ≡ Some made_events) before does.reported);
      safe = super_safe middle made call does new ends safe;
    }
file_call_super old middle made new call answer room safe (unchanged same reported) ends = file_call_unchanged old middle new call answer room safe (rw same at ends) reported

-- ---- what such a call changes of a tree

-- where it is not refused, and changes the tree
pub changing_steps : (image made : Image) (tree : FileTree) (call : Call) → refusal tree call ≡ None → changes tree call ≡ true → answer tree call ≡ done → Fits image call → Stands made (tree_after tree call) →
    (has_changed tree call done ≡ true) × StepFor image tree call done made
changing_steps image made tree call none changing is fits stands =
    let now : is_changing tree call ≡ true = ap (λ o. is_none o && changes tree call) none ∙ changing in
    let says : (plain tree call).0 ≡ done = ap (λ o. (answer_or tree call o).0) none ∙ is in
    let gives : (plain tree call).1 ≡ tree_after tree call = ap (λ o. (answer_or tree call o).1) none ∙ ap (λ b. if b then tree_after tree call else tree) changing in
    (ap (λ b. b && true) now, subst (λ a. StepFor image tree call a made) says (changed now fits (subst (Stands made) (sym gives) stands)))
