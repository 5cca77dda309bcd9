-- A call on a file, from its parts.
use Rattle.std.proofs.Common.{◌≡◌, ℕ, List, [], ◌∷◌, ◌++◌, true, false, refl, sym, ◌∙◌, ap, subst}
use Rattle.pm_epochs.specs.declared.event.Event.{Event}
use Rattle.pm_epochs.specs.declared.event.Event.TheVariants.{CallEnd}
use Rattle.pm_epochs.specs.Log.{call_ends}
use Rattle.bp_changes.specs.Performs.{IsShort}
use Rattle.bp_changes.proofs.PerformsLaws.{performed, performs_adds, performs_short, performs_no_call_end}
use Rattle.pm_region.specs.Memory.{Memory, current_words, with_room, Adds}
use Rattle.pm_region.specs.Safe.{IsSafe}
use Rattle.pm_region.proofs.MemoryLaws.{adds_both, current_words-adds, capacity-adds, current_words-with_room}
use Rattle.pm_region.proofs.SafeLaws.{safe_call_end}
use Rattle.bp_free.specs.declared.parts.Parts.{Parts}
use Rattle.bp_layout.specs.Trees.{AreInSnapshot}
use Rattle.bp_layout.specs.Whole.{IsFileSystem, SameFiles}
use Rattle.bp_layout.specs.Words.{Image}
use Rattle.bp_plain.specs.Calls.{Call, Answer}
use Rattle.bp_plain.specs.PlainTree.{FileTree}
use Rattle.bp_plain.specs.Stands.{Stands}
use Rattle.bp_changes.specs.Sets.{IsExact}
use Rattle.bp_volume.specs.Carried.{ChangesTree, PerformsCall}
use Rattle.bp_fs.specs.Step.{IsChange, Step}
use Rattle.bp_limits.specs.Limits.{call_room}
use Rattle.bp_fs.specs.FileCall.{IsCheap, has_changed}
use Rattle.bp_fs.specs.FileCall.IsCheap.{changes}
use Rattle.bp_volume.specs.Queries.{Answers}
use Rattle.bp_volume.specs.Volume.{IsVolume}
use Rattle.bp_volume.proofs.SafeLaws.{whole_safe}
use Rattle.bp_volume.proofs.WholeLaws.{whole_equivalence}

-- the sets and counts of parts do not hang on their region
pub exact_parts : {R : Type 0} (image : Image) (parts : Parts R) (region : R) → IsExact image parts → IsExact image (record parts { region = region })
exact_parts image parts region exact = record {
  sets = exact.sets;
  counts = exact.counts;
  count_room = exact.count_room;
  snapshot_room = exact.snapshot_room;
}

pub volume-ended : {R : Type 0} (old new : Memory) (parts : Parts R) (region : R) (pending : ℕ) → IsVolume old parts pending → Adds old new (CallEnd ∷ []) → IsVolume new (record parts { region = region }) pending
volume-ended old new parts region pending volume adds =
    let words : current_words new ≡ current_words old = current_words-adds old new (CallEnd ∷ []) adds in
    record {
      safe = safe_call_end SameFiles whole_equivalence old new volume.safe adds;
      roomy = rw (capacity-adds old new (CallEnd ∷ []) adds) volume.roomy;
      well_formed = rw words volume.well_formed;
      snapshot_blocks = rw words volume.snapshot_blocks;
      exact = rw words (exact_parts (current_words old) parts region volume.exact);
      scans = rw words volume.scans;
    }

-- ---- calls, from the memory after the room that they made

-- What a call on files does to a memory, by the memory's own words. At a view of a region this is what the call does as the
-- view shows it; `raw_call` (`RolesLaws`) makes the call on the region below of it.
pub record SeenCall (old : Memory) (call : Call) (answer : Answer) (new : Memory) : Type 0 where
  pub added : List Event
  pub no_call_end : call_ends added ≡ 0
  pub adds : Adds (with_room call_room old) new (added ++ CallEnd ∷ [])
  pub step : Step (current_words old) call answer (current_words new)
  pub silent : (tree : FileTree) → Stands (current_words old) tree → has_changed tree call answer ≡ false → added ≡ []
  pub short : (tree : FileTree) → Stands (current_words old) tree → has_changed tree call answer ≡ true → IsCheap (current_words old) call (current_words new) added
  pub safe : IsSafe SameFiles new

-- a call that changes nothing: its marker is all that it adds
pub file_call_unchanged : (old middle new : Memory) (call : Call) (answer : Answer) → middle ≡ with_room call_room old → IsSafe SameFiles middle → Adds middle new (CallEnd ∷ []) →
    Answers (current_words middle) call answer → SeenCall old call answer new
file_call_unchanged old middle new call answer room safe adds reports =
    let before : current_words middle ≡ current_words old = ap current_words room ∙ current_words-with_room call_room old in
    let words : current_words new ≡ current_words old = current_words-adds middle new (CallEnd ∷ []) adds ∙ before in
    let reported : Answers (current_words old) call answer = rw before at reports in
    record {
      added = [];
      no_call_end = refl;
      adds = rw room at adds;
      step = λ tree stands. rw words (reported tree stands).1;
      silent = λ tree stands none. refl;
      short = λ tree stands changed. absurd (let both : true ≡ false = sym changed ∙ (reported tree stands).0 in cc);
      safe = safe_call_end SameFiles whole_equivalence middle new safe adds;
    }

-- a call that changes the tree: a preparation, one store alone in its epoch, and its marker
pub file_call_changed : (old middle committed new : Memory) (call : Call) (answer : Answer) → middle ≡ with_room call_room old → IsSafe SameFiles middle → IsFileSystem (current_words middle) →
    PerformsCall middle call answer committed → Adds committed new (CallEnd ∷ []) → SeenCall old call answer new
file_call_changed old middle committed new call answer room safe is does ends =
    let events = performed does.in_snapshot middle committed does.change (ChangesTree call answer) does.performs in
    let before : current_words middle ≡ current_words old = ap current_words room ∙ current_words-with_room call_room old in
    let words : current_words new ≡ current_words committed = current_words-adds committed new (CallEnd ∷ []) ends in
    let reported : ChangesTree call answer (current_words old) (current_words committed) = rw before at does.performs.effect in
    let change : IsChange (current_words old) call does.change = rw before at does.is in
    let snapshot_blocks : AreInSnapshot (current_words old) does.in_snapshot = rw before at does.snapshot_blocks in
    let short : IsShort (current_words old) (current_words committed) does.in_snapshot does.change events =
    subst (λ w. IsShort w (current_words committed) does.in_snapshot does.change events) before (performs_short does.in_snapshot middle committed does.change (ChangesTree call answer) does.performs) in
    record {
      added = events;
      no_call_end = performs_no_call_end does.in_snapshot middle committed does.change (ChangesTree call answer) does.performs;
      adds = subst (λ memory. Adds memory new (events ++ CallEnd ∷ [])) room
          (adds_both middle committed new events (CallEnd ∷ []) (performs_adds does.in_snapshot middle committed does.change (ChangesTree call answer) does.performs) ends);
      step = λ tree stands. rw words (reported tree stands).1;
      silent = λ tree stands none. absurd (let both : true ≡ false = sym (reported tree stands).0 ∙ none in cc);
      short = λ tree stands changed. changes change snapshot_blocks (rw words short);
      safe = whole_safe does.in_snapshot middle committed does.change (ChangesTree call answer) does.performs is does.snapshot_blocks new ends safe;
    }
