-- A call that changes the tree, from the change that it makes.
use Rattle.std.proofs.Common.{◌≡◌, ℕ, ◌<◌, ◌≤◌, Bool, true, false, true≢false, length, refl, ◌∙◌, sym, ap, ap₂, subst, arith, None}
use Rattle.std.specs.Prelude.{◌&&◌, is_none, if◌then◌else◌, is_err, Result, Ok, Err, IsErrAnd, MatchResult, IfErr, OnErr, OnOk}
use Rattle.pm_region.specs.Memory.{Memory, current_words, room_in}
use Rattle.bp_free.specs.declared.parts.NoSpace.{NoSpace}
use Rattle.bp_layout.specs.Words.{Image}
use Rattle.bp_layout.specs.Free.{HasFree}
use Rattle.bp_layout.specs.Need.{Change}
use Rattle.bp_layout.specs.Thaw.{full_need}
use Rattle.bp_layout.specs.Trees.{AreInSnapshot}
use Rattle.bp_layout.specs.Whole.{IsFileSystem}
use Rattle.bp_plain.specs.declared.errors.FsError.{FsError}
use Rattle.bp_plain.specs.PlainTree.{FileTree}
use Rattle.bp_plain.specs.Stands.{Shows, Stands}
use Rattle.bp_plain.specs.Calls.{Call}
use Rattle.bp_plain.specs.Calls.Refusal.{no_space}
use Rattle.bp_plain.specs.Calls.Answer.{done, refused}
use Rattle.bp_plain.specs.Plain.{plain, is_changing, refusal, changes, answer, answer_or, tree_after, with_now}
use Rattle.bp_plain.specs.Seen.{refusal_of}
use Rattle.bp_changes.specs.Performs.{Performs}
use Rattle.bp_changes.proofs.PerformsLaws.{performs_as, performs_fits}
use Rattle.bp_calls.specs.Space.{LacksSpace}
use Rattle.bp_fs.specs.Step.{StepFor, IsChange, Fits}
use Rattle.bp_fs.specs.Step.StepFor.{changed}
use Rattle.bp_volume.specs.Queries.{Answers}
use Rattle.bp_volume.specs.Carried.{CarriesOut, ChangesTree, PerformsCall}
use Rattle.bp_volume.specs.Carried.CarriesOut.{changed as carried, unchanged}
use Rattle.bp_volume.specs.Seen.{unit_answer}
use Rattle.bp_volume.proofs.StepLaws.{no_space_steps}
use Rattle.bp_volume.proofs.WholeLaws.{whole_stands}

-- The blocks of a snapshot are reported in one way.
pub snapshot_once : (image : Image) (one other : ℕ → Bool) → AreInSnapshot image one → AreInSnapshot image other → one ≡ other
snapshot_once image one other are also = λ i b. at b (one b) refl (other b) refl i
  where
    at : (b : ℕ) (x : Bool) → one b ≡ x → (y : Bool) → other b ≡ y → one b ≡ other b
    at b true e y f = e ∙ sym (also.all b (are.are b e))
    at b false e true f = are.all b (also.are b f) ∙ sym f
    at b false e false f = e ∙ sym f

-- The change is the one that the call makes of an image, and no tree for which that stands refuses the call. Of the tree
-- the call changes no more than what it has now.
pub record MakesChange (image : Image) (call : Call) (change : Change) : Type 0 where
  pub is : IsChange image call change
  pub alike : (other : Change) → IsChange image call other → other ≡ change
  pub allowed : (tree : FileTree) → Stands image tree → refusal tree call ≡ None
  pub changing : (tree : FileTree) → Stands image tree → changes tree call ≡ true
  pub says : (tree : FileTree) → answer tree call ≡ done
  pub stays : (tree : FileTree) → tree_after tree call ≡ with_now tree (tree_after tree call).now

module _ (image : Image) (call : Call) (change : Change) (makes : MakesChange image call change) (in_snapshot : ℕ → Bool) (snapshot_blocks : AreInSnapshot image in_snapshot) where
  changes_now : (tree : FileTree) → Stands image tree → is_changing tree call ≡ true
  changes_now tree stands = ap (λ o. is_none o && changes tree call) (makes.allowed tree stands) ∙ makes.changing tree stands

  -- where fewer blocks are free than it needs, it is refused
  pub lacks_space : (lacks : NoSpace) → LacksSpace image in_snapshot change lacks → Answers image call (refused (no_space lacks.need lacks.free))
  lacks_space lacks lack tree stands =
      no_space_steps image tree call lacks.need lacks.free (changes_now tree stands)
      (record { change = change; is = makes.is; in_snapshot = in_snapshot; snapshot_blocks = snapshot_blocks; needs = lack.needed; has = lack.free }) lack.fewer

  module _ (room : (free : ℕ) → HasFree image in_snapshot free → full_need image in_snapshot change ≤ free) where
    fits : Fits image call
    fits needed free has =
        let same : has.in_snapshot ≡ in_snapshot = snapshot_once image has.in_snapshot in_snapshot has.snapshot_blocks snapshot_blocks in
        let needs : full_need image in_snapshot change ≡ needed = ap₂ (full_need image) (sym same) (sym (makes.alike has.change has.is)) ∙ has.needs in
        let enough : full_need image in_snapshot change ≤ free = room free (subst (λ k. HasFree image k free) same has.has) in
        omega (arith, needs, enough)

    -- the new image stands for the tree that the call makes
    changed_steps : (new : Image) → ((tree : FileTree) → Stands image tree → Stands new (tree_after tree call)) → ChangesTree call done image new
    changed_steps new becomes tree stands =
        let none : refusal tree call ≡ None = makes.allowed tree stands in
        let says : (plain tree call).0 ≡ done = ap (λ o. (answer_or tree call o).0) none ∙ makes.says tree in
        let gives : (plain tree call).1 ≡ tree_after tree call = ap (λ o. (answer_or tree call o).1) none ∙ ap (λ b. if b then tree_after tree call else tree) (makes.changing tree stands) in (
          ap (λ b. b && true) (changes_now tree stands),
          subst (λ a. StepFor image tree call a new) says (changed (changes_now tree stands) fits (subst (Stands new) (sym gives) (becomes tree stands))),
        )

-- a change that is performed, with what it makes of the plain tree
pub performs_call : (in_snapshot : ℕ → Bool) (old new : Memory) (call : Call) (change : Change) (Effect : Image → Image → Type 0) → IsFileSystem (current_words old) → AreInSnapshot (current_words old) in_snapshot →
    MakesChange (current_words old) call change → Performs in_snapshot old new change Effect →
    (Effect (current_words old) (current_words new) → (tree : FileTree) → Stands (current_words old) tree → Shows (current_words new) (tree_after tree call).now) → 0 < room_in new → PerformsCall old call done new
performs_call in_snapshot old new call change Effect is snapshot_blocks makes performs shows room = record {
  change = change;
  is = makes.is;
  in_snapshot = in_snapshot;
  snapshot_blocks = snapshot_blocks;
  performs = performs_as in_snapshot old new change Effect performs (ChangesTree call done)
      (λ effect. changed_steps (current_words old) call change makes in_snapshot snapshot_blocks (performs_fits in_snapshot old new change Effect performs) (current_words new) (becomes effect));
  room = room;
}
  where
    long : 4 ≤ length (current_words old)
    long = omega (arith, is.first.formatted.sized.whole, is.first.formatted.sized.at_least)

    becomes : Effect (current_words old) (current_words new) → (tree : FileTree) → Stands (current_words old) tree → Stands (current_words new) (tree_after tree call)
    becomes effect tree stands = subst (Stands (current_words new)) (sym (makes.stays tree))
        (whole_stands in_snapshot old new change Effect performs long is snapshot_blocks tree (tree_after tree call).now stands (shows effect tree stands))

-- A call on inodes, and its result with the refusal reported as that of a call with a path: it is performed, or it lacks space and has changed nothing.
pub carried_or_lacks : (old new : Memory) (call : Call) (inner : Result (Unit {0}) NoSpace) (outer : Result (Unit {0}) FsError) →
    MatchResult inner (λ x. outer ≡ Ok x) (λ lacks. IsErrAnd outer (λ error. refusal_of error ≡ no_space lacks.need lacks.free)) → OnOk inner (PerformsCall old call done new) →
    OnErr inner (new ≡ old) → IfErr inner (λ lacks. Answers (current_words old) call (refused (no_space lacks.need lacks.free))) → CarriesOut old call (unit_answer outer) new
carried_or_lacks old new call (Ok x) (Ok y) maps performs same reports = carried performs
carried_or_lacks old new call (Ok x) (Err error) maps performs same reports = absurd (true≢false (ap is_err maps))
carried_or_lacks old new call (Err lacks) (Ok y) maps performs same reports = absurd maps
carried_or_lacks old new call (Err lacks) (Err error) maps performs same reports = unchanged same (rw maps reports)

-- the same where it was refused
pub carried_lacks : (old new : Memory) (call : Call) (inner : Result (Unit {0}) NoSpace) (error : FsError) →
    MatchResult inner (λ x. ◌≡◌ {A = Result (Unit {0}) FsError} (Err error) (Ok x)) (λ lacks. refusal_of error ≡ no_space lacks.need lacks.free) →
    OnErr inner (new ≡ old) → IfErr inner (λ lacks. Answers (current_words old) call (refused (no_space lacks.need lacks.free))) → CarriesOut old call (refused (refusal_of error)) new
carried_lacks old new call (Ok x) error maps same reports = absurd (true≢false (ap is_err maps))
carried_lacks old new call (Err lacks) error maps same reports = unchanged same (rw maps reports)
