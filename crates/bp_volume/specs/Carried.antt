-- What a call does to a region before its end-of-call marker.
use Rattle.std.specs.Prelude.{◌≡◌, ℕ, ◌<◌, List, Bool, true}
use Rattle.pm_region.specs.Memory.{Memory, current_words, room_in}
use Rattle.bp_layout.specs.Need.{Change}
use Rattle.bp_layout.specs.Trees.{AreInSnapshot}
use Rattle.bp_layout.specs.Words.{Image}
use Rattle.bp_layout.specs.declared.fields.Kind.{Kind}
use Rattle.bp_layout.specs.declared.fields.Kind.TheVariants.{File, Dir}
use Rattle.bp_plain.specs.PlainTree.{FileTree}
use Rattle.bp_plain.specs.Stands.{Stands}
use Rattle.bp_plain.specs.Calls.{Call, Answer}
use Rattle.bp_plain.specs.Calls.Call.{create, mkdir}
use Rattle.bp_changes.specs.Performs.{Performs}
use Rattle.bp_fs.specs.Step.{StepFor, IsChange}
use Rattle.bp_fs.specs.FileCall.{has_changed}
use Rattle.bp_volume.specs.Queries.{Answers}

-- The call that makes an empty file or an empty directory.
abbrev pub making : Kind → List ℕ → Call
making File text = create text
making Dir text = mkdir text

-- The call with this answer changes each tree that the first image represents, and is a step to the second image.
abbrev pub ChangesTree : Call → Answer → Image → Image → Type 0
ChangesTree call answer image new = (tree : FileTree) → Stands image tree →
    (has_changed tree call answer ≡ true) × StepFor image tree call answer new

-- The call makes one change to the image, that change is its step, and the log still has room for its end-of-call
-- marker. `in_snapshot` is the blocks of the snapshot.
pub record PerformsCall (old : Memory) (call : Call) (answer : Answer) (new : Memory) : Type 0 where
  pub change : Change
  pub is : IsChange (current_words old) call change
  pub in_snapshot : ℕ → Bool
  pub snapshot_blocks : AreInSnapshot (current_words old) in_snapshot
  pub performs : Performs in_snapshot old new change (ChangesTree call answer)
  pub room : 0 < room_in new

-- The call is carried out except for its end-of-call marker: either it makes its change, or it changes nothing and
-- `answer` is a possible answer.
pub data CarriesOut (old : Memory) (call : Call) (answer : Answer) (new : Memory) : Type 0 where
  changed : PerformsCall old call answer new → CarriesOut old call answer new
  unchanged : new ≡ old → Answers (current_words old) call answer → CarriesOut old call answer new
