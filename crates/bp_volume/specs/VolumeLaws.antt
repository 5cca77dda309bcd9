-- Properties that hold for all volumes.
use Rattle.std.specs.Prelude.{◌≡◌, ℕ, ◌<◌, ◌≤◌, List, length, None}
use Rattle.bp_calls.specs.InPlace.{LiesInWord}
use Rattle.bp_layout.specs.Words.{Image}
use Rattle.bp_limits.specs.Limits.{attributes}
use Rattle.bp_plain.specs.Calls.Call.{set_attribute, truncate, write}
use Rattle.bp_plain.specs.Plain.{bytes_at, path_named}
use Rattle.bp_plain.specs.PlainTree.{FileTree}
use Rattle.bp_plain.specs.Stands.{Stands}
use Rattle.bp_roles.specs.Mounted.{SameDurable}
use Rattle.bp_fs.specs.Step.{IsNeverShort, PathFinds}
use Rattle.pm_epochs.specs.Replay.{after_calls, kept_calls}
use Rattle.pm_region.specs.Memory.{Memory}
use Rattle.pm_steps.specs.Machine.{MachineState, MachineStep, cut_of}
use Rattle.pm_steps.specs.Runs.{RunsTo}

-- If these steps lead to this state, its words have the files and directories after the first calls of the log, to a
-- mount: as many calls as the state keeps whole.
abbrev pub ShowsFirstCalls : Memory → List MachineStep → MachineState → Type 0
ShowsFirstCalls memory steps state =
    RunsTo memory.base memory.events steps state →
    SameDurable state.words (after_calls memory.base memory.events
    (kept_calls memory.events (cut_of memory.events state.back)))

-- A truncate that does not make the file longer is never refused for lack of space or memory.
abbrev pub ShortensInPlace : Image → FileTree → List ℕ → ℕ → Type 0
ShortensInPlace image tree text size =
    size ≤ length (bytes_at tree.now.nodes (path_named text)) → IsNeverShort image tree (truncate text size)

-- A write of bytes that lie in one word of the file at the path is never refused for lack of space or memory.
abbrev pub WritesInPlace : Image → FileTree → List ℕ → ℕ → ℕ → List ℕ → Type 0
WritesInPlace image tree text i offset new =
    PathFinds image text i → LiesInWord image i offset (length new) → IsNeverShort image tree (write text offset new)

-- The call that sets an attribute is never refused for lack of space or memory.
abbrev pub SetsInPlace : Image → FileTree → List ℕ → ℕ → ℕ → Type 0
SetsInPlace image tree text number value =
    number < attributes → IsNeverShort image tree (set_attribute text number value)

-- The property holds for each tree for which the image stands, if it has no snapshot.
abbrev pub WithoutSnapshot : Image → (FileTree → Type 0) → Type 0
WithoutSnapshot image Holds = (tree : FileTree) → Stands image tree → tree.snap ≡ None → Holds tree
