-- The output of the lines of calls, one list after the other.
use Rattle.std.specs.Prelude.{◌≡◌, ℕ, ◌+◌, ◌*◌, ◌≤◌, min, Bool, List, [], ◌∷◌, ◌++◌, ◌==◌, Option, None, Some, Result, OnErr, OnOk, if◌then◌else◌}
use Rattle.bp_io.specs.Causes.{HasCause}
use Rattle.bp_io.specs.Views.{SinkView}
use Rattle.bp_io.specs.declared.faults.Failed.{Failed}
use Rattle.bp_layout.specs.Formatted.{version_of}
use Rattle.bp_layout.specs.Reached.{IsReached}
use Rattle.bp_layout.specs.Tree.{content}
use Rattle.bp_layout.specs.WellFormed.{IsWellFormed}
use Rattle.bp_layout.specs.Words.{Image}
use Rattle.bp_limits.specs.CallLimits.{allows_attributes}
use Rattle.bp_limits.specs.Limits.{block_size}
use Rattle.bp_plain.specs.Calls.{Call}
use Rattle.bp_plain.specs.Calls.Call.{create, set_attribute, truncate}
use Rattle.bp_plain.specs.Export.{is_zeros, size_call, stretch, writes_of}
use Rattle.bp_replies.specs.Gathering.{PassesOn, waiting}
use Rattle.bp_replies.specs.Taking.{TakesPart}
use Rattle.bp_replies.specs.declared.replies.Replies.{Replies}
use Rattle.bp_script.specs.Export.{call_lines}
use Rattle.bp_read.specs.declared.tree.Tree.{Tree}
use Rattle.pm_region.specs.Memory.{Memory, current_words}

-- The lines of these calls were added to those that wait for a sink; or the sink failed, and took a proper prefix of
-- both.
pub record Reports {T : Type 0} (calls : List Call) (result : Result T Failed) (before after : List ℕ) (old new : SinkView) : Type 0 where
  pub all : OnOk result (PassesOn (call_lines calls) before after old.taken new.taken)
  pub some : OnErr result (TakesPart (before ++ call_lines calls) old.taken new.taken)
  pub cause : HasCause old.faults new.faults result

-- The lines of these calls were added to the waiting replies, or the sink failed.
abbrev pub ReportsAmong : {T : Type 0} → List Call → Result T Failed → Replies → SinkView → Replies → SinkView → Type 0
ReportsAmong calls result replies sink replies_now sink_now =
    Reports calls result (waiting replies) (waiting replies_now) sink sink_now

-- ---- a file

-- The bytes of the file with this tree, in the current words of a region.
abbrev pub content_in : Memory → Tree → List ℕ
content_in memory tree = content (current_words memory) tree.root tree.size

-- The calls that make this file at the path with this text, except those that set its attributes.
abbrev pub calls_to_make : List ℕ → Memory → Tree → List Call
calls_to_make text memory tree =
    create text ∷ writes_of text (content_in memory tree) ++ size_call text (content_in memory tree)

-- The end of the write of a stretch, in a file of this size; none if the bytes of the stretch are zeros.
abbrev pub write_end : List ℕ → ℕ → ℕ → Option ℕ
write_end bytes leaf size = if is_zeros (stretch bytes leaf) then None else Some (min (block_size * leaf + block_size) size)

-- The call that sets the size of a file, unless the last written stretch ends there.
abbrev pub size_after : List ℕ → ℕ → ℕ → List Call
size_after text noted size = if noted == size then [] else truncate text size ∷ []

-- ---- attributes

-- A walk writes inode i, which is reachable and not the inode file. The walk knows whether inodes have attributes.
pub record WritesInode (image : Image) (i : ℕ) (attributes : Bool) : Type 0 where
  pub well_formed : IsWellFormed image
  pub reached : IsReached image i
  pub some : 1 ≤ i
  pub known : attributes ≡ allows_attributes (version_of image)

-- The call that gives an attribute this value, unless the value is 0.
abbrev pub attribute_call : List ℕ → ℕ → ℕ → List Call
attribute_call text number value = if value == 0 then [] else set_attribute text number value ∷ []
