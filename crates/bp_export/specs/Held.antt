-- The output of a walk, in terms of its working memory: the current path, the waiting lines and the first paths.
use Rattle.std.specs.Prelude.{◌≡◌, ℕ, List, Result}
use Rattle.bp_io.specs.Views.{SinkView}
use Rattle.bp_layout.specs.Formatted.{version_of}
use Rattle.bp_layout.specs.Inode.{attributes_of}
use Rattle.bp_layout.specs.Paths.{Node, Path}
use Rattle.bp_layout.specs.Paths.Node.{dir, file}
use Rattle.bp_layout.specs.Words.{Image}
use Rattle.bp_limits.specs.CallLimits.{allows_attributes}
use Rattle.bp_plain.specs.Calls.{Call}
use Rattle.bp_plain.specs.Export.{calls_for}
use Rattle.bp_plain.specs.PlainTree.{PathMap}
use Rattle.bp_replies.specs.Gathering.{waiting}
use Rattle.bp_read.specs.declared.tree.Tree.{Tree}
use Rattle.bp_export.specs.Report.{content_in}
use Rattle.bp_export.specs.Walking.{Place, Tours, WalkStandsAt, itself}
use Rattle.bp_export.specs.declared.fault.Fault.{Fault}
use Rattle.bp_export.specs.declared.work.Work.{Work}
use Rattle.pm_region.specs.Memory.{Memory, current_words}

-- The lines that no sink has taken yet.
abbrev pub held_lines : Work → List ℕ
held_lines work = waiting work.replies

-- The walk knows whether inodes have attributes in the version of the image.
abbrev pub KnowsAttributes : Image → Work → Type 0
KnowsAttributes image work = work.attributes ≡ allows_attributes (version_of image)

-- The walk is back at its path, and knows the same about attributes.
pub record IsBack (old new : Work) : Type 0 where
  pub path : new.path.items ≡ old.path.items
  pub attributes : new.attributes ≡ old.attributes

-- The calls that make file i, which has this tree, at the current path.
abbrev pub file_calls : Memory → ℕ → Tree → Work → List Call
file_calls memory i tree work =
    calls_for work.path.items (file (attributes_of (current_words memory) i) (content_in memory tree))

-- The calls that make directory i at the current path.
abbrev pub directory_calls : Memory → ℕ → Work → List Call
directory_calls memory i work = calls_for work.path.items (dir (attributes_of (current_words memory) i))

-- The walk is at the place: its path finds inode i, and the next entries follow those written before.
abbrev pub StandsHeld : Image → List ℕ → (PathMap → Path → List (Path × Node)) → ℕ → Work → Place → Type 0
StandsHeld image counts next i work place = WalkStandsAt image counts next i work.path.items work.firsts place

-- The next entries were written, at whichever place the walk is.
abbrev pub ToursHeld : {T : Type 0} → Image → List ℕ → (PathMap → Path → List (Path × Node)) → ℕ → Result T Fault
    → Work → SinkView → Work → SinkView → Type 0
ToursHeld image counts next i result work sink work_now sink_now =
    (place : Place) → StandsHeld image counts next i work place
    → Tours image counts next place result work_now.firsts (held_lines work) (held_lines work_now) sink sink_now

-- The entry at the path of the walk itself was written.
abbrev pub ToursItself : {T : Type 0} → Image → List ℕ → ℕ → Result T Fault → Work → SinkView → Work → SinkView → Type 0
ToursItself image counts i result work sink work_now sink_now =
    ToursHeld image counts (itself image i) i result work sink work_now sink_now
