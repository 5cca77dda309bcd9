use Rattle.std.proofs.Common.{◌≡◌, ℕ, ◌++◌}
use Rattle.bp_layout.specs.EntryWords.{IsRow}
use Rattle.bp_layout.specs.Inode.{root_of}
use Rattle.bp_layout.specs.Words.{Image}
use Rattle.bp_export.specs.Entries.{entries_named}
use Rattle.bp_export.proofs.entries.Entries.add_row.Given as goal

abbrev pub invariant-loop-index : goal.invariant-loop-index
invariant-loop-index l =
    (image : Image) (i first count : ℕ) → IsRow image (root_of image i) first count l.words →
    l.self ≡ l.fn.self ++ entries_named image i first l.index
