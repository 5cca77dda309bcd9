use Rattle.std.proofs.Common.{◌≡◌, ℕ, ◌++◌}
use Rattle.std.specs.List.{filter_map, range_with_len}
use Rattle.bp_layout.specs.Inode.{root_of}
use Rattle.pm_region.specs.Memory.{current_words}
use Rattle.bp_layout.specs.EntryWords.{IsRow}
use Rattle.bp_calls.specs.Asked.{entry_seen}
use Rattle.bp_calls.proofs.listing.list_row.Given as goal

abbrev pub invariant-loop-index : goal.invariant-loop-index
invariant-loop-index g l =
    (i first count : ℕ) → IsRow (current_words (g.R.Region.memory l.region)) (root_of (current_words (g.R.Region.memory l.region)) i) first count l.words →
    l.listing ≡ l.fn.listing ++ filter_map (entry_seen (current_words (g.R.Region.memory l.region)) i) (range_with_len first l.index)
