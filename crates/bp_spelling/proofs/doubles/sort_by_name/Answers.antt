use Rattle.std.proofs.Common.{rules}
use Rattle.std.proofs.lemmas.Cmp.{nat_list_cmp_total}
use Rattle.std.proofs.lemmas.Fn.{always_returns_same}
use Rattle.std.proofs.lemmas.List.Sorted.{ranks_by}
use Rattle.pm_region.specs.Memory.{current_words}
use Rattle.bp_spelling.specs.Hashes.{spelled_key, spelled_lt}
use Rattle.bp_spelling.proofs.doubles.sort_by_name.Goals as goal

pub returns-clause-sorted : goal.returns-clause-sorted
returns-clause-sorted g c =
    let image = current_words (g.R.Region.memory c.args.region.now) in
    c.sort_unstable_by.ensures.sorted (spelled_lt image) (ranks_by nat_list_cmp_total (spelled_key image)) (always_returns_same _ _ _ (λ a r f k. search rules))
