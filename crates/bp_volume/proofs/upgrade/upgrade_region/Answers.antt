use Rattle.std.proofs.Common.{◌∙◌, ap, arith, length}
use Rattle.pm_region.specs.Memory.{Memory}
use Rattle.pm_region.proofs.MemoryLaws.{length-current_words}
use Rattle.bp_volume.proofs.upgrade.upgrade_region.Goals as goal

pub store-requires-clause-in_range : goal.store-requires-clause-in_range
store-requires-clause-in_range g c = omega (arith, length-current_words (g.R.Region.memory c.args.region.now), c.requires.sized.whole, c.requires.sized.at_least)

pub store-requires-2-clause-in_range : goal.store-requires-2-clause-in_range
store-requires-2-clause-in_range g c =
    let same = ap (λ (memory : Memory). length memory.base) c.store.ensures in
    omega (arith, same, length-current_words (g.R.Region.memory c.args.region.now), c.requires.sized.whole, c.requires.sized.at_least)

pub store-requires-3-clause-in_range : goal.store-requires-3-clause-in_range
store-requires-3-clause-in_range g c =
    let same = ap (λ (memory : Memory). length memory.base) c.barrier.ensures ∙ ap (λ (memory : Memory). length memory.base) c.store-2.ensures ∙ ap (λ (memory : Memory). length memory.base) c.store.ensures in
    omega (arith, same, length-current_words (g.R.Region.memory c.args.region.now), c.requires.sized.whole, c.requires.sized.at_least)
