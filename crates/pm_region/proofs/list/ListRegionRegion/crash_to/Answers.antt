use Rattle.std.proofs.Common.{arith}
use Rattle.std.proofs.lemmas.Grind.{common_steps}
use Rattle.pm_epochs.proofs.CrashLaws.{length-words_after}
use Rattle.pm_region.proofs.PutBack.{differs_at}
use Rattle.pm_region.proofs.list.ListRegionRegion.crash_to.Goals as goal

pub put_back-requires : goal.put_back-requires
put_back-requires c =
    let cut = c.args.choice.now.cut in
    differs_at c.self.inside.base.items c.self.inside.events.items cut.moment cut.epoch cut.mask c.deref-4.result.now c.deref-3.result.now c.deref_mut-2.result.now
    c.deref-4.ensures.value
    (grind (arith, common_steps, length-words_after))
    (grind (arith, common_steps, length-words_after))
