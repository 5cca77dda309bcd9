use Rattle.std.proofs.Common.{◌≡◌, ◌-◌, suc, ap, arith}
use Rattle.pm_raw.specs.Places.{start_after}
use Rattle.pm_raw.proofs.crash.start_of_epoch.Goals as goal

pub overflow_add-result : goal.overflow_add-result
overflow_add-result c =
    let suffix : suc (c.args.epoch - 1) ≡ c.args.epoch = omega arith in
    omega (arith, c.get.ensures, c.requires.small, ap (start_after c.args.barrier_places.now.items) suffix)

pub returns-else-epoch-eq0 : goal.returns-else-epoch-eq0
returns-else-epoch-eq0 c =
    let suffix : suc (c.args.epoch - 1) ≡ c.args.epoch = omega arith in
    omega (arith, c.get.ensures, ap (start_after c.args.barrier_places.now.items) suffix)
