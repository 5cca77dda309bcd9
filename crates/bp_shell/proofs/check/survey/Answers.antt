use Rattle.std.proofs.Common.{refl}
use Rattle.bp_roles.specs.Mounted.{by_roles}
use Rattle.bp_shell.proofs.OpeningLaws.{counted}
use Rattle.bp_shell.proofs.check.survey.Goals as goal

pub returns-clause-clean : goal.returns-clause-clean
returns-clause-clean c =
    let found = c.in_ok-found.ensures.found in
    record {
      totals = c.in_ok-found.found.totals;
      free = c.count.result;
      holds = found.held;
      leaves = counted (by_roles c.args.region.now.memory.base) _ _ c.count.result found.snapshot_blocks found.free found.block_room c.count.ensures;
      line = refl;
    }
