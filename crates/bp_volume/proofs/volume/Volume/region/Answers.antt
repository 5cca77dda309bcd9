use Rattle.std.proofs.Common.{subst}
use Rattle.bp_roles.specs.Mounted.{SameDurable}
use Rattle.pm_region.specs.Safe.{IsSafe}
use Rattle.bp_volume.proofs.ViewLaws.{cached_safe}
use Rattle.bp_volume.proofs.volume.Volume.region.Goals as goal

pub returns-clause-safe : goal.returns-clause-safe
returns-clause-safe g c = subst (IsSafe SameDurable) c.self.view_is (cached_safe _ _ _ c.self.invariant)
