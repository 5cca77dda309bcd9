use Rattle.std.proofs.Common.{ap}
use Rattle.bp_roles.specs.Seen.{MemoryByRoles}
use Rattle.bp_roles.proofs.Unseen.{adds_told, all_told}
use Rattle.bp_roles.proofs.laws.what_is_seen_determines_the_region.Goals as goal

pub returns-clause-memory : goal.returns-clause-memory
returns-clause-memory c = all_told

pub returns-clause-roles : goal.returns-clause-roles
returns-clause-roles c old new more adds = ap (λ (it : MemoryByRoles). it.roles) (adds_told old new more adds.wide adds.still_wide adds.adds)

pub returns-clause-adds : goal.returns-clause-adds
returns-clause-adds c old new more adds = ap (λ (it : MemoryByRoles). it.memory) (adds_told old new more adds.wide adds.still_wide adds.adds)
