use Rattle.std.proofs.Common.{◌-◌, ◌*◌}
use Rattle.bp_append.proofs.visit.+visit.Given as goal

abbrev pub decreases-visit : goal.decreases-visit
decreases-visit g l = 2 * l.node.level

abbrev pub decreases-visit_slot : goal.decreases-visit_slot
decreases-visit_slot g l = 2 * l.node.level - 1
