use Rattle.bp_free.specs.Set.{has}
use Rattle.bp_cow.proofs.commit.commit_copies.Given as goal

abbrev pub ghost-turn_over : goal.ghost-turn_over
ghost-turn_over g a = g.plan

abbrev pub ghost-free_replaced : goal.ghost-free_replaced
ghost-free_replaced g a = record g.plan { free_after = has a.blocks.now }
