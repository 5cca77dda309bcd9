use Rattle.bp_cow.proofs.commit.turn_over.Given as goal

abbrev pub ghost-copy_subtree : goal.ghost-copy_subtree
ghost-copy_subtree g a = g.plan
