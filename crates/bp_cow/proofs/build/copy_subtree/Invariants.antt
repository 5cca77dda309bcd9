use Rattle.bp_cow.proofs.build.copy_subtree.Given as goal

abbrev pub ghost-put_all : goal.ghost-put_all
ghost-put_all g a = record g.plan { top = a.top }
