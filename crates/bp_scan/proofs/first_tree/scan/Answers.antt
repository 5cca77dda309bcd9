use Rattle.bp_scan.proofs.first_tree.scan.Goals as goal

pub returns-clause-others : goal.returns-clause-others
returns-clause-others g c = rw c.swap-4.ensures.x_after c.scan_with-reported.ensures.others
