use Rattle.pm_region.specs.Memory.{current_words}
use Rattle.bp_scan.proofs.FaultLaws.{walk_faults}
use Rattle.bp_scan.proofs.first_tree.scan_with.Goals as goal

pub returns-in-Err-clause-fault : goal.returns-in-Err-clause-fault
returns-in-Err-clause-fault g c =
    rw c.mount_fault.ensures (walk_faults (current_words (g.R.Region.memory c.args.region.now)) g.N.NameCheck.known c.in-Err.fault c.in_ok-check_superblock.ensures.formatted c.in-Err.ensures.fault)
