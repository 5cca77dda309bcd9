use Rattle.pm_region.specs.Memory.{current_words}
use Rattle.bp_walk.proofs.Pointers.{on_ok_then}
use Rattle.bp_scan.proofs.InodeFaults.{err_then}
use Rattle.bp_scan.proofs.Starting.{file_entered, file_fails, sizes_fail, size_some}
use Rattle.bp_scan.proofs.trees.enter_inode_file.Goals as goal

pub returns-then-file-ne0-clause-fault : goal.returns-then-file-ne0-clause-fault
returns-then-file-ne0-clause-fault g c = sizes_fail (current_words (g.R.Region.memory c.args.region.now)) c.inode_file-file.result.size c.inode_file-file.ensures.size c.then-file-ne0.either

pub returns-clause-entered : goal.returns-clause-entered
returns-clause-entered g c =
    let image = current_words (g.R.Region.memory c.args.region.now) in
    on_ok_then c.take_tree.result (λ takes. file_entered image c.args.blocks.now c.take_tree.new.blocks c.inode_file-file.result.root c.inode_file-file.result.size c.inode_file-file.ensures.root c.inode_file-file.ensures.size takes) c.take_tree.ensures.ok

pub returns-clause-fault : goal.returns-clause-fault
returns-clause-fault g c =
    let image = current_words (g.R.Region.memory c.args.region.now) in
    err_then c.take_tree.result (λ f fails.
    file_fails image c.args.blocks.now c.inode_file-file.result.root c.inode_file-file.result.size f.check f.place c.requires.all (size_some image c.inode_file-file.result.size c.inode_file-file.ensures.size c.if-file-lt-BLOCK_SIZE.false)
    c.inode_file-file.ensures.root c.inode_file-file.ensures.size fails) c.take_tree.ensures.err
