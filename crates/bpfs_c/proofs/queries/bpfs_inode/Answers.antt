use Rattle.std.proofs.Common.{rules, subst}
use Rattle.bpfs_c.specs.Codes.{ReportsInode}
use Rattle.bpfs_c.specs.Serves.Looked.{looked}
use Rattle.bpfs_c.specs.declared.mounted.Mounted.{Mounted}
use Rattle.bpfs_c.proofs.Report.{inode_reported}
use Rattle.bpfs_c.proofs.queries.bpfs_inode.Goals as goal

pub returns : goal.returns
returns c =
    looked c.in-Some.mounted.value (search rules) (search rules)
    (subst (λ (m : Mounted). ReportsInode m.volume c.args.path.now c.args.ino.now c.report_inode-code.result c.report_inode-code.new.ino) c.deref_mut.ensures.value
    (inode_reported c.deref_mut.result.now.volume c.args.path.now c.look_inode.result c.args.ino.now _ _ c.report_inode-code.ensures c.look_inode.ensures.found c.look_inode.ensures.stopped))
