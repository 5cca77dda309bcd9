use Rattle.std.proofs.Common.{subst}
use Rattle.std.specs.Prelude.{IfErr, IfOk}
use Rattle.bp_layout.specs.Words.{Image}
use Rattle.bp_plain.specs.Seen.{refusal_of}
use Rattle.bp_volume.specs.Queries.{StopsWalk}
use Rattle.bp_fs.specs.Step.{PathFinds}
use Rattle.bp_volume.proofs.ViewLaws.{served_is}
use Rattle.bp_volume.proofs.volume.Volume.look_inode.Goals as goal

pub invariant_of-self : goal.invariant_of-self
invariant_of-self g c = record { roles = c.self.invariant.roles; volume = c.self.invariant.volume; right = c.inode_at.ensures.right }

pub returns-clause-found : goal.returns-clause-found
returns-clause-found g c =
    subst (λ (image : Image). IfOk c.inode_at.result (PathFinds image c.args.path.now)) (served_is c.self.inside.parts.region _ c.self.invariant.roles c.self.view_is) c.inode_at.ensures.found

pub returns-clause-stopped : goal.returns-clause-stopped
returns-clause-stopped g c =
    subst (λ (image : Image). IfErr c.inode_at.result (λ e. StopsWalk image c.args.path.now (refusal_of e))) (served_is c.self.inside.parts.region _ c.self.invariant.roles c.self.view_is) c.inode_at.ensures.stopped
