use Rattle.std.proofs.Common.{subst}
use Rattle.bp_layout.specs.Words.{Image}
use Rattle.bp_plain.specs.Calls.Call.{snap_stat}
use Rattle.bp_volume.specs.Queries.{Answers}
use Rattle.bp_volume.specs.Seen.{stat_answer_of}
use Rattle.bp_volume.proofs.ViewLaws.{served_is}
use Rattle.bp_volume.proofs.volume.Volume.look_snap_stat.Goals as goal

pub returns : goal.returns
returns g c =
    subst (λ (image : Image). Answers image (snap_stat c.args.path.now) (stat_answer_of c.do_snap_stat.result)) (served_is c.self.inside.parts.region _ c.self.invariant.roles c.self.view_is) c.do_snap_stat.ensures
