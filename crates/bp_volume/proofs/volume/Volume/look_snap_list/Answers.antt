use Rattle.std.proofs.Common.{subst}
use Rattle.bp_layout.specs.Words.{Image}
use Rattle.bp_plain.specs.Calls.Call.{snap_list}
use Rattle.bp_volume.specs.Queries.{Answers}
use Rattle.bp_volume.specs.Seen.{list_answer_of}
use Rattle.bp_volume.proofs.ViewLaws.{served_is}
use Rattle.bp_volume.proofs.volume.Volume.look_snap_list.Goals as goal

pub returns : goal.returns
returns g c =
    subst (λ (image : Image). Answers image (snap_list c.args.path.now) (list_answer_of c.do_snap_list.result)) (served_is c.self.inside.parts.region _ c.self.invariant.roles c.self.view_is) c.do_snap_list.ensures
