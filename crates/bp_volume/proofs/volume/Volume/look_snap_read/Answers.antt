use Rattle.std.proofs.Common.{subst}
use Rattle.bp_layout.specs.Words.{Image}
use Rattle.std.specs.Prelude.{length}
use Rattle.bp_plain.specs.Calls.Call.{snap_read}
use Rattle.bp_volume.specs.Queries.{Answers}
use Rattle.bp_volume.specs.Seen.{read_answer_of}
use Rattle.bp_volume.proofs.ViewLaws.{served_is}
use Rattle.bp_volume.proofs.volume.Volume.look_snap_read.Goals as goal

pub returns-clause-answers : goal.returns-clause-answers
returns-clause-answers g c =
    subst (λ (image : Image). Answers image (snap_read c.args.path.now c.args.offset (length c.args.into.now)) (read_answer_of c.do_snap_read.result c.do_snap_read.new.into)) (served_is c.self.inside.parts.region _ c.self.invariant.roles c.self.view_is) c.do_snap_read.ensures.reported
