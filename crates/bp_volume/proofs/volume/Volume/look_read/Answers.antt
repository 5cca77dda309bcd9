use Rattle.std.proofs.Common.{subst}
use Rattle.bp_layout.specs.Words.{Image}
use Rattle.std.specs.Prelude.{length}
use Rattle.bp_plain.specs.Calls.Call.{read}
use Rattle.bp_volume.specs.Queries.{Answers}
use Rattle.bp_volume.specs.Seen.{read_answer_of}
use Rattle.bp_volume.proofs.ViewLaws.{served_is}
use Rattle.bp_volume.proofs.volume.Volume.look_read.Goals as goal

pub invariant_of-self : goal.invariant_of-self
invariant_of-self g c = record { roles = c.self.invariant.roles; volume = c.self.invariant.volume; right = c.do_read.ensures.right }

pub returns-clause-answers : goal.returns-clause-answers
returns-clause-answers g c =
    subst (λ (image : Image). Answers image (read c.args.path.now c.args.offset (length c.args.into.now)) (read_answer_of c.do_read.result c.do_read.new.into)) (served_is c.self.inside.parts.region _ c.self.invariant.roles c.self.view_is) c.do_read.ensures.reported
