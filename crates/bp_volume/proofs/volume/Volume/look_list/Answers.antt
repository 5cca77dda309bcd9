use Rattle.std.proofs.Common.{subst}
use Rattle.bp_layout.specs.Words.{Image}
use Rattle.bp_plain.specs.Calls.Call.{list}
use Rattle.bp_volume.specs.Queries.{Answers}
use Rattle.bp_volume.specs.Seen.{list_answer_of}
use Rattle.bp_volume.proofs.ViewLaws.{served_is}
use Rattle.bp_volume.proofs.volume.Volume.look_list.Goals as goal

pub invariant_of-self : goal.invariant_of-self
invariant_of-self g c = record { roles = c.self.invariant.roles; volume = c.self.invariant.volume; right = c.do_list.ensures.right }

pub returns-clause-answers : goal.returns-clause-answers
returns-clause-answers g c =
    subst (λ (image : Image). Answers image (list c.args.path.now) (list_answer_of c.do_list.result)) (served_is c.self.inside.parts.region _ c.self.invariant.roles c.self.view_is) c.do_list.ensures.reported
