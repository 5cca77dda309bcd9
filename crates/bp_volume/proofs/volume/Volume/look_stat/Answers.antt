use Rattle.std.proofs.Common.{subst}
use Rattle.bp_layout.specs.Words.{Image}
use Rattle.bp_plain.specs.Calls.Call.{stat}
use Rattle.bp_volume.specs.Queries.{Answers}
use Rattle.bp_volume.specs.Seen.{stat_answer_of}
use Rattle.bp_volume.proofs.ViewLaws.{served_is}
use Rattle.bp_volume.proofs.volume.Volume.look_stat.Goals as goal

pub invariant_of-self : goal.invariant_of-self
invariant_of-self g c = record { roles = c.self.invariant.roles; volume = c.self.invariant.volume; right = c.do_stat.ensures.right }

pub returns-clause-answers : goal.returns-clause-answers
returns-clause-answers g c =
    subst (λ (image : Image). Answers image (stat c.args.path.now) (stat_answer_of c.do_stat.result)) (served_is c.self.inside.parts.region _ c.self.invariant.roles c.self.view_is) c.do_stat.ensures.reported
