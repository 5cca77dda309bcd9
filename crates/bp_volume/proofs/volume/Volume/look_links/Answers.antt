use Rattle.std.proofs.Common.{subst}
use Rattle.bp_layout.specs.Words.{Image}
use Rattle.bp_plain.specs.Calls.Call.{links}
use Rattle.bp_volume.specs.Queries.{Answers}
use Rattle.bp_volume.specs.Seen.{links_answer}
use Rattle.bp_volume.proofs.ViewLaws.{served_is}
use Rattle.bp_volume.proofs.volume.Volume.look_links.Goals as goal

pub invariant_of-self : goal.invariant_of-self
invariant_of-self g c = record { roles = c.self.invariant.roles; volume = c.self.invariant.volume; right = c.do_links.ensures.right }

pub returns-clause-answers : goal.returns-clause-answers
returns-clause-answers g c =
    subst (λ (image : Image). Answers image (links c.args.path.now) (links_answer c.do_links.result)) (served_is c.self.inside.parts.region _ c.self.invariant.roles c.self.view_is) c.do_links.ensures.reported
