use Rattle.std.proofs.Common.{sym, ◌∙◌, ap}
use Rattle.bp_reference.proofs.LatestLaws.{latest-get, latest-none}
use Rattle.bp_reference.specs.Trees.{latest}
use Rattle.bp_reference.proofs.reference.Reference.present.Goals as goal

pub returns-in-Some : goal.returns-in-Some
returns-in-Some c = sym (latest-get c.args.self.now.durable c.deref.result.now _ (sym c.in-Some.ensures.value)) ∙ ap (latest c.args.self.now.durable) c.deref.ensures.value

pub returns-in-None : goal.returns-in-None
returns-in-None c = sym (latest-none c.args.self.now.durable c.deref.result.now (sym c.in-None.ensures.value)) ∙ ap (latest c.args.self.now.durable) c.deref.ensures.value
