use Rattle.std.proofs.Common.{sym, ◌∙◌, ap}
use Rattle.bp_reference.proofs.LatestLaws.{latest-end, no_items}
use Rattle.bp_reference.specs.Trees.{latest}
use Rattle.bp_reference.proofs.reference.settle.Goals as goal
use Rattle.bp_reference.proofs.reference.settle.Goals.{in-Some+in-Some-1, in-Some+in-None-1, in_default}

pub returns-clause-durable : goal.returns-clause-durable
returns-clause-durable c = elim c.match-pop.branch [
  | in-Some+in-Some-1 w ↦ w.durable-is ∙ sym (latest-end c.args.durable.now c.pop.new.self.items _) ∙ ap (latest c.args.durable.now) (sym w.in-Some.ensures.items)
  | in-Some+in-None-1 w ↦ w.durable-is ∙ sym (latest-end c.args.durable.now c.pop.new.self.items _) ∙ ap (latest c.args.durable.now) (sym w.in-Some.ensures.items)
  | in_default w ↦ w.durable-is ∙ sym (no_items c.args.durable.now c.args.since.now.items _ _ w.in_default.ensures.cases.0 w.in_default.ensures.rest w.in_default.ensures.items)
]
