use Rattle.std.proofs.Common.{arith}
use Rattle.pm_raw.proofs.RunLaws.{IsFound, found}
use Rattle.pm_raw.proofs.runs.Runs.word.Goals.{After-run_near-run}
use Rattle.pm_raw.proofs.runs.Runs.word.Goals as goal

-- the run of the event, as the search for it ensures
event : (c : After-run_near-run) →
    IsFound c.args.self.now.words c.as_slice-firsts.result.now c.as_slice-starts.result.now c.self.inside.count c.args.i c.run_near-run.result
event c =
    let at = c.run_near-run.ensures in
    found c.self.inside c.args.self.now c.self.invariant c.self.view_is _ _ c.args.i _
    c.as_slice-firsts.ensures.value c.as_slice-starts.ensures.value c.requires at.inside at.begun at.last

pub overflow_add-result : goal.overflow_add-result
overflow_add-result c = let here = event (goal.at.overflow_add-result c).After-run_near-run in omega (arith, here.word_low)

pub returns-clause-word : goal.returns-clause-word
returns-clause-word c = let here = event (goal.at.returns-clause-word c).After-run_near-run in here.word

pub returns-clause-small : goal.returns-clause-small
returns-clause-small c = let here = event (goal.at.returns-clause-small c).After-run_near-run in omega (arith, here.word_low)
