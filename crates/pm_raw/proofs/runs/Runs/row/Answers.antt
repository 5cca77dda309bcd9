use Rattle.std.proofs.Common.{◌≡◌, ◌+◌, ℕ, List, arith, get_or, subst}
use Rattle.pm_raw.proofs.RunLaws.{IsFound, found}
use Rattle.pm_raw.proofs.WordLaws.{IsRowEnd, row_words}
use Rattle.pm_raw.proofs.runs.Runs.row.Goals.{After-row_known-1, After-run_near-run, then-next-starts, else-next-starts}
use Rattle.pm_raw.proofs.runs.Runs.row.Goals as goal

-- the run of the event, as the search for it ensures
event : (c : After-run_near-run) →
    IsFound c.args.self.now.words c.as_slice-firsts.result.now c.as_slice-starts.result.now c.self.inside.count c.args.i c.run_near-run.result
event c =
    let at = c.run_near-run.ensures in
    found c.self.inside c.args.self.now c.self.invariant c.self.view_is _ _ c.args.i _
    c.as_slice-firsts.ensures.value c.as_slice-starts.ensures.value c.requires at.inside at.begun at.last

-- its row ends where the next run begins, or with the last event
row_end : (c : After-row_known-1) →
    IsFound c.args.self.now.words c.as_slice-firsts.result.now c.as_slice-starts.result.now c.self.inside.count c.args.i c.run_near-run.result →
    IsRowEnd c.as_slice-starts.result.now c.self.inside.count c.run_near-run.result c.args.i c.if-next-starts.end
row_end c here = elim c.if-next-starts.branch [
  | then-next-starts w ↦ record {
    past = omega (arith, w.end-is, c.run_near-run.ensures.last w.if-next-starts.true);
    within = omega (arith, w.end-is, here.are.taken (c.run_near-run.result + 1) w.if-next-starts.true);
    last = λ k under more. omega (arith, w.end-is, under);
  }
  | else-next-starts w ↦ record {
    past = omega (arith, w.end-is, here.low);
    within = omega (arith, w.end-is);
    last = λ k under more. absurd (omega (arith, more, w.if-next-starts.false));
  }
]

pub overflow_add-result : goal.overflow_add-result
overflow_add-result c =
    let here = event (goal.at.overflow_add-result c).After-run_near-run in
    omega (arith, here.word_low)

pub overflow_sub-result-2 : goal.overflow_sub-result-2
overflow_sub-result-2 c =
    let ends = row_end c (event (goal.at.overflow_sub-result-2 c).After-run_near-run) in
    omega (arith, ends.past)

pub returns-clause-first : goal.returns-clause-first
returns-clause-first c =
    let here = event (goal.at.returns-clause-first c).After-run_near-run in
    here.word

pub returns-clause-small : goal.returns-clause-small
returns-clause-small c =
    let here = event (goal.at.returns-clause-small c).After-run_near-run in
    omega (arith, here.word_low)

pub returns-clause-some : goal.returns-clause-some
returns-clause-some c =
    let ends = row_end c (event (goal.at.returns-clause-some c).After-run_near-run) in
    omega (arith, ends.past)

pub returns-clause-inside : goal.returns-clause-inside
returns-clause-inside c =
    let here = event (goal.at.returns-clause-inside c).After-run_near-run in
    let ends = row_end c here in
    omega (arith, ends.past, ends.within, here.many)

pub returns-clause-row : goal.returns-clause-row
returns-clause-row c = λ j low.
    let here = event (goal.at.returns-clause-row c).After-run_near-run in
    let at = c.run_near-run.ensures in
    subst (λ (words : List ℕ). get_or words (c.args.i + j) 0 ≡ get_or words c.args.i 0 + j) here.all
    (row_words _ _ c.self.inside.count c.run_near-run.result c.args.i c.if-next-starts.end here.are at.inside at.begun (row_end c here) j low)
