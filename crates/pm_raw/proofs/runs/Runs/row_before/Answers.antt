use Rattle.std.proofs.Common.{◌≡◌, ◌+◌, ◌-◌, ◌∙◌, ap, arith, drop, get_or, inl, inr, sym, take}
use Rattle.std.proofs.lemmas.Bool.Decides.{eqb_tells}
use Rattle.pm_raw.proofs.RunLaws.{IsFound, found}
use Rattle.pm_raw.proofs.WordLaws.{row_words_before}
use Rattle.pm_raw.proofs.runs.Runs.row_before.Goals.{After-run_near-run}
use Rattle.pm_raw.proofs.runs.Runs.row_before.Goals as goal

-- the run of the last event, as the search for it ensures
event : (c : goal.After-run_near-run) →
    IsFound c.args.self.now.words c.as_slice-firsts.result.now c.as_slice-starts.result.now c.self.inside.count (c.args.end - 1) c.run_near-run.result
event c =
    let at = c.run_near-run.ensures in
    found c.self.inside c.args.self.now c.self.invariant c.self.view_is _ _ (c.args.end - 1) _
    c.as_slice-firsts.ensures.value c.as_slice-starts.ensures.value (omega (arith, c.requires.some, c.requires.inside)) at.inside at.begun at.last

pub overflow_add-word : goal.overflow_add-word
overflow_add-word c = let here = event (goal.at.overflow_add-word c).After-run_near-run in omega (arith, here.word_low)

pub returns-clause-in_range : goal.returns-clause-in_range
returns-clause-in_range c =
    let here = event (goal.at.returns-clause-in_range c).After-run_near-run in
    let from = c.row_start-from.ensures in
    omega (arith, here.word_low, from.run, from.within, c.requires.some)

pub returns-clause-row : goal.returns-clause-row
returns-clause-row c =
    let here = event (goal.at.returns-clause-row c).After-run_near-run in
    let at = c.run_near-run.ensures in
    let begin = c.row_start-from.ensures in
    let from = c.row_start-from.result in
    let begins : c.args.end - (c.args.end - from) ≡ from = omega (arith, begin.within, c.requires.some) in
    ap (λ n. take (c.args.end - from) (drop n c.args.self.now.words)) begins
    ∙ sym (ap (λ ws. take (c.args.end - from) (drop from ws)) here.all)
    ∙ row_words_before _ _ c.self.inside.count c.run_near-run.result from (c.args.end - 1) (c.args.end - from) _ here.are at.inside begin.run begin.within
    here.low at.last (omega (arith, begin.within, c.requires.some)) (omega (arith, begin.run, begin.within))

pub returns-clause-signal : goal.returns-clause-signal
returns-clause-signal c = λ none.
    let here = event (goal.at.returns-clause-signal c).After-run_near-run in
    let from = c.row_start-from.ensures in
    let word = get_or c.as_slice-firsts.result.now c.run_near-run.result 0 + (c.args.end - 1 - get_or c.as_slice-starts.result.now c.run_near-run.result 0) in
    let last : word ≡ 2199023255551 = omega (arith, none, here.word_low, from.run, from.within) in
    omega (arith, from.signal last, c.requires.some)

pub returns-clause-stores : goal.returns-clause-stores
returns-clause-stores c = λ less.
    let here = event (goal.at.returns-clause-stores c).After-run_near-run in
    let from = c.row_start-from.ensures in
    let word = get_or c.as_slice-firsts.result.now c.run_near-run.result 0 + (c.args.end - 1 - get_or c.as_slice-starts.result.now c.run_near-run.result 0) in
    elim (eqb_tells word 2199023255551) [
      | inl same ↦ absurd (omega (arith, less, same.1, from.signal same.1))
      | inr differ ↦ omega (arith, differ.1, here.word_low, from.run, from.within, c.requires.some)
    ]
