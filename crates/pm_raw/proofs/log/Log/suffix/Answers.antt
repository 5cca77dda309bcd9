use Rattle.std.proofs.Common.{◌≡◌, ◌≤◌, ◌∙◌, ap, arith, drop, length, sym}
use Rattle.pm_raw.proofs.LogLaws.{suffix-events, suffix-runs, suffix-small, length-seen}
use Rattle.pm_raw.proofs.log.Log.suffix.Goals as goal

pub overflow_add-at : goal.overflow_add-at
overflow_add-at c =
    let long = length-seen c.self.inside c.self.invariant _ c.self.view_is in
    omega (arith, c.self.invariant.small, c.requires, long)

pub slice_bounds-result-start-3 : goal.slice_bounds-result-start-3
slice_bounds-result-start-3 c =
    let long = length-seen c.self.inside c.self.invariant _ c.self.view_is in
    omega (arith, c.requires, long)

pub slice_bounds-result-count-3 : goal.slice_bounds-result-count-3
slice_bounds-result-count-3 c =
    let long = length-seen c.self.inside c.self.invariant _ c.self.view_is in
    omega (arith, c.requires, long)

pub offset_bounds-self-inside-first : goal.offset_bounds-self-inside-first
offset_bounds-self-inside-first c =
    let long = length-seen c.self.inside c.self.invariant _ c.self.view_is in
    omega (arith, c.requires, long)

pub invariant_of-result-2 : goal.invariant_of-result-2
invariant_of-result-2 c =
    let log = c.self.inside in
    let part = c.self.invariant in
    let run = c.run_of-run.result in
    let found = c.run_of-run.ensures in
    let fits : c.args.first ≤ length log.values.now = omega (arith, c.requires, length-seen log part _ c.self.view_is) in
    record {
      runs = suffix-runs log part c.args.first run fits found.inside found.begun found.last;
      small = suffix-small log part c.args.first run fits found.inside found.begun found.last;
    }

pub returns-then-self-eq0 : goal.returns-then-self-eq0
returns-then-self-eq0 c =
    let long = length-seen c.self.inside c.self.invariant _ c.self.view_is in
    let none : c.args.first ≡ 0 = omega (arith, c.requires, long, c.if-self-eq0.true) in
    c.self.view_is ∙ ap (λ n. drop n c.args.self.now) (sym none)

pub returns : goal.returns
returns c =
    let log = c.self.inside in
    let part = c.self.invariant in
    let found = c.run_of-run.ensures in
    let fits : c.args.first ≤ length log.values.now = omega (arith, c.requires, length-seen log part _ c.self.view_is) in
    suffix-events log part c.args.first c.run_of-run.result fits found.inside found.begun found.last
    ∙ ap (drop c.args.first) c.self.view_is
