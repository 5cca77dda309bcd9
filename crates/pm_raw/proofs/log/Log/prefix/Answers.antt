use Rattle.std.proofs.Common.{◌+◌, ◌<◌, ◌≤◌, ◌∙◌, ap, arith, length, sym, take}
use Rattle.std.proofs.lemmas.List.{length-take-le}
use Rattle.pm_raw.proofs.LogLaws.{prefix-events, prefix-runs, prefix-small, prefix-taken, length-seen}
use Rattle.pm_raw.proofs.log.Log.prefix.Goals as goal

pub overflow_add-self-inside : goal.overflow_add-self-inside
overflow_add-self-inside c =
    let long = length-seen c.self.inside c.self.invariant _ c.self.view_is in
    omega (arith, c.self.invariant.small, c.requires, long)

pub slice_bounds-result-end-4 : goal.slice_bounds-result-end-4
slice_bounds-result-end-4 c =
    let long = length-seen c.self.inside c.self.invariant _ c.self.view_is in
    sym (length-take-le c.args.wanted c.self.inside.values.now (omega (arith, c.requires, long)))

pub invariant_of-result-2 : goal.invariant_of-result-2
invariant_of-result-2 c =
    let log = c.self.inside in
    let part = c.self.invariant in
    let run = c.run_of-runs.result in
    let found = c.run_of-runs.ensures in
    let some : 0 < c.args.wanted = omega (arith, c.if-wanted-eq0.false) in
    let fits : c.args.wanted ≤ length log.values.now = omega (arith, c.requires, length-seen log part _ c.self.view_is) in
    let within : run + 1 ≤ length log.starts.now = omega (arith, found.inside) in
    let taken = prefix-taken log part c.args.wanted run found.inside some found.begun in
    record {
      runs = prefix-runs log part c.args.wanted (run + 1) fits within (λ more. omega arith) taken (λ more less. omega (arith, found.last less));
      small = prefix-small log part c.args.wanted (run + 1) fits within (λ more. omega arith) taken (λ more less. omega (arith, found.last less));
    }

pub returns-then-wanted-eq0 : goal.returns-then-wanted-eq0
returns-then-wanted-eq0 c = ap (λ n. take n c.args.self.now) (sym c.if-wanted-eq0.true)

pub returns : goal.returns
returns c =
    let log = c.self.inside in
    let part = c.self.invariant in
    let run = c.run_of-runs.result in
    let found = c.run_of-runs.ensures in
    let some : 0 < c.args.wanted = omega (arith, c.if-wanted-eq0.false) in
    let fits : c.args.wanted ≤ length log.values.now = omega (arith, c.requires, length-seen log part _ c.self.view_is) in
    let within : run + 1 ≤ length log.starts.now = omega (arith, found.inside) in
    let taken = prefix-taken log part c.args.wanted run found.inside some found.begun in
    prefix-events log part c.args.wanted (run + 1) fits within (λ more. omega arith) taken (λ more less. omega (arith, found.last less))
    ∙ ap (take c.args.wanted) c.self.view_is
