use Rattle.std.proofs.Common.{◌≡◌, ◌+◌, ◌-◌, ◌<◌, ◌≤◌, ◌∙◌, ◌++◌, ap, arith, drop, get_or, length, subst, sym, take}
use Rattle.std.specs.List.{range_with_len}
use Rattle.std.proofs.lemmas.List.{length-drop, length-take-le}
use Rattle.pm_raw.specs.Entries.{events_of}
use Rattle.pm_raw.specs.Pieces.{piece_events}
use Rattle.pm_raw.proofs.LogLaws.{suffix-events, suffix-runs, suffix-small, events, first-low, first-row, length-seen}
use Rattle.pm_raw.proofs.log.Log.take_first.Goals as goal

pub count_of_first-count-requires-clause-small : goal.count_of_first-count-requires-clause-small
count_of_first-count-requires-clause-small c =
    let long = length-seen c.self.inside c.self.invariant _ c.self.view_is in
    omega (arith, first-low c.self.inside c.self.invariant (omega (arith, c.requires, long)))

pub piece_of-requires-clause-small : goal.piece_of-requires-clause-small
piece_of-requires-clause-small c =
    let long = length-seen c.self.inside c.self.invariant _ c.self.view_is in
    omega (arith, first-low c.self.inside c.self.invariant (omega (arith, c.requires, long)))

pub overflow_add-word : goal.overflow_add-word
overflow_add-word c =
    let long = length-seen c.self.inside c.self.invariant _ c.self.view_is in
    omega (arith, first-low c.self.inside c.self.invariant (omega (arith, c.requires, long)))

pub invariant_of-self : goal.invariant_of-self
invariant_of-self c =
    let log = c.self.inside in
    let part = c.self.invariant in
    let count = c.count_of_first-count.result in
    let run = c.first_or_next-run.result in
    let found = c.first_or_next-run.ensures in
    let fits : count ≤ length log.values.now = omega (arith, c.count_of_first-count.ensures.within) in
    record {
      runs = suffix-runs log part count run fits found.inside found.begun found.last;
      small = suffix-small log part count run fits found.inside found.begun found.last;
    }

pub returns-clause-events : goal.returns-clause-events
returns-clause-events c =
    let log = c.self.inside in
    let part = c.self.invariant in
    let values = log.values.now in
    let counted = c.count_of_first-count.ensures in
    let count = c.count_of_first-count.result in
    let found = c.first_or_next-run.ensures in
    let some : 0 < length values = omega (arith, c.requires, length-seen log part _ c.self.view_is) in
    let fits : count ≤ length values = omega (arith, counted.within) in
    let word = get_or log.firsts.now 0 0 + (log.at - get_or log.starts.now 0 0) in
    let low = first-low log part some in
    let size : length (take count values) ≡ count = length-take-le count values fits in
    sym c.self.view_is
    ∙ first-row log part word count some (omega (arith, low)) fits counted.run
    ∙ ap (λ n. events_of (range_with_len word n) (take count values) ++ drop count (events log part)) (sym size)
    ∙ ap (λ es. es ++ drop count (events log part)) (sym c.piece_of.ensures.events)
    ∙ ap (λ es. piece_events c.piece_of.result ++ es)
    (sym (suffix-events log part count c.first_or_next-run.result fits found.inside found.begun found.last))

pub returns-clause-some : goal.returns-clause-some
returns-clause-some c =
    let log = c.self.inside in
    let part = c.self.invariant in
    let counted = c.count_of_first-count.ensures in
    let count = c.count_of_first-count.result in
    let found = c.first_or_next-run.ensures in
    let fits : count ≤ length log.values.now = omega (arith, counted.within) in
    let left = ap length (suffix-events log part count c.first_or_next-run.result fits found.inside found.begun found.last) in
    let less : length (drop count (events log part)) < length c.args.self.now =
    omega (arith, length-drop count (events log part), length-seen log part _ c.self.view_is, ap length c.self.view_is, counted.some, fits) in
    subst (λ n. n < length c.args.self.now) (sym left) less
