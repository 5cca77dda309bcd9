use Rattle.std.proofs.Common.{◌+◌, ◌<◌, ◌∙◌, ◌++◌, [], ◌∷◌, ap, arith, length, sym}
use Rattle.std.proofs.lemmas.List.{length-append}
use Rattle.std.specs.List.{range_with_len}
use Rattle.pm_raw.specs.RunWords.{Worded}
use Rattle.pm_raw.proofs.RunLaws.{length-seen}
use Rattle.pm_raw.proofs.WordLaws.{next-begun, next-joined, runs-begun, runs-joined, runs-same, word-same, words-begun, words-joined, words-same}
use Rattle.pm_raw.proofs.runs.Runs.push.Goals as goal
use Rattle.pm_raw.proofs.runs.Runs.push.Goals.{then-first-self, else-first-self}

pub push_reserved-requires : goal.push_reserved-requires
push_reserved-requires c =
    let runs = c.self.inside in
    let step = c.self.invariant in
    let many = length-seen runs _ step c.self.view_is in
    let room = ap (λ (w : Worded). w.room) c.self.view_is in
    omega (arith, step.few, step.firsts_room, runs.firsts.ok.0, c.requires.some, c.requires.room, many, room)

pub push_reserved-requires-then-first-self : goal.push_reserved-requires-then-first-self
push_reserved-requires-then-first-self c =
    let runs = c.self.inside in
    let step = c.self.invariant in
    let many = length-seen runs _ step c.self.view_is in
    let room = ap (λ (w : Worded). w.room) c.self.view_is in
    omega (arith, step.few, step.are.same, step.starts_room, runs.starts.ok.0, c.requires.some, c.requires.room, many, room)

pub invariant_of-self : goal.invariant_of-self
invariant_of-self c =
    let runs = c.self.inside in
    let step = c.self.invariant in
    let firsts = runs.firsts.items in
    let starts = runs.starts.items in
    let first = c.args.first in
    let wanted = c.args.wanted in
    let many = length-seen runs _ step c.self.view_is in
    let room = ap (λ (w : Worded). w.room) c.self.view_is in
    elim c.if-first-self.branch [
      | then-first-self w ↦
          let firsts_are = w.push_reserved.ensures.items in
          let starts_are = w.push_reserved-then-first-self.ensures.items in
          rw w.self-inside-is (record {
            are =
                runs-same (firsts ++ first ∷ []) (starts ++ runs.count ∷ []) _ _ firsts_are starts_are 0 (runs.count + wanted)
                (runs-begun firsts starts runs.count first wanted step.are c.requires.in_range c.requires.some);
            next = sym (
                word-same (firsts ++ first ∷ []) (starts ++ runs.count ∷ []) _ _ firsts_are starts_are (runs.count + wanted)
                ∙ next-begun firsts starts runs.count first wanted step.are c.requires.in_range);
            few = omega (arith, ap length firsts_are, length-append firsts (first ∷ []), step.few, c.requires.some);
            counted = omega (arith, c.requires.room, many, room);
            firsts_room = omega (arith, w.push_reserved.ensures.capacity, step.firsts_room);
            starts_room = omega (arith, w.push_reserved-then-first-self.ensures.capacity, step.starts_room);
          })
      | else-first-self w ↦
          let low : first < 2199023255552 = omega (arith, c.requires.in_range, c.requires.some) in
          let goes_on = w.if-first-self.false ∙ step.next in
          rw w.self-inside-is (record {
            are = runs-joined firsts starts runs.count first wanted step.are c.requires.in_range goes_on low;
            next = sym (next-joined firsts starts runs.count first wanted step.are c.requires.in_range goes_on low);
            few = omega (arith, step.few);
            counted = omega (arith, c.requires.room, many, room);
            firsts_room = step.firsts_room;
            starts_room = step.starts_room;
          })
    ]

pub returns-clause-words : goal.returns-clause-words
returns-clause-words c =
    let runs = c.self.inside in
    let step = c.self.invariant in
    let firsts = runs.firsts.items in
    let starts = runs.starts.items in
    let first = c.args.first in
    let wanted = c.args.wanted in
    let was = ap (λ (w : Worded). w.words ++ range_with_len first wanted) c.self.view_is in
    elim c.if-first-self.branch [
      | then-first-self w ↦ rw w.self-inside-is
          (words-same (firsts ++ first ∷ []) (starts ++ runs.count ∷ []) _ _ w.push_reserved.ensures.items w.push_reserved-then-first-self.ensures.items 0 (runs.count + wanted)
          ∙ words-begun firsts starts runs.count first wanted step.are c.requires.in_range
          ∙ was)
      | else-first-self w ↦
          let low : first < 2199023255552 = omega (arith, c.requires.in_range, c.requires.some) in
          rw w.self-inside-is (words-joined firsts starts runs.count first wanted step.are c.requires.in_range (w.if-first-self.false ∙ step.next) low ∙ was)
    ]
