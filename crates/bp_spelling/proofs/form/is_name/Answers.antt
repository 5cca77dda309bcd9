use Rattle.std.proofs.Common.{ℕ, ◌+◌, IsTrue, true≢false, arith, sym, ◌∙◌, subst}
use Rattle.pm_region.specs.Memory.{current_words}
use Rattle.bp_read.proofs.RegionWords.{length_now}
use Rattle.bp_layout.specs.Words.{word}
use Rattle.bp_spelling.specs.Places.{IsDots, ArePlain}
use Rattle.bp_spelling.proofs.Forms.{is_name-from, name-some, name-short, name-other, name-plain}
use Rattle.bp_spelling.proofs.form.is_name.Goals as goal

pub overflow_add-place : goal.overflow_add-place
overflow_add-place g c = omega (arith, length_now (g.R.Region.memory c.args.region.now))

pub load_past_head-count-requires-clause-in_range : goal.load_past_head-count-requires-clause-in_range
load_past_head-count-requires-clause-in_range g c = omega (arith, length_now (g.R.Region.memory c.args.region.now))

pub overflow_add-place-2 : goal.overflow_add-place-2
overflow_add-place-2 g c = omega (arith, length_now (g.R.Region.memory c.args.region.now))

pub load_past_head-first-requires-clause-in_range : goal.load_past_head-first-requires-clause-in_range
load_past_head-first-requires-clause-in_range g c = omega (arith, length_now (g.R.Region.memory c.args.region.now))

pub overflow_add-place-3 : goal.overflow_add-place-3
overflow_add-place-3 g c = omega (arith, length_now (g.R.Region.memory c.args.region.now))

pub returns-then-count-eq0 : goal.returns-then-count-eq0
returns-then-count-eq0 g c = (
  λ never. absurd (cc),
  λ is. absurd (name-some (current_words (g.R.Region.memory c.args.region.now)) c.args.place is (sym c.load_past_head-count.ensures ∙ c.if-count-eq0.true)),
)

pub returns-then-count : goal.returns-then-count
returns-then-count g c = (
  λ never. absurd (cc),
  λ is. absurd (omega (arith, name-short (current_words (g.R.Region.memory c.args.region.now)) c.args.place is, c.load_past_head-count.ensures, c.if-count.true)),
)

pub returns-then-is_dots : goal.returns-then-is_dots
returns-then-is_dots g c = (
  λ never. absurd (cc),
  λ is. absurd (name-other (current_words (g.R.Region.memory c.args.region.now)) c.args.place is (
      let dots : IsDots c.load_past_head-first.result c.load_past_head-count.result = c.is_dots.ensures.0 c.if-is_dots.true in
      rw (c.load_past_head-first.ensures, c.load_past_head-count.ensures) at dots)),
)

pub returns : goal.returns
returns g c =
    let image = current_words (g.R.Region.memory c.args.region.now) in
    let place = c.args.place in
    let plain : (IsTrue c.are_plain.result → ArePlain image (place + 2) (word image (place + 1))) × (ArePlain image (place + 2) (word image (place + 1)) → IsTrue c.are_plain.result) =
    subst (λ (n : ℕ). (IsTrue c.are_plain.result → ArePlain image (place + 2) n) × (ArePlain image (place + 2) n → IsTrue c.are_plain.result)) c.load_past_head-count.ensures c.are_plain.ensures in (
      λ yes_plain. is_name-from image place (λ none. c.if-count-eq0.false (c.load_past_head-count.ensures ∙ none)) (omega (arith, c.if-count.false, c.load_past_head-count.ensures)) (λ dots.
          let read : IsDots c.load_past_head-first.result c.load_past_head-count.result = rw (c.load_past_head-first.ensures, c.load_past_head-count.ensures) dots in
          true≢false (sym (c.is_dots.ensures.1 read) ∙ c.if-is_dots.false)) (plain.0 yes_plain),
      λ is. plain.1 (name-plain image place is),
    )
