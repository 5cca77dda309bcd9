use Rattle.std.proofs.Common.{◌≡◌, ◌+◌, ◌*◌, ◌<◌, length, slice_index, slice_set, ◌∙◌, ap, arith, inl, inr}
use Rattle.std.proofs.lemmas.Bool.{cases_eq}
use Rattle.std.proofs.lemmas.List.{get_or-set_same, get_or-set_other, length-set}
use Rattle.pm_region.specs.Memory.{current_words}
use Rattle.bp_read.proofs.RegionWords.{length_now}
use Rattle.bp_layout.specs.Words.{word}
use Rattle.bp_spelling.proofs.rows.named_in_row.Goals as goal

pub overflow_add-place : goal.overflow_add-place
overflow_add-place g c = omega (arith, length_now (g.R.Region.memory c.args.region.now), c.requires.within, c.loop-k-test.true)

pub overflow_add-place-in-loop-k : goal.overflow_add-place-in-loop-k
overflow_add-place-in-loop-k g c = omega (arith, length_now (g.R.Region.memory c.args.region.now), c.requires.within, c.loop-k-test.true)

pub load_past_head-requires-clause-in_range : goal.load_past_head-requires-clause-in_range
load_past_head-requires-clause-in_range g c = omega (arith, length_now (g.R.Region.memory c.args.region.now), c.requires.within, c.loop-k-test.true)

pub loop-k-preserved : goal.loop-k-preserved
loop-k-preserved g c =
    let image = current_words (g.R.Region.memory c.args.region.now) in
    let k = c.loop-k.k in
    let named = c.loop-k.named in
    let inside : k < length named = omega (arith, c.requires.few, c.loop-k-test.true, c.loop-k.invariant.long) in
    record {
      long = length-set named k c.load_past_head.result ∙ c.loop-k.invariant.long;
      read = λ i low. elim (cases_eq i k) [
        | inl here ↦
            let at : c.args.place + 32 * k + 0 ≡ c.args.place + 32 * i = omega (arith, here) in
            ap (slice_index (slice_set named k c.load_past_head.result)) here ∙ get_or-set_same named k c.load_past_head.result 0 inside ∙ c.load_past_head.ensures ∙ ap (word image) at
        | inr apart ↦ get_or-set_other named k i c.load_past_head.result 0 apart ∙ c.loop-k.invariant.read i (omega (arith, low, apart))
      ];
    }
