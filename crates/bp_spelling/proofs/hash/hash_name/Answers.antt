use Rattle.std.proofs.Common.{◌≡◌, ℕ, ◌+◌, ◌/◌, ◌%◌, ◌^◌, ◌<◌, min, length, take, slice_index, refl, ◌∙◌, ap, ap₂, arith}
use Rattle.std.proofs.lemmas.List.{get_or-take, length-take-le}
use Rattle.pm_region.specs.Memory.{current_words}
use Rattle.bp_layout.proofs.LoadedWords.{length-loaded, loaded_word}
use Rattle.bp_read.proofs.RegionWords.{length_now}
use Rattle.bp_layout.specs.Words.{word}
use Rattle.bp_spelling.specs.Hashes.{mixed}
use Rattle.bp_spelling.proofs.HashLaws.{hash_first, hash_whole, hash_rest, hash_all}
use Rattle.bp_spelling.proofs.hash.hash_name.Goals.{then-count-ne0, else-count-ne0}
use Rattle.bp_spelling.proofs.hash.hash_name.Goals as goal

pub overflow_add-place : goal.overflow_add-place
overflow_add-place g c = omega (arith, length_now (g.R.Region.memory c.args.region.now))

pub load_past_head-count-requires-clause-in_range : goal.load_past_head-count-requires-clause-in_range
load_past_head-count-requires-clause-in_range g c = omega (arith, length_now (g.R.Region.memory c.args.region.now))

pub overflow_add-place-2 : goal.overflow_add-place-2
overflow_add-place-2 g c = omega (arith, length_now (g.R.Region.memory c.args.region.now))

pub load_words-words-requires-clause-in_range : goal.load_words-words-requires-clause-in_range
load_words-words-requires-clause-in_range g c = omega (arith, length_now (g.R.Region.memory c.args.region.now))

pub loop-word-init : goal.loop-word-init
loop-word-init g c =
    c.mix-state.ensures ∙ ap (mixed 0) c.load_past_head-count.ensures ∙ hash_first (current_words (g.R.Region.memory c.args.region.now)) c.args.place

pub loop-word-preserved : goal.loop-word-preserved
loop-word-preserved g c =
    let image = current_words (g.R.Region.memory c.args.region.now) in
    let words = c.load_words-words.result.now in
    let index = c.loop-word.word-index in
    let whole = c.load_past_head-count.result / 8 in
    let long : length words ≡ 30 = length-loaded image words (c.args.place + 2) 30 c.load_words-words.ensures (omega (arith, c.requires.within)) in
    let few : length (take whole words) ≡ whole = length-take-le whole words (omega (arith, long, c.load_past_head-count.ensures, c.requires.short)) in
    let low : index < whole = omega (arith, few, c.loop-word-test.true) in
    let taken : slice_index (take whole words) index ≡ slice_index words index = get_or-take whole words index 0 low in
    let stands : slice_index (take whole words) index ≡ word image (c.args.place + 2 + index) =
    taken ∙ loaded_word image words (c.args.place + 2) 30 c.load_words-words.ensures index (omega (arith, low, c.load_past_head-count.ensures, c.requires.short)) in
    let fits : slice_index (take whole words) index < 18446744073709551616 = omega (arith, taken, c.type_inv.words index) in
    c.mix-state-in-loop-word.ensures ∙ ap (λ (s : ℕ). mixed s (slice_index (take whole words) index)) c.loop-word.invariant
    ∙ hash_whole image c.args.place index (slice_index (take whole words) index) stands fits (omega (arith, low, c.load_past_head-count.ensures))

pub returns : goal.returns
returns g c =
    let image = current_words (g.R.Region.memory c.args.region.now) in
    let words = c.load_words-words.result.now in
    let index = c.loop-word.word-index in
    let whole = c.load_past_head-count.result / 8 in
    let count : c.load_past_head-count.result ≡ word image (c.args.place + 1) = c.load_past_head-count.ensures in
    let long : length words ≡ 30 = length-loaded image words (c.args.place + 2) 30 c.load_words-words.ensures (omega (arith, c.requires.within)) in
    let few : length (take whole words) ≡ whole = length-take-le whole words (omega (arith, long, count, c.requires.short)) in
    let last : index ≡ word image (c.args.place + 1) / 8 = omega (arith, few, count, c.loop-word-test.false, c.loop-word.auto.word-index-end) in
    elim c.if-count-ne0.branch [
      | then-count-ne0 w ↦
          let at : slice_index words whole ≡ word image (c.args.place + 2 + index) =
          loaded_word image words (c.args.place + 2) 30 c.load_words-words.ensures whole (omega (arith, w.if-count-ne0.true, count, c.requires.short))
          ∙ ap (λ (p : ℕ). word image (c.args.place + 2 + p)) (omega (arith, last, count)) in
          let cut : w.low_bytes.result ≡ word image (c.args.place + 2 + index) % 256 ^ min 8 (word image (c.args.place + 1) % 8) =
          w.low_bytes.ensures ∙ ap₂ (λ (v n : ℕ). v % 256 ^ min 8 (n % 8)) at count in
          ap (λ (s : ℕ). s / 2 ^ 32) (w.state-is ∙ w.mix-state-then-count-ne0.ensures ∙ ap₂ mixed c.loop-word.invariant cut ∙ hash_rest image c.args.place index (word image (c.args.place + 2 + index) % 256 ^ min 8 (word image (c.args.place + 1) % 8)) refl last)
          ∙ hash_all image c.args.place (index + 1) c.requires.short (omega (arith, last, w.if-count-ne0.true, count))
      | else-count-ne0 w ↦
          ap (λ (s : ℕ). s / 2 ^ 32) (w.state-is ∙ c.loop-word.invariant) ∙ hash_all image c.args.place index c.requires.short (omega (arith, last, w.if-count-ne0.false, count))
    ]
