use Rattle.std.proofs.Common.{ℕ, ◌≡◌, ◌/◌, ◌≤◌, true≢false, arith, sym, ◌∙◌, length, eq-eqb}
use Rattle.pm_region.specs.Memory.{current_words}
use Rattle.bp_layout.proofs.LoadedWords.{length-loaded, loaded_word}
use Rattle.bp_read.proofs.RegionWords.{length_now}
use Rattle.bp_spelling.specs.Places.{ArePlainBytes}
use Rattle.bp_spelling.proofs.FirstWords.{of_taken, to_taken}
use Rattle.bp_spelling.proofs.Forms.{plain_all, plain_whole, plain_rest}
use Rattle.bp_spelling.proofs.form.are_plain.Goals as goal

pub load_words-words-requires-clause-in_range : goal.load_words-words-requires-clause-in_range
load_words-words-requires-clause-in_range g c = omega (arith, length_now (g.R.Region.memory c.args.region.now))

pub returns-then-not-are_plain_words : goal.returns-then-not-are_plain_words
returns-then-not-are_plain_words g c =
    let image = current_words (g.R.Region.memory c.args.region.now) in
    let words = c.load_words-words.result.now in
    let long : 30 ≡ length words = sym (length-loaded image words c.args.first 30 c.load_words-words.ensures c.requires.within) in
    let low : c.args.count / 8 ≤ length words = omega (arith, c.requires.short, long) in
    let Plain : ℕ → Type 0 = λ w. ArePlainBytes w 8 in
    let read = loaded_word image words c.args.first 30 c.load_words-words.ensures in (
      λ never. absurd (cc),
      λ plain. absurd (true≢false (sym (c.are_plain_words.ensures.1 (to_taken words (c.args.count / 8) low Plain (plain_whole image words c.args.first c.args.count read c.requires.short plain))) ∙ c.if-not-are_plain_words.true)),
    )

pub returns-then-count-eq0 : goal.returns-then-count-eq0
returns-then-count-eq0 g c =
    let image = current_words (g.R.Region.memory c.args.region.now) in
    let words = c.load_words-words.result.now in
    let long : 30 ≡ length words = sym (length-loaded image words c.args.first 30 c.load_words-words.ensures c.requires.within) in
    let low : c.args.count / 8 ≤ length words = omega (arith, c.requires.short, long) in
    let Plain : ℕ → Type 0 = λ w. ArePlainBytes w 8 in
    let read = loaded_word image words c.args.first 30 c.load_words-words.ensures in (
      λ yes. plain_all image words c.args.first c.args.count read c.requires.short (of_taken words (c.args.count / 8) low Plain (c.are_plain_words.ensures.0 c.if-not-are_plain_words.false)) (λ some. absurd (some c.if-count-eq0.true)),
      λ plain. eq-eqb _ _ c.if-count-eq0.true,
    )

pub returns-else-count-eq0 : goal.returns-else-count-eq0
returns-else-count-eq0 g c =
    let image = current_words (g.R.Region.memory c.args.region.now) in
    let words = c.load_words-words.result.now in
    let long : 30 ≡ length words = sym (length-loaded image words c.args.first 30 c.load_words-words.ensures c.requires.within) in
    let low : c.args.count / 8 ≤ length words = omega (arith, c.requires.short, long) in
    let Plain : ℕ → Type 0 = λ w. ArePlainBytes w 8 in
    let read = loaded_word image words c.args.first 30 c.load_words-words.ensures in (
      λ yes. plain_all image words c.args.first c.args.count read c.requires.short (of_taken words (c.args.count / 8) low Plain (c.are_plain_words.ensures.0 c.if-not-are_plain_words.false)) (λ some. c.is_plain.ensures.0 yes),
      λ plain. c.is_plain.ensures.1 (plain_rest image words c.args.first c.args.count read c.requires.short plain (c.if-count-eq0.false)),
    )
