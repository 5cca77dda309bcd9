use Rattle.std.proofs.Common.{◌≡◌, ℕ, ◌+◌, ◌<◌, List, length, slice_index, subst, sym, ◌∙◌, ap, arith}
use Rattle.std.proofs.lemmas.List.Edits.{get_or-between, length-between}
use Rattle.pm_words.specs.Bytes.{byte_of}
use Rattle.pm_words.proofs.ByteLaws.{byte-word_of}
use Rattle.pm_words.proofs.overlay.word_at.Goals as goal

pub returns : goal.returns
returns c = λ k few.
    let bytes = c.args.bytes.now in
    let at = c.args.at in
    let word = c.copy_from_slice.new.self in
    let copied = c.copy_from_slice.ensures.after in
    let eight : length word ≡ 8 = ap (λ (bs : List ℕ). length bs) copied ∙ length-between bytes at (at + 8) (omega arith) ∙ omega arith in
    let there = λ (i : ℕ) (low : i < 8). ap (λ (bs : List ℕ). slice_index bs i) copied ∙ get_or-between bytes at (at + 8) i 0 (omega (arith, low)) in
    ap (λ w. byte_of w k) c.read_word.ensures
    ∙ byte-word_of word k (omega (arith, few, eight)) (λ i low. subst (λ n. n < 256) (sym (there i (omega (arith, low, eight)))) (omega (arith, c.type_inv.bytes (at + i))))
    ∙ there k few
