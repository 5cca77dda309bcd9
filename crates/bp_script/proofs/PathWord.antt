-- The word of a path is what the encoder gives.
use Rattle.std.proofs.Common.{◌≡◌, ℕ, ◌≤◌, ◌==◌, ◌&&◌, List, [], ◌∷◌, ◌++◌, Bool, true, false, not, if◌then◌else◌, refl, sym, ◌∙◌, ap, arith, nat_lt, true≢false}
use Rattle.std.proofs.lemmas.Bool.{ltb-true, ltb-false, ne_eqb}
use Rattle.percent_encoding.specs.AsciiSet.{should_percent_encode}
use Rattle.percent_encoding.specs.Percent.{percent_encode, percent_encode_byte}
use Rattle.percent_encoding.proofs.PercentLemmas.{percent_encode-nil, percent_encode_escaped, percent_encode_kept}
use Rattle.bp_script.specs.declared.calls.TheConstants.{PATH_ESCAPED}
use Rattle.bp_script.specs.Export.{path_word}
use Rattle.bp_script.specs.Texts.{is_escaped}
use Rattle.bp_script.proofs.EachByte.{all_below, from_all_below}
use Rattle.bp_script.proofs.NameText.{high_encoded, high_escaped}

-- ---- the set holds the bytes that are to be escaped

is_spelled_out : ℕ → Bool
is_spelled_out b = is_escaped b && not (b == 47)

same_bit : Bool → Bool → Bool
same_bit a b = if a then b else not b

same_bit-is : (a b : Bool) → same_bit a b ≡ true → a ≡ b
unfolding same_bit
same_bit-is true true e = refl
same_bit-is true false e = absurd (true≢false (sym e))
same_bit-is false true e = absurd (true≢false (sym e))
same_bit-is false false e = refl

agrees : ℕ → Bool
agrees b = same_bit (should_percent_encode PATH_ESCAPED b) (is_spelled_out b)

all_agree : all_below agrees 128 ≡ true
unfolding all_below agrees same_bit should_percent_encode is_spelled_out
all_agree = refl

high_spelled_out : (b : ℕ) → 128 ≤ b → is_spelled_out b ≡ true
unfolding is_spelled_out
high_spelled_out b high = rw (high_escaped b high, ne_eqb b 47 (λ e. absurd (omega (arith, high, e)))) refl

same_escape : (b : ℕ) → should_percent_encode PATH_ESCAPED b ≡ is_spelled_out b
unfolding agrees
same_escape b = go (nat_lt b 128) refl
  where
    go : (low : Bool) → nat_lt b 128 ≡ low → should_percent_encode PATH_ESCAPED b ≡ is_spelled_out b
    go true e = same_bit-is (should_percent_encode PATH_ESCAPED b) (is_spelled_out b) (from_all_below agrees 128 b all_agree (ltb-true b 128 e))
    go false e = high_encoded PATH_ESCAPED b e ∙ sym (high_spelled_out b (ltb-false b 128 e))

-- ---- so the word is that of the encoder

pub encoded_path : (text : List ℕ) → percent_encode PATH_ESCAPED text ≡ path_word text
unfolding is_spelled_out
encoded_path [] = percent_encode-nil PATH_ESCAPED
encoded_path (b ∷ text) = go (is_escaped b && not (b == 47)) refl (encoded_path text)
  where
    go : (e : Bool) → (is_escaped b && not (b == 47)) ≡ e → percent_encode PATH_ESCAPED text ≡ path_word text → percent_encode PATH_ESCAPED (b ∷ text) ≡ path_word (b ∷ text)
    go true e rest = rw e (percent_encode_escaped PATH_ESCAPED b text (same_escape b ∙ e) ∙ ap (λ x. percent_encode_byte b ++ x) rest)
    go false e rest = rw e (percent_encode_kept PATH_ESCAPED b text (same_escape b ∙ e) ∙ ap (λ x. b ∷ x) rest)
