-- The text of a name, and how long it is.
use Rattle.std.proofs.Common.{◌≡◌, ℕ, ◌*◌, ◌≤◌, List, [], ◌∷◌, ◌++◌, length, Bool, true, false, not, if◌then◌else◌, refl, sym, ◌∙◌, ap, arith, length-append, true≢false, nat_lt}
use Rattle.std.proofs.lemmas.Bool.Decides.{nat_tests}
use borrow.Author.Tests.{ltb-true, ltb-false}
use Rattle.percent_encoding.specs.declared.ascii_set.AsciiSet.{AsciiSet}
use Rattle.percent_encoding.specs.AsciiSet.{should_percent_encode}
use Rattle.percent_encoding.specs.Percent.{percent_encode, percent_encode_byte}
use Rattle.percent_encoding.proofs.PercentLemmas.{percent_encode-nil, percent_encode_escaped, percent_encode_kept}
use Rattle.bp_script.specs.declared.replies.TheConstants.{ESCAPED}
use Rattle.bp_script.specs.Texts.{is_escaped, name_text}
use Rattle.bp_script.proofs.EachByte.{all_below, from_all_below}

-- ---- the set holds the bytes that are to be escaped

same_bit : Bool → Bool → Bool
same_bit a b = if a then b else not b

same_bit-is : (a b : Bool) → same_bit a b ≡ true → a ≡ b
unfolding same_bit
same_bit-is true true e = refl
same_bit-is true false e = absurd (true≢false (sym e))
same_bit-is false true e = absurd (true≢false (sym e))
same_bit-is false false e = refl

agrees : ℕ → Bool
agrees b = same_bit (should_percent_encode ESCAPED b) (is_escaped b)

all_agree : all_below agrees 128 ≡ true
unfolding all_below agrees same_bit should_percent_encode
all_agree = refl

pub high_escaped : (b : ℕ) → 128 ≤ b → is_escaped b ≡ true
high_escaped b high = grind (arith, nat_tests)

pub high_encoded : (set : AsciiSet) (b : ℕ) → nat_lt b 128 ≡ false → should_percent_encode set b ≡ true
unfolding should_percent_encode
high_encoded set b e = rw e refl

pub same_escape : (b : ℕ) → should_percent_encode ESCAPED b ≡ is_escaped b
unfolding agrees
same_escape b = go (nat_lt b 128) refl
  where
    go : (low : Bool) → nat_lt b 128 ≡ low → should_percent_encode ESCAPED b ≡ is_escaped b
    go true e = same_bit-is (should_percent_encode ESCAPED b) (is_escaped b) (from_all_below agrees 128 b all_agree (ltb-true b 128 e))
    go false e = high_encoded ESCAPED b e ∙ sym (high_escaped b (ltb-false b 128 e))

-- ---- so the text is that of the encoder

pub encoded_name : (name : List ℕ) → percent_encode ESCAPED name ≡ name_text name
encoded_name [] = percent_encode-nil ESCAPED
encoded_name (b ∷ name) = go (is_escaped b) refl (encoded_name name)
  where
    go : (e : Bool) → is_escaped b ≡ e → percent_encode ESCAPED name ≡ name_text name → percent_encode ESCAPED (b ∷ name) ≡ name_text (b ∷ name)
    go true e rest = rw e (percent_encode_escaped ESCAPED b name (same_escape b ∙ e) ∙ ap (λ x. percent_encode_byte b ++ x) rest)
    go false e rest = rw e (percent_encode_kept ESCAPED b name (same_escape b ∙ e) ∙ ap (λ x. b ∷ x) rest)

three : (b : ℕ) → length (percent_encode_byte b) ≡ 3
unfolding percent_encode_byte
three b = refl

pub length-percent_encode : (set : AsciiSet) (bytes : List ℕ) → length (percent_encode set bytes) ≤ 3 * length bytes
length-percent_encode set [] = omega (arith, ap length (percent_encode-nil set))
length-percent_encode set (b ∷ bytes) = go (should_percent_encode set b) refl (length-percent_encode set bytes)
  where
    go : (e : Bool) → should_percent_encode set b ≡ e → length (percent_encode set bytes) ≤ 3 * length bytes → length (percent_encode set (b ∷ bytes)) ≤ 3 * length (b ∷ bytes)
    go true e rest = omega (arith, rest, ap length (percent_encode_escaped set b bytes e), length-append (percent_encode_byte b) (percent_encode set bytes), three b)
    go false e rest = omega (arith, rest, ap length (percent_encode_kept set b bytes e))

-- the text of a name is three times as long at most
pub name_text_fits : (name : List ℕ) → length name ≤ 240 → length (name_text name) ≤ 720
name_text_fits name short = omega (arith, short, length-percent_encode ESCAPED name, ap length (encoded_name name))
