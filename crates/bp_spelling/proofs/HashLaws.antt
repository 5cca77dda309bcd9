-- Names that are equal have equal hashes; and a hash, word by word.
use Rattle.std.proofs.Common.{◌≡◌, ℕ, zero, suc, ◌+◌, ◌-◌, ◌*◌, ◌/◌, ◌%◌, ◌^◌, ◌<◌, ◌≤◌, min, refl, sym, ◌∙◌, ap, ap₂, arith}
use Rattle.std.specs.Int.{div_ceil}
use Rattle.bp_layout.specs.Words.{Image, word}
use Rattle.bp_spelling.specs.Places.{key_word, name_key}
use Rattle.bp_spelling.specs.Hashes.{mixed, hash_state, name_hash}
use Rattle.bp_spelling.proofs.KeyNames.{key_words}

same_state : (image : Image) (a b n : ℕ) → ((k : ℕ) → k ≤ n → key_word image a k ≡ key_word image b k) → hash_state image a n ≡ hash_state image b n
unfolding hash_state
same_state image a b zero same = ap (mixed 0) (same 0 (omega arith))
same_state image a b (suc n) same = ap₂ mixed (same_state image a b n (λ k low. same k (omega (arith, low)))) (same (suc n) (omega arith))

pub same_hash : (image : Image) (a b : ℕ) → name_key image a ≡ name_key image b → name_hash image a ≡ name_hash image b
unfolding name_hash
same_hash image a b same =
    let long : word image (a + 1) ≡ word image (b + 1) = key_words image a b same 0 (omega arith) in
    ap (λ s. s / 2 ^ 32)
    (same_state image a b (min 30 (div_ceil (word image (a + 1)) 8)) (λ k low. key_words image a b same k (omega (arith, low)))
    ∙ ap (λ c. hash_state image b (min 30 (div_ceil c 8))) long)

module _ (image : Image) (place : ℕ) where
  pub hash_first : mixed 0 (word image (place + 1)) ≡ hash_state image place 0
  unfolding hash_state
  hash_first = refl

  pub hash_next : (index : ℕ) → mixed (hash_state image place index) (word image (place + 2 + index) % 256 ^ min 8 (word image (place + 1) - 8 * index)) ≡ hash_state image place (index + 1)
  unfolding hash_state
  hash_next index =
      let at : place + 2 + index ≡ place + 1 + suc index = omega arith in
      let next : suc index ≡ index + 1 = omega arith in
      ap (λ p. mixed (hash_state image place index) (word image p % 256 ^ min 8 (word image (place + 1) - 8 * index))) at ∙ ap (hash_state image place) next

  pub hash_all : (index : ℕ) → word image (place + 1) ≤ 240 → index ≡ div_ceil (word image (place + 1)) 8 → hash_state image place index / 2 ^ 32 ≡ name_hash image place
  unfolding name_hash
  hash_all index short all =
      let few : index ≡ min 30 (div_ceil (word image (place + 1)) 8) = omega (arith, short, all) in
      ap (λ n. hash_state image place n / 2 ^ 32) few

  -- a word with eight bytes of the name, and one with the last few
  pub hash_whole : (index value : ℕ) → value ≡ word image (place + 2 + index) → value < 18446744073709551616 → index < word image (place + 1) / 8 →
      mixed (hash_state image place index) value ≡ hash_state image place (index + 1)
  hash_whole index value stands fits low =
      let all : min 8 (word image (place + 1) - 8 * index) ≡ 8 = omega (arith, low) in
      let whole : value ≡ word image (place + 2 + index) % 256 ^ 8 = omega (arith, stands, fits) in
      ap (mixed (hash_state image place index)) (whole ∙ sym (ap (λ n. word image (place + 2 + index) % 256 ^ n) all)) ∙ hash_next index

  pub hash_rest : (index value : ℕ) → value ≡ word image (place + 2 + index) % 256 ^ min 8 (word image (place + 1) % 8) → index ≡ word image (place + 1) / 8 →
      mixed (hash_state image place index) value ≡ hash_state image place (index + 1)
  hash_rest index value cut last =
      let few : word image (place + 1) % 8 ≡ word image (place + 1) - 8 * index = omega (arith, last) in
      ap (mixed (hash_state image place index)) (cut ∙ ap (λ n. word image (place + 2 + index) % 256 ^ min 8 n) few) ∙ hash_next index
