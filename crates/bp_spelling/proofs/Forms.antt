-- The form of a name, stated by its words.
use Rattle.std.proofs.Common.{◌≡◌, ◌≢◌, ◌⊎◌, ℕ, ◌+◌, ◌-◌, ◌*◌, ◌/◌, ◌%◌, ◌<◌, ◌≤◌, min, List, [], ◌∷◌, length, map, slice_index, slice_index_or, refl, sym, ◌∙◌, ap, ap₂, subst, arith, inl, inr}
use Rattle.std.specs.List.{range_with_len}
use Rattle.std.proofs.lemmas.Bool.{cases_lt}
use Rattle.bp_layout.specs.Words.{Image, word, byte_of}
use Rattle.bp_layout.specs.Paths.{IsName}
use Rattle.bp_spelling.specs.Places.{name_there, IsPlain, ArePlain, ArePlainBytes, IsDots}
use Rattle.bp_spelling.proofs.KeyNames.{length-name, name-at}

module _ (image : Image) (place : ℕ) where
  -- a byte of the first word
  first-byte : (o d : ℕ) → o < 8 → o < word image (place + 1) → slice_index_or (name_there image place) o d ≡ byte_of (word image (place + 2)) o
  first-byte o d low inside =
      let there : place + 2 + o / 8 ≡ place + 2 = omega (arith, low) in
      let at : o % 8 ≡ o = omega (arith, low) in
      name-at image place o d inside ∙ ap₂ (λ p i. byte_of (word image p) i) there at

  pub dots_of_name : (name_there image place ≡ 46 ∷ []) ⊎ (name_there image place ≡ 46 ∷ 46 ∷ []) → IsDots (word image (place + 2)) (word image (place + 1))
  dots_of_name (inl dot) =
      let long : word image (place + 1) ≡ 1 = sym (length-name image place) ∙ ap length dot in
      let low : byte_of (word image (place + 2)) 0 ≡ 46 = sym (first-byte 0 0 (omega arith) (omega (arith, long))) ∙ ap (λ xs. slice_index xs 0) dot in
      inl (long, omega (arith, low))
  dots_of_name (inr dots) =
      let long : word image (place + 1) ≡ 2 = sym (length-name image place) ∙ ap length dots in
      let low : byte_of (word image (place + 2)) 0 ≡ 46 = sym (first-byte 0 0 (omega arith) (omega (arith, long))) ∙ ap (λ xs. slice_index xs 0) dots in
      let high : byte_of (word image (place + 2)) 1 ≡ 46 = sym (first-byte 1 0 (omega arith) (omega (arith, long))) ∙ ap (λ xs. slice_index xs 1) dots in
      inr (long, omega (arith, low, high))

  one_byte : (n : ℕ) → n ≡ 1 → (f : ℕ → ℕ) → map f (range_with_len 0 n) ≡ f 0 ∷ []
  one_byte n one f = rw one refl

  two_bytes : (n : ℕ) → n ≡ 2 → (f : ℕ → ℕ) → map f (range_with_len 0 n) ≡ f 0 ∷ f 1 ∷ []
  two_bytes n two f = rw two refl

  pub name_of_dots : IsDots (word image (place + 2)) (word image (place + 1)) → (name_there image place ≡ 46 ∷ []) ⊎ (name_there image place ≡ 46 ∷ 46 ∷ [])
  name_of_dots (inl (long, low)) =
      let first : byte_of (word image (place + 2 + 0 / 8)) (0 % 8) ≡ 46 =
      sym (name-at image place 0 0 (omega (arith, long))) ∙ first-byte 0 0 (omega arith) (omega (arith, long)) ∙ omega (arith, low) in
      inl (one_byte (word image (place + 1)) long (λ o. byte_of (word image (place + 2 + o / 8)) (o % 8)) ∙ ap (λ x. x ∷ []) first)
  name_of_dots (inr (long, low)) =
      let first : byte_of (word image (place + 2 + 0 / 8)) (0 % 8) ≡ 46 =
      sym (name-at image place 0 0 (omega (arith, long))) ∙ first-byte 0 0 (omega arith) (omega (arith, long)) ∙ omega (arith, low) in
      let second : byte_of (word image (place + 2 + 1 / 8)) (1 % 8) ≡ 46 =
      sym (name-at image place 1 0 (omega (arith, long))) ∙ first-byte 1 0 (omega arith) (omega (arith, long)) ∙ omega (arith, low) in
      inr (two_bytes (word image (place + 1)) long (λ o. byte_of (word image (place + 2 + o / 8)) (o % 8)) ∙ ap₂ (λ x y. x ∷ y ∷ []) first second)

  pub is_name-from : word image (place + 1) ≢ 0 → word image (place + 1) ≤ 240 → (IsDots (word image (place + 2)) (word image (place + 1)) → ⊥) → ArePlain image (place + 2) (word image (place + 1)) → IsName (name_there image place)
  is_name-from some short other plain = record {
    not_empty = rw (length-name image place) (omega (arith, some));
    short = rw (length-name image place) short;
    plain = λ k d low. let inside : k < word image (place + 1) = rw (length-name image place) at low in rw (name-at image place k d inside) (plain k inside);
    not_dot = λ dot. other (dots_of_name (inl dot));
    not_dot_dot = λ dots. other (dots_of_name (inr dots));
  }

  pub name-some : IsName (name_there image place) → word image (place + 1) ≢ 0
  name-some is none = omega (arith, is.not_empty, length-name image place, none)

  pub name-short : IsName (name_there image place) → word image (place + 1) ≤ 240
  name-short is = omega (arith, is.short, length-name image place)

  pub name-other : IsName (name_there image place) → IsDots (word image (place + 2)) (word image (place + 1)) → ⊥
  name-other is dots = go (name_of_dots dots)
    where
      go : (name_there image place ≡ 46 ∷ []) ⊎ (name_there image place ≡ 46 ∷ 46 ∷ []) → ⊥
      go (inl dot) = is.not_dot dot
      go (inr both) = is.not_dot_dot both

  pub name-plain : IsName (name_there image place) → ArePlain image (place + 2) (word image (place + 1))
  name-plain is o low =
      let inside : o < length (name_there image place) = rw (length-name image place) low in
      subst (λ (b : ℕ). IsPlain b) (name-at image place o 0 low) (is.plain o 0 inside)

-- the bytes of a word are among them
pub plain_word : (image : Image) (first count part : ℕ) → ArePlain image first count → (o : ℕ) → o < min 8 (count - 8 * part) → IsPlain (byte_of (word image (first + part)) o)
plain_word image first count part plain o low =
    let whole : (8 * part + o) / 8 ≡ part = omega (arith, low) in
    let rest : (8 * part + o) % 8 ≡ o = omega (arith, low) in
    subst (λ (b : ℕ). IsPlain b) (ap₂ (λ p i. byte_of (word image (first + p)) i) whole rest) (plain (8 * part + o) (omega (arith, low)))

-- bytes of whole words, and of one more
pub plain_all : (image words : List ℕ) (first count : ℕ) → ((i : ℕ) → i < 30 → slice_index words i ≡ word image (first + i)) → count ≤ 240 →
    ((i : ℕ) → i < count / 8 → ArePlainBytes (slice_index words i) 8) → (count % 8 ≢ 0 → ArePlainBytes (slice_index words (count / 8)) (count % 8)) → ArePlain image first count
plain_all image words first count read short whole rest o low = go (cases_lt (o / 8) (count / 8))
  where
    here : IsPlain (byte_of (slice_index words (o / 8)) (o % 8)) → IsPlain (byte_of (word image (first + o / 8)) (o % 8))
    here = subst (λ (w : ℕ). IsPlain (byte_of w (o % 8))) (read (o / 8) (omega (arith, low, short)))

    go : (o / 8 < count / 8) ⊎ (count / 8 ≤ o / 8) → IsPlain (byte_of (word image (first + o / 8)) (o % 8))
    go (inl before) = here (whole (o / 8) before (o % 8) (omega arith))
    go (inr last) =
        let at : count / 8 ≡ o / 8 = omega (arith, last, low) in
        here (subst (λ (i : ℕ). IsPlain (byte_of (slice_index words i) (o % 8))) at (rest (omega (arith, at, low)) (o % 8) (omega (arith, at, low))))

pub plain_whole : (image words : List ℕ) (first count : ℕ) → ((i : ℕ) → i < 30 → slice_index words i ≡ word image (first + i)) → count ≤ 240 → ArePlain image first count →
    (i : ℕ) → i < count / 8 → ArePlainBytes (slice_index words i) 8
plain_whole image words first count read short plain i low o inside =
    subst (λ (w : ℕ). IsPlain (byte_of w o)) (sym (read i (omega (arith, low, short)))) (plain_word image first count i plain o (omega (arith, low, inside)))

pub plain_rest : (image words : List ℕ) (first count : ℕ) → ((i : ℕ) → i < 30 → slice_index words i ≡ word image (first + i)) → count ≤ 240 → ArePlain image first count →
    count % 8 ≢ 0 → ArePlainBytes (slice_index words (count / 8)) (count % 8)
plain_rest image words first count read short plain some o inside =
    subst (λ (w : ℕ). IsPlain (byte_of w o)) (sym (read (count / 8) (omega (arith, some, short)))) (plain_word image first count (count / 8) plain o (omega (arith, inside)))
