-- The word of digits that a text begins with, of which a prefix is decoded before the rest.
use Rattle.std.proofs.Common.{◌≡◌, ℕ, zero, suc, ◌+◌, ◌-◌, ◌*◌, ◌/◌, ◌%◌, ◌≤◌, ◌==◌, ◌&&◌, List, [], ◌∷◌, ◌++◌, get_or, length, take, drop, Bool, true, false, if◌then◌else◌, nat_eq, Option, None, Some, refl, sym, ap, ap₂, ◌∙◌, arith, inl, inr}
use Rattle.std.specs.List.{onto_first}
use Rattle.std.specs.Result.{result_ok}
use Rattle.std.proofs.lemmas.Bool.{cases_eq, eq-eqb, eqb-true, ne_eqb}
use Rattle.std.proofs.lemmas.List.{length-drop, length-take, take-append-drop, take_all}
use Rattle.hex.specs.Hex.{decode_of, hex_digit_value}
use Rattle.hex.proofs.HexLemmas.{decode_of-odd}
use Rattle.bp_script.specs.Commands.{bytes_spelled, words_of}
use Rattle.bp_script.specs.Lines.{first_word, bytes_in_word}
use Rattle.bp_script.proofs.DigitRuns.{both, both_nil, bytes, bytes_joined, decoded_is, one, one_none}

-- ---- a word after digits

digit_is : (a v : ℕ) → hex_digit_value a ≡ Some v → (a == 32) ≡ false
digit_is a v is = go (a == 32) refl
  where
    go : (t : Bool) → (a == 32) ≡ t → (a == 32) ≡ false
    go true at = let same = eqb-true a 32 at in let none : ◌≡◌ {A = Option ℕ} None (Some v) = rw same at is in absurd (cc)
    go false at = at

-- digits have no space among them
words_on : (f t w : List ℕ) (ws : List (List ℕ)) (u : List ℕ) → bytes f ≡ Some u → words_of t ≡ w ∷ ws → words_of (f ++ t) ≡ (f ++ w) ∷ ws
unfolding bytes one
words_on [] t w ws u is split = split
words_on (a ∷ []) t w ws u is split = absurd (cc)
words_on (a ∷ b ∷ f) t w ws u is split = go (hex_digit_value a) (hex_digit_value b) (bytes f) refl refl refl (λ v at_f. words_on f t w ws v at_f split)
  where
    go : (h l : Option ℕ) (r : Option (List ℕ)) → hex_digit_value a ≡ h → hex_digit_value b ≡ l → bytes f ≡ r
        → ((v : List ℕ) → bytes f ≡ Some v → words_of (f ++ t) ≡ (f ++ w) ∷ ws) → words_of (a ∷ b ∷ f ++ t) ≡ (a ∷ b ∷ f ++ w) ∷ ws
    go None l r at_a at_b at_f more = let none : ◌≡◌ {A = Option (List ℕ)} None (Some u) = rw at_a at is in absurd (cc)
    go (Some h) None r at_a at_b at_f more = let none : ◌≡◌ {A = Option (List ℕ)} None (Some u) = rw (at_a, at_b) at is in absurd (cc)
    go (Some h) (Some l) None at_a at_b at_f more = let none : ◌≡◌ {A = Option (List ℕ)} None (Some u) = rw (at_a, at_b, at_f) at is in absurd (cc)
    go (Some h) (Some l) (Some v) at_a at_b at_f more =
        rw (digit_is a h at_a, digit_is b l at_b) (ap (λ ws. onto_first a (onto_first b ws)) (more v at_f))

-- ---- the bytes of any text

odd_none : (n : ℕ) (s : List ℕ) → length s ≡ 2 * n + 1 → bytes s ≡ None
unfolding bytes
odd_none n [] long = absurd (omega (arith, long))
odd_none n (a ∷ []) long = refl
odd_none zero (a ∷ b ∷ s) long = absurd (omega (arith, long))
odd_none (suc n) (a ∷ b ∷ s) long =
    ap (one (hex_digit_value a) (hex_digit_value b)) (odd_none n s (omega (arith, long))) ∙ one_none (hex_digit_value a) (hex_digit_value b)

pub bytes_are : (s : List ℕ) → result_ok (decode_of s) ≡ bytes s
bytes_are s =
    elim (cases_eq (length s % 2) 0) [
      | inl even ↦ decoded_is s even
      | inr odd ↦ ap result_ok (decode_of-odd s (omega (arith, odd))) ∙ sym (odd_none (length s / 2) s (omega (arith, odd)))
    ]

-- ---- the first word of a text whose prefix is decoded

pub words_split : (n : ℕ) (text u w : List ℕ) (ws : List (List ℕ)) → 2 * n ≤ length text → result_ok (decode_of (take (2 * n) text)) ≡ Some u
    → words_of (take (length text - 2 * n) (drop (2 * n) text)) ≡ w ∷ ws
    → words_of text ≡ (take (2 * n) text ++ w) ∷ ws
words_split n text u w ws within reported split =
    let whole = take_all (length text - 2 * n) (drop (2 * n) text) (omega (arith, length-drop (2 * n) text)) in
    ap words_of (sym (take-append-drop (2 * n) text))
    ∙ words_on (take (2 * n) text) (drop (2 * n) text) w ws u (sym (bytes_are (take (2 * n) text)) ∙ reported) (rw whole at split)

pub first_is : (text w : List ℕ) (ws : List (List ℕ)) → words_of text ≡ w ∷ ws → first_word text ≡ w
first_is text w ws split = ap (λ words. get_or words 0 []) split

-- and the words after it
pub words_reported : (text w : List ℕ) (ws : List (List ℕ)) → words_of text ≡ w ∷ ws → words_of text ≡ first_word text ∷ ws
words_reported text w ws split = split ∙ ap (λ word. word ∷ ws) (sym (first_is text w ws split))

-- ---- the bytes of a word whose prefix is decoded

long_word : (f w : List ℕ) → 2 ≤ length f → bytes_in_word (f ++ w) ≡ result_ok (decode_of (f ++ w))
long_word [] w long = absurd (omega (arith, long))
long_word (a ∷ []) w long = absurd (omega (arith, long))
long_word (a ∷ b ∷ f) w long =
    let some = ne_eqb (length (a ∷ b ∷ f ++ w)) 0 (λ none. absurd (omega (arith, none))) in
    rw some (go (nat_eq a 45))
  where
    go : (t : Bool) → (if t && false then Some [] else result_ok (decode_of (a ∷ b ∷ f ++ w))) ≡ result_ok (decode_of (a ∷ b ∷ f ++ w))
    go true = refl
    go false = refl

empty_of : (f : List ℕ) → length f ≡ 0 → f ≡ []
empty_of [] none = refl
empty_of (a ∷ f) none = absurd (omega (arith, none))

-- w is what is left of it, and d its bytes
pub word_is : (n : ℕ) (f w u : List ℕ) (d : Option (List ℕ)) → length f ≡ 2 * n → length u ≡ n → result_ok (decode_of f) ≡ Some u
    → (n ≡ 0 → (length w == 0) ≡ false) → d ≡ (if n == 0 then bytes_spelled w else result_ok (decode_of w))
    → bytes_in_word (f ++ w) ≡ both (Some u) d
word_is n f w u d long room reported some is =
    elim (cases_eq n 0) [
      | inl none ↦
          let test = eq-eqb n 0 none in
          let no_prefix = empty_of f (omega (arith, long, none)) in
          let no_bytes = empty_of u (omega (arith, room, none)) in
          rw (no_prefix, no_bytes, some none) (sym (rw test at is) ∙ both_nil d)
      | inr prefix ↦
          let test = ne_eqb n 0 prefix in
          long_word f w (omega (arith, long, prefix)) ∙ bytes_are (f ++ w) ∙ bytes_joined n f w long
          ∙ ap₂ both (sym (bytes_are f) ∙ reported) (sym (bytes_are w) ∙ sym (rw test at is))
    ]

-- so those of the first word of a text, whose bytes go into a memory
pub word_decoded : (n : ℕ) (text out w : List ℕ) (ws : List (List ℕ)) (d : Option (List ℕ)) → 2 * n ≤ length text → n ≤ length out
    → result_ok (decode_of (take (2 * n) text)) ≡ Some (take n out) → words_of (take (length text - 2 * n) (drop (2 * n) text)) ≡ w ∷ ws
    → (n ≡ 0 → (length w == 0) ≡ false) → d ≡ (if n == 0 then bytes_spelled w else result_ok (decode_of w))
    → bytes_in_word (first_word text) ≡ both (Some (take n out)) d
word_decoded n text out w ws d within fits reported split some is =
    ap bytes_in_word (first_is text _ ws (words_split n text (take n out) w ws within reported split))
    ∙ word_is n (take (2 * n) text) w (take n out) d (omega (arith, within, length-take (2 * n) text)) (omega (arith, fits, length-take n out)) reported some is
