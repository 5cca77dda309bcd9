-- Where a text has a byte, and what is said of the bytes of names.
use Rattle.std.proofs.Common.{◌≡◌, ℕ, zero, suc, ◌+◌, ◌<◌, ◌≤◌, Bool, true, false, not, ◌&&◌, ◌||◌, ◌==◌, nat_lt, List, [], ◌∷◌, length, take, drop, slice_index, position, Option, None, Some, refl, sym, ◌∙◌, ap, arith, eq-eqb, bytes_eq, nat_le}
use Rattle.std.specs.List.{list_all, position_or_len}
use Rattle.std.proofs.lemmas.Bool.{eqb-true, le-ltb, lt-ltb, ltb-false}
use Rattle.std.proofs.lemmas.List.{get_or-take, length-take}
use Rattle.std.proofs.lemmas.List.Folds.{list_all_at}
use Rattle.std.proofs.lemmas.List.Quantifiers.{position-Some}
use Rattle.std.proofs.lemmas.List.Sums.{fails_before_first, position_or_len_is}
use Rattle.memchr.specs.Find.{IsLastByte, is_byte}
use Rattle.bp_limits.specs.CallLimits.{max_name}
use Rattle.bp_layout.specs.Paths.{is_name, onto_first, parts}
use Rattle.bp_layout.proofs.Parts.{parts-one}
use Rattle.bp_path.proofs.PartsLaws.{and_parts, parts_one_more}

module _ (p : ℕ → Bool) where
  all_pass : (xs : List ℕ) → ((k : ℕ) → k < length xs → p (slice_index xs k) ≡ true) → list_all p xs ≡ true
  all_pass [] each = refl
  all_pass (x ∷ xs) each = rw (each 0 (omega arith)) (all_pass xs (λ k low. each (suc k) (omega (arith, low))))

  each_passes : (xs : List ℕ) → list_all p xs ≡ true → (k : ℕ) → k < length xs → p (slice_index xs k) ≡ true
  each_passes [] all k low = absurd (omega (arith, low))
  each_passes (x ∷ xs) all zero low = (and_parts _ _ all).0
  each_passes (x ∷ xs) all (suc k) low = each_passes xs (and_parts _ _ all).1 k (omega (arith, low))

  -- the first place that passes

  pub position_there : (xs : List ℕ) (i : ℕ) → i < length xs → p (slice_index xs i) ≡ true → ((k : ℕ) → k < i → p (slice_index xs k) ≡ false) → position p xs ≡ Some i
  position_there xs i inside passes before =
      let at : position_or_len p xs ≡ i = position_or_len_is p xs i 0 (omega (arith, inside)) before (λ low. passes) in
      rw (lt-ltb (position_or_len p xs) (length xs) (omega (arith, at, inside))) (ap Some at)

  pub position_nowhere : (xs : List ℕ) → ((k : ℕ) → k < length xs → p (slice_index xs k) ≡ false) → position p xs ≡ None
  position_nowhere xs fails =
      let all : position_or_len p xs ≡ length xs = position_or_len_is p xs (length xs) 0 (omega arith) fails (λ low. absurd (omega (arith, low))) in
      rw (le-ltb (position_or_len p xs) (length xs) (omega (arith, all))) refl

  pub no_place : (xs : List ℕ) → position p xs ≡ None → (k : ℕ) → k < length xs → p (slice_index xs k) ≡ false
  no_place xs none k low = fails_before_first p xs k 0 (omega (arith, low, all_before (nat_lt (position_or_len p xs) (length xs)) refl))
    where
      all_before : (t : Bool) → nat_lt (position_or_len p xs) (length xs) ≡ t → length xs ≤ position_or_len p xs
      all_before true at = let some : ◌≡◌ {A = Option ℕ} (Some (position_or_len p xs)) None = rw at at none in absurd (cc)
      all_before false at = ltb-false _ _ at

-- ---- the last `/`

pub last_slash : (text : List ℕ) (found : Option ℕ) (k : ℕ) → IsLastByte (is_byte 47) text found → found ≡ Some k →
    (parts (drop (k + 1) text) ≡ drop (k + 1) text ∷ []) × (slice_index text k ≡ 47)
last_slash text None k last is = absurd (cc)
last_slash text (Some j) k last is =
    let same : j ≡ k = cc in
    (rw (← same) (parts_one_more text (j + 1) (λ n low high slash. last.0.after n low high (eq-eqb _ _ slash))), rw (← same) (eqb-true _ _ last.1))

pub no_last_slash : (text : List ℕ) (found : Option ℕ) → IsLastByte (is_byte 47) text found → found ≡ None → parts text ≡ text ∷ []
no_last_slash text None nowhere is = parts-one text (λ k low slash. nowhere k (omega arith) low (eq-eqb _ _ slash))
no_last_slash text (Some k) last is = absurd (cc)

-- ---- bytes that are not 0

abbrev pub not_zero : ℕ → Bool
not_zero b = not (b == 0)

abbrev pub is_plain : ℕ → Bool
is_plain b = not (b == 0) && not (b == 47)

-- what is in no name
abbrev pub ends_name : ℕ → Bool
ends_name b = (b == 0) || (b == 47)

neither : (b : ℕ) → ends_name b ≡ false → is_plain b ≡ true
neither b ends = go (b == 0) (b == 47) ends
  where
    go : (zero slash : Bool) → (zero || slash) ≡ false → (not zero && not slash) ≡ true
    go true slash e = absurd (cc)
    go false true e = absurd (cc)
    go false false e = refl

-- a text up to the first byte that is in no name, and as a whole where it has none
pub plain_prefix : (text : List ℕ) (end : ℕ) → position ends_name text ≡ Some end → list_all is_plain (take end text) ≡ true
plain_prefix text end found =
    let here : (end < length text) × (ends_name (slice_index text end) ≡ true) × ((k : ℕ) → k < end → ends_name (slice_index text k) ≡ false) = position-Some ends_name text end 0 found in
    all_pass is_plain (take end text) (λ k low.
    let before : k < end = omega (arith, low, length-take end text) in
    rw (get_or-take end text k 0 before) (neither (slice_index text k) (here.2 k before)))

pub plain_whole : (text : List ℕ) → position ends_name text ≡ None → list_all is_plain text ≡ true
plain_whole text none = all_pass is_plain text (λ k low. neither (slice_index text k) (no_place ends_name text none k low))

-- the first such byte is a `/` where it isn't a 0
slash_left : (b : ℕ) → ends_name b ≡ true → (b == 0) ≡ false → (b == 47) ≡ true
slash_left b ends some = rw some at ends

no_slash_there : (b : ℕ) → ends_name b ≡ false → (b == 47) ≡ false
no_slash_there b ends = go (b == 0) (b == 47) ends
  where
    go : (zero slash : Bool) → (zero || slash) ≡ false → slash ≡ false
    go true slash e = absurd (cc)
    go false slash e = e

pub slash_found : (text : List ℕ) (end : ℕ) → position ends_name text ≡ Some end → (slice_index text end == 0) ≡ false → position (λ b. b == 47) text ≡ Some end
slash_found text end found some =
    let here : (end < length text) × (ends_name (slice_index text end) ≡ true) × ((k : ℕ) → k < end → ends_name (slice_index text k) ≡ false) = position-Some ends_name text end 0 found in
    position_there (λ b. b == 47) text end here.0 (slash_left (slice_index text end) here.1 some) (λ k low. no_slash_there (slice_index text k) (here.2 k low))

pub no_slash_found : (text : List ℕ) → position ends_name text ≡ None → position (λ b. b == 47) text ≡ None
no_slash_found text none = position_nowhere (λ b. b == 47) text (λ k low. no_slash_there (slice_index text k) (no_place ends_name text none k low))

pub zero_found : (text : List ℕ) (end : ℕ) → position ends_name text ≡ Some end → (slice_index text end == 0) ≡ true → list_all not_zero text ≡ false
zero_found text end found is =
    let here : (end < length text) × (ends_name (slice_index text end) ≡ true) × ((k : ℕ) → k < end → ends_name (slice_index text k) ≡ false) = position-Some ends_name text end 0 found in
    list_all_at not_zero text end 0 here.0 (ap not is)

-- ---- a text with a 0 has a part that is no name

grouped : (a b c : Bool) → ((a && b) && c) ≡ (a && (b && c))
grouped true b c = refl
grouped false b c = refl

onto_some : (b : ℕ) (ps : List (List ℕ)) → list_all (list_all not_zero) (onto_first b ps) ≡ (not_zero b && list_all (list_all not_zero) ps)
onto_some b [] = grouped (not_zero b) true true
onto_some b (p ∷ ps) = grouped (not_zero b) (list_all not_zero p) (list_all (list_all not_zero) ps)

parts_some : (text : List ℕ) → list_all (list_all not_zero) (parts text) ≡ list_all not_zero text
parts_some [] = refl
parts_some (b ∷ text) = go (parts_some text) (b == 47) refl
  where
    go : list_all (list_all not_zero) (parts text) ≡ list_all not_zero text → (t : Bool) → (b == 47) ≡ t → list_all (list_all not_zero) (parts (b ∷ text)) ≡ list_all not_zero (b ∷ text)
    go same true at =
        let slash : not_zero b ≡ true = ap not_zero (eqb-true b 47 at) in
        rw (at, slash) same
    go same false at = rw at (onto_some b (parts text) ∙ ap (λ t. not_zero b && t) same)

third : (a b c d e : Bool) → (a && b && c && d && e) ≡ true → c ≡ true
third a b true d e all = refl
third true true false d e all = absurd (cc)
third true false false d e all = absurd (cc)
third false b false d e all = absurd (cc)

name_some : (name : List ℕ) → is_name name ≡ true → list_all not_zero name ≡ true
name_some name is =
    let plain : list_all is_plain name ≡ true = third (nat_le 1 (length name)) (nat_le (length name) max_name) (list_all is_plain name) (not (bytes_eq name (46 ∷ []))) (not (bytes_eq name (46 ∷ 46 ∷ []))) is in
    all_pass not_zero name (λ k low. (and_parts _ _ (each_passes is_plain name plain k low)).0)

names_some : (ps : List (List ℕ)) → list_all is_name ps ≡ true → list_all (list_all not_zero) ps ≡ true
names_some [] all = refl
names_some (p ∷ ps) all = rw (name_some p (and_parts _ _ all).0) (names_some ps (and_parts _ _ all).1)

pub no_names : (text : List ℕ) → list_all not_zero text ≡ false → list_all is_name (parts text) ≡ false
no_names text zeros = go (list_all is_name (parts text)) refl
  where
    go : (b : Bool) → list_all is_name (parts text) ≡ b → list_all is_name (parts text) ≡ false
    go true all = let clash : true ≡ false = sym (names_some (parts text) all) ∙ parts_some text ∙ zeros in absurd (cc)
    go false all = all
