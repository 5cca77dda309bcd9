-- The parts of a text round each `/`.
use Rattle.std.proofs.Common.{◌≡◌, ◌≢◌, ℕ, suc, ◌+◌, ◌<◌, ◌≤◌, Bool, true, false, ◌==◌, List, [], ◌∷◌, ◌++◌, length, take, drop, slice_index, position, nat_lt, Option, None, Some, refl, sym, ◌∙◌, ap, arith}
use Rattle.std.specs.List.{position_or_len}
use Rattle.std.proofs.lemmas.Bool.{eqb-true, eqb-false, ltb-false}
use Rattle.std.proofs.lemmas.List.Sums.{fails_before_first}
use Rattle.std.proofs.lemmas.List.{take-append-drop, drop_more, length-take, get_or-take}
use Rattle.std.proofs.lemmas.List.Quantifiers.{position-Some}
use Rattle.bp_layout.specs.Paths.{Name, onto_first, parts}

onto_first-append : (b : ℕ) (xs ys : List Name) → xs ≢ [] → onto_first b (xs ++ ys) ≡ onto_first b xs ++ ys
onto_first-append b [] ys some = absurd (some refl)
onto_first-append b (x ∷ xs) ys some = refl

-- a text has a part, though it be empty
pub parts-some : (text : List ℕ) → parts text ≢ []
parts-some [] e = absurd (cc)
parts-some (b ∷ text) e = go (b == 47) refl
  where
    go : (t : Bool) → (b == 47) ≡ t → ⊥
    go true at = let none : [] ∷ parts text ≡ [] = rw at at e in absurd (cc)
    go false at = onto (parts text) (rw at at e)
      where
        onto : (ps : List Name) → onto_first b ps ≡ [] → ⊥
        onto [] is = absurd (cc)
        onto (p ∷ ps) is = absurd (cc)

-- a `/` parts
pub parts-append : (prefix rest : List ℕ) → parts (prefix ++ 47 ∷ rest) ≡ parts prefix ++ parts rest
parts-append [] rest = refl
parts-append (b ∷ prefix) rest = go (parts-append prefix rest) (b == 47) refl
  where
    go : parts (prefix ++ 47 ∷ rest) ≡ parts prefix ++ parts rest → (t : Bool) → (b == 47) ≡ t → parts ((b ∷ prefix) ++ 47 ∷ rest) ≡ parts (b ∷ prefix) ++ parts rest
    go same true at = rw (at, same) refl
    go same false at = rw (at, same) (onto_first-append b (parts prefix) (parts rest) (parts-some prefix))

-- a text without one is one part
pub parts-one : (text : List ℕ) → ((k : ℕ) → k < length text → slice_index text k ≢ 47) → parts text ≡ text ∷ []
parts-one [] none = refl
parts-one (b ∷ text) none = go (parts-one text (λ k h. none (suc k) (omega (arith, h)))) (b == 47) refl
  where
    go : parts text ≡ text ∷ [] → (t : Bool) → (b == 47) ≡ t → parts (b ∷ text) ≡ (b ∷ text) ∷ []
    go same true at = absurd (none 0 (omega arith) (eqb-true b 47 at))
    go same false at = rw (at, same) refl

-- a text round a `/` in it
pub split_at : (text : List ℕ) (end : ℕ) → end < length text → slice_index text end ≡ 47 → text ≡ take end text ++ 47 ∷ drop (end + 1) text
split_at text end inside slash =
    sym (take-append-drop end text) ∙ ap (λ rest. take end text ++ rest) (drop_more text end 0 inside ∙ ap (λ b. b ∷ drop (end + 1) text) slash)

-- the parts of a text up to its first `/` and after it
pub first_part : (text : List ℕ) (end : ℕ) → position (λ b. b == 47) text ≡ Some end → parts text ≡ take end text ∷ parts (drop (end + 1) text)
first_part text end found =
    let here : (end < length text) × ((slice_index text end == 47) ≡ true) × ((k : ℕ) → k < end → (slice_index text k == 47) ≡ false) = position-Some (λ b. b == 47) text end 0 found in
    let prefix : parts (take end text) ≡ take end text ∷ [] =
    parts-one (take end text) (λ k h. let low : k < end = omega (arith, h, length-take end text) in
    rw (get_or-take end text k 0 low) (eqb-false _ _ (here.2 k low))) in
    ap parts (split_at text end here.0 (eqb-true _ _ here.1)) ∙ parts-append (take end text) (drop (end + 1) text) ∙ ap (λ ps. ps ++ parts (drop (end + 1) text)) prefix

-- where there is none
no_slash : (text : List ℕ) → position (λ b. b == 47) text ≡ None → (k : ℕ) → k < length text → (slice_index text k == 47) ≡ false
no_slash text none k low = fails_before_first (λ b. b == 47) text k 0 (omega (arith, low, all_before (nat_lt (position_or_len (λ b. b == 47) text) (length text)) refl))
  where
    all_before : (t : Bool) → nat_lt (position_or_len (λ b. b == 47) text) (length text) ≡ t → length text ≤ position_or_len (λ b. b == 47) text
    all_before true at = let some : ◌≡◌ {A = Option ℕ} (Some (position_or_len (λ b. b == 47) text)) None = rw at at none in absurd (cc)
    all_before false at = ltb-false _ _ at

pub only_part : (text : List ℕ) → position (λ b. b == 47) text ≡ None → parts text ≡ text ∷ []
only_part text none = parts-one text (λ k h. eqb-false _ _ (no_slash text none k h))

pub none_left : (found : Option ℕ) → ((end : ℕ) → found ≡ Some end → ⊥) → found ≡ None
none_left None not_some = refl
none_left (Some end) not_some = absurd (not_some end refl)
