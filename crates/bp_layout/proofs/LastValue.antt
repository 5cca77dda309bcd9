-- The word at a place after stores is the last value stored there.
use Rattle.std.proofs.Common.{◌≡◌, ℕ, ◌<◌, List, [], ◌∷◌, length, set, Bool, true, false, cond, eqb, refl, ◌∙◌, ap, get_or-set_same, get_or-set_other}
use Rattle.std.proofs.lemmas.List.{length-set}
use Rattle.std.proofs.lemmas.Bool.{eqb-true, eqb-false}
use Rattle.bp_layout.specs.Words.{Image, word}
use Rattle.bp_layout.specs.Stores.{after_stores}

abbrev pub last_value : List (ℕ × ℕ) → ℕ → ℕ → ℕ
last_value [] place value = value
last_value (store ∷ stores) place value = last_value stores place (cond (eqb place store.0) store.1 value)

abbrev pub AllWithinImage : ℕ → List (ℕ × ℕ) → Type 0
AllWithinImage n [] = Unit {0}
AllWithinImage n (store ∷ stores) = (store.0 < n) × AllWithinImage n stores

pub length-after_stores : (image : Image) (stores : List (ℕ × ℕ)) → length (after_stores image stores) ≡ length image
length-after_stores image [] = refl
length-after_stores image (store ∷ stores) = length-after_stores (set image store.0 store.1) stores ∙ length-set image store.0 store.1

word-set : (image : Image) (at value place : ℕ) → at < length image → word (set image at value) place ≡ cond (eqb place at) value (word image place)
word-set image at value place inside = go (eqb place at) refl
  where
    go : (b : Bool) → eqb place at ≡ b → word (set image at value) place ≡ cond b value (word image place)
    go true e = let here : place ≡ at = eqb-true place at e in rw here (get_or-set_same image at value 0 inside)
    go false e = get_or-set_other image at place value 0 (eqb-false place at e)

pub word-after_stores : (image : Image) (stores : List (ℕ × ℕ)) (place : ℕ) → AllWithinImage (length image) stores →
    word (after_stores image stores) place ≡ last_value stores place (word image place)
word-after_stores image [] place within = refl
word-after_stores image (store ∷ stores) place within =
    word-after_stores (set image store.0 store.1) stores place (rw (length-set image store.0 store.1) within.1)
    ∙ ap (last_value stores place) (word-set image store.0 store.1 place within.0)
