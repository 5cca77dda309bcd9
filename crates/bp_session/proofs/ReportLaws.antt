-- The lines of a listing, one after the other.
use Rattle.std.proofs.Common.{zero, suc, sym, ◌∙◌, ap, arith, ◌≡◌, ℕ, ◌+◌, List, [], ◌∷◌, ◌++◌, take, drop}
use Rattle.std.proofs.lemmas.List.{append_assoc, append-nil}
use Rattle.std.specs.Prelude.{flat_map, slice_get, Some, None}

-- one more entry of a list
pub listed : {X : Type 0} (f : X → List ℕ) (list : List X) (i : ℕ) (x : X) → slice_get list i ≡ Some x → flat_map f (take (i + 1) list) ≡ flat_map f (take i list) ++ f x
listed f [] i x at = absurd (let no_way : None ≡ Some x = at in cc)
listed f (y ∷ list) zero x at = let same : y ≡ x = cc in rw same (append-nil (f x))
listed f (y ∷ list) (suc i) x at =
    let next : suc i + 1 ≡ suc (i + 1) = omega arith in
    rw next (ap (λ l. f y ++ l) (listed f list i x at) ∙ sym (append_assoc (f y) (flat_map f (take i list)) (f x)))

-- the text of a list, around one of its entries
pub around : {X : Type 0} (f : X → List ℕ) (list : List X) (i : ℕ) (x : X) (last : List ℕ) → slice_get list i ≡ Some x → flat_map f list ++ last ≡ flat_map f (take i list) ++ (f x ++ (flat_map f (drop (i + 1) list) ++ last))
around f [] i x last at = absurd (let no_way : None ≡ Some x = at in cc)
around f (y ∷ list) zero x last at = let same : y ≡ x = cc in rw same (append_assoc (f x) (flat_map f list) last)
around f (y ∷ list) (suc i) x last at =
    let next : suc i + 1 ≡ suc (i + 1) = omega arith in
    rw next (append_assoc (f y) (flat_map f list) last ∙ ap (λ l. f y ++ l) (around f list i x last at) ∙ sym (append_assoc (f y) (flat_map f (take i list)) (f x ++ (flat_map f (drop (i + 1) list) ++ last))))
