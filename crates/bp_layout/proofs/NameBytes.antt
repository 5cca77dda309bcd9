-- A list that is reported byte by byte.
use Rattle.std.proofs.Common.{◌≡◌, ℕ, ◌+◌, ◌<◌, suc, List, [], ◌∷◌, map, length, get_or, refl, ◌∙◌, ap, ap₂, arith}
use Rattle.std.specs.List.{range_with_len}

map-equal_from : (f : ℕ → ℕ) (xs : List ℕ) (a : ℕ) → ((i : ℕ) → i < length xs → f (a + i) ≡ get_or xs i 0) → map f (range_with_len a (length xs)) ≡ xs
map-equal_from f [] a reports = refl
map-equal_from f (x ∷ xs) a reports =
    let first : f a ≡ x = ap f (omega arith) ∙ reports 0 (omega arith) in
    ap₂ (λ y ys. y ∷ ys) first (map-equal_from f xs (a + 1) (λ i low. ap f (omega arith) ∙ reports (suc i) (omega (arith, low))))

-- numbers that are those of a list, one by one, are that list
pub map-equal : (f : ℕ → ℕ) (xs : List ℕ) → ((i : ℕ) → i < length xs → f i ≡ get_or xs i 0) → map f (range_with_len 0 (length xs)) ≡ xs
map-equal f xs reports = map-equal_from f xs 0 (λ i low. ap f (omega arith) ∙ reports i low)
