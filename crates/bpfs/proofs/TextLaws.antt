-- The texts of arguments.
use Rattle.std.proofs.Common.{◌≡◌, ℕ, ◌≤◌, ◌<◌, List, [], ◌∷◌, map, length, get_or, Bor, refl, arith}

-- Two texts are the first and the second.
pub two_texts : (texts : List (Bor (List ℕ))) (other : Bor (List ℕ)) → 2 ≤ length texts → length texts < 3
    → map (λ text. text.now) texts ≡ (get_or texts 0 other).now ∷ (get_or texts 1 other).now ∷ []
two_texts [] other least most = absurd (omega arith)
two_texts (first ∷ []) other least most = absurd (omega arith)
two_texts (first ∷ second ∷ []) other least most = refl
two_texts (first ∷ second ∷ third ∷ rest) other least most = absurd (omega arith)
