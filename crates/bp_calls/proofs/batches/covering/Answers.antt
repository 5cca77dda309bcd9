use Rattle.std.proofs.Common.{ℕ, List, [], ◌∷◌, ◌++◌, map, ◌∙◌, ap}
use Rattle.arrayvec.specs.ArrayVec.{ArrayVec}
use Rattle.bp_calls.proofs.batches.covering.Goals as goal

pub returns : goal.returns
returns g c =
    ap (λ (xs : List (ArrayVec ℕ)). map (λ path. path.items) xs) (c.push.ensures.items ∙ ap (λ (xs : List (ArrayVec ℕ)). xs ++ c.cover.result ∷ []) c.new-targets.ensures)
    ∙ ap (λ (p : List ℕ). p ∷ []) c.cover.ensures
