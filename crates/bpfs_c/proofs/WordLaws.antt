-- Words in a row.
use Rattle.std.proofs.Common.{◌≡◌, ◌+◌, ◌-◌, ◌++◌, ◌∙◌, ℕ, List, ap, ap₂, arith, drop, sym, take}
use Rattle.std.specs.Prelude.{slice_range}
use Rattle.std.proofs.Math.Seq.{drop-drop, take-add}

-- some, and those after them
pub slices_join : (words : List ℕ) (first head rest : ℕ) → slice_range words first (first + head) ++ slice_range words (first + head) ((first + head) + rest) ≡ slice_range words first (first + (head + rest))
slices_join words first head rest =
    let prefix : (first + head) - first ≡ head = omega arith in
    let back : ((first + head) + rest) - (first + head) ≡ rest = omega arith in
    let all : (first + (head + rest)) - first ≡ head + rest = omega arith in
    ap₂ (λ left right. left ++ right) (ap (λ n. take n (drop first words)) prefix) (ap (λ n. take n (drop (first + head) words)) back ∙ ap (take rest) (sym (drop-drop head first words)))
    ∙ sym (take-add head rest (drop first words)) ∙ ap (λ n. take n (drop first words)) (sym all)
