-- What holds of each element of two lists in a row holds of each of either.
use Rattle.std.proofs.Common.{◌≡◌, List, [], ◌∷◌, ◌++◌, sym, subst}
use Rattle.std.specs.Prelude.{All}
use Rattle.std.specs.List.{AllByRecursion}
use Rattle.std.proofs.lemmas.List.Elements.{All-from_recursion, recursion_from_All}

module _ {X : Type 0} (P : X → Type 0) where
  prefix : (xs ys : List X) → AllByRecursion P (xs ++ ys) → AllByRecursion P xs
  prefix [] ys all = tt
  prefix (x ∷ xs) ys all = (all.0, prefix xs ys all.1)

  back : (xs ys : List X) → AllByRecursion P (xs ++ ys) → AllByRecursion P ys
  back [] ys all = all
  back (x ∷ xs) ys all = back xs ys all.1

  pub all_prefix : (xs ys : List X) → All P (xs ++ ys) → All P xs
  all_prefix xs ys all = All-from_recursion P xs (prefix xs ys (recursion_from_All P (xs ++ ys) all))

  pub all_back : (xs ys : List X) → All P (xs ++ ys) → All P ys
  all_back xs ys all = All-from_recursion P ys (back xs ys (recursion_from_All P (xs ++ ys) all))

  pub all_first : (x : X) (xs ys : List X) → x ∷ xs ≡ ys → All P ys → P x
  all_first x xs ys e all = (recursion_from_All P (x ∷ xs) (subst (All P) (sym e) all)).0
