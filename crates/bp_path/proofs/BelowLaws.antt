-- Which names are left of two texts, once a prefix that they share is gone.
use Rattle.std.proofs.Common.{◌≡◌, ◌&&◌, ℕ, List, ◌∷◌, Bool, true, bytes_eq, not, ◌∙◌, ap}
use Rattle.std.specs.Prelude.{if◌then◌else◌, is_some, None}
use Rattle.std.specs.List.{list_all}
use Rattle.bp_layout.specs.Paths.{rest_below, same_path, Name, Path, is_name}
use Rattle.bp_path.specs.Names.{path_parts}

-- the path is longer than the one above, and begins with it
abbrev pub below : Path → Path → Bool
below above path = not (same_path above path) && is_some (rest_below above path)

-- of both texts this is left, names still, and it reports the same
pub record IsLeft (above text above_left left : List ℕ) : Type 0 where
  pub reports : below (path_parts above) (path_parts text) ≡ below (path_parts above_left) (path_parts left)
  pub above_names : list_all is_name (path_parts above_left) ≡ true
  pub names : list_all is_name (path_parts left) ≡ true

-- the first names of both
module _ (above text above_left left others following : List ℕ) (first name : Name) (is : IsLeft above text above_left left)
    (above_split : path_parts above_left ≡ first ∷ path_parts others) (split : path_parts left ≡ name ∷ path_parts following) where
  pub next_left : bytes_eq first name ≡ true → list_all is_name (path_parts others) ≡ true → list_all is_name (path_parts following) ≡ true → IsLeft above text others following
  next_left same above_names names = record {
    reports = is.reports ∙ ap (λ p. below p (path_parts left)) above_split ∙ ap (below (first ∷ path_parts others)) split
        ∙ ap (λ b. not (b && same_path (path_parts others) (path_parts following)) && is_some (if b then rest_below (path_parts others) (path_parts following) else None)) same;
    above_names = above_names;
    names = names;
  }
