-- The names in the text of a path, after its first `/`.
use Rattle.std.specs.Prelude.{◌≡◌, ℕ, List, [], ◌∷◌, ◌++◌}
use Rattle.bp_layout.specs.Paths.{Name, Path, parts}

-- The parts of a text that `/` separates, and none for the empty text.
abbrev pub path_parts : List ℕ → List (List ℕ)
path_parts [] = []
path_parts (b ∷ bytes) = parts (b ∷ bytes)

-- The two paths lead to names in one directory.
pub record AreBeside (one other : Path) : Type 0 where
  pub parent : Path
  pub one_last : Name
  pub one_is : one ≡ parent ++ one_last ∷ []
  pub other_last : Name
  pub other_is : other ≡ parent ++ other_last ∷ []
