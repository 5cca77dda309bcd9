-- Names and paths, and the kinds of node at a path: a directory or a file. Nothing here depends on an image.
use Rattle.std.specs.Prelude.{◌≢◌, ◌≤◌, ℕ, List, [], ◌∷◌, length, All, Bool, not, ◌&&◌, ◌==◌, nat_le, nat_lt, bytes_eq, Option, None, Some, if◌then◌else◌}
use Rattle.std.specs.List.{list_all}
use Rattle.std.specs.Cmp.Lexicographic.{pointwise}
use Rattle.bp_limits.specs.CallLimits.{max_name, max_path}

-- ---- names

abbrev pub Name : Type 0
Name = List ℕ

-- a valid name: 1 to `max_name` bytes, none of them 0 or `/`, and neither `.` nor `..`
pub record IsName (name : Name) : Type 0 where
  pub not_empty : 1 ≤ length name
  pub short : length name ≤ max_name
  pub plain : All (λ b. (b ≢ 0) × (b ≢ 47)) name
  pub not_dot : name ≢ 46 ∷ []
  pub not_dot_dot : name ≢ 46 ∷ 46 ∷ []

-- whether the bytes are a valid name
abbrev pub is_name : Name → Bool
is_name name =
    nat_le 1 (length name) && nat_le (length name) max_name && list_all (λ b. not (b == 0) && not (b == 47)) name
    && not (bytes_eq name (46 ∷ [])) && not (bytes_eq name (46 ∷ 46 ∷ []))

-- ---- paths

-- a path: the names from the root directory on; the root directory's path has no name
abbrev pub Path : Type 0
Path = List Name

-- the attributes of a file or a directory: three words of the caller's own, which the file system only keeps
abbrev pub Attributes : Type 0
Attributes = List ℕ

-- the attributes of a new file or directory, and of each one before version 3
abbrev pub no_attributes : Attributes
no_attributes = 0 ∷ 0 ∷ 0 ∷ []

-- a directory, or a file with its bytes; each with its attributes
pub data Node : Type 0 where
  dir : Attributes → Node
  file : Attributes → List ℕ → Node

abbrev pub same_path : Path → Path → Bool
same_path = pointwise bytes_eq

-- the rest of the second path after the first one, if the first one is a prefix of it
abbrev pub rest_below : Path → Path → Option Path
rest_below [] path = Some path
rest_below (name ∷ above) [] = None
rest_below (name ∷ above) (other ∷ path) = if bytes_eq name other then rest_below above path else None

-- ---- the text of a path

-- the byte added at the start of the first part
abbrev pub onto_first : ℕ → List Name → List Name
onto_first b [] = (b ∷ []) ∷ []
onto_first b (part ∷ parts) = (b ∷ part) ∷ parts

-- the parts of a text between its bytes `/`
abbrev pub parts : List ℕ → List Name
parts [] = [] ∷ []
parts (b ∷ bytes) = if b == 47 then [] ∷ parts bytes else onto_first b (parts bytes)

abbrev pub names_after_slash : List ℕ → Option Path
names_after_slash [] = Some []
names_after_slash (b ∷ bytes) = if list_all is_name (parts (b ∷ bytes)) then Some (parts (b ∷ bytes)) else None

-- The path that a text spells: at most `max_path` bytes, either `/` or one or more names, each after a `/`.
abbrev pub parse : List ℕ → Option Path
parse [] = None
parse (b ∷ bytes) = if (b == 47) && nat_lt (length bytes) max_path then names_after_slash bytes else None
