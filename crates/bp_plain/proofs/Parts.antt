-- The names in the text of a path.
use Rattle.std.proofs.Common.{◌≡◌, ℕ, ◌+◌, Bool, true, false, ◌==◌, List, [], ◌∷◌, ◌++◌, take, drop, position, Option, None, Some, if◌then◌else◌, refl, sym, ◌∙◌, ap, append_assoc}
use Rattle.std.specs.List.{list_all}
use Rattle.arrayvec.specs.ArrayVec.{ArrayVec}
use Rattle.bp_layout.specs.Paths.{Name, Path, is_name, parts}
use Rattle.bp_layout.proofs.Parts.{first_part, only_part}
use Rattle.bp_plain.specs.SeenTree.{all_names, names_of}

pub one_more : (before : Path) (name : Name) (rest : List Name) → is_name name ≡ true → all_names (before ++ name ∷ []) rest ≡ all_names before (name ∷ rest)
one_more before name rest is = rw is (go (list_all is_name rest) refl)
  where
    go : (b : Bool) → list_all is_name rest ≡ b → all_names (before ++ name ∷ []) rest ≡ (if b then Some (before ++ name ∷ rest) else None)
    go true at = rw (at, append_assoc before (name ∷ []) rest) refl
    go false at = rw at refl

pub no_name : (before : Path) (name : Name) (rest : List Name) → is_name name ≡ false → None ≡ all_names before (name ∷ rest)
no_name before name rest is = rw is refl

last_name : (before : Path) (name : Name) → is_name name ≡ true → all_names before (name ∷ []) ≡ Some (before ++ name ∷ [])
last_name before name is = rw is refl

pub name_case : (bytes : Name) (found : Name) → ◌≡◌ {A = Option Name} (Some found) (if is_name bytes then Some bytes else None) → (is_name bytes ≡ true) × (found ≡ bytes)
name_case bytes found e = go (is_name bytes) refl
  where
    go : (b : Bool) → is_name bytes ≡ b → (is_name bytes ≡ true) × (found ≡ bytes)
    go true at = (at, let same : ◌≡◌ {A = Option Name} (Some found) (Some bytes) = rw at at e in cc)
    go false at = let none : ◌≡◌ {A = Option Name} (Some found) None = rw at at e in absurd (cc)

pub none_case : (bytes : Name) → ◌≡◌ {A = Option Name} None (if is_name bytes then Some bytes else None) → is_name bytes ≡ false
none_case bytes e = go (is_name bytes) refl
  where
    go : (b : Bool) → is_name bytes ≡ b → is_name bytes ≡ false
    go true at = let some : ◌≡◌ {A = Option Name} None (Some bytes) = rw at at e in absurd (cc)
    go false at = at

names_more : (before : List (ArrayVec ℕ)) (name : ArrayVec ℕ) → names_of (before ++ name ∷ []) ≡ names_of before ++ name.items ∷ []
names_more [] name = refl
names_more (x ∷ before) name = ap (λ names. x.items ∷ names) (names_more before name)

module _ (before : List (ArrayVec ℕ)) (rest : List ℕ) (whole : Option Path) (so_far : all_names (names_of before) (parts rest) ≡ whole) where
  -- the name before the first `/`
  pub goes_on : (end : ℕ) (after : List (ArrayVec ℕ)) (name : ArrayVec ℕ) → position (λ b. b == 47) rest ≡ Some end → after ≡ before ++ name ∷ [] →
      ◌≡◌ {A = Option Name} (Some name.items) (if is_name (take end rest) then Some (take end rest) else None) → all_names (names_of after) (parts (drop (end + 1) rest)) ≡ whole
  goes_on end after name at is named =
      let case = name_case (take end rest) name.items named in
      ap (λ names. all_names names (parts (drop (end + 1) rest))) (ap names_of is ∙ names_more before name ∙ ap (λ part. names_of before ++ part ∷ []) case.1)
      ∙ one_more (names_of before) (take end rest) (parts (drop (end + 1) rest)) case.0
      ∙ ap (all_names (names_of before)) (sym (first_part rest end at)) ∙ so_far

  -- no name there
  pub stops : (end : ℕ) → position (λ b. b == 47) rest ≡ Some end → ◌≡◌ {A = Option Name} None (if is_name (take end rest) then Some (take end rest) else None) → None ≡ whole
  stops end at other =
      no_name (names_of before) (take end rest) (parts (drop (end + 1) rest)) (none_case (take end rest) other)
      ∙ ap (all_names (names_of before)) (sym (first_part rest end at)) ∙ so_far

  -- the last name
  pub ends : (after : List (ArrayVec ℕ)) (name : ArrayVec ℕ) → position (λ b. b == 47) rest ≡ None → after ≡ before ++ name ∷ [] →
      ◌≡◌ {A = Option Name} (Some name.items) (if is_name rest then Some rest else None) → Some (names_of after) ≡ whole
  ends after name at is named =
      let case = name_case rest name.items named in
      ap (λ names. Some names) (ap names_of is ∙ names_more before name ∙ ap (λ part. names_of before ++ part ∷ []) case.1)
      ∙ sym (last_name (names_of before) rest case.0) ∙ ap (all_names (names_of before)) (sym (only_part rest at)) ∙ so_far

  pub ends_badly : position (λ b. b == 47) rest ≡ None → ◌≡◌ {A = Option Name} None (if is_name rest then Some rest else None) → None ≡ whole
  ends_badly at other = no_name (names_of before) rest [] (none_case rest other) ∙ ap (all_names (names_of before)) (sym (only_part rest at)) ∙ so_far
