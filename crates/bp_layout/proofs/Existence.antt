-- The paths that a well-formed image shows are among finitely many.
use Rattle.std.proofs.Common.{◌≡◌, ◌⊎◌, ℕ, zero, suc, ◌<◌, ◌≤◌, List, [], ◌∷◌, ◌++◌, map, length, Bool, true, false, eqb, Option, None, Some, refl, sym, ◌∙◌, ap, subst, arith, inl, inr, length-append, unwrap_or, ne_eqb, true≢false, ◌/◌}
use Rattle.std.specs.List.{range_with_len, flat_map}
use Rattle.std.specs.List.{IsDistinct, AllByRecursion, list_any}
use Rattle.std.proofs.lemmas.Bool.{eqb-true}
use Rattle.std.proofs.lemmas.Map.Steps.{length-le_from_distinct_below}
use Rattle.bp_layout.proofs.Reached.{reached-in_file}
use Rattle.bp_layout.proofs.View.{lookup_from-reached}
use Rattle.bp_layout.specs.Words.{Image}
use Rattle.bp_layout.specs.Inode.{IsDirectory, size_of, inode_count}
use Rattle.bp_layout.specs.Directory.{name_at, slots}
use Rattle.bp_layout.specs.Paths.{Name, Path}
use Rattle.bp_layout.specs.Lookup.{lookup}
use Rattle.bp_layout.specs.Reached.IsReached.{root_directory}
use Rattle.bp_layout.specs.WellFormed.{IsWellFormed}
use Rattle.bp_layout.proofs.Paths.{ByLast, by_last, LastStep, last_step, path_once}
use Rattle.bp_layout.proofs.Paths.ByLast.{none, more}
use Rattle.bp_layout.specs.Members.{AreApart}
use Rattle.bp_layout.proofs.MemberLaws.{apart-first, apart-more, has-flat_map, has-map, has-range}
pub use Rattle.bp_layout.specs.Members.{Has}

-- ---- numbers below a bound with no two equal

all_other : (x : ℕ) (xs : List ℕ) → (Has xs x → ⊥) → AllByRecursion (λ y. eqb x y ≡ false) xs
all_other x [] other = tt
all_other x (y ∷ xs) other = (ne_eqb x y (λ e. other (inl (sym e))), all_other x xs (λ h. other (inr h)))

is_distinct : (xs : List ℕ) → AreApart xs → IsDistinct eqb xs
unfolding IsDistinct
is_distinct [] apart = tt
is_distinct (x ∷ xs) apart = (all_other x xs (apart-first x xs apart), is_distinct xs apart.1)

has-any : (q : ℕ) (xs : List ℕ) → list_any (eqb q) xs ≡ true → Has xs q
has-any q [] e = absurd (true≢false (sym e))
has-any q (x ∷ xs) e = go (λ r. has-any q xs r) (eqb q x) refl
  where
    go : (list_any (eqb q) xs ≡ true → Has xs q) → (b : Bool) → eqb q x ≡ b → (x ≡ q) ⊎ Has xs q
    go rest true at = inl (sym (eqb-true q x at))
    go rest false at = inr (rest (rw at at e))

pub at_most : (xs : List ℕ) (n : ℕ) → AreApart xs → ((q : ℕ) → Has xs q → q < n) → length xs ≤ n
at_most xs n apart low = length-le_from_distinct_below xs n (is_distinct xs apart) (λ q any. low q (has-any q xs any))

pub count_of : {path : Path} → ByLast path → ℕ
count_of none = 0
count_of (more b name) = suc (count_of b)

count_is : (path : Path) (b : ByLast path) → count_of b ≡ length path
unfolding count_of
count_is _ none = refl
count_is _ (more {path = p} b name) = ap suc (count_is p b) ∙ omega (arith, length-append p (name ∷ []))

module _ (image : Image) (wf : IsWellFormed image) where
  -- the names of the entries at a path, empty ones too
  pub names_at : Option ℕ → List Name
  names_at None = []
  names_at (Some i) = map (name_at image i) (slots (size_of image i))

  -- paths of as many names, among them all that exist
  pub paths_of : ℕ → List Path
  paths_of zero = [] ∷ []
  paths_of (suc n) = flat_map (λ p. map (λ name. p ++ name ∷ []) (names_at (lookup image p))) (paths_of n)

  pub complete : (path : Path) (b : ByLast path) (i : ℕ) → lookup image path ≡ Some i → Has (paths_of (count_of b)) path
  unfolding paths_of names_at count_of
  complete _ none i e = inl refl
  complete _ (more {path = p} b name) i e =
      let step : LastStep image wf p name i = last_step image wf p name i e in
      let named : Has (map (name_at image step.parent) (slots (size_of image step.parent))) name =
      subst (Has (map (name_at image step.parent) (slots (size_of image step.parent)))) step.shows.spelled
      (has-map (name_at image step.parent) (slots (size_of image step.parent)) step.shows.slot
      (has-range 0 (size_of image step.parent / 256) step.shows.slot (omega arith) (omega (arith, step.shows.entry.in_size)))) in
      has-flat_map (λ q. map (λ n. q ++ n ∷ []) (names_at (lookup image q))) (paths_of (count_of b)) p (p ++ name ∷ []) (complete p b step.parent step.found)
      (rw step.found (has-map (λ n. p ++ n ∷ []) (map (name_at image step.parent) (slots (size_of image step.parent))) name named))

  -- the inodes on the way to a path
  inodes_of : {path : Path} → ByLast path → ℕ → List ℕ
  inodes_of none i = i ∷ []
  inodes_of (more {path = p} b name) i = i ∷ inodes_of b (unwrap_or (lookup image p) 0)

  -- one of them stands at a path that is no longer; all but the last are directories
  record OnTheWay (i n q : ℕ) : Type 0 where
    path : Path
    found : lookup image path ≡ Some q
    short : length path ≤ n
    directory : IsDirectory image i → IsDirectory image q

  on_the_way : (path : Path) (b : ByLast path) (i q : ℕ) → lookup image path ≡ Some i → Has (inodes_of b i) q → OnTheWay i (length path) q
  unfolding inodes_of
  on_the_way _ none i q e (inl h) = record { path = []; found = e ∙ ap Some h; short = omega arith; directory = λ kind. subst (IsDirectory image) h kind }
  on_the_way _ none i q e (inr h) = absurd h
  on_the_way _ (more {path = p} b name) i q e (inl h) = record { path = p ++ name ∷ []; found = e ∙ ap Some h; short = omega arith; directory = λ kind. subst (IsDirectory image) h kind }
  on_the_way _ (more {path = p} b name) i q e (inr h) =
      let step : LastStep image wf p name i = last_step image wf p name i e in
      let before : OnTheWay step.parent (length p) q = on_the_way p b step.parent q step.found (rw (step.found) at h) in
      record { path = before.path; found = before.found; short = omega (arith, before.short, length-append p (name ∷ [])); directory = λ kind. before.directory step.shows.entry.directory }

  differ : (path : Path) (b : ByLast path) (i : ℕ) → lookup image path ≡ Some i → AreApart (inodes_of b i)
  unfolding inodes_of
  differ _ none i e = (tt, tt)
  differ _ (more {path = p} b name) i e =
      let step : LastStep image wf p name i = last_step image wf p name i e in
      rw step.found (apart-more i (inodes_of b step.parent)
      (λ h.
      let before : OnTheWay step.parent (length p) i = on_the_way p b step.parent i step.found h in
      let same : before.path ≡ p ++ name ∷ [] = path_once image wf before.path (p ++ name ∷ []) i before.found e (before.directory step.shows.entry.directory) in
      omega (arith, before.short, ap length same, length-append p (name ∷ [])))
      (differ p b step.parent step.found))

  length-inodes_of : (path : Path) (b : ByLast path) (i : ℕ) → length (inodes_of b i) ≡ suc (count_of b)
  unfolding inodes_of count_of
  length-inodes_of _ none i = refl
  length-inodes_of _ (more {path = p} b name) i = ap suc (length-inodes_of p b _)

  -- so a path has fewer names than there are inodes
  pub few_names : (path : Path) (i : ℕ) → lookup image path ≡ Some i → count_of (by_last path) < inode_count image
  few_names path i e =
      let most : length (inodes_of (by_last path) i) ≤ inode_count image =
      at_most (inodes_of (by_last path) i) (inode_count image) (differ path (by_last path) i e)
      (λ q h.
      let at : OnTheWay i (length path) q = on_the_way path (by_last path) i q e h in
      reached-in_file image wf q (lookup_from-reached image 1 q at.path root_directory at.found)) in
      omega (arith, most, length-inodes_of path (by_last path) i)

  pub all_paths : List Path
  all_paths = flat_map paths_of (range_with_len 0 (inode_count image))

  pub has_all : (path : Path) (i : ℕ) → lookup image path ≡ Some i → Has all_paths path
  unfolding all_paths
  has_all path i e =
      has-flat_map paths_of (range_with_len 0 (inode_count image)) (count_of (by_last path)) path
      (has-range 0 (inode_count image) (count_of (by_last path)) (omega arith) (omega (arith, few_names path i e)))
      (complete path (by_last path) i e)
