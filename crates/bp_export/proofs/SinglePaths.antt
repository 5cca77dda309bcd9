-- A file with one name stands at one path.
use Rattle.std.proofs.Common.{◌≡◌, ℕ, ◌≤◌, List, [], ◌∷◌, ◌++◌, length, Some, refl, sym, ◌∙◌, ap, ap₂, arith, inl, inr}
use Rattle.bp_layout.specs.Words.{Image}
use Rattle.bp_layout.specs.Directory.{name_at}
use Rattle.bp_layout.specs.Paths.{Name, Path}
use Rattle.bp_layout.specs.Inode.{IsFile, kind_of}
use Rattle.bp_layout.specs.Lookup.{lookup}
use Rattle.bp_layout.specs.Members.{Has}
use Rattle.bp_layout.specs.Names.{HasNames}
use Rattle.bp_layout.specs.WellFormed.{IsWellFormed}
use Rattle.bp_layout.proofs.Paths.{ByLast, LastStep, by_last, last_step, path_once}
use Rattle.bp_layout.proofs.Paths.ByLast.{none, more}

-- a short list has one member
one_member : {A : Type 0} (xs : List A) (a b : A) → length xs ≤ 1 → Has xs a → Has xs b → a ≡ b
one_member [] a b few one two = absurd one
one_member (x ∷ []) a b few (inl e) (inl f) = sym e ∙ f
one_member (x ∷ []) a b few (inl e) (inr f) = absurd f
one_member (x ∷ []) a b few (inr e) two = absurd e
one_member (x ∷ y ∷ xs) a b few one two = absurd (omega (arith, few))

module _ (image : Image) (wf : IsWellFormed image) (i : ℕ) where
  -- the last name of a path, and the entry that it is
  record Ends (path : Path) : Type 0 where
    pub prefix : Path
    pub name : Name
    pub is : path ≡ prefix ++ name ∷ []
    pub step : LastStep image wf prefix name i

  ends : IsFile image i → (path : Path) → lookup image path ≡ Some i → Ends path
  ends kind path found = go (by_last path) found
    where
      go : {p : Path} → ByLast p → lookup image p ≡ Some i → Ends p
      go none at =
          let root : 1 ≡ i = cc in
          absurd (omega (arith, kind, ap (kind_of image) root, wf.root_kind))
      go (more {path = prefix} before name) at = record { prefix = prefix; name = name; is = refl; step = last_step image wf prefix name i at }

  pub single_path : (count : ℕ) → HasNames image i count → count ≤ 1 → IsFile image i → (p q : Path) → lookup image p ≡ Some i → lookup image q ≡ Some i → p ≡ q
  single_path count has few kind p q at_p at_q = one.is ∙ ap₂ (λ x y. x ++ y ∷ []) prefixes names ∙ sym two.is
    where
      one : Ends p
      one = ends kind p at_p

      two : Ends q
      two = ends kind q at_q

      same : ◌≡◌ {A = ℕ × ℕ} (one.step.parent, one.step.shows.slot) (two.step.parent, two.step.shows.slot)
      same = one_member has.entries _ _ (omega (arith, few, has.number))
          (has.are.all one.step.parent one.step.shows.slot (record { reached = one.step.reached; names = one.step.shows.entry }))
          (has.are.all two.step.parent two.step.shows.slot (record { reached = two.step.reached; names = two.step.shows.entry }))

      parents : one.step.parent ≡ two.step.parent
      parents = ap (λ (e : ℕ × ℕ). e.0) same

      slots : one.step.shows.slot ≡ two.step.shows.slot
      slots = ap (λ (e : ℕ × ℕ). e.1) same

      prefixes : one.prefix ≡ two.prefix
      prefixes = path_once image wf one.prefix two.prefix one.step.parent one.step.found (two.step.found ∙ ap Some (sym parents)) one.step.shows.entry.directory

      names : one.name ≡ two.name
      names = sym one.step.shows.spelled ∙ ap₂ (name_at image) parents slots ∙ two.step.shows.spelled
