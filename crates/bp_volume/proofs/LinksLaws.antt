-- A file has one path for each entry that names it.
use Rattle.std.proofs.Common.{◌≡◌, ◌≢◌, ℕ, zero, suc, ◌≤◌, List, [], ◌∷◌, ◌++◌, length, Bool, true, false, ◌==◌, Option, None, Some, option_and_then, if◌then◌else◌, refl, sym, ◌∙◌, ap, ap₂, subst, arith, true≢false, inl, inr}
use Rattle.std.proofs.lemmas.Bool.{eq-eqb, eqb-true}
use Rattle.std.proofs.lemmas.List.{append_cancel_left}
use Rattle.bp_layout.specs.Words.{Image}
use Rattle.bp_layout.specs.Directory.{EntryNames, lookup_in, name_at}
use Rattle.bp_layout.specs.Paths.{Name, Path, same_path}
use Rattle.bp_layout.specs.Inode.{IsDirectory, IsFile, kind_of}
use Rattle.bp_layout.specs.Lookup.{are_one, file_at, if_file, lookup}
use Rattle.bp_layout.specs.Members.{AreApart, Each, Has}
use Rattle.bp_layout.specs.Names.{HasNames, IsNamed}
use Rattle.bp_layout.specs.Reached.{IsReached}
use Rattle.bp_layout.specs.Reached.IsReached.{inode_file, root_directory, named}
use Rattle.bp_layout.specs.WellFormed.{IsWellFormed}
use Rattle.bp_layout.proofs.Below.{same_path-is, same_path-self}
use Rattle.bp_layout.proofs.LookupLaws.{lookup_in-found}
use Rattle.bp_layout.proofs.Paths.{ByLast, LastStep, by_last, last_step, lookup_from-append, path_once}
use Rattle.bp_layout.proofs.Paths.ByLast.{none, more}
use Rattle.bp_plain.specs.Plain.{path_count}
use Rattle.bp_plain.specs.PlainTree.{FileTree, is_one}
use Rattle.bp_plain.specs.Stands.{Stands}
use Rattle.bp_plain.proofs.Kernels.{any_path, by_bools}
use Rattle.bp_plain.proofs.LinkCounts.{AreOnce, count_is}
use Rattle.bp_plain.proofs.Rooted.{same_above}

-- paths that are one have one last name
names_same : (p q : Path) (a b : Name) → p ++ a ∷ [] ≡ q ++ b ∷ [] → a ≡ b
names_same p q a b e =
    let lasts : ◌≡◌ {A = Path} (a ∷ []) (b ∷ []) = append_cancel_left p (a ∷ []) (b ∷ []) (e ∙ ap (λ prefix. prefix ++ b ∷ []) (sym (same_above p q a b e))) in
    cc

module _ (image : Image) (wf : IsWellFormed image) where
  record PathTo (i : ℕ) : Type 0 where
    pub path : Path
    pub found : lookup image path ≡ Some i

  entry_found : (i s j : ℕ) → IsReached image i → EntryNames image i s j → lookup_in image i (name_at image i s) ≡ Some j
  entry_found i s j reached names =
      lookup_in-found image i j (name_at image i s) (record { slot = s; entry = names; spelled = refl })
      (λ r k other same. wf.names_once i r s k j reached other names same)

  directory_low : (i : ℕ) → IsDirectory image i → 1 ≤ i
  directory_low zero kind = absurd (omega (arith, kind))
  directory_low (suc i) kind = omega arith

  -- each inode that is reached stands at a path
  path_to : (i : ℕ) → IsReached image i → 1 ≤ i → PathTo i
  path_to _ inode_file low = absurd (omega (arith, low))
  path_to _ root_directory low = record { path = []; found = refl }
  path_to _ (named {i} {j} s reached names) low =
      let above : PathTo i = path_to i reached (directory_low i names.directory) in
      record {
        path = above.path ++ name_at image i s ∷ [];
        found = lookup_from-append image 1 above.path (name_at image i s)
            ∙ ap (option_and_then (λ k. lookup_in image k (name_at image i s))) above.found ∙ entry_found i s j reached names;
      }

  module _ (j : ℕ) where
    above_entry : (e : ℕ × ℕ) → IsNamed image j e → PathTo e.0
    above_entry e is = path_to e.0 is.reached (directory_low e.0 is.names.directory)

    -- the path by an entry
    abbrev path_by : (e : ℕ × ℕ) → IsNamed image j e → Path
    path_by e is = (above_entry e is).path ++ name_at image e.0 e.1 ∷ []

    by_finds : (e : ℕ × ℕ) (is : IsNamed image j e) → lookup image (path_by e is) ≡ Some j
    by_finds e is =
        lookup_from-append image 1 (above_entry e is).path (name_at image e.0 e.1)
        ∙ ap (option_and_then (λ k. lookup_in image k (name_at image e.0 e.1))) (above_entry e is).found
        ∙ entry_found e.0 e.1 j is.reached is.names

    -- two entries have two paths
    by_apart : (a b : ℕ × ℕ) (one : IsNamed image j a) (two : IsNamed image j b) → path_by a one ≡ path_by b two → a ≡ b
    by_apart a b one two same =
        let prefixes : (above_entry a one).path ≡ (above_entry b two).path = same_above _ _ _ _ same in
        let dirs : ◌≡◌ {A = Option ℕ} (Some a.0) (Some b.0) = sym (above_entry a one).found ∙ ap (lookup image) prefixes ∙ (above_entry b two).found in
        let dir : a.0 ≡ b.0 = cc in
        let names : name_at image a.0 a.1 ≡ name_at image a.0 b.1 = names_same _ _ _ _ same ∙ ap (λ i. name_at image i b.1) (sym dir) in
        let other : EntryNames image a.0 b.1 j = subst (λ i. EntryNames image i b.1 j) (sym dir) two.names in
        let slot : a.1 ≡ b.1 = wf.names_once a.0 a.1 b.1 j j one.reached one.names other names in
        ap₂ (λ i s. (i, s)) dir slot

    -- those by some entries
    abbrev paths_by : (entries : List (ℕ × ℕ)) → Each (IsNamed image j) entries → List Path
    paths_by [] are = []
    paths_by (e ∷ entries) are = path_by e are.0 ∷ paths_by entries are.1

    as_many : (entries : List (ℕ × ℕ)) (are : Each (IsNamed image j) entries) → length (paths_by entries are) ≡ length entries
    as_many [] are = refl
    as_many (e ∷ entries) are = ap suc (as_many entries are.1)

    other_path : (e : ℕ × ℕ) (is : IsNamed image j e) (entries : List (ℕ × ℕ)) (are : Each (IsNamed image j) entries) → Each (λ other. other ≢ e) entries →
        any_path (path_by e is) (paths_by entries are) ≡ false
    other_path e is [] are apart = refl
    other_path e is (other ∷ entries) are apart = go (same_path (path_by e is) (path_by other are.0)) refl (other_path e is entries are.1 apart.1)
      where
        go : (b : Bool) → same_path (path_by e is) (path_by other are.0) ≡ b → any_path (path_by e is) (paths_by entries are.1) ≡ false →
            any_path (path_by e is) (paths_by (other ∷ entries) are) ≡ false
        go true at rest = absurd (apart.0 (sym (by_apart e other is are.0 (same_path-is (path_by e is) (path_by other are.0) at))))
        go false at rest = rw at rest

    once_by : (entries : List (ℕ × ℕ)) (are : Each (IsNamed image j) entries) → AreApart entries → AreOnce (paths_by entries are)
    once_by [] are apart = tt
    once_by (e ∷ entries) are apart = (other_path e are.0 entries are.1 apart.0, once_by entries are.1 apart.1)

    -- each of them finds the inode
    any_finds : (entries : List (ℕ × ℕ)) (are : Each (IsNamed image j) entries) (q : Path) → any_path q (paths_by entries are) ≡ true → lookup image q ≡ Some j
    any_finds [] are q any = absurd (true≢false (sym any))
    any_finds (e ∷ entries) are q any = go (same_path q (path_by e are.0)) refl (λ later. any_finds entries are.1 q later)
      where
        go : (b : Bool) → same_path q (path_by e are.0) ≡ b → (any_path q (paths_by entries are.1) ≡ true → lookup image q ≡ Some j) → lookup image q ≡ Some j
        go true at rest = ap (lookup image) (same_path-is q (path_by e are.0) at) ∙ by_finds e are.0
        go false at rest = rest (rw at at any)

    found_by : (entries : List (ℕ × ℕ)) (are : Each (IsNamed image j) entries) (q : Path) (e : ℕ × ℕ) → Has entries e →
        ((other : ℕ × ℕ) (is : IsNamed image j other) → other ≡ e → q ≡ path_by other is) → any_path q (paths_by entries are) ≡ true
    found_by [] are q e has same = absurd has
    found_by (other ∷ entries) are q e (inl here) same =
        let tie : same_path q (path_by other are.0) ≡ true = ap (same_path q) (sym (same other are.0 here)) ∙ same_path-self q in
        rw tie refl
    found_by (other ∷ entries) are q e (inr later) same = go (same_path q (path_by other are.0)) refl (found_by entries are.1 q e later same)
      where
        go : (b : Bool) → same_path q (path_by other are.0) ≡ b → any_path q (paths_by entries are.1) ≡ true → any_path q (paths_by (other ∷ entries) are) ≡ true
        go true at rest = rw at refl
        go false at rest = rw at rest

    -- and what finds the inode, which is no directory, is one of them
    finds_any : IsFile image j → (entries : List (ℕ × ℕ)) (are : Each (IsNamed image j) entries) → ((i s : ℕ) → IsNamed image j (i, s) → Has entries (i, s)) →
        (q : Path) → lookup image q ≡ Some j → any_path q (paths_by entries are) ≡ true
    finds_any kind entries are all q found = go (by_last q) found
      where
        go : {p : Path} → ByLast p → lookup image p ≡ Some j → any_path p (paths_by entries are) ≡ true
        go none at =
            let root : 1 ≡ j = cc in
            absurd (omega (arith, kind, ap (kind_of image) root, wf.root_kind))
        go (more {path = prefix} before name) at =
            let step : LastStep image wf prefix name j = last_step image wf prefix name j at in
            let has : Has entries (step.parent, step.shows.slot) = all step.parent step.shows.slot (record { reached = step.reached; names = step.shows.entry }) in
            found_by entries are (prefix ++ name ∷ []) (step.parent, step.shows.slot) has
            (λ other is here.
            let dir : other.0 ≡ step.parent = ap (λ (e : ℕ × ℕ). e.0) here in
            let slot : other.1 ≡ step.shows.slot = ap (λ (e : ℕ × ℕ). e.1) here in
            ap₂ (λ p n. p ++ n ∷ [])
            (path_once image wf prefix (above_entry other is).path step.parent step.found ((above_entry other is).found ∙ ap Some dir) step.shows.entry.directory)
            (sym step.shows.spelled ∙ ap₂ (name_at image) (sym dir) (sym slot)))

-- ---- the answer

module _ (image : Image) (j : ℕ) (kind : IsFile image j) where
  file_there : (path : Path) → lookup image path ≡ Some j → file_at image path ≡ Some j
  file_there path at = ap (option_and_then (if_file image)) at ∙ ap (λ k. if k == 1 then Some j else None) kind

  -- a path is that of the file where it finds it
  one_finds : (q : Path) → are_one (Some j) (file_at image q) ≡ true → lookup image q ≡ Some j
  one_finds q same = go (lookup image q) refl
    where
      if_is : (k : ℕ) → (b : Bool) → (kind_of image k == 1) ≡ b → are_one (Some j) (if_file image k) ≡ true → k ≡ j
      if_is k true at is = sym (eqb-true j k (rw at at is))
      if_is k false at is = absurd (true≢false (sym (rw at at is)))

      go : (o : Option ℕ) → lookup image q ≡ o → lookup image q ≡ Some j
      go None at = absurd (true≢false (sym (sym (ap (λ o. are_one (Some j) (option_and_then (if_file image) o)) at) ∙ same)))
      go (Some k) at = at ∙ ap Some (if_is k (kind_of image k == 1) refl (sym (ap (λ o. are_one (Some j) (option_and_then (if_file image) o)) at) ∙ same))

  self_one : (j == j) ≡ true
  self_one = eq-eqb j j refl

  module _ (tree : FileTree) (stands : Stands image tree) (path : Path) (at : lookup image path ≡ Some j) (count : ℕ) (names : HasNames image j count) where
    abbrev paths : List Path
    paths = paths_by image stands.now.well_formed j names.entries names.are.name

    one_is : (q : Path) → is_one tree.now.one path q ≡ are_one (Some j) (file_at image q)
    one_is q = stands.now.one path q ∙ ap (λ f. are_one f (file_at image q)) (file_there path at)

    just_those : (q : Path) → any_path q paths ≡ is_one tree.now.one path q
    just_those q = by_bools (any_path q paths) (is_one tree.now.one path q)
        (λ any. one_is q ∙ ap (are_one (Some j)) (file_there q (any_finds image stands.now.well_formed j names.entries names.are.name q any)) ∙ self_one)
        (λ one. finds_any image stands.now.well_formed j kind names.entries names.are.name names.are.all q (one_finds q (sym (one_is q) ∙ one)))

    -- the paths that are one with one of the file are as many as it has names
    pub counts_paths : path_count tree.now.one path ≡ count
    counts_paths =
        count_is tree.now.one path paths (once_by image stands.now.well_formed j names.entries names.are.name names.are.once) just_those
        ∙ as_many image stands.now.well_formed j names.entries names.are.name ∙ names.number
