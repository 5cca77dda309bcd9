-- Calls that take a name out of its directory: why they are refused, and what they make of the plain tree.
use Rattle.std.proofs.Common.{◌≡◌, ◌≢◌, ℕ, ◌==◌, List, [], ◌∷◌, ◌++◌, refl, sym, ◌∙◌, ap, ap₂, subst, Option, None, Some, arith}
use Rattle.std.specs.Prelude.{not, unwrap_or}
use Rattle.std.proofs.lemmas.Bool.{eq-eqb, ne_eqb}
use Rattle.bp_calls.specs.OnTrees.{LosesName}
use Rattle.bp_calls.specs.Removed.{IsFoundAt}
use Rattle.bp_calls.proofs.MayLeave.{found_ino, found_spelled, file_may_leave, directory_may_leave}
use Rattle.bp_calls.proofs.ReadingLaws.{length-seen}
use Rattle.bp_changes.specs.Effects.{CanUnlink}
use Rattle.bp_read.specs.Names.{name_count}
use Rattle.bp_layout.specs.Directory.{ino_at, name_at, slot_named}
use Rattle.bp_layout.specs.Inode.{kind_of, root_of, size_of}
use Rattle.bp_layout.specs.Lookup.{lookup}
use Rattle.bp_layout.specs.Paths.{Path, parse}
use Rattle.bp_layout.specs.Need.{Change, need}
use Rattle.bp_layout.specs.Need.Change.{leaves}
use Rattle.bp_layout.specs.WellFormed.{IsWellFormed}
use Rattle.bp_layout.specs.Words.{Image}
use Rattle.bp_plain.specs.Calls.{Refusal}
use Rattle.bp_plain.specs.Calls.Call.{unlink, rmdir}
use Rattle.bp_plain.specs.Calls.Refusal.{is_dir, is_root, not_dir, not_empty}
use Rattle.bp_plain.specs.Plain.{walk, on_path, on_parsed, first, when, is_dir_at, is_empty_dir, is_root_path, parent_of, path_named, refusal, with_nothing}
use Rattle.bp_plain.specs.PlainTree.{FileTree}
use Rattle.bp_plain.specs.Stands.{Shows, Stands}
use Rattle.bp_fs.specs.Step.{FindsEntry, IsChange, StandsIn, last_of}
use Rattle.bp_fs.specs.Step.IsChange.{by_unlink, by_rmdir}
use Rattle.bp_volume.specs.Queries.{Refuses, StopsAtEntry, refusal_of_entry}
use Rattle.bp_volume.proofs.ChangeLaws.{MakesChange}
use Rattle.bp_volume.proofs.CreateLaws.{by_parent, not_root}
use Rattle.bp_volume.proofs.FewBlocks.{IsFew, few_left}
use Rattle.bp_volume.proofs.EntryLaws.{length-entries}
use Rattle.bp_volume.proofs.WalkLaws.{dir_at, walk-found}

-- ---- refusals before an entry is found

-- the first two of some refusals, where others stand beside the second
first_beside : (one two : Option Refusal) (beside rest : List (Option Refusal)) (why : Refusal) → first (one ∷ two ∷ []) ≡ Some why → first (one ∷ first (two ∷ beside) ∷ rest) ≡ Some why
first_beside (Some other) two beside rest why e = e
first_beside None (Some other) beside rest why e = e
first_beside None None beside rest why e = absurd (cc)

-- what stops at the entry refuses the call, whatever comes after
entry_first : (image : Image) (text : List ℕ) (root why : Refusal) (beside others : FileTree → Path → List (Option Refusal)) → StopsAtEntry image text root why → (tree : FileTree) → Stands image tree →
    on_path text (λ p. first (when (is_root_path p) root ∷ first (walk tree.now.nodes p ∷ beside tree p) ∷ others tree p)) ≡ Some why
entry_first image text root why beside others stops tree stands = go (parse text) (stops tree stands)
  where
    go : (o : Option Path) → on_parsed o (refusal_of_entry root tree) ≡ Some why → on_parsed o (λ p. first (when (is_root_path p) root ∷ first (walk tree.now.nodes p ∷ beside tree p) ∷ others tree p)) ≡ Some why
    go None e = e
    go (Some path) e = first_beside (when (is_root_path path) root) (walk tree.now.nodes path) (beside tree path) (others tree path) why e

module _ (image : Image) (text : List ℕ) (why : Refusal) where
  pub unlink_stops : StopsAtEntry image text is_dir why → Refuses image (unlink text) why
  unlink_stops stops = entry_first image text is_dir why (λ tree p. when (is_dir_at tree.now.nodes p) is_dir ∷ []) (λ tree p. []) stops

  pub rmdir_stops : StopsAtEntry image text is_root why → Refuses image (rmdir text) why
  rmdir_stops stops = entry_first image text is_root why (λ tree p. when (not (is_dir_at tree.now.nodes p)) not_dir ∷ []) (λ tree p. when (not (is_empty_dir tree.now.nodes p)) not_empty ∷ []) stops

-- ---- an entry that the path finds

module _ (image : Image) (text : List ℕ) (i s j : ℕ) (at : FindsEntry image text i s j) where
  by_last : at.path ≡ parent_of at.path ++ last_of at.path ∷ []
  by_last = by_parent at.path at.entry.below

  pub is_found : IsFoundAt image (parent_of at.path) (last_of at.path) i s j
  is_found = record { directory = at.entry.parent; slot = at.entry.slot; inode = ap (lookup image) (sym by_last) ∙ at.entry.inode }

  pub stands_in : StandsIn image text i s
  stands_in = record { path = at.path; parsed = at.parsed; parent = at.entry.parent; slot = at.entry.slot }

  -- it may leave, as the entry of the inode that it names
  leave : CanUnlink image i s j → CanUnlink image i s (ino_at image i s)
  leave can = subst (CanUnlink image i s) (sym (found_ino image (parent_of at.path) (last_of at.path) i s j is_found)) can

  pub file_leaves : kind_of image j ≡ 1 → CanUnlink image i s (ino_at image i s)
  file_leaves kind = leave (file_may_leave image (parent_of at.path) (last_of at.path) i s j is_found kind)

  pub directory_leaves : name_count image (root_of image j) (size_of image j) ≡ 0 → CanUnlink image i s (ino_at image i s)
  directory_leaves none = leave (directory_may_leave image (parent_of at.path) (last_of at.path) i s j is_found none)

  -- the text spells no other path
  pub same_entry : (k r : ℕ) → StandsIn image text k r → (k ≡ i) × (r ≡ s)
  same_entry k r other =
      let paths : ◌≡◌ {A = Option Path} (Some other.path) (Some at.path) = sym other.parsed ∙ at.parsed in
      let same : other.path ≡ at.path = cc in
      let found : ◌≡◌ {A = Option ℕ} (Some k) (Some i) = sym other.parent ∙ ap (λ p. lookup image (parent_of p)) same ∙ at.entry.parent in
      let directory : k ≡ i = cc in
      let slots : ◌≡◌ {A = Option ℕ} (Some r) (Some s) = sym other.slot ∙ ap₂ (λ d p. slot_named image d (last_of p)) directory same ∙ at.entry.slot in
      let slot : r ≡ s = cc in
      (directory, slot)

  here : parent_of at.path ++ name_at image i s ∷ [] ≡ path_named text
  here =
      ap (λ n. parent_of at.path ++ n ∷ []) (found_spelled image (parent_of at.path) (last_of at.path) i s j is_found)
      ∙ sym by_last
      ∙ sym (ap (λ (o : Option Path). unwrap_or o []) at.parsed)

  -- it needs few blocks
  pub leaves_few : IsWellFormed image → CanUnlink image i s (ino_at image i s) → IsFew (need image (leaves i s))
  leaves_few wf can = few_left image wf i s can.reached (omega (arith, can.entry.in_size))

  pub name_lost : (after : Image) → LosesName i s image after → (tree : FileTree) → Stands image tree → Shows after (with_nothing tree.now (path_named text))
  name_lost after loses tree stands = subst (λ p. Shows after (with_nothing tree.now p)) here (loses tree.now (parent_of at.path) stands.now at.entry.parent)

  module _ (tree : FileTree) (stands : Stands image tree) where
    following : (root : Refusal) (beside others : Path → List (Option Refusal)) → on_path text (λ p. first (when (is_root_path p) root ∷ first (walk tree.now.nodes p ∷ beside p) ∷ others p)) ≡ first (first (beside at.path) ∷ others at.path)
    following root beside others =
        ap (λ o. on_parsed o (λ p. first (when (is_root_path p) root ∷ first (walk tree.now.nodes p ∷ beside p) ∷ others p))) at.parsed
        ∙ ap (λ b. first (when b root ∷ first (walk tree.now.nodes at.path ∷ beside at.path) ∷ others at.path)) (not_root at.path at.entry.below)
        ∙ ap (λ o. first (first (o ∷ beside at.path) ∷ others at.path)) (walk-found image tree stands at.path j at.entry.inode)

    is_dir_there : (kind : ℕ) → kind_of image j ≡ kind → is_dir_at tree.now.nodes at.path ≡ (kind == 2)
    is_dir_there kind is = dir_at image tree stands at.path j at.entry.inode ∙ ap (λ k. k == 2) is

    unlink_left : refusal tree (unlink text) ≡ first (first (when (is_dir_at tree.now.nodes at.path) is_dir ∷ []) ∷ [])
    unlink_left = following is_dir (λ p. when (is_dir_at tree.now.nodes p) is_dir ∷ []) (λ p. [])

    rmdir_left : refusal tree (rmdir text) ≡ first (first (when (not (is_dir_at tree.now.nodes at.path)) not_dir ∷ []) ∷ when (not (is_empty_dir tree.now.nodes at.path)) not_empty ∷ [])
    rmdir_left = following is_root (λ p. when (not (is_dir_at tree.now.nodes p)) not_dir ∷ []) (λ p. when (not (is_empty_dir tree.now.nodes p)) not_empty ∷ [])

    rmdir_by : (kind : ℕ) → kind_of image j ≡ kind → refusal tree (rmdir text) ≡ first (first (when (not (kind == 2)) not_dir ∷ []) ∷ when (not (is_empty_dir tree.now.nodes at.path)) not_empty ∷ [])
    rmdir_by kind is = rmdir_left ∙ ap (λ b. first (first (when (not b) not_dir ∷ []) ∷ when (not (is_empty_dir tree.now.nodes at.path)) not_empty ∷ [])) (is_dir_there kind is)

    -- as many names as the directory counts
    rmdir_counts : kind_of image j ≡ 2 → refusal tree (rmdir text) ≡ first (when (not (name_count image (root_of image j) (size_of image j) == 0)) not_empty ∷ [])
    rmdir_counts kind =
        rmdir_by 2 kind
        ∙ ap (λ n. first (when (not (n == 0)) not_empty ∷ [])) (length-entries image tree stands at.path j at.entry.inode kind ∙ length-seen image j)

  -- a file's name

  pub unlink_directory : kind_of image j ≡ 2 → Refuses image (unlink text) is_dir
  unlink_directory kind tree stands = unlink_left tree stands ∙ ap (λ b. first (first (when b is_dir ∷ []) ∷ [])) (is_dir_there tree stands 2 kind)

  unlink_alike : (other : Change) → IsChange image (unlink text) other → other ≡ leaves i s
  unlink_alike _ (by_unlink {i = k} {s = r} stands) = ap₂ leaves (same_entry k r stands).0 (same_entry k r stands).1

  pub unlink_makes : kind_of image j ≡ 1 → MakesChange image (unlink text) (leaves i s)
  unlink_makes kind = record {
    is = by_unlink stands_in;
    alike = unlink_alike;
    allowed = λ tree stands. unlink_left tree stands ∙ ap (λ b. first (first (when b is_dir ∷ []) ∷ [])) (is_dir_there tree stands 1 kind);
    changing = λ tree stands. refl;
    says = λ tree. refl;
    stays = λ tree. refl;
  }

  -- a directory's name

  pub rmdir_file : kind_of image j ≡ 1 → Refuses image (rmdir text) not_dir
  rmdir_file kind tree stands = rmdir_by tree stands 1 kind

  pub rmdir_not_empty : kind_of image j ≡ 2 → name_count image (root_of image j) (size_of image j) ≢ 0 → Refuses image (rmdir text) not_empty
  rmdir_not_empty kind some tree stands = rmdir_counts tree stands kind ∙ ap (λ b. first (when (not b) not_empty ∷ [])) (ne_eqb (name_count image (root_of image j) (size_of image j)) 0 some)

  rmdir_alike : (other : Change) → IsChange image (rmdir text) other → other ≡ leaves i s
  rmdir_alike _ (by_rmdir {i = k} {s = r} stands) = ap₂ leaves (same_entry k r stands).0 (same_entry k r stands).1

  pub rmdir_makes : kind_of image j ≡ 2 → name_count image (root_of image j) (size_of image j) ≡ 0 → MakesChange image (rmdir text) (leaves i s)
  rmdir_makes kind none = record {
    is = by_rmdir stands_in;
    alike = rmdir_alike;
    allowed = λ tree stands. rmdir_counts tree stands kind ∙ ap (λ b. first (when (not b) not_empty ∷ [])) (eq-eqb (name_count image (root_of image j) (size_of image j)) 0 none);
    changing = λ tree stands. refl;
    says = λ tree. refl;
    stays = λ tree. refl;
  }
