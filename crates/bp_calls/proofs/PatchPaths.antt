-- The words of patches are those that the change of their stretches touches; so a commit of them has its cover and its copies.
use Rattle.std.proofs.Common.{◌≡◌, ℕ, zero, suc, ◌+◌, ◌-◌, ◌/◌, ◌<◌, ◌≤◌, List, [], ◌++◌, length, map, take, true, refl, sym, ◌∙◌, ap, ap₂, subst, arith}
use Rattle.std.specs.Prelude.{flat_map}
use Rattle.std.specs.List.{range_with_len}
use Rattle.std.proofs.lemmas.Bool.{eq-eqb, ne_eqb}
use Rattle.std.proofs.lemmas.List.{append-nil, take-take}
use Rattle.bp_layout.specs.Inode.{kind_of, root_of}
use Rattle.bp_layout.specs.Members.{Each, Has}
use Rattle.bp_layout.specs.Need.{Change, common_all, content_path_at, copied, cover, cover_of, is_there_after, need, stretch_paths, touched}
use Rattle.bp_layout.specs.Need.Change.{overwrites}
use Rattle.bp_layout.specs.Thaw.{cover_now, is_there_now}
use Rattle.bp_layout.specs.WellFormed.{IsWellFormed}
use Rattle.bp_layout.specs.WordPaths.{WordPath, digits, inode_path, is_pointed}
use Rattle.bp_layout.specs.Words.{Image, height_of}
use Rattle.bp_layout.proofs.Finding.{map-same}
use Rattle.bp_changes.specs.Overwrites.{Patch}
use Rattle.bp_cow.specs.declared.touched.Run.{Run}
use Rattle.bp_cow.specs.declared.touched.Touched.{Touched}
use Rattle.bp_cow.specs.Cover.{commit_cover, copied_count}
use Rattle.bp_cow.specs.Touched.{IsTouched, all_paths, paths_of_run, run_path, run_paths, word_paths}
use Rattle.bp_cow.proofs.CommonPaths.{Begins, all-begin}
use Rattle.bp_cow.proofs.CopiesNeed.{has-of-run}
use Rattle.bp_cow.proofs.RunThere.{word_agrees}
use Rattle.bp_cow.proofs.RunTouched.{change_copies, change_cover}
use Rattle.bp_calls.specs.Overwritten.{AreRuns, IsPatchIn, stretch_of, stretches_of}
use Rattle.bp_calls.specs.Overwritten.AreRuns.{none, empty, more}
use Rattle.bp_calls.specs.TouchedBelow.{IsRunFor}
use Rattle.bp_calls.proofs.PatchRuns.{IsInFile}
use Rattle.bp_calls.proofs.TargetPaths.{content_way, cover_way}
use Rattle.bp_thaw.specs.Prefixes.{IsWayIn}

module _ (image : Image) where
  -- the heights that the trees have
  abbrev heights : ℕ → ℕ
  heights t = height_of (root_of image t)

  tree_word : (i k : ℕ) → 1 ≤ i → content_path_at heights i k ≡ inode_path (heights 0) i 1 ++ digits (suc (heights i)) k
  tree_word zero k low = absurd (omega (arith, low))
  tree_word (suc n) k low = refl

  -- a file is no inode file
  low_inode : (i : ℕ) → kind_of image i ≡ 1 → 1 ≤ i
  low_inode zero kind = absurd (omega (arith, kind))
  low_inode (suc n) kind = omega arith

  one_path : (patch : Patch) (run : Run) → IsPatchIn image patch → IsRunFor image patch.inode patch.offset patch.bytes run → (k : ℕ) → run_path run k ≡ content_path_at heights patch.inode k
  one_path patch run is for_it k =
      ap (λ (p : WordPath). p ++ digits (suc run.height) k) for_it.root
      ∙ ap (λ h. inode_path (heights 0) patch.inode 1 ++ digits (suc h) k) for_it.height
      ∙ sym (tree_word patch.inode k (low_inode patch.inode is.is_file))

  paths_of_patch : (patch : Patch) (run : Run) → IsPatchIn image patch → 1 ≤ length patch.bytes → IsRunFor image patch.inode patch.offset patch.bytes run → paths_of_run run ≡ stretch_paths heights (stretch_of patch)
  paths_of_patch patch run is some for_it =
      let words : ℕ → ℕ → List WordPath = λ offset len. map (run_path run) (range_with_len (offset / 8) (suc ((offset + len - 1) / 8 - offset / 8))) in
      let count : length run.bytes.now ≡ length patch.bytes = ap (λ (xs : List ℕ). length xs) for_it.bytes_are in
      rw (ne_eqb (length patch.bytes) 0 (λ e. omega (arith, e, some)))
      (ap₂ words for_it.from count
      ∙ map-same (run_path run) (content_path_at heights patch.inode) (patch.offset / 8) (suc ((patch.offset + length patch.bytes - 1) / 8 - patch.offset / 8)) (λ k low high. one_path patch run is for_it k))

  paths_of_patches : (patches : List Patch) (runs : List Run) → AreRuns image patches runs → Each (IsPatchIn image) patches → run_paths runs ≡ flat_map (stretch_paths heights) (stretches_of patches)
  paths_of_patches _ _ none each = refl
  paths_of_patches _ _ (empty {patch} {patches} {runs} no_byte rest) each = rw (eq-eqb (length patch.bytes) 0 no_byte) (paths_of_patches patches runs rest each.1)
  paths_of_patches _ _ (more {patch} {patches} {run = first} {runs} some for_it rest) each =
      ap₂ (λ (xs ys : List WordPath). xs ++ ys) (paths_of_patch patch first each.0 some for_it) (paths_of_patches patches runs rest each.1)

  pub patches_touched : (patches : List Patch) (commits : Touched) → AreRuns image patches commits.runs.now → commits.words.now ≡ [] → Each (IsPatchIn image) patches → all_paths commits ≡ touched image (overwrites (stretches_of patches))
  patches_touched patches commits are no_word each =
      let words : word_paths commits ≡ [] = rw no_word refl in
      ap (λ (paths : List WordPath). run_paths commits.runs.now ++ paths) words
      ∙ append-nil (run_paths commits.runs.now)
      ∙ paths_of_patches patches commits.runs.now are each

-- ---- the cover and the copies

module _ (image : Image) (wf : IsWellFormed image) (patches : List Patch) (commits : Touched) (shape : IsTouched commits) (are : AreRuns image patches commits.runs.now) (no_word : commits.words.now ≡ []) (each : Each (IsPatchIn image) patches)
    (run : Run) (has : Has commits.runs.now run) (at : IsInFile image run) where
  abbrev change : Change
  change = overwrites (stretches_of patches)

  abbrev shared : WordPath
  shared = common_all (all_paths commits)

  -- the path of the first word of one of the runs
  abbrev word_path : WordPath
  word_path = inode_path (height_of (root_of image 0)) (suc at.inode) 1 ++ digits (suc (height_of (root_of image (suc at.inode)))) (run.offset / 8)

  begins : Begins shared (run_path run (run.offset / 8))
  begins = all-begin (all_paths commits) (run_path run (run.offset / 8)) (has-of-run commits shape run (run.offset / 8) has (omega arith) (omega (arith, at.of.some)))

  path_is : run_path run (run.offset / 8) ≡ word_path
  path_is =
      ap (λ (p : WordPath). p ++ digits (suc run.height) (run.offset / 8)) at.of.root
      ∙ ap (λ h. inode_path (height_of (root_of image 0)) (suc at.inode) 1 ++ digits (suc h) (run.offset / 8)) at.of.height

  prefix : (d : ℕ) → d ≤ length (common_all (all_paths commits)) → take d (common_all (all_paths commits)) ≡ take d word_path
  prefix d low = ap (take d) (sym begins.same) ∙ take-take d (length shared) (run_path run (run.offset / 8)) low ∙ ap (take d) path_is

  agree : (d : ℕ) → d < length (common_all (all_paths commits)) → ((e : ℕ) → e < d → is_pointed image (take e (common_all (all_paths commits))) ≡ true) →
      is_there_after image change (take d (common_all (all_paths commits))) ≡ is_pointed image (take d (common_all (all_paths commits)))
  agree d low exists =
      let long : length shared ≤ length word_path = subst (λ (p : WordPath). length shared ≤ length p) path_is begins.long in
      rw (prefix d (omega (arith, low)))
      (word_agrees image wf at.inode at.reached change refl refl (λ t. refl) (run.offset / 8) (omega (arith, at.of.below, at.of.some)) d (omega (arith, low, long))
      (λ e less. ap (is_pointed image) (sym (prefix e (omega (arith, less, low)))) ∙ exists e less))

  same_paths : all_paths commits ≡ touched image change
  same_paths = patches_touched image patches commits are no_word each

  -- the cover is a way
  pub patches_way : IsWayIn image (cover_now image change)
  patches_way =
      let word_way : IsWayIn image word_path = content_way image wf (suc at.inode) (run.offset / 8) at.reached (omega (arith, at.of.below, at.of.some)) in
      subst (λ (paths : List WordPath). IsWayIn image (cover_of (is_there_now image) paths)) same_paths
      (cover_way image wf (all_paths commits) (run_path run (run.offset / 8)) (has-of-run commits shape run (run.offset / 8) has (omega arith) (omega (arith, at.of.some)))
      (subst (IsWayIn image) (sym path_is) word_way))

  pub patches_cover : commit_cover image commits ≡ cover image change
  patches_cover = change_cover image change commits same_paths agree

  pub patches_need : copied_count image commits ≡ need image change
  patches_need =
      let all : length (copied image change) ≡ need image change = omega arith in
      ap (λ (ps : List WordPath). length ps) (change_copies image change commits same_paths agree) ∙ all
