-- A name is spelled again: what is touched, and what that needs.
use Rattle.std.proofs.Common.{◌≡◌, ℕ, zero, suc, ◌+◌, ◌-◌, ◌*◌, ◌/◌, ◌<◌, ◌≤◌, List, [], ◌∷◌, ◌++◌, length, map, Bool, None, refl, sym, ◌∙◌, ap, ap₂, subst, arith, inl}
use Rattle.std.specs.List.{range_with_len}
use Rattle.std.proofs.lemmas.List.{append-nil}
use Rattle.bp_layout.specs.Directory.{EntryNames, slot_named}
use Rattle.bp_layout.specs.Paths.{IsName, Name}
use Rattle.bp_layout.specs.Inode.{root_of, size_of}
use Rattle.bp_layout.specs.Members.{Has}
use Rattle.bp_layout.specs.Need.{Change, common_all, copied, cover, entry_path, is_there_after, need}
use Rattle.bp_layout.specs.Need.Change.{respells}
use Rattle.bp_layout.specs.Need as layout
use Rattle.bp_layout.specs.Reached.{IsReached}
use Rattle.bp_layout.specs.Thaw.{cover_now, targets, thawed}
use Rattle.bp_layout.specs.WellFormed.{IsWellFormed}
use Rattle.bp_layout.proofs.ThawLaws.{loose-on}
use Rattle.bp_layout.specs.WordPaths.{WordPath, digits, inode_path, is_pointed, tree_path}
use Rattle.bp_layout.specs.Words.{Image, height_of}
use Rattle.bp_read.proofs.ExistingPaths.{AllThere, content_path-there}
use Rattle.bp_cow.specs.Commit.{HasLooseCover}
use Rattle.bp_cow.specs.Cover.{LeadsInside, commit_cover, copied_count, copied_paths}
use Rattle.bp_cow.specs.Touched.{IsTouched, NoneBegins, all_paths, leaves_of, run_end, run_leaves, paths_of_run, run_path, run_paths, word_paths}
use Rattle.bp_cow.specs.declared.touched.Touched.{Touched}
use Rattle.bp_calls.proofs.RunCommits.{IsRunOf, few_leaves, run_loose}
use Rattle.bp_rename.specs.CanRename.{CanRename, moved_inode}
use Rattle.bp_rename.specs.Respelled.{TouchesName}
use Rattle.bp_rename.specs.declared.moves.Move.{Move}
use Rattle.bp_rename.proofs.FewWays.{few_ways}
use Rattle.bp_rename.proofs.LooseCovers.{now_whole}
use Rattle.bp_rename.proofs.NameRun.{run_apart, run_inside, run_shape}
use Rattle.bp_rename.proofs.WholePaths.{cover-whole, pointed-directory}

-- Entry s of directory i names inode j, and no entry there has the new name.
pub record CanRespell (image : Image) (i s j : ℕ) (name : Name) : Type 0 where
  pub well_formed : IsWellFormed image
  pub reached : IsReached image i
  pub names : EntryNames image i s j
  pub form : IsName name
  pub missing : slot_named image i name ≡ None

-- two lists of paths by numbers that are apart by as many
map-shift : (f g : ℕ → WordPath) (a b count : ℕ) → ((k : ℕ) → f (a + k) ≡ g k) → map f (range_with_len (a + b) count) ≡ map g (range_with_len b count)
map-shift f g a b zero same = refl
map-shift f g a b (suc count) same =
    let next : a + b + 1 ≡ a + (b + 1) = omega arith in
    ap₂ (λ (p : WordPath) (ps : List WordPath). p ∷ ps) (same b) (ap (λ c. map f (range_with_len c count)) next ∙ map-shift f g a (b + 1) count same)

module _ (image : Image) (n s j : ℕ) (name : Name) (can : CanRespell image (suc n) s j name) (touched : Touched) (is : TouchesName image (suc n) s name touched) where
  abbrev change : Change
  change = respells (suc n) s (length name)

  pub few_words : (length name + 7) / 8 ≤ 30
  few_words = omega (arith, can.form.short)

  pub name_end : run_end is.run ≡ 256 * s + 16 + 8 * ((length name + 7) / 8)
  name_end = omega (arith, is.is.from, is.is.count)

  pub name_run : IsRunOf image (suc n) is.run
  name_run = record {
    root = is.is.root;
    height = is.is.height;
    some = omega (arith, is.is.count);
    few = omega (arith, is.is.count, few_words);
    below = omega (arith, name_end, few_words, can.names.in_size);
    counts = omega (arith, is.is.size);
  }

  pub no_words : length touched.words.now ≡ 0
  no_words = ap (λ ws. length ws) is.no_words

  pub within_shape : IsTouched touched
  within_shape = run_shape image can.well_formed n can.reached touched is.run is.one no_words is.no_trees name_run

  pub within_inside : LeadsInside image touched
  within_inside = run_inside image can.well_formed n can.reached touched is.run is.one no_words is.no_trees name_run

  pub within_apart : NoneBegins (all_paths touched)
  within_apart = run_apart image can.well_formed n can.reached touched is.run is.one no_words is.no_trees name_run

  -- ---- the paths

  same_path : (k : ℕ) → run_path is.run (32 * s + k) ≡ entry_path image (respells (suc n) s (length name)) (suc n) s k
  same_path k =
      ap (λ (p : WordPath). p ++ digits (suc is.run.height) (32 * s + k)) is.is.root ∙ ap (λ h. inode_path (height_of (root_of image 0)) (suc n) 1 ++ digits (suc h) (32 * s + k)) is.is.height

  same_paths : all_paths touched ≡ layout.touched image (respells (suc n) s (length name))
  same_paths =
      let first : is.run.offset / 8 ≡ 32 * s + 1 = omega (arith, is.is.from) in
      let count : suc ((run_end is.run - 1) / 8 - is.run.offset / 8) ≡ suc ((length name + 7) / 8) = omega (arith, name_end, first) in
      ap (λ r. run_paths r ++ word_paths touched) is.one
      ∙ ap (λ (words : List WordPath). run_paths (is.run ∷ []) ++ words) nothing
      ∙ append-nil (run_paths (is.run ∷ []))
      ∙ append-nil (paths_of_run is.run)
      ∙ ap₂ (λ from many. map (run_path is.run) (range_with_len from many)) first count
      ∙ map-shift (run_path is.run) (entry_path image (respells (suc n) s (length name)) (suc n) s) (32 * s) 1 (suc ((length name + 7) / 8)) same_path
    where
      nothing : word_paths touched ≡ []
      nothing = rw is.no_words refl

  low : 8 * (32 * s + 1) < size_of image (suc n)
  low = omega (arith, can.names.in_size)

  first_there : AllThere (is_there_after image (respells (suc n) s (length name))) [] (tree_path (height_of (root_of image 0)) (suc n) (suc (height_of (root_of image (suc n)))) (32 * s + 1))
  first_there =
      content_path-there image (respells (suc n) s (length name)) can.well_formed refl (suc n) (32 * s + 1) can.reached refl
      (can.well_formed.full_directories (suc n) can.reached can.names.directory) low

  first_in : Has (layout.touched image (respells (suc n) s (length name))) (tree_path (height_of (root_of image 0)) (suc n) (suc (height_of (root_of image (suc n)))) (32 * s + 1))
  first_in = inl refl

  pub within_cover : commit_cover image touched ≡ cover image (respells (suc n) s (length name))
  within_cover =
      cover-whole (is_pointed image) (all_paths touched) (tree_path (height_of (root_of image 0)) (suc n) (suc (height_of (root_of image (suc n)))) (32 * s + 1))
      (rw same_paths first_in)
      (pointed-directory image can.well_formed (suc n) (32 * s + 1) can.reached can.names.directory low)
      ∙ ap common_all same_paths
      ∙ sym (cover-whole (is_there_after image (respells (suc n) s (length name))) (layout.touched image (respells (suc n) s (length name)))
      (tree_path (height_of (root_of image 0)) (suc n) (suc (height_of (root_of image (suc n)))) (32 * s + 1)) first_in first_there)

  pub within_need : copied_count image touched ≡ need image (respells (suc n) s (length name))
  within_need =
      let paths : copied_paths image touched ≡ copied image (respells (suc n) s (length name)) =
      ap (λ (path : WordPath). layout.prefixes_of (length path) [] (all_paths touched)) within_cover
      ∙ ap (λ (paths : List WordPath). layout.prefixes_of (length (cover image (respells (suc n) s (length name)))) [] paths) same_paths in
      ap (λ (ps : List WordPath). length ps) paths ∙ omega arith

  pub within_few : copied_count image touched ≤ 2828
  within_few =
      let few = few_ways image touched within_shape within_apart in
      let leaves : leaves_of touched.runs.now ≡ run_leaves is.run = ap leaves_of is.one ∙ omega arith in
      omega (arith, few, leaves, no_words, few_leaves is.run (omega (arith, is.is.count, few_words)))

  -- the cover is that of the change now
  pub within_now : commit_cover image touched ≡ cover_now image (respells (suc n) s (length name))
  within_now =
      cover-whole (is_pointed image) (all_paths touched) (tree_path (height_of (root_of image 0)) (suc n) (suc (height_of (root_of image (suc n)))) (32 * s + 1))
      (rw same_paths first_in)
      (pointed-directory image can.well_formed (suc n) (32 * s + 1) can.reached can.names.directory low)
      ∙ ap common_all same_paths
      ∙ sym (now_whole image can.well_formed (respells (suc n) s (length name)) (suc n) (32 * s + 1) can.reached can.names.directory low (inl refl))

  -- so it may be stored to where nothing is left to thaw
  pub within_loose : (in_snapshot : ℕ → Bool) → thawed image in_snapshot (respells (suc n) s (length name)) ≡ [] → HasLooseCover image in_snapshot touched
  within_loose in_snapshot clear =
      run_loose image can.well_formed n can.reached is.run name_run in_snapshot touched within_shape (subst (λ runs. Has runs is.run) (sym is.one) (inl refl))
      (loose-on image in_snapshot (targets image (respells (suc n) s (length name))) clear (commit_cover image touched) (inl (sym within_now)) (length (commit_cover image touched) - 1))

-- ---- stated of any directory

module _ (image : Image) (s j : ℕ) (name : Name) (touched : Touched) where
  pub within_shape_at : (i : ℕ) → CanRespell image i s j name → TouchesName image i s name touched → IsTouched touched
  within_shape_at zero can is = absurd (omega (arith, can.names.directory))
  within_shape_at (suc n) can is = within_shape image n s j name can touched is

  pub within_inside_at : (i : ℕ) → CanRespell image i s j name → TouchesName image i s name touched → LeadsInside image touched
  within_inside_at zero can is = absurd (omega (arith, can.names.directory))
  within_inside_at (suc n) can is = within_inside image n s j name can touched is

  pub within_apart_at : (i : ℕ) → CanRespell image i s j name → TouchesName image i s name touched → NoneBegins (all_paths touched)
  within_apart_at zero can is = absurd (omega (arith, can.names.directory))
  within_apart_at (suc n) can is = within_apart image n s j name can touched is

  pub within_need_at : (i : ℕ) → CanRespell image i s j name → TouchesName image i s name touched → copied_count image touched ≡ need image (respells i s (length name))
  within_need_at zero can is = absurd (omega (arith, can.names.directory))
  within_need_at (suc n) can is = within_need image n s j name can touched is

  pub within_few_at : (i : ℕ) → CanRespell image i s j name → TouchesName image i s name touched → copied_count image touched ≤ 2828
  within_few_at zero can is = absurd (omega (arith, can.names.directory))
  within_few_at (suc n) can is = within_few image n s j name can touched is

  pub within_now_at : (i : ℕ) → CanRespell image i s j name → TouchesName image i s name touched → commit_cover image touched ≡ cover_now image (respells i s (length name))
  within_now_at zero can is = absurd (omega (arith, can.names.directory))
  within_now_at (suc n) can is = within_now image n s j name can touched is

  pub within_loose_at : (i : ℕ) → CanRespell image i s j name → TouchesName image i s name touched → (in_snapshot : ℕ → Bool) → thawed image in_snapshot (respells i s (length name)) ≡ [] → HasLooseCover image in_snapshot touched
  within_loose_at zero can is in_snapshot clear = absurd (omega (arith, can.names.directory))
  within_loose_at (suc n) can is in_snapshot clear = within_loose image n s j name can touched is in_snapshot clear

-- ---- of a move

pub respells_can : (image : Image) (move : Move) → CanRename image move → move.to_slot ≡ None → move.from_dir ≡ move.to_dir →
    CanRespell image move.from_dir move.from_slot (moved_inode image move) move.name.now
respells_can image move can new here = record {
  well_formed = can.well_formed;
  reached = can.source;
  names = can.entry;
  form = can.name;
  missing = rw here (can.slot ∙ new);
}
