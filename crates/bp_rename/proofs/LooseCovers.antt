-- Where nothing is left to thaw, the block that holds the word of the cover is not in the snapshot. It is so after a
-- preparation too, where the pointers on the way to that word stay.
use Rattle.std.proofs.Common.{◌≡◌, ℕ, zero, suc, ◌+◌, ◌-◌, ◌*◌, ◌/◌, ◌<◌, ◌≤◌, [], length, take, Bool, true, false, ◌||◌, refl, sym, ◌∙◌, ap, subst, arith, inl, slice_index}
use Rattle.bp_layout.specs.Inode.{kind_of, root_of, size_of}
use Rattle.bp_layout.specs.Members.{Has}
use Rattle.bp_layout.specs.Need.{Change, common_all, is_there_after, touched_at}
use Rattle.bp_layout.specs.Need.Change.{leaves}
use Rattle.bp_layout.specs.Reached.{IsReached}
use Rattle.bp_layout.specs.Thaw.{cover_now, heights_now, is_there_now, targets, thawed}
use Rattle.bp_layout.specs.Tree.{node}
use Rattle.bp_layout.specs.WellFormed.{IsWellFormed}
use Rattle.bp_layout.specs.WordPaths.{WordPath, tree_path}
use Rattle.bp_layout.specs.Words.{Image, block_of, height_of}
use Rattle.bp_layout.proofs.ThawLaws.{loose-on}
use Rattle.bp_changes.specs.Forest.{IsTreePointer, tree_trail}
use Rattle.bp_changes.specs.Trail.{Trail, block_on, place_on, trail_of}
use Rattle.bp_changes.proofs.ForestLaws.{word-tree}
use Rattle.bp_thaw.specs.Prefixes.{IsWayIn}
use Rattle.bp_read.proofs.ExistingPaths.{AllThere, content_path-there}
use Rattle.bp_cow.specs.Commit.{HasLooseCover, cover_word}
use Rattle.bp_cow.specs.Cover.{commit_cover, end_path}
use Rattle.bp_cow.specs.Touched.{IsTouched, all_paths}
use Rattle.bp_cow.specs.declared.touched.Touched.{Touched}
use Rattle.bp_cow.proofs.CopiesNeed.{alike-all}
use Rattle.bp_cow.proofs.CoverOf.{cover_address, cover_has}
use Rattle.bp_cow.proofs.LooseCover.{loose_cover}
use Rattle.bp_calls.proofs.TargetPaths.{content_way, cover_way}
use Rattle.bp_rename.proofs.WholePaths.{all-each, cover-whole, each-all}

-- ---- the cover, before anything is done

or_none : (b : Bool) → ((b || false) || false) ≡ true → b ≡ true
or_none true e = refl
or_none false e = e

-- the path of a content word of a directory is there
pub there_now : (image : Image) → IsWellFormed image → (t k : ℕ) → IsReached image t → kind_of image t ≡ 2 → 8 * k < size_of image t →
    AllThere (is_there_now image) [] (tree_path (height_of (root_of image 0)) t (suc (height_of (root_of image t))) k)
there_now image wf t k reached directory below =
    each-all (is_there_now image) [] (tree_path (height_of (root_of image 0)) t (suc (height_of (root_of image t))) k)
    (λ d low.
    or_none (is_there_now image (take d (tree_path (height_of (root_of image 0)) t (suc (height_of (root_of image t))) k)))
    (all-each (is_there_after image (leaves t 0)) [] (tree_path (height_of (root_of image 0)) t (suc (height_of (root_of image t))) k)
    (content_path-there image (leaves t 0) wf refl t k reached refl (wf.full_directories t reached directory) below) d low))

-- Where a change touches such a word, its cover is all with which the touched paths begin, and a way.
module _ (image : Image) (wf : IsWellFormed image) (change : Change) (t k : ℕ) (reached : IsReached image t) (directory : kind_of image t ≡ 2) (below : 8 * k < size_of image t)
    (among : Has (touched_at (heights_now image) image change) (tree_path (height_of (root_of image 0)) t (suc (height_of (root_of image t))) k)) where
  pub now_whole : cover_now image change ≡ common_all (touched_at (heights_now image) image change)
  now_whole =
      cover-whole (is_there_now image) (touched_at (heights_now image) image change) (tree_path (height_of (root_of image 0)) t (suc (height_of (root_of image t))) k) among
      (there_now image wf t k reached directory below)

  pub now_way : IsWayIn image (cover_now image change)
  now_way =
      cover_way image wf (touched_at (heights_now image) image change) (tree_path (height_of (root_of image 0)) t (suc (height_of (root_of image t))) k) among
      (content_way image wf t k reached below)

-- ---- what is touched, by one of its paths, on which each pointer is live

module _ (image : Image) (wf : IsWellFormed image) (touched : Touched) (shape : IsTouched touched) (path : WordPath) (in_paths : Has (all_paths touched) path)
    (live : (d : ℕ) → d < length path → IsTreePointer image (size_of image) (trail_of path d)) where
  pub cover_loose : (in_snapshot : ℕ → Bool) (change : Change) → commit_cover image touched ≡ cover_now image change → thawed image in_snapshot change ≡ [] → HasLooseCover image in_snapshot touched
  cover_loose in_snapshot change covers clear =
      loose_cover in_snapshot image wf touched shape path in_paths live
      (loose-on image in_snapshot (targets image change) clear (commit_cover image touched) (inl (sym covers)) (length (commit_cover image touched) - 1))

-- ---- in an image with other words

-- the pointers of a tree lead where they led
pub block_stays : (old mid : Image) (bound : ℕ → ℕ) (p : Trail) (one : IsTreePointer old bound p) → height_of (root_of mid 0) ≡ height_of (root_of old 0) →
    node mid (root_of mid one.tree) one.depth one.index ≡ node old (root_of old one.tree) one.depth one.index → block_on mid p ≡ block_on old p
block_stays old mid bound p one top same =
    ap (block_on mid) (sym one.named ∙ ap (λ h. tree_trail h one.tree one.depth one.index) (sym top))
    ∙ ap block_of (word-tree mid one.tree one.depth one.index)
    ∙ same
    ∙ sym (ap block_of (word-tree old one.tree one.depth one.index))
    ∙ ap (block_on old) one.named

module _ (old mid : Image) (touched : Touched) (shape : IsTouched touched) (path : WordPath) (in_paths : Has (all_paths touched) path)
    (same : (d : ℕ) → d < length path → block_on mid (trail_of path d) ≡ block_on old (trail_of path d)) (covers : commit_cover mid touched ≡ commit_cover old touched) where
  places : (n : ℕ) → length (commit_cover old touched) ≡ n → place_on old (trail_of (end_path touched 0) n) ≡ place_on mid (trail_of (end_path touched 0) n)
  places zero e = refl
  places (suc d) e =
      let alike = alike-all touched shape (suc d) (rw e at (cover_has touched shape old).alike) path in_paths in
      let begins : trail_of path d ≡ trail_of (end_path touched 0) d = cc in
      let stays : block_on old (trail_of (end_path touched 0) d) ≡ block_on mid (trail_of (end_path touched 0) d) =
      ap (block_on old) (sym begins) ∙ sym (same d (omega (arith, alike.0))) ∙ ap (block_on mid) begins in
      ap (λ b. 512 * b + slice_index (end_path touched 0) d) stays

  pub still_loose : (in_snapshot : ℕ → Bool) → HasLooseCover old in_snapshot touched → HasLooseCover mid in_snapshot touched
  still_loose in_snapshot loose =
      let word : cover_word old touched ≡ cover_word mid touched =
      cover_address touched shape old ∙ places (length (commit_cover old touched)) refl
      ∙ ap (λ (p : WordPath). place_on mid (trail_of (end_path touched 0) (length p))) (sym covers) ∙ sym (cover_address touched shape mid) in
      subst (λ w. 512 ≤ w → in_snapshot (w / 512) ≡ false) word loose
