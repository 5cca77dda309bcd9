-- Where the way to the cover is loose, the block that holds the word of the cover is not in the snapshot.
use Rattle.std.proofs.Common.{◌≡◌, ℕ, zero, suc, ◌+◌, ◌-◌, ◌*◌, ◌/◌, ◌<◌, ◌≤◌, List, [], ◌∷◌, ◌++◌, length, take, Bool, false, refl, sym, ◌∙◌, ap, subst, arith}
use Rattle.std.specs.List.{slice_index}
use Rattle.std.proofs.lemmas.List.{length-append, length-take, take_more}
use Rattle.std.proofs.Math.Seq.{take-length}
use Rattle.bp_layout.specs.Inode.{root_of, size_of}
use Rattle.bp_layout.specs.Members.{Has}
use Rattle.bp_layout.specs.Thaw.{IsLoose, heights_now, is_in_snapshot_at}
use Rattle.bp_layout.specs.Tree.{node}
use Rattle.bp_layout.specs.WellFormed.{IsWellFormed}
use Rattle.bp_layout.specs.WordPaths.{WordPath, digits, inode_path, tree_path}
use Rattle.bp_layout.specs.Words.{Image, block_of}
use Rattle.bp_changes.specs.Forest.{IsTreePointer, along, tree_trail}
use Rattle.bp_changes.specs.Trail.{Trail, block_on, place_on, trail_of}
use Rattle.bp_changes.proofs.ForestLaws.{word-tree}
use Rattle.bp_changes.proofs.PathTrails.{length-trail_of}
use Rattle.bp_read.proofs.Digits.{length-digits}
use Rattle.bp_read.proofs.LooseWays.{kept_node, loose-prefix}
use Rattle.bp_cow.specs.Commit.{HasLooseCover}
use Rattle.bp_cow.specs.Cover.{CoverHas, commit_cover, end_path}
use Rattle.bp_cow.specs.Touched.{IsTouched, all_paths}
use Rattle.bp_cow.specs.declared.touched.Touched.{Touched}
use Rattle.bp_cow.proofs.CopiesNeed.{alike-all}
use Rattle.bp_cow.proofs.CoverLaws.{end-slots, some-ends}
use Rattle.bp_cow.proofs.CoverOf.{cover_address, cover_prefix, cover_has}
use Rattle.bp_cow.proofs.Distinct.{same-take}
use Rattle.bp_cow.proofs.RunWrites.{digits_trail, root_path_trail}

-- the path of a pointer, by its trail
tree_path_trail : (h t d k : ℕ) → trail_of (tree_path h t d k) (length (tree_path h t d k)) ≡ tree_trail h t d k
tree_path_trail h zero d k =
    let size : length (digits d k) ≡ 0 + d = length-digits d k ∙ omega arith in
    ap (trail_of (digits d k)) size ∙ digits_trail [] d k
tree_path_trail h (suc i) d k =
    let root : List ℕ = inode_path h (suc i) 1 in
    ap (trail_of (root ++ digits d k)) (length-append root (digits d k) ∙ ap (λ n. length root + n) (length-digits d k))
    ∙ digits_trail root d k
    ∙ ap (λ (base : Trail). along base d k) (root_path_trail h i root refl)

prefix_path : (path : List ℕ) (n h t d k : ℕ) → n ≤ length path → trail_of path n ≡ tree_trail h t d k → take n path ≡ tree_path h t d k
prefix_path path n h t d k low same =
    let whole : List ℕ = tree_path h t d k in
    let trails : trail_of path n ≡ trail_of whole (length whole) = same ∙ sym (tree_path_trail h t d k) in
    let long : n ≡ length whole = sym (length-trail_of path n) ∙ ap (λ (q : Trail). length q) trails ∙ length-trail_of whole (length whole) in
    same-take path whole n low (omega (arith, long)) (trails ∙ ap (trail_of whole) (sym long)) ∙ ap (λ m. take m whole) long ∙ take-length whole

module _ (in_snapshot : ℕ → Bool) (image : Image) (wf : IsWellFormed image) (touched : Touched) (shape : IsTouched touched) (path : WordPath) (in_paths : Has (all_paths touched) path)
    (live : (d : ℕ) → d < length path → IsTreePointer image (size_of image) (trail_of path d)) where
  -- the block to which the last pointer on the way leads
  block_loose : (k : ℕ) → CoverHas image touched (suc k) → IsLoose image in_snapshot k (take (suc k) (end_path touched 0)) → in_snapshot (block_on image (trail_of (end_path touched 0) k)) ≡ false
  block_loose k covers loose =
      let first : List ℕ = end_path touched 0 in
      let long : suc k ≤ length first = covers.alike.long 0 (some-ends touched shape) in
      let alike = alike-all touched shape (suc k) covers.alike path in_paths in
      let same : trail_of path k ≡ trail_of first k = cc in
      let one : IsTreePointer image (size_of image) (trail_of path k) = live k (omega (arith, alike.0)) in
      let block : node image (root_of image one.tree) one.depth one.index ≡ block_on image (trail_of first k) =
      sym (ap block_of (word-tree image one.tree one.depth one.index)) ∙ ap (block_on image) (one.named ∙ same) in
      let prefix : take k first ≡ tree_path (heights_now image 0) one.tree one.depth one.index =
      prefix_path first k (heights_now image 0) one.tree one.depth one.index (omega (arith, long)) (sym (one.named ∙ same)) in
      let next : k + 1 ≡ suc k = omega arith in
      let more : take (suc k) first ≡ take k first ++ slice_index first k ∷ [] = ap (λ n. take n first) (sym next) ∙ take_more first k 0 long in
      ap in_snapshot (sym block)
      ∙ sym (kept_node image wf in_snapshot one.tree one.depth one.index one.reached one.live (λ null. covers.exists k (omega arith) (sym block ∙ null)))
      ∙ ap (is_in_snapshot_at image in_snapshot) (sym prefix)
      ∙ loose-prefix image in_snapshot k (take k first) (slice_index first k) [] (omega (arith, long, length-take k first)) (subst (IsLoose image in_snapshot k) more loose)

  pub loose_cover : IsLoose image in_snapshot (length (commit_cover image touched) - 1) (commit_cover image touched) → HasLooseCover image in_snapshot touched
  loose_cover loose =
      subst (λ w. 512 ≤ w → in_snapshot (w / 512) ≡ false) (sym (cover_address touched shape image))
      (go (length (commit_cover image touched)) (cover_has touched shape image)
      (subst (IsLoose image in_snapshot (length (commit_cover image touched) - 1)) (sym (cover_prefix touched shape image (length (commit_cover image touched)) (cover_has touched shape image))) loose))
    where
      go : (n : ℕ) → CoverHas image touched n → IsLoose image in_snapshot (n - 1) (take n (end_path touched 0)) → 512 ≤ place_on image (trail_of (end_path touched 0) n) → in_snapshot (place_on image (trail_of (end_path touched 0) n) / 512) ≡ false
      go zero covers way low = absurd (omega (arith, low))
      go (suc k) covers way low =
          let some : 0 < _ = some-ends touched shape in
          let slot : ℕ = slice_index (end_path touched 0) k in
          let few : slot < 512 = end-slots touched shape 0 k some (omega (arith, covers.alike.long 0 some)) in
          let block : (512 * block_on image (trail_of (end_path touched 0) k) + slot) / 512 ≡ block_on image (trail_of (end_path touched 0) k) = omega (arith, few) in
          let last : suc k - 1 ≡ k = omega arith in
          ap in_snapshot block ∙ block_loose k covers (subst (λ m. IsLoose image in_snapshot m (take (suc k) (end_path touched 0))) last way)
