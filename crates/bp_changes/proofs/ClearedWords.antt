-- In an image of a version without attributes, the words that are attributes in version 3 may be any.
use Rattle.std.proofs.Common.{◌≡◌, ℕ, suc, ◌+◌, ◌*◌, ◌/◌, ◌<◌, ◌≤◌, false, ◌&&◌, nat_lt, sym, ◌∙◌, ap, subst, arith}
use Rattle.bp_limits.specs.CallLimits.{allows_attributes, allows_snapshot}
use Rattle.bp_limits.specs.Limits.{attribute_field, attributes, inode_fields, inode_words, super_snapshot_size, version_at}
use Rattle.bp_layout.specs.Formatted.{version_of}
use Rattle.bp_layout.specs.Words.{Image, height_of, word}
use Rattle.bp_layout.specs.Tree.{IsLiveWord}
use Rattle.bp_layout.specs.Inode.{ContentStandsAt, StandsAt, inode_count, kind_of, root_of, size_of}
use Rattle.bp_layout.specs.Reached.{IsReached}
use Rattle.bp_layout.specs.Reached.IsReached.{inode_file}
use Rattle.bp_layout.specs.Trees.{has_snapshot}
use Rattle.bp_layout.specs.WellFormed.{IsWellFormed}
use Rattle.bp_layout.specs.Whole.{SameFiles}
use Rattle.bp_layout.proofs.AttributeLaws.{few_fields}
use Rattle.bp_layout.proofs.Reached.{reached-in_file}
use Rattle.bp_layout.proofs.TreeLaws.{live_content, live_pointer_word}
use Rattle.bp_changes.specs.Harmless.{Agrees, IsHarmless}
use Rattle.bp_changes.proofs.Frame.{same-by_agreement}
use Rattle.bp_changes.proofs.Separation.{SameWord, one_place}

-- the word of attribute k of inode i stands there
module _ (image : Image) (wf : IsWellFormed image) (none : allows_attributes (version_of image) ≡ false) (i k place : ℕ) (low : i < inode_count image) (few : k < attributes)
    (stands : ContentStandsAt image 0 (inode_words * i + (attribute_field + k)) place) where
  -- no other live word stands there
  only : (u e l : ℕ) → IsReached image u → IsLiveWord (root_of image u) (size_of image u) (suc e) l → StandsAt image u e l place
      → SameWord 0 (height_of (root_of image 0)) (8 * i + (3 + k)) u e l
  only u e l reached live stand =
      one_place image wf 0 (height_of (root_of image 0)) (8 * i + (3 + k)) u e l place inode_file reached
      (live_content (root_of image 0) (size_of image 0) (8 * i + (3 + k)) (omega (arith, low, few))) live stands stand

  -- a file and a directory are not the inode file
  not_inode_file : (u m : ℕ) → kind_of image u ≡ suc m → 0 ≡ u → ⊥
  not_inode_file u m kind e = let some : kind_of image 0 ≡ suc m = subst (λ x. kind_of image x ≡ suc m) (sym e) kind in omega (arith, some)

  -- a word of an inode's attributes may be any before version 3
  pub spare_attribute : (value : ℕ) → IsHarmless image place value
  spare_attribute value = record {
    superblock = λ top. absurd (stands.present (omega (arith, top, stands.at)));
    pointers = λ t d l reached live stand.
        let same = only t d l reached (live_pointer_word _ _ (suc d) l live) stand in
        let root : height_of (root_of image 0) ≡ height_of (root_of image t) = ap (λ (x : ℕ). height_of (root_of image x)) same.tree in
        absurd (omega (arith, live.height, same.depth, root));
    inodes = λ j f reached small read stand. absurd (no_field j f reached small stand);
    inos = λ u s reached kind in_size stand.
        absurd (not_inode_file u 1 kind (only u _ (32 * s + 0) reached (live_content _ _ (32 * s + 0) (omega (arith, in_size))) stand).tree);
    names = λ u s j f reached names small stand.
        absurd (not_inode_file u 1 names.directory (only u _ (32 * s + f) reached (live_content _ _ (32 * s + f) (omega (arith, names.in_size, small))) stand).tree);
    bytes = λ u o reached kind below stand.
        absurd (not_inode_file u 0 kind (only u _ (o / 8) reached (live_content _ _ (o / 8) (omega (arith, below))) stand).tree);
  }
    where
      no_field : (j f : ℕ) → IsReached image (suc j) → f < inode_fields (version_of image) → ContentStandsAt image 0 (8 * suc j + f) place → ⊥
      no_field j f reached small stand =
          let less : inode_fields (version_of image) ≤ 3 = few_fields (version_of image) none in
          let in_file : suc j < inode_count image = reached-in_file image wf (suc j) reached in
          let same = only 0 (height_of (root_of image 0)) (8 * suc j + f) inode_file (live_content _ _ (8 * suc j + f) (omega (arith, in_file, small, less))) stand in
          omega (arith, small, less, same.index)

-- a snapshot is there or not by two words of the superblock
pub snapshot_by_words : (old new : Image) → word new 0 ≡ word old 0 → word new super_snapshot_size ≡ word old super_snapshot_size → has_snapshot new ≡ has_snapshot old
snapshot_by_words old new mark size = λ n. allows_snapshot (version_at (mark n)) && nat_lt 0 (size n)

-- an image without a snapshot has the same files as one in which each word is harmless, if none is there either
pub same_files-by_agreement : (old new : Image) → IsWellFormed old → Agrees old new → has_snapshot old ≡ false → has_snapshot new ≡ false → SameFiles old new
same_files-by_agreement old new wf agrees none still = record {
  first = same-by_agreement old new wf agrees;
  second = record { there = still ∙ sym none; same = λ there. absurd (cc) };
}
