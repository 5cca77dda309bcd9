-- A store of an inode number in place: into an empty entry, or of 0 over one.
use Rattle.std.proofs.Common.{◌≡◌, ◌≢◌, ℕ, ◌+◌, ◌*◌, ◌/◌, ◌%◌, ◌<◌, ◌≤◌, refl, set, sym, ap, subst, subst₂, arith}
use Rattle.std.proofs.lemmas.List.{length-set}
use Rattle.bp_limits.specs.Limits.{greatest_height}
use Rattle.bp_layout.specs.Formatted.{version_of}
use Rattle.bp_layout.specs.Words.{Image, byte_of, height_of}
use Rattle.bp_layout.specs.Tree.{HasBlock, IsSound, IsFull}
use Rattle.bp_layout.specs.Inode.{kind_of, root_of, size_of, inode_count, ContentStandsAt}
use Rattle.bp_layout.specs.Directory.{entry_count}
use Rattle.bp_layout.specs.Reached.{IsReached}
use Rattle.bp_layout.specs.Reached.IsReached.{inode_file}
use Rattle.bp_layout.specs.WellFormed.{IsWellFormed}
use Rattle.bp_layout.proofs.TreeLaws.{KeepsPointers, sound-kept, full-kept, has_block-kept, has_block-stays}
use Rattle.bp_layout.proofs.Reached.{reached-in_file}
use Rattle.bp_changes.proofs.ContentStore.{pointers_stay, content_elsewhere, content_here, superblock_stays, attributes_stay, kind_stays, root_stays, size_stays}
use Rattle.bp_changes.specs.Effects.{SetsIno, KeepsBlocks, CanUnlink, RemovesEntry}
use Rattle.bp_changes.proofs.Link.{AwaitsIno}
use Rattle.bp_changes.proofs.Formatted.{low_stays}

module _ (old : Image) (wf : IsWellFormed old) (i s value place : ℕ) (reached_here : IsReached old i) (directory : kind_of old i ≡ 2) (in_size : s < entry_count old i)
    (stands : ContentStandsAt old i (32 * s + 0) place) where
  not_inode_file : i ≢ 0
  not_inode_file e = let two : kind_of old 0 ≡ 2 = (rw e at directory) in absurd (omega (arith, two))

  below : 8 * (32 * s + 0) < size_of old i
  below = omega (arith, in_size)

  in_inodes : (t : ℕ) → IsReached old t → t < inode_count old
  in_inodes = reached-in_file old wf

  roots_stay : (t : ℕ) → t < inode_count old → root_of (set old place value) t ≡ root_of old t
  roots_stay = root_stays old wf i (32 * s + 0) place value reached_here not_inode_file below stands

  sizes_stay : (t : ℕ) → t < inode_count old → size_of (set old place value) t ≡ size_of old t
  sizes_stay = size_stays old wf i (32 * s + 0) place value reached_here not_inode_file below stands

  keeps : (t : ℕ) → IsReached old t → KeepsPointers old (set old place value) (root_of old t) (size_of old t)
  keeps = pointers_stay old wf i (32 * s + 0) place value reached_here not_inode_file below stands

  to_new : (P : ℕ → ℕ → Type 0) (t : ℕ) → IsReached old t → P (root_of old t) (size_of old t) → P (root_of (set old place value) t) (size_of (set old place value) t)
  to_new P t reached h = subst₂ P (sym (roots_stay t (in_inodes t reached))) (sym (sizes_stay t (in_inodes t reached))) h

  to_old : (t b : ℕ) → IsReached old t → HasBlock (set old place value) (root_of (set old place value) t) (size_of (set old place value) t) b → HasBlock old (root_of old t) (size_of old t) b
  to_old t b reached has =
      has_block-kept old (set old place value) (root_of old t) (size_of old t) (keeps t reached) b
      (subst₂ (λ r z. HasBlock (set old place value) r z b) (roots_stay t (in_inodes t reached)) (sizes_stay t (in_inodes t reached)) has)

  pub store_sets : SetsIno old (set old place value) i s value
  store_sets = record {
    trees = record {
      whole = length-set old place value;
      has_magic = superblock_stays old wf i (32 * s + 0) place value reached_here not_inode_file below stands 0 (omega arith);
      counted = superblock_stays old wf i (32 * s + 0) place value reached_here not_inode_file below stands 1 (omega arith);
      low = λ t r. to_new (λ root z. 0 < z → height_of root ≤ greatest_height (version_of (set old place value))) t r
          (low_stays old (set old place value) (superblock_stays old wf i (32 * s + 0) place value reached_here not_inode_file below stands 0 (omega arith)) (root_of old t) (root_of old t) (size_of old t) (λ _. refl) (wf.low t r));
      sound = λ t r. to_new (IsSound (set old place value)) t r (sound-kept old (set old place value) (root_of old t) (size_of old t) (keeps t r) (length-set old place value) (wf.sound t r));
      apart = λ t u b r q one two. wf.apart t u b r q (to_old t b r one) (to_old u b q two);
      full_inode_file = to_new (IsFull (set old place value)) 0 inode_file (full-kept old (set old place value) (root_of old 0) (size_of old 0) (keeps 0 inode_file) wf.full_inode_file);
      full_directories = λ u r kind. to_new (IsFull (set old place value)) u r (full-kept old (set old place value) (root_of old u) (size_of old u) (keeps u r) (wf.full_directories u r kind));
    };
    kind = kind_stays old wf i (32 * s + 0) place value reached_here not_inode_file below stands;
    attributes = attributes_stay old wf i (32 * s + 0) place value reached_here not_inode_file below stands;
    size = sizes_stay;
    ino = content_here old wf i (32 * s + 0) place value reached_here not_inode_file below stands (roots_stay i (in_inodes i reached_here));
    entry = λ u r f reached kind low few other.
        content_elsewhere old wf i (32 * s + 0) place value reached_here not_inode_file below stands u (32 * r + f) reached (roots_stay u (in_inodes u reached)) (omega (arith, low, few)) other;
    bytes = λ u o reached kind low.
        ap (λ w. byte_of w (o % 8))
        (content_elsewhere old wf i (32 * s + 0) place value reached_here not_inode_file below stands u (o / 8) reached (roots_stay u (in_inodes u reached)) (omega (arith, low))
        (λ e same. let two : kind_of old u ≡ 2 = subst (λ x. kind_of old x ≡ 2) e directory in absurd (omega (arith, kind, two))));
  }

  pub store_blocks : KeepsBlocks old (set old place value)
  store_blocks = record {
    back = to_old;
    stay = λ t b reached has. to_new (λ r z. HasBlock (set old place value) r z b) t reached (has_block-stays old (set old place value) (root_of old t) (size_of old t) (keeps t reached) b has);
  }

pub store_adds : (old : Image) → IsWellFormed old → (i s j place : ℕ) → AwaitsIno old i s → ContentStandsAt old i (32 * s + 0) place → SetsIno old (set old place j) i s j
store_adds old wf i s j place can stands = store_sets old wf i s j place can.reached can.directory can.in_size stands

pub store_removes : (old : Image) → IsWellFormed old → (i s j place : ℕ) → CanUnlink old i s j → ContentStandsAt old i (32 * s + 0) place → RemovesEntry old (set old place 0) i s
store_removes old wf i s j place can stands = store_sets old wf i s 0 place can.reached can.entry.directory can.entry.in_size stands
