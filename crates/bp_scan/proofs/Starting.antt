-- The start of a scan: the inode file is entered, and then the root directory.
use Rattle.std.proofs.Common.{◌≡◌, ◌≢◌, ◌⊎◌, ℕ, ◌+◌, ◌*◌, ◌/◌, ◌%◌, ◌<◌, ◌≤◌, true, false, length, replicate, refl, sym, ◌∙◌, ap, subst, arith, inl, inr}
use Rattle.std.proofs.lemmas.Bool.{cases_lt}
use Rattle.std.proofs.lemmas.List.{length-replicate}
use Rattle.bp_free.specs.Set.{Set, has, with, empty, Fills}
use Rattle.bp_free.proofs.Members.{has_with_same, has_with_other}
use Rattle.bp_free.proofs.Summary.{has_empty}
use Rattle.bp_layout.specs.Words.{Image, block_count}
use Rattle.bp_layout.specs.Tree.{IsSound, IsFull}
use Rattle.bp_layout.specs.Inode.{kind_of, root_of, size_of, inode_count}
use Rattle.bp_layout.specs.Checks.{IsFound, Fails, root_place}
use Rattle.bp_layout.specs.Checks.IsFound.{inode_file, root_directory}
use Rattle.bp_layout.specs.Checks.Fails.{inode_file_size}
use Rattle.bp_layout.specs.declared.check.Check.{Check}
use Rattle.bp_layout.specs.declared.check.Check.TheVariants.{InodeFileSize}
use Rattle.bp_walk.specs.Walk.{TakesTree, FailsTree}
use Rattle.bp_walk.proofs.TakenLaws.{clash}
use Rattle.bp_scan.specs.Scanned.{HasAllBlocks}
use Rattle.bp_scan.specs.Inodes.{EntersInode, FailsInode}
use Rattle.bp_scan.specs.Counted.{HasCounted, no_totals}
use Rattle.bp_scan.specs.Named.{CountsAmong}
use Rattle.bp_scan.specs.Progress.{IsDone, IsUnderWay}
use Rattle.bp_scan.specs.Reading.{HasWholeInodes, HasInodeFile, IsReading}
use Rattle.bp_scan.specs.Room.{HasScanMemory}
use Rattle.bp_scan.specs.declared.work.Scan.{Scan}
use Rattle.bp_scan.proofs.Counting.{first_counted}
use Rattle.bp_scan.proofs.Entering.{enter, fails_tree, nothing_seen}
use Rattle.bp_scan.proofs.Readable.{is_sound, is_full, content_followed}
use Rattle.bp_scan.proofs.ProgressLaws.{started, started_counts}
use Rattle.bp_layout.proofs.FewLeaves.{fewer_inodes}
use Rattle.bp_scan.proofs.InodePlaces.{moved}
use Rattle.bp_scan.proofs.InodeFaults.{fails_inode, inode_of}

-- ---- the inode file

pub file_entered : (image : Image) (all new : Set) (root size : ℕ) → root ≡ root_of image 0 → size ≡ size_of image 0 → TakesTree image 2 root size false all new → HasInodeFile image all new
file_entered image all new root size root_is size_is takes =
    enter image (λ t. ⊥) (λ i s. ⊥) all all new 0 false (nothing_seen image all) inode_file (record { kinds = λ i same. absurd (omega (arith, same)); sizes = λ kind. absurd (omega (arith, kind)) }) (λ which. refl)
    (moved (λ x y z. TakesTree image x y z false all new) _ _ _ 2 root size refl (sym root_is) (sym size_is) takes)

pub file_fails : (image : Image) (all : Set) (root size : ℕ) (c : Check) (p : ℕ) → HasAllBlocks image all → 4096 ≤ size_of image 0 → root ≡ root_of image 0 → size ≡ size_of image 0 →
    FailsTree image 2 root size false all c p → Fails image c p
file_fails image all root size c p whole some root_is size_is fails =
    fails_tree image (λ t. ⊥) all all whole (nothing_seen image all).takes some (λ t never. absurd never) 0 (λ other. absurd (other refl)) inode_file (λ other. absurd (other refl)) (λ never. never) (λ same u never. never) false (λ closed. inl refl) c p
    (moved (λ x y z. FailsTree image x y z false all c p) _ _ _ 2 root size refl (sym root_is) (sym size_is) fails)

pub sizes_fail : (image : Image) (size : ℕ) → size ≡ size_of image 0 → (size % 4096 ≡ 0 → ⊥) ⊎ ((size % 4096 ≡ 0) × (size < 4096)) → Fails image InodeFileSize 3
sizes_fail image size size_is (inl odd) = inode_file_size (inl (subst (λ (x : ℕ). x % 4096 ≢ 0) size_is odd))
sizes_fail image size size_is (inr small) = inode_file_size (inr (subst (λ (x : ℕ). x < 4096) size_is small.1))

pub size_some : (image : Image) (size : ℕ) → size ≡ size_of image 0 → 4096 ≤ size → 4096 ≤ size_of image 0
size_some image size size_is some = subst (λ (x : ℕ). 4096 ≤ x) size_is some

abbrev File : ℕ → Type 0
File t = ⊥ ⊎ (t ≡ 0)

abbrev NoEntry : ℕ → ℕ → Type 0
NoEntry i s = ⊥

module _ (image : Image) (ready : HasWholeInodes image) (all left : Set) (whole : HasAllBlocks image all) (file : HasInodeFile image all left) where
  pub file_sound : IsSound image (root_of image 0) (size_of image 0)
  file_sound = is_sound image File NoEntry all left ready.some_inodes (inr refl) file 0 (inr refl) (inl refl)

  pub file_full : IsFull image (root_of image 0) (size_of image 0)
  file_full = is_full image File NoEntry all left ready.some_inodes (inr refl) file 0 (inr refl) (inl refl)

  pub file_few : inode_count image + 64 ≤ 64 * block_count image
  file_few = fewer_inodes image (root_of image 0) (size_of image 0) file_sound file_full (omega (arith, ready.formatted.sized.at_least)) ready.inode_blocks

  pub file_not_first : has left 0 ≡ false
  file_not_first = file.takes.less 0 whole.not_first

  root_found : IsFound image 1
  root_found = root_directory (content_followed image File NoEntry all left ready.some_inodes (inr refl) file 0 (inr refl) (inl refl) 8 (omega (arith, ready.some_inodes)))

  not_root : File 1 → ⊥
  not_root (inl never) = never
  not_root (inr same) = omega (arith, same)

  pub root_fails : (c : Check) (p : ℕ) → FailsInode image 1 left c p → Fails image c p
  root_fails c p fails = fails_inode image File NoEntry all left whole ready.some_inodes (inr refl) file 1 (omega arith) root_found not_root c p fails

  pub reading_starts : (none : Set) (before after : Scan) → HasScanMemory image after → none ≡ empty (64 * block_count image) → Fills 2 (inode_count image) none before.inodes →
      before.todo ≡ empty (64 * block_count image) → before.counts ≡ replicate (64 * block_count image) 0 → before.totals ≡ no_totals → left ≡ before.blocks → EntersInode image 1 before after → IsReading image after 0 0
  reading_starts none before after room none_is fills todo_is counts_are totals_are left_is enters = record {
    ready = ready;
    room = room;
    range = λ i there. in_range i (ap (λ (s : Set). has s i) (sym enters.inodes) ∙ there) (cases_lt i 2) (cases_lt i (inode_count image));
    root_kind = kind;
    midway = record {
      all = all;
      whole = whole;
      under_way = subst (λ (s : Set). IsUnderWay image all after.blocks s after.todo 0 0) (sym enters.inodes)
          (started image all after.blocks before.inodes after.todo ready.some_inodes kind (λ t two low. fills.inside t two low) (λ t low. fills.below t low ∙ none_has t) listed alone
          (enter image File NoEntry all left after.blocks 1 enters.holes file root_found (inode_of image 1 enters.right) which tree));
    };
    counts = subst (CountsAmong image (IsDone image after.inodes after.todo 0 0)) (sym (enters.counts ∙ counts_are))
        (subst (λ (s : Set). CountsAmong image (IsDone image s after.todo 0 0) (replicate (64 * block_count image) 0)) (sym enters.inodes)
        (started_counts image before.inodes after.todo (64 * block_count image) (λ t two low. fills.inside t two low) listed));
    counted = subst (λ (s : Set). HasCounted image s (inode_count image) after.totals) (sym enters.inodes)
        (first_counted image before.inodes (inode_count image) before.totals after.totals (omega (arith, ready.some_inodes)) (λ t two low. fills.inside t two low) (fills.below 1 (omega arith) ∙ none_has 1) totals_are enters.totals);
  }
    where
      kind : kind_of image 1 ≡ 2
      kind = enters.right.root refl

      tree : TakesTree image (root_place image 1) (root_of image 1) (size_of image 1) enters.holes left after.blocks
      tree = subst (λ (s : Set). TakesTree image (root_place image 1) (root_of image 1) (size_of image 1) enters.holes s after.blocks) (sym left_is) enters.tree

      later_is : after.todo ≡ with before.todo 1
      later_is = enters.directory kind

      todo_length : length before.todo ≡ 64 * block_count image
      todo_length = ap length todo_is ∙ length-replicate (64 * block_count image) false

      none_has : (i : ℕ) → has none i ≡ false
      none_has i = ap (λ (s : Set). has s i) none_is ∙ has_empty (64 * block_count image) i

      which : (◌≡◌ {A = ℕ} 1 0) ⊎ (kind_of image 1 ≡ 2) → enters.holes ≡ false
      which (inl never) = absurd (omega (arith, never))
      which (inr directory) = enters.full directory

      listed : has after.todo 1 ≡ true
      listed = ap (λ (s : Set). has s 1) later_is ∙ has_with_same before.todo 1 (omega (arith, todo_length, ready.formatted.sized.at_least))

      alone : (i : ℕ) → i ≢ 1 → has after.todo i ≡ false
      alone i other = ap (λ (s : Set). has s i) later_is ∙ has_with_other before.todo 1 i other ∙ ap (λ (s : Set). has s i) todo_is ∙ has_empty (64 * block_count image) i

      in_range : (i : ℕ) → has before.inodes i ≡ true → (i < 2) ⊎ (2 ≤ i) → (i < inode_count image) ⊎ (inode_count image ≤ i) → (2 ≤ i) × (i < inode_count image)
      in_range i there (inl low) other = absurd (clash there (fills.below i low ∙ none_has i))
      in_range i there (inr two) (inl low) = (two, low)
      in_range i there (inr two) (inr high) = absurd (clash there (fills.above i high ∙ none_has i))

-- ---- the blocks

pub all_blocks : (image : Image) (none all : Set) (room : ℕ) → 1 ≤ block_count image → none ≡ empty (block_count image) → room ≡ length none → Fills 1 room none all → HasAllBlocks image all
all_blocks image none all room some none_is room_is fills = record {
  room = fills.room ∙ none_room;
  all = λ b low high. fills.inside b low (omega (arith, high, room_is, none_room));
  not_first = fills.below 0 (omega arith) ∙ ap (λ (s : Set). has s 0) none_is ∙ has_empty (block_count image) 0;
}
  where
    none_room : length none ≡ block_count image
    none_room = ap length none_is ∙ length-replicate (block_count image) false

-- the inodes up to the count of them
pub filled_inodes : (image : Image) (size : ℕ) (old new : Set) → size ≡ size_of image 0 → Fills 2 (size / 64) old new → Fills 2 (inode_count image) old new
filled_inodes image size old new size_is fills = subst (λ (x : ℕ). Fills 2 (x / 64) old new) size_is fills
