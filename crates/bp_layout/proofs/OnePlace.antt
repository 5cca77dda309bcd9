-- Two pointers that stand at one place are one, where the blocks above them are distinguished.
use Rattle.std.proofs.Common.{◌≡◌, ◌≢◌, ℕ, zero, suc, ◌+◌, ◌*◌, ◌/◌, ◌%◌, ◌<◌, ◌≤◌, refl, sym, ◌∙◌, ap, subst, arith}
use Rattle.bp_layout.specs.Words.{Image, height_of}
use Rattle.bp_layout.specs.Tree.{node, covered, IsLivePointer}
use Rattle.bp_layout.specs.Inode.{root_of, size_of, inode_count}
use Rattle.bp_layout.proofs.TreeLaws.{live_above, live_pointer_word, live_content}
use Rattle.bp_layout.specs.Checks.{IsFound, IsPointer, IsFollowed, ContentFollowed, pointer_place}
use Rattle.bp_layout.specs.Checks.IsFound.{inode_file, root_directory, named}

-- the pointer above a pointer: in its tree, or for the root word of an inode's tree in the inode file
pub data IsAbove (image : Image) : (t d k u e l r : ℕ) → Type 0 where
  pointer_above : {t d k : ℕ} → IsAbove image t (suc d) k t d (k / 512) (k % 512)
  inode_above : {i k : ℕ} → IsAbove image (suc i) 0 k 0 (height_of (root_of image 0)) ((8 * suc i + 1) / 512) ((8 * suc i + 1) % 512)

-- none is above the root of the inode file
pub top_alone : (image : Image) (t d k v f m r : ℕ) → IsAbove image t d k v f m r → t ≡ 0 → d ≡ 0 → ⊥
top_alone image t _ k _ _ _ _ (pointer_above {d = d}) tree depth = omega (arith, depth)
top_alone image _ _ k _ _ _ _ (inode_above {i = i}) tree depth = omega (arith, tree)

pub record SamePointer (t d k u e l : ℕ) : Type 0 where
  pub tree : t ≡ u
  pub depth : d ≡ e
  pub index : k ≡ l

-- an inode that is found stands in a block of the inode file
pub inode_followed : (image : Image) (i : ℕ) → IsFound image (suc i) → ContentFollowed image 0 (8 * suc i)
inode_followed image _ (root_directory f) = f
inode_followed image _ (named slot from names f low g) = g

pub same_row : (i : ℕ) → (8 * suc i) / 512 ≡ (8 * suc i + 1) / 512
same_row i = omega arith

pub inode_block : (image : Image) (i : ℕ) → IsFound image (suc i) → node image (root_of image 0) (height_of (root_of image 0)) ((8 * suc i + 1) / 512) ≢ 0
inode_block image i found null =
    (inode_followed image i found).3 (ap (node image (root_of image 0) (height_of (root_of image 0))) (same_row i) ∙ null)

pub in_block : (b r p : ℕ) → b ≢ 0 → 512 * b + r ≡ p → 512 ≤ p
in_block b r p some at = omega arith

pub same_block : (a b r s p : ℕ) → r < 512 → s < 512 → 512 * a + r ≡ p → 512 * b + s ≡ p → (a ≡ b) × (r ≡ s)
same_block a b r s p low also at here = (omega arith, omega arith)

same_index : (k l : ℕ) → k / 512 ≡ l / 512 → k % 512 ≡ l % 512 → k ≡ l
same_index k l row column = omega arith

same_inode : (i j : ℕ) → (8 * suc i + 1) / 512 ≡ (8 * suc j + 1) / 512 → (8 * suc i + 1) % 512 ≡ (8 * suc j + 1) % 512 → suc i ≡ suc j
same_inode i j row column = omega arith

pub low_slot : (k : ℕ) → k % 512 < 512
low_slot k = omega arith

-- the fact that reports the pointers above apart
abbrev pub Apart : Image → (t d k u e l : ℕ) → Type 0
Apart image t d k u e l = (v f m r w g n s : ℕ) → IsAbove image t d k v f m r → IsAbove image u e l w g n s →
    node image (root_of image v) f m ≢ 0 → node image (root_of image v) f m ≡ node image (root_of image w) g n → SamePointer v f m w g n

-- where a pointer stands: in the superblock, or in a slot of the block above it
data Stand (image : Image) (t d k p : ℕ) : Type 0 where
  top : t ≡ 0 → d ≡ 0 → p ≡ 2 → Stand image t d k p
  under : {v f m r : ℕ} → IsAbove image t d k v f m r → node image (root_of image v) f m ≢ 0 → r < 512 → 512 * node image (root_of image v) f m + r ≡ p → Stand image t d k p

stand_of : (image : Image) (t d k p : ℕ) → IsPointer image t d k p → Stand image t d k p
stand_of image zero zero k p at = top refl refl (sym at.at)
stand_of image (suc i) zero k p at = under inode_above (inode_block image i at.found) (low_slot (8 * suc i + 1)) at.at
stand_of image t (suc d) k p at = under pointer_above at.followed.3 (low_slot k) at.at

over : (c e size k : ℕ) → c ≡ e → suc k * c < size → size ≤ e → ⊥
over c e size k same live fits = let grown : suc k * c ≡ c + k * c = omega arith in omega (arith, grown, same, live, fits)

same_level : (a b : ℕ) → 0 + a ≡ b → a ≡ b
same_level a b e = omega (arith, e)

-- a tree whose height holds its size has one root
pub index_zero : (root size k : ℕ) → IsLivePointer root size 0 k → size ≤ covered (suc (height_of root)) → k ≡ 0
index_zero root size zero live fits = refl
index_zero root size (suc k) live fits =
    absurd (over (covered (suc live.level)) (covered (suc (height_of root))) size k (ap (λ n. covered (suc n)) (same_level live.level _ live.height)) live.live fits)

module _ (image : Image) (t d k u e l : ℕ) (live : IsLivePointer (root_of image t) (size_of image t) d k) (also : IsLivePointer (root_of image u) (size_of image u) e l)
    (fits : size_of image t ≤ covered (suc (height_of (root_of image t)))) (fit : size_of image u ≤ covered (suc (height_of (root_of image u)))) where
  roots : d ≡ 0 → e ≡ 0 → k ≡ l
  roots a b = index_zero _ _ k (subst (λ (x : ℕ). IsLivePointer (root_of image t) (size_of image t) x k) a live) fits
      ∙ sym (index_zero _ _ l (subst (λ (x : ℕ). IsLivePointer (root_of image u) (size_of image u) x l) b also) fit)

not_deep : (image : Image) (t d k : ℕ) → IsLivePointer (root_of image t) (size_of image t) (suc d) k → t ≡ 0 → d ≡ height_of (root_of image 0) → ⊥
not_deep image t d k live tree depth = let same : height_of (root_of image t) ≡ height_of (root_of image 0) = ap (λ (x : ℕ). height_of (root_of image x)) tree in omega (arith, live.height, same, depth)

from_above : (image : Image) (t d k u e l v f m r w g n s : ℕ) → IsLivePointer (root_of image t) (size_of image t) d k → IsLivePointer (root_of image u) (size_of image u) e l →
    size_of image t ≤ covered (suc (height_of (root_of image t))) → size_of image u ≤ covered (suc (height_of (root_of image u))) →
    IsAbove image t d k v f m r → IsAbove image u e l w g n s → SamePointer v f m w g n → r ≡ s → SamePointer t d k u e l
from_above image t _ k u _ l _ _ _ _ _ _ _ _ live also fits fit pointer_above pointer_above same slot = record { tree = same.tree; depth = ap suc same.depth; index = same_index k l same.index slot }
from_above image t _ k _ _ l _ _ _ _ _ _ _ _ live also fits fit (pointer_above {d = d}) inode_above same slot = absurd (not_deep image t d k live same.tree same.depth)
from_above image _ _ k u _ l _ _ _ _ _ _ _ _ live also fits fit inode_above (pointer_above {d = e}) same slot = absurd (not_deep image u e l also (sym same.tree) (sym same.depth))
from_above image _ _ k _ _ l _ _ _ _ _ _ _ _ live also fits fit (inode_above {i = i}) (inode_above {i = j}) same slot = record {
  tree = same_inode i j same.index slot;
  depth = refl;
  index = roots image (suc i) 0 k (suc j) 0 l live also fits fit refl refl;
}

pub one_pointer : (image : Image) (t d k u e l p : ℕ) → IsPointer image t d k p → IsPointer image u e l p →
    size_of image t ≤ covered (suc (height_of (root_of image t))) → size_of image u ≤ covered (suc (height_of (root_of image u))) →
    Apart image t d k u e l → SamePointer t d k u e l
one_pointer image t d k u e l p at also fits fit apart = go (stand_of image t d k p at) (stand_of image u e l p also)
  where
    go : Stand image t d k p → Stand image u e l p → SamePointer t d k u e l
    go (top a b c) (top x y z) = record { tree = a ∙ sym x; depth = b ∙ sym y; index = roots image t d k u e l at.live also.live fits fit b y }
    go (top a b c) (under i some low here) = let high : 512 ≤ p = in_block _ _ p some here in absurd (omega (arith, high, c))
    go (under i some low here) (top a b c) = let high : 512 ≤ p = in_block _ _ p some here in absurd (omega (arith, high, c))
    go (under {v = v} {f = f} {m = m} {r = r} i some low here) (under {v = w} {f = g} {m = n} {r = s} j thing less there) =
        let same : (node image (root_of image v) f m ≡ node image (root_of image w) g n) × (r ≡ s) = same_block _ _ r s p low less here there in
        from_above image t d k u e l v f m r w g n s at.live also.live fits fit i j (apart v f m r w g n s i j some same.0) same.1

inode_low : (image : Image) (i : ℕ) → 4096 ≤ size_of image 0 → IsFound image (suc i) → suc i < inode_count image
inode_low image _ some (root_directory f) = omega (arith, some)
inode_low image _ some (named slot from names f low g) = low

-- a pointer above one that is followed is followed
pub above_pointer : (image : Image) (t d k v f m r : ℕ) → 4096 ≤ size_of image 0 → IsFound image t → IsLivePointer (root_of image t) (size_of image t) d k →
    IsFollowed image (root_of image t) (size_of image t) d k → IsAbove image t d k v f m r → IsPointer image v f m (pointer_place image v f m)
above_pointer image t _ k _ _ _ _ some found live followed (pointer_above {d = d}) =
    record { found = found; live = live_above _ _ d k (live_pointer_word _ _ (suc d) k live); followed = followed.1; at = refl }
above_pointer image _ _ k _ _ _ _ some found live followed (inode_above {i = i}) =
    let low : suc i < inode_count image = inode_low image i some found in
    record {
      found = inode_file;
      live = live_above _ _ (height_of (root_of image 0)) (8 * suc i + 1) (live_content _ _ (8 * suc i + 1) (omega (arith, low)));
      followed = subst (λ (x : ℕ). IsFollowed image (root_of image 0) (size_of image 0) (height_of (root_of image 0)) x) (same_row i) (inode_followed image i found).1;
      at = refl;
    }
