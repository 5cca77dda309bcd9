-- Pointers of some trees that name one block are one pointer, where their places are one: an induction towards the superblock.
use Rattle.std.proofs.Common.{◌≡◌, ◌≢◌, ℕ, zero, suc, ◌/◌, ◌≤◌, refl, sym, subst}
use Rattle.bp_layout.specs.Words.{Image, height_of}
use Rattle.bp_layout.specs.Tree.{node, covered}
use Rattle.bp_layout.specs.Inode.{root_of, size_of}
use Rattle.bp_layout.specs.Checks.{IsPointer, pointer_place}
use Rattle.bp_layout.proofs.OnePlace.{IsAbove, top_alone, SamePointer, Apart, one_pointer, above_pointer}
use Rattle.bp_layout.proofs.OnePlace.IsAbove.{pointer_above, inode_above}

-- trees whose pointers are distinguished by the blocks that they name
pub record SeparatesPointers (image : Image) (S : ℕ → Type 0) : Type 0 where
  pub some : 4096 ≤ size_of image 0
  pub first : S 0
  pub fits : (t : ℕ) → S t → size_of image t ≤ covered (suc (height_of (root_of image t)))
  pub places : (t d k u e l p q : ℕ) → S t → S u → IsPointer image t d k p → IsPointer image u e l q → node image (root_of image t) d k ≢ 0 →
      node image (root_of image t) d k ≡ node image (root_of image u) e l → p ≡ q

module _ (image : Image) (S : ℕ → Type 0) (reports : SeparatesPointers image S) where
  tree_above : (t d k v f m r : ℕ) → S t → IsAbove image t d k v f m r → S v
  tree_above t _ k _ _ _ _ s pointer_above = s
  tree_above _ _ k _ _ _ _ s inode_above = reports.first

  above : (t d k v f m r p : ℕ) → IsPointer image t d k p → IsAbove image t d k v f m r → IsPointer image v f m (pointer_place image v f m)
  above t d k v f m r p at i = above_pointer image t d k v f m r reports.some at.found at.live at.followed i

  one : (t d k u e l p q : ℕ) → S t → S u → IsPointer image t d k p → IsPointer image u e l q → node image (root_of image t) d k ≢ 0 →
      node image (root_of image t) d k ≡ node image (root_of image u) e l → Apart image t d k u e l → SamePointer t d k u e l
  one t d k u e l p q s z at also present same apart =
      let place : p ≡ q = reports.places t d k u e l p q s z at also present same in
      one_pointer image t d k u e l p at (subst (IsPointer image u e l) (sym place) also) (reports.fits t s) (reports.fits u z) apart

  abbrev Once : (t d k : ℕ) → Type 0
  Once t d k = (u e l : ℕ) → S u → IsPointer image t d k (pointer_place image t d k) → IsPointer image u e l (pointer_place image u e l) → node image (root_of image t) d k ≢ 0 →
      node image (root_of image t) d k ≡ node image (root_of image u) e l → SamePointer t d k u e l

  -- by the pointer above the first
  by_above : (t d k : ℕ) → ((v f m r : ℕ) → IsAbove image t d k v f m r → Once v f m) → (u e l p q : ℕ) → S t → S u → IsPointer image t d k p → IsPointer image u e l q →
      node image (root_of image t) d k ≢ 0 → node image (root_of image t) d k ≡ node image (root_of image u) e l → SamePointer t d k u e l
  by_above t d k call u e l p q s z at also present same =
      one t d k u e l p q s z at also present same
      (λ v f m r w g n x i j some eq. call v f m r i w g n (tree_above u e l w g n x z j) (above t d k v f m r p at i) (above u e l w g n x q also j) some eq)

  once_file : (d k : ℕ) → Once 0 d k
  once_file zero k u e l z at also present same =
      by_above 0 0 k (λ v f m r i w g n y a b some eq. absurd (top_alone image 0 0 k v f m r i refl refl)) u e l _ _ reports.first z at also present same
  once_file (suc d) k u e l z at also present same = by_above 0 (suc d) k (λ v f m r i. go v f m r i (once_file d (k / 512))) u e l _ _ reports.first z at also present same
    where
      go : (v f m r : ℕ) → IsAbove image 0 (suc d) k v f m r → Once 0 d (k / 512) → Once v f m
      go _ _ _ _ pointer_above call = call

  once_inode : (t : ℕ) → S (suc t) → (d k : ℕ) → Once (suc t) d k
  once_inode t s zero k u e l z at also present same = by_above (suc t) 0 k (λ v f m r i. go v f m r i) u e l _ _ s z at also present same
    where
      go : (v f m r : ℕ) → IsAbove image (suc t) 0 k v f m r → Once v f m
      go _ _ _ _ inode_above = once_file _ _
  once_inode t s (suc d) k u e l z at also present same = by_above (suc t) (suc d) k (λ v f m r i. go v f m r i (once_inode t s d (k / 512))) u e l _ _ s z at also present same
    where
      go : (v f m r : ℕ) → IsAbove image (suc t) (suc d) k v f m r → Once (suc t) d (k / 512) → Once v f m
      go _ _ _ _ pointer_above call = call

  pub once_pointer : (t : ℕ) → S t → (d k : ℕ) → Once t d k
  once_pointer zero s d k = once_file d k
  once_pointer (suc t) s d k = once_inode t s d k

  -- the pointers of another tree stand elsewhere, except for those of its own blocks
  pub other_root : (t u e l p q : ℕ) → S u → (S t → ⊥) → size_of image t ≤ covered (suc (height_of (root_of image t))) → IsPointer image t 0 0 p → IsPointer image u e l q → p ≢ q
  other_root t u e l p q z new fits at also same =
      let one_word : SamePointer t 0 0 u e l =
      one_pointer image t 0 0 u e l p at (subst (IsPointer image u e l) (sym same) also) fits (reports.fits u z) (λ v f m r w g n x i j some eq.
      go t v f m r i w g n (tree_above u e l w g n x z j) (above t 0 0 v f m r p at i) (above u e l w g n x q also j) some eq) in
      new (subst S (sym one_word.tree) z)
    where
      go : (x v f m r : ℕ) → IsAbove image x 0 0 v f m r → Once v f m
      go _ _ _ _ _ inode_above = once_file _ _
