-- Where the words of an inode stand.
use Rattle.std.proofs.Common.{◌≡◌, ℕ, zero, suc, ◌+◌, ◌*◌, ◌/◌, ◌%◌, ◌<◌, ◌≤◌, Bool, false, length, refl, sym, ◌∙◌, ap, subst, arith}
use Rattle.bp_layout.specs.Words.{Image, word, block_count, height_of}
use Rattle.bp_layout.specs.Tree.{node}
use Rattle.bp_layout.specs.Inode.{inode_word, root_of, ContentStandsAt}
use Rattle.bp_layout.specs.Checks.{inode_place, size_place}
use Rattle.bp_layout.specs.declared.check.Check.{Check}
use Rattle.bp_walk.proofs.Places.{word_below}
use Rattle.bp_scan.specs.Inodes.{AreWords, IsWrong, FailsInode}
use Rattle.bp_scan.specs.Inodes.FailsInode.{words, tree}
use Rattle.bp_free.specs.Set.{Set}
use Rattle.bp_walk.specs.Walk.{FailsTree}
use Rattle.bp_scan.specs.declared.trees.InodeWords.{InodeWords}

same_leaf : (i f : ℕ) → f < 8 → (8 * i + f) / 512 ≡ (8 * i + 0) / 512
same_leaf i f low = omega arith

pub placed : (a b i f at : ℕ) → f < 8 → a ≡ b → 512 * b + (8 * i + 0) % 512 ≡ at → 512 * a + (8 * i + f) % 512 ≡ at + f
placed a b i f at low same stands = omega arith

pub in_bounds : (b i at N length : ℕ) → 512 * b + (8 * i + 0) % 512 ≡ at → at < length → length ≡ 512 * N → at + 2 < length
in_bounds b i at N length stands low whole = omega arith

module _ (image : Image) (i at : ℕ) (stands : ContentStandsAt image 0 (8 * i + 0) at) where
  same_node : (f : ℕ) → f < 8 → node image (root_of image 0) (height_of (root_of image 0)) ((8 * i + f) / 512) ≡ node image (root_of image 0) (height_of (root_of image 0)) ((8 * i + 0) / 512)
  same_node f low = ap (node image (root_of image 0) (height_of (root_of image 0))) (same_leaf i f low)

  pub field_place : (f : ℕ) → f < 8 → inode_place image i f ≡ at + f
  field_place f low = placed _ _ i f at low (same_node f low) stands.at

  pub field_word : (f : ℕ) → f < 8 → word image (at + f) ≡ inode_word image i f
  field_word f low =
      ap (word image) (sym (field_place f low))
      ∙ word_below image 2 (root_of image 0) (height_of (root_of image 0)) (8 * i + f) (λ null. stands.present (sym (same_node f low) ∙ null))

pub words_of : (image : Image) (i : ℕ) (at : InodeWords) → 1 ≤ i → ContentStandsAt image 0 (8 * i + 0) at.place → at.place < length image → length image ≡ 512 * block_count image →
    at.kind ≡ word image at.place → at.tree.root ≡ word image (at.place + 1) → at.tree.size ≡ word image (at.place + 2) → AreWords image i at
words_of image zero at some stands low whole kind root size = absurd (omega (arith, some))
words_of image (suc i) at some stands low whole kind root size = record {
  place = first;
  root_place = field_place image (suc i) at.place stands 1 (omega arith);
  size_place = field_place image (suc i) at.place stands 2 (omega arith);
  in_image = in_bounds _ (suc i) at.place (block_count image) (length image) stands.at low whole;
  root_word = sym root;
  kind = sym (kind ∙ ap (word image) (omega arith) ∙ field_word image (suc i) at.place stands 0 (omega arith));
  root = sym (root ∙ field_word image (suc i) at.place stands 1 (omega arith));
  size = sym (size ∙ field_word image (suc i) at.place stands 2 (omega arith));
}
  where
    first : inode_place image (suc i) 0 ≡ at.place
    first = field_place image (suc i) at.place stands 0 (omega arith) ∙ omega arith

-- the place of the size is two after that of the kind
pub size_after : (image : Image) (i : ℕ) → size_place image (suc i) ≡ inode_place image (suc i) 0 + 2
size_after image i =
    placed _ _ (suc i) 2 (inode_place image (suc i) 0) (omega arith) (ap (node image (root_of image 0) (height_of (root_of image 0))) (same_leaf (suc i) 2 (omega arith))) refl

pub moved : (P : ℕ → ℕ → ℕ → Type 0) (a b c x y z : ℕ) → a ≡ x → b ≡ y → c ≡ z → P x y z → P a b c
moved P a b c x y z e f g h = subst (λ (u : ℕ). P u b c) (sym e) (subst (λ (v : ℕ). P x v c) (sym f) (subst (λ (w : ℕ). P x y w) (sym g) h))

module _ (image : Image) (i : ℕ) (at : InodeWords) (are : AreWords image i at) where
  pub fails_words : (old : Set) (c : Check) (p : ℕ) → IsWrong i at.kind at.tree.size at.place c p → FailsInode image i old c p
  fails_words old c p wrong = words (moved (λ x y z. IsWrong i x y z c p) _ _ _ _ _ _ are.kind are.size are.place wrong)

  pub fails_below : (old : Set) (holes : Bool) (c : Check) (p : ℕ) → (holes ≡ false → at.kind ≡ 2) → FailsTree image (at.place + 1) at.tree.root at.tree.size holes old c p → FailsInode image i old c p
  fails_below old holes c p which fails =
      tree holes (λ closed. are.kind ∙ which closed) (moved (λ x y z. FailsTree image x y z holes old c p) _ _ _ _ _ _ are.root_place are.root are.size fails)
