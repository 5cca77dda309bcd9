-- The two links of a preparation: a root word with the same content as the old one, and a subtree for a null pointer.
use Rattle.std.specs.Prelude.{◌≡◌, ◌≢◌, ℕ, suc, ◌+◌, ◌*◌, ◌/◌, ◌%◌, ◌<◌, ◌≤◌, List, [], ◌∷◌, length}
use Rattle.bp_layout.specs.Formatted.{version_of}
use Rattle.bp_layout.specs.Words.{Image, block_count, block_of, height_of, slot_word, byte_of}
use Rattle.bp_layout.specs.Tree.{tree_word, node, IsLivePointer}
use Rattle.bp_layout.specs.Inode.{root_of, size_of, StandsAt}
use Rattle.bp_layout.specs.Reached.{IsReached, IsLiveBlock}
use Rattle.bp_limits.specs.Limits.{block_size, block_words, greatest_height}
use Rattle.bp_layout.specs.Members.{Each, AreApart}

-- word l at depth e is word k at depth d + 1, or below it by the given number of levels
pub data IsUnder (d k : ℕ) : ℕ → ℕ → ℕ → Type 0 where
  here : {e l : ℕ} → e ≡ suc d → l ≡ k → IsUnder d k e l 0
  under : {e l r : ℕ} → IsUnder d k e (l / block_words) r → IsUnder d k (suc e) l (suc r)

-- The condition to link a subtree: pointer k at depth d + 1 of tree t is null and live, and the tree of the block is
-- free, sound, and zero below the size.
pub record CanHang (image : Image) (t d k place block : ℕ) : Type 0 where
  pub reached : IsReached image t
  pub live : IsLivePointer (root_of image t) (size_of image t) (suc d) k
  pub null : node image (root_of image t) (suc d) k ≡ 0
  pub stands : StandsAt image t d k place
  pub bits : (e l r : ℕ) → IsUnder d k e (l / block_words) r →
      IsLivePointer (root_of image t) (size_of image t) (suc e) l →
      tree_word image (block_size * block) (suc r) l % block_size ≡ 0
  pub in_range : (e l r : ℕ) → IsUnder d k e l r → IsLivePointer (root_of image t) (size_of image t) e l →
      node image (block_size * block) r l < block_count image
  pub free : (e l r : ℕ) → IsUnder d k e l r → IsLivePointer (root_of image t) (size_of image t) e l →
      node image (block_size * block) r l ≢ 0 → IsLiveBlock image (node image (block_size * block) r l) → ⊥
  pub once : (e l r f m q : ℕ) → IsUnder d k e l r → IsUnder d k f m q →
      IsLivePointer (root_of image t) (size_of image t) e l → IsLivePointer (root_of image t) (size_of image t) f m →
      node image (block_size * block) r l ≢ 0 →
      node image (block_size * block) r l ≡ node image (block_size * block) q m → (e ≡ f) × (l ≡ m)
  pub zero_bytes : (o r : ℕ) → IsUnder d k (height_of (root_of image t)) (o / 8 / block_words) r → o < size_of image t →
      byte_of (tree_word image (block_size * block) (suc r) (o / 8)) (o % 8) ≡ 0

-- the root word of a tree one level higher, with this block at the top
abbrev pub raised : ℕ → ℕ → ℕ
raised root block = block_size * block + suc (height_of root)

-- the root word of a tree with these blocks above it, the lowest first
abbrev pub raised_by : ℕ → List ℕ → ℕ
raised_by root [] = root
raised_by root (block ∷ blocks) = raised_by (raised root block) blocks

-- the first slot of each block points to the block below it
abbrev pub LeadDown : Image → ℕ → List ℕ → Type 0
LeadDown image root [] = Unit {0}
LeadDown image root (block ∷ blocks) =
    (slot_word image block 0 ≡ block_size * block_of root) × LeadDown image (raised root block) blocks

-- free blocks that lead down to the root's block, no more than the image's version allows
pub record IsChain (image : Image) (root : ℕ) (blocks : List ℕ) : Type 0 where
  pub low : height_of root + length blocks ≤ greatest_height (version_of image)
  pub in_range : Each (λ b. b < block_count image) blocks
  pub not_null : Each (λ b. b ≢ 0) blocks
  pub free : Each (λ b. IsLiveBlock image b → ⊥) blocks
  pub apart : AreApart blocks
  pub down : LeadDown image root blocks
