-- A word path names the place at which its word stands.
use Rattle.std.proofs.Common.{◌≡◌, ◌≢◌, ℕ, zero, suc, ◌+◌, ◌*◌, ◌/◌, ◌%◌, [], ◌∷◌, ◌++◌, refl, sym, ◌∙◌, ap}
use Rattle.bp_layout.specs.Words.{Image, word, block_of, height_of, slot_word}
use Rattle.bp_layout.specs.Tree.{tree_word, node, place_of}
use Rattle.bp_layout.specs.Inode.{root_of}
use Rattle.bp_layout.specs.WordPaths.{WordPath, digits, inode_path, tree_path, address_from, address}
use Rattle.bp_layout.specs.Checks.{pointer_place, inode_place}
use Rattle.bp_layout.proofs.TreeLaws.{tree_word-zero, tree_word-suc, slot_word-at}

pub address_from-append : (image : Image) (at : ℕ) (p q : WordPath) → address_from image at (p ++ q) ≡ address_from image (address_from image at p) q
address_from-append image at [] q = refl
address_from-append image at (slot ∷ p) q = address_from-append image (512 * block_of (word image at) + slot) p q

-- below a null there are nulls
pub present_above : (image : Image) (root d k : ℕ) → node image root (suc d) k ≢ 0 → node image root d (k / 512) ≢ 0
present_above image root d k present null =
    present (ap block_of (tree_word-suc image root d k ∙ ap (λ b. slot_word image b (k % 512)) null))

-- no null stands above a word
abbrev pub IsUnderNodes : Image → ℕ → ℕ → ℕ → Type 0
IsUnderNodes image root zero k = Unit {0}
IsUnderNodes image root (suc d) k = node image root d (k / 512) ≢ 0

under_above : (image : Image) (root d k : ℕ) → node image root d k ≢ 0 → IsUnderNodes image root d k
under_above image root zero k present = tt
under_above image root (suc d) k present = present_above image root d k present

pub word-place_of : (image : Image) (at root : ℕ) → word image at ≡ root → (d k : ℕ) → IsUnderNodes image root d k → word image (place_of image at root d k) ≡ tree_word image root d k
word-place_of image at root here zero k under = here ∙ sym (tree_word-zero image root k)
word-place_of image at root here (suc d) k under = sym (slot_word-at image (node image root d (k / 512)) (k % 512) under) ∙ sym (tree_word-suc image root d k)

pub address_from-digits : (image : Image) (at root : ℕ) → word image at ≡ root → (d k : ℕ) → IsUnderNodes image root d k → address_from image at (digits d k) ≡ place_of image at root d k
address_from-digits image at root here zero k under = refl
address_from-digits image at root here (suc d) k under =
    let above : IsUnderNodes image root d (k / 512) = under_above image root d (k / 512) under in
    address_from-append image at (digits d (k / 512)) (k % 512 ∷ [])
    ∙ ap (λ p. 512 * block_of (word image p) + k % 512) (address_from-digits image at root here d (k / 512) above)
    ∙ ap (λ w. 512 * block_of w + k % 512) (word-place_of image at root here d (k / 512) above)

-- the path of a word of a tree names its place
pub address-tree_path : (image : Image) (t d k : ℕ) → IsUnderNodes image (word image 2) (suc (height_of (word image 2))) (8 * t + 1) → IsUnderNodes image (root_of image t) d k →
    address image (tree_path (height_of (word image 2)) t d k) ≡ pointer_place image t d k
address-tree_path image zero d k inode under = address_from-digits image 2 (word image 2) refl d k under
address-tree_path image (suc i) d k inode under =
    let place : address_from image 2 (inode_path (height_of (word image 2)) (suc i) 1) ≡ inode_place image (suc i) 1 =
    address_from-digits image 2 (word image 2) refl (suc (height_of (word image 2))) (8 * suc i + 1) inode in
    address_from-append image 2 (inode_path (height_of (word image 2)) (suc i) 1) (digits d k)
    ∙ ap (λ p. address_from image p (digits d k)) place
    ∙ address_from-digits image (inode_place image (suc i) 1) (root_of image (suc i))
    (word-place_of image 2 (word image 2) refl (suc (height_of (word image 2))) (8 * suc i + 1) inode) d k under
