-- The word at the place of a pointer.
use Rattle.std.proofs.Common.{◌≡◌, ◌≢◌, ℕ, zero, suc, ◌+◌, ◌-◌, ◌*◌, ◌/◌, ◌%◌, ◌<◌, ◌≤◌, List, length, get_or, take, drop, refl, sym, ◌∙◌, ap, arith}
use Rattle.bp_layout.specs.Words.{Image, word, height_of}
use Rattle.bp_layout.specs.Tree.{tree_word, node, place_of}
use Rattle.bp_layout.specs.Inode.{root_of}
use Rattle.bp_layout.specs.Checks.{IsFound, IsPointer, root_place}
use Rattle.bp_layout.proofs.TreeLaws.{tree_word-zero, tree_word-suc, slot_word-at}
use Rattle.bp_layout.proofs.OnePlace.{inode_block}
use Rattle.bp_layout.proofs.LoadedWords.{length-loaded, loaded_word}

pub word_below : (image : Image) (at root d k : ℕ) → node image root d (k / 512) ≢ 0 → word image (place_of image at root (suc d) k) ≡ tree_word image root (suc d) k
word_below image at root d k present = sym (slot_word-at image (node image root d (k / 512)) (k % 512) present) ∙ sym (tree_word-suc image root d k)

root_word : (image : Image) (t : ℕ) → IsFound image t → word image (root_place image t) ≡ root_of image t
root_word image zero found = refl
root_word image (suc i) found = word_below image 2 (root_of image 0) (height_of (root_of image 0)) (8 * suc i + 1) (inode_block image i found)

pub pointer_word : (image : Image) (t d k p : ℕ) → IsPointer image t d k p → word image p ≡ tree_word image (root_of image t) d k
pointer_word image t zero k p at = ap (word image) (sym at.at) ∙ root_word image t at.found ∙ sym (tree_word-zero image (root_of image t) k)
pointer_word image t (suc d) k p at = ap (word image) (sym at.at) ∙ word_below image (root_place image t) (root_of image t) d k at.followed.3

-- eight numbers in a row that are 0 are so in the list that they are taken from
pub zero_there : (xs : List ℕ) (first i : ℕ) → first ≤ i → i < first + 8 → first + 8 ≤ length xs →
    ((k : ℕ) → k < length (take (first + 8 - first) (drop first xs)) → get_or (take (first + 8 - first) (drop first xs)) k 0 ≡ 0) → get_or xs i 0 ≡ 0
zero_there xs first i late low within zeros =
    let at : first + (i - first) ≡ i = omega (arith, late) in
    let eight = take (first + 8 - first) (drop first xs) in
    let long = length-loaded xs eight first 8 refl within in
    sym (ap (λ k. get_or xs k 0) at) ∙ sym (loaded_word xs eight first 8 refl (i - first) (omega (arith, late, low)))
    ∙ zeros (i - first) (omega (arith, late, low, long))
