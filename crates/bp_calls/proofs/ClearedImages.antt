-- The words that version 3 makes attributes, in an image of an earlier version: where they stand, and what the image is
-- after stores of 0 to some of them.
use Rattle.std.proofs.Common.{◌≡◌, ◌≢◌, ◌⊎◌, inl, inr, ℕ, ◌+◌, ◌*◌, ◌/◌, ◌%◌, ◌<◌, ◌≤◌, length, slice_index, slice_range, false, refl, sym, ◌∙◌, ap, subst, arith}
use Rattle.std.proofs.lemmas.Bool.{cases_eq}
use Rattle.bp_limits.specs.CallLimits.{allows_attributes}
use Rattle.bp_layout.specs.Formatted.{version_of}
use Rattle.bp_layout.specs.Inode.{ContentStandsAt, inode_count, inode_word, root_of, size_of}
use Rattle.bp_layout.specs.Reached.IsReached.{inode_file}
use Rattle.bp_layout.specs.Tree.{content_word, node}
use Rattle.bp_layout.specs.Trees.{has_snapshot}
use Rattle.bp_layout.specs.WellFormed.{IsWellFormed}
use Rattle.bp_layout.specs.Whole.{SameFiles}
use Rattle.bp_layout.specs.Words.{Image, block_count, height_of, word}
use Rattle.bp_layout.proofs.LoadedWords.{loaded_word}
use Rattle.bp_layout.proofs.TreeLaws.{slot_word-at, tree_word-suc}
use Rattle.bp_changes.specs.Harmless.{Agrees, IsHarmless}
use Rattle.bp_changes.proofs.ClearedWords.{same_files-by_agreement, snapshot_by_words, spare_attribute}
use Rattle.bp_changes.proofs.Stores.{harmless_here}
use Rattle.pm_epochs.specs.May.{EachMay}
use Rattle.pm_epochs.proofs.MayLaws.{same_where_none}
use Rattle.bp_calls.specs.Cleared.{IsClearing}
use Rattle.bp_layout.specs.Clearing.{IsClearInode, IsSetInode}
use Rattle.bp_calls.proofs.AfterLaws.{prepared_well_formed}
use Rattle.bp_calls.proofs.Trees.{SameTrees, agreed_trees, live_leaf, stands_kept, word_kept}

-- ---- where the words stand

-- in a well-formed image each word of an inode has a place
pub inode_stands : (image : Image) → IsWellFormed image → (i f : ℕ) → i < inode_count image → f < 8 →
    ContentStandsAt image 0 (8 * i + f) (512 * node image (root_of image 0) (height_of (root_of image 0)) ((8 * i + f) / 512) + (8 * i + f) % 512)
inode_stands image wf i f there low = record {
  present = wf.full_inode_file (height_of (root_of image 0)) ((8 * i + f) / 512)
      (live_leaf (root_of image 0) (size_of image 0) ((8 * i + f) / 512) (omega (arith, there, low)));
  at = refl;
}

-- the words of an inode stand in a row
pub stands_after : (image : Image) (i k place : ℕ) → k < 3 → ContentStandsAt image 0 (8 * i + 3) place → ContentStandsAt image 0 (8 * i + (3 + k)) (place + k)
stands_after image i k place few stands =
    let leaf : (8 * i + 3) / 512 ≡ (8 * i + (3 + k)) / 512 = omega (arith, few) in
    let here = subst (λ l. node image (root_of image 0) (height_of (root_of image 0)) l ≢ 0) leaf stands.present in
    let at = subst (λ l. 512 * node image (root_of image 0) (height_of (root_of image 0)) l + (8 * i + 3) % 512 ≡ place) leaf stands.at in
    record { present = here; at = omega (arith, at, few) }

-- what is there is the word
pub word_standing : (image : Image) (k place : ℕ) → ContentStandsAt image 0 k place → content_word image (root_of image 0) k ≡ word image place
word_standing image k place stands =
    tree_word-suc image (root_of image 0) (height_of (root_of image 0)) k
    ∙ slot_word-at image (node image (root_of image 0) (height_of (root_of image 0)) (k / 512)) (k % 512) stands.present
    ∙ ap (word image) stands.at

-- the words of an inode that is there lie in the image
pub words_inside : (image : Image) → IsWellFormed image → (i place : ℕ) → i < inode_count image → ContentStandsAt image 0 (8 * i + 3) place → place + 3 ≤ length image
words_inside image wf i place there stands =
    let low : node image (root_of image 0) (height_of (root_of image 0)) ((8 * i + 3) / 512) < block_count image =
    (wf.sound 0 inode_file).in_range _ _ (live_leaf (root_of image 0) (size_of image 0) ((8 * i + 3) / 512) (omega (arith, there))) in
    omega (arith, low, stands.at, wf.formatted.sized.whole)

-- ---- three words that were loaded

-- the words of an inode that version 3 makes attributes, as a list
module _ (image words : Image) (i place : ℕ) (stands : ContentStandsAt image 0 (8 * i + 3) place) (run : words ≡ slice_range image place (place + 3)) where
  loaded : (k : ℕ) → k < 3 → inode_word image i (3 + k) ≡ slice_index words k
  loaded k few = word_standing image (8 * i + (3 + k)) (place + k) (stands_after image i k place few stands) ∙ sym (loaded_word image words place 3 run k few)

  pub loaded_clear : slice_index words 0 ≡ 0 → slice_index words 1 ≡ 0 → slice_index words 2 ≡ 0 → IsClearInode image i
  loaded_clear one two three k few = loaded k few ∙ go (cases_eq k 0) (cases_eq k 1)
    where
      go : (k ≡ 0) ⊎ (k ≢ 0) → (k ≡ 1) ⊎ (k ≢ 1) → slice_index words k ≡ 0
      go (inl e) _ = ap (slice_index words) e ∙ one
      go (inr _) (inl e) = ap (slice_index words) e ∙ two
      go (inr a) (inr b) = let e : k ≡ 2 = omega (arith, few, a, b) in ap (slice_index words) e ∙ three

  pub loaded_set : (k : ℕ) → k < 3 → slice_index words k ≢ 0 → IsSetInode image i
  loaded_set k few set = record { number = k; low = few; set = λ none. set (sym (loaded k few) ∙ none) }

-- ---- after stores of 0 to some of them

module _ (old new : Image) (wf : IsWellFormed old) (before : allows_attributes (version_of old) ≡ false) (first count : ℕ) (each : EachMay (IsClearing old first count) old new) where
  pub cleared_agrees : Agrees old new
  cleared_agrees = record {
    whole = each.size;
    each = λ place. elim (each.each place) [
      | inl same ↦ subst (IsHarmless old place) (sym same) (harmless_here old place)
      | inr may ↦ spare_attribute old wf before may.ino may.number place may.there may.few may.stands (word new place)
    ];
  }

  trees : SameTrees old new
  trees = agreed_trees old new wf cleared_agrees

  pub cleared_well_formed : IsWellFormed new
  cleared_well_formed = prepared_well_formed old new wf trees.prepared

  pub cleared_count : inode_count new ≡ inode_count old
  cleared_count = ap (λ n. n / 64) trees.prepared.inode_bytes

  superblock-same : (place : ℕ) → place < 512 → word new place ≡ word old place
  superblock-same place low =
      same_where_none (IsClearing old first count) old new each place (λ value may. may.stands.present (omega (arith, may.stands.at, low)))

  pub cleared_files : has_snapshot old ≡ false → SameFiles old new
  cleared_files single =
      let still : has_snapshot new ≡ has_snapshot old = snapshot_by_words old new (superblock-same 0 (omega arith)) (superblock-same 5 (omega arith)) in
      same_files-by_agreement old new wf cleared_agrees single (still ∙ single)

  -- a word that was 0 is 0
  pub zero_stays : (place : ℕ) → word old place ≡ 0 → word new place ≡ 0
  zero_stays place none = elim (each.each place) [
    | inl same ↦ same ∙ none
    | inr may ↦ may.zero
  ]

  module _ (i f : ℕ) (there : i < inode_count old) (low : f < 8) where
    leaf_below : 4096 * ((8 * i + f) / 512) < size_of old 0
    leaf_below = omega (arith, there, low)

    -- the word of an inode is where it was
    pub word_cleared : (place : ℕ) → ContentStandsAt old 0 (8 * i + f) place → inode_word new i f ≡ word new place
    word_cleared place stands = word_kept old new trees 0 (8 * i + f) place inode_file leaf_below stands

    pub stands_back : (place : ℕ) → ContentStandsAt new 0 (8 * i + f) place → ContentStandsAt old 0 (8 * i + f) place
    stands_back place stands =
        let was = inode_stands old wf i f there low in
        let still = stands_kept old new trees 0 (8 * i + f) _ inode_file leaf_below was in
        record { present = was.present; at = sym still.at ∙ stands.at }
