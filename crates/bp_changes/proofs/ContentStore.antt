-- A store to a live word changes that word alone. Where it is a content word of an inode's tree, the trees stay.
use Rattle.std.proofs.Common.{◌≡◌, ◌≢◌, ℕ, zero, suc, ◌+◌, ◌*◌, ◌/◌, ◌%◌, ◌<◌, length, set, refl, sym, ◌∙◌, ap, subst, arith, lt_of_lt_of_le, get_or-set_same, get_or-set_other}
use Rattle.bp_limits.proofs.Versions.{fields_most}
use Rattle.bp_layout.specs.Formatted.{version_of}
use Rattle.bp_layout.specs.Words.{Image, word, block_count, height_of, slot_word}
use Rattle.bp_layout.specs.Tree.{node, content_word, IsLiveWord}
use Rattle.bp_layout.specs.Inode.{attributes_of, inode_word, kind_of, root_of, size_of, inode_count, StandsAt, ContentStandsAt}
use Rattle.bp_layout.specs.Reached.{IsReached}
use Rattle.bp_layout.specs.Reached.IsReached.{inode_file}
use Rattle.bp_layout.specs.WellFormed.{IsWellFormed}
use Rattle.bp_layout.proofs.AttributeLaws.{attributes_alike}
use Rattle.bp_layout.proofs.TreeLaws.{KeepsPointers, content-kept, slot_word-at, slot_word-same, tree_word-suc, live_above, live_pointer_word, live_content}
use Rattle.bp_changes.proofs.Formatted.{version_stays}
use Rattle.bp_changes.proofs.Separation.{SameWord, one_place}

-- a live word stands in the image
pub place_in_image : (image : Image) → IsWellFormed image → (t d k place : ℕ) → IsReached image t → IsLiveWord (root_of image t) (size_of image t) (suc d) k →
    StandsAt image t d k place → place < length image
place_in_image image wf t d k place reached live stands =
    let low : node image (root_of image t) d (k / 512) < block_count image =
    (wf.sound t reached).in_range d (k / 512) (live_above (root_of image t) (size_of image t) d k live) in
    omega (arith, low, stands.at, wf.formatted.sized.whole)

module _ (old : Image) (wf : IsWellFormed old) (t d k place value : ℕ) (reached : IsReached old t)
    (live : IsLiveWord (root_of old t) (size_of old t) (suc d) k) (stands : StandsAt old t d k place) where
  -- the word itself
  pub word-stored : slot_word (set old place value) (node old (root_of old t) d (k / 512)) (k % 512) ≡ value
  word-stored =
      slot_word-at (set old place value) _ (k % 512) stands.present
      ∙ ap (word (set old place value)) stands.at
      ∙ get_or-set_same old place value 0 (place_in_image old wf t d k place reached live stands)

  -- and each other live word
  pub word-elsewhere : (u e l : ℕ) → IsReached old u → IsLiveWord (root_of old u) (size_of old u) (suc e) l → (SameWord t d k u e l → ⊥) →
      slot_word (set old place value) (node old (root_of old u) e (l / 512)) (l % 512) ≡ slot_word old (node old (root_of old u) e (l / 512)) (l % 512)
  word-elsewhere u e l also lives other =
      slot_word-same old (set old place value) _ _ (λ present.
      get_or-set_other old place _ value 0 (λ here. other (one_place old wf t d k u e l place reached also live lives stands (record { present = present; at = here }))))

-- a store to a content word of an inode's tree
module _ (old : Image) (wf : IsWellFormed old) (i k place value : ℕ) (reached : IsReached old i) (inode : i ≢ 0)
    (below : 8 * k < size_of old i) (stands : ContentStandsAt old i k place) where
  abbrev new : Image
  new = set old place value

  here : IsLiveWord (root_of old i) (size_of old i) (suc (height_of (root_of old i))) k
  here = live_content (root_of old i) (size_of old i) k below

  -- pointers stay, since a content word is none
  pub pointers_stay : (t : ℕ) → IsReached old t → KeepsPointers old (set old place value) (root_of old t) (size_of old t)
  pointers_stay t also = record {
    kept = λ d l live. word-elsewhere old wf i (height_of (root_of old i)) k place value reached here stands t d l also (live_pointer_word _ _ (suc d) l live)
        (λ same. let root : height_of (root_of old i) ≡ height_of (root_of old t) = ap (λ (x : ℕ). height_of (root_of old x)) same.tree in omega (arith, live.height, root, same.depth));
  }

  -- a content word of a reached tree whose root word stays
  pub content_elsewhere : (t l : ℕ) → IsReached old t → root_of (set old place value) t ≡ root_of old t → 8 * l < size_of old t → ((i ≡ t) → (k ≡ l) → ⊥) →
      content_word (set old place value) (root_of (set old place value) t) l ≡ content_word old (root_of old t) l
  content_elsewhere t l also root in_size other =
      rw root
      (content-kept old (set old place value) (root_of old t) (size_of old t) (pointers_stay t also) l in_size
      ∙ word-elsewhere old wf i (height_of (root_of old i)) k place value reached here stands t (height_of (root_of old t)) l also (live_content _ _ l in_size) (λ same. other same.tree same.index)
      ∙ sym (tree_word-suc old (root_of old t) (height_of (root_of old t)) l))

  pub superblock_stays : (p : ℕ) → p < 512 → word (set old place value) p ≡ word old p
  superblock_stays p low = get_or-set_other old place p value 0 (λ e. stands.present (omega (arith, stands.at, e)))

  inode_word_stays : (u f : ℕ) → suc u < inode_count old → f < 8 → inode_word (set old place value) (suc u) f ≡ inode_word old (suc u) f
  inode_word_stays u f in_file few =
      content_elsewhere 0 (8 * suc u + f) inode_file (superblock_stays 2 (omega arith)) (omega (arith, in_file, few)) (λ e. absurd (inode e))

  pub kind_stays : (u : ℕ) → u < inode_count old → kind_of (set old place value) u ≡ kind_of old u
  kind_stays zero in_file = refl
  kind_stays (suc u) in_file = inode_word_stays u 0 in_file (omega arith)

  pub attributes_stay : (u : ℕ) → u < inode_count old → attributes_of (set old place value) u ≡ attributes_of old u
  attributes_stay u in_file =
      attributes_alike old (set old place value) u (version_stays old (set old place value) (superblock_stays 0 (omega arith)))
      (λ n f e least most. inode_word_stays n f (subst (λ t. t < inode_count old) e in_file) (lt_of_lt_of_le most (fields_most (version_of old))))

  pub root_stays : (u : ℕ) → u < inode_count old → root_of (set old place value) u ≡ root_of old u
  root_stays zero in_file = superblock_stays 2 (omega arith)
  root_stays (suc u) in_file = inode_word_stays u 1 in_file (omega arith)

  pub size_stays : (u : ℕ) → u < inode_count old → size_of (set old place value) u ≡ size_of old u
  size_stays zero in_file = superblock_stays 3 (omega arith)
  size_stays (suc u) in_file = inode_word_stays u 2 in_file (omega arith)

  pub content_here : root_of (set old place value) i ≡ root_of old i → content_word (set old place value) (root_of (set old place value) i) k ≡ value
  content_here root =
      rw root
      (content-kept old (set old place value) (root_of old i) (size_of old i) (pointers_stay i reached) k below
      ∙ word-stored old wf i (height_of (root_of old i)) k place value reached here stands)
