-- A state with copies of blocks, one for each, in which any of the pointers to the topmost copies may be stored.
use Rattle.std.specs.Prelude.{◌≡◌, ◌≢◌, ℕ, ◌+◌, ◌*◌, ◌<◌, [], ◌∷◌, length, Bool, true, false, ◌&&◌, Option, None, Some, is_some, if◌then◌else◌}
use Rattle.bp_limits.specs.Limits.{block_words, super_root}
use Rattle.bp_layout.specs.Words.{Image, word, block_count}
use Rattle.bp_changes.specs.Trail.{Trail, word_on, block_on, place_on, LeadsTo}
use Rattle.bp_cow.specs.Copies.{pointing_to}

-- the pointers whose blocks are copied, and the copies: different blocks to which no pointer leads
pub record AreCopies (old : Image) (Pointer : Trail → Type 0) (copy : Trail → Option ℕ) : Type 0 where
  pub pointer : (p : Trail) (c : ℕ) → copy p ≡ Some c → Pointer p
  pub present : (p : Trail) (c : ℕ) → copy p ≡ Some c → block_on old p ≢ 0
  pub not_null : (p : Trail) (c : ℕ) → copy p ≡ Some c → c ≢ 0
  pub in_range : (p : Trail) (c : ℕ) → copy p ≡ Some c → c < block_count old
  pub unled : (p : Trail) (c : ℕ) → copy p ≡ Some c → LeadsTo old Pointer c → ⊥
  pub once : (p q : Trail) (c : ℕ) → copy p ≡ Some c → copy q ≡ Some c → p ≡ q

-- a word of a copy: a pointer to the next copy, or the old word
abbrev pub copied_word : Image → Option ℕ → Trail → ℕ
copied_word old None q = word_on old q
copied_word old (Some d) q = pointing_to (word_on old q) d

-- a pointer to a copied block that is not itself in a copied block
abbrev pub is_top : (Trail → Option ℕ) → Trail → Bool
is_top copy [] = is_some (copy [])
is_top copy (slot ∷ p) = is_some (copy (slot ∷ p)) && (if is_some (copy p) then false else true)

-- the copies are made, and some of the pointers to topmost copies are stored
pub record AreThawing (old now : Image) (Pointer : Trail → Type 0) (copy : Trail → Option ℕ) (stored : Trail → Bool)
    : Type 0 where
  pub whole : length now ≡ length old
  pub superblock : (place : ℕ) → place < block_words → place ≢ super_root → word now place ≡ word old place
  pub copied : (p : Trail) (c slot : ℕ) → copy p ≡ Some c → slot < block_words
      → word now (block_words * c + slot) ≡ copied_word old (copy (slot ∷ p)) (slot ∷ p)
  pub links : (p : Trail) (c : ℕ) → is_top copy p ≡ true → copy p ≡ Some c → stored p ≡ true
      → word now (place_on old p) ≡ pointing_to (word_on old p) c
  pub unstored : (p : Trail) → Pointer p → is_top copy p ≡ true → stored p ≡ false
      → word now (place_on old p) ≡ word old (place_on old p)
  pub root : is_top copy [] ≡ false → word now super_root ≡ word old super_root
  pub others : (p : Trail) (slot : ℕ) → Pointer p → block_on old p ≢ 0 → slot < block_words
      → is_top copy (slot ∷ p) ≡ false → word now (place_on old (slot ∷ p)) ≡ word old (place_on old (slot ∷ p))

-- the pointers that lead to copies now
abbrev pub is_turned : (Trail → Option ℕ) → (Trail → Bool) → Trail → Bool
is_turned copy stored [] = is_some (copy []) && stored []
is_turned copy stored (slot ∷ p) =
    is_some (copy (slot ∷ p)) && (if is_some (copy p) then is_turned copy stored p else stored (slot ∷ p))
