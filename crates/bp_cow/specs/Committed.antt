-- The words of an image after a commit.
use Rattle.std.specs.Prelude.{◌≡◌, ◌≢◌, ◌⊎◌, ℕ, suc, ◌%◌, ◌<◌, ◌∷◌, length, Option, Some, unwrap_or}
use Rattle.bp_limits.specs.Limits.{block_size, block_words, super_root}
use Rattle.bp_layout.specs.Words.{Image, word, height_of}
use Rattle.bp_layout.specs.Inode.{root_of}
use Rattle.bp_changes.specs.Trail.{Trail, word_on, block_on, IsSkeleton, LeadsTo}
use Rattle.bp_changes.specs.Forest.{tree_trail}
use Rattle.bp_cow.specs.Job.{Job, value_upto, laid_on}

-- the new value of a touched word; for any other word its old value, with the bytes of the runs written over it
abbrev pub after_commit : Image → Job → Trail → ℕ
after_commit old job q = unwrap_or (value_upto job job.words q) (laid_on old job q)

-- the value of each content word after a commit, given by tree and word number
abbrev pub changes_of : Image → Job → ℕ → ℕ → Option ℕ
changes_of old job t k =
    Some (after_commit old job (tree_trail (height_of (word old super_root)) t (suc (height_of (root_of old t))) k))

-- The effect of a commit on the words of an image. `Pointer`: the pointers of the image. `Counts`: the content words
-- that count. `turned`: the pointers that lead to copies, in blocks to which no pointer led before. `after`: the value
-- of each word that counts and is not such a pointer. A word of a block that is new, below an old null pointer, counts
-- as 0 before.
pub record IsCommitted (old new : Image) (Pointer Counts turned : Trail → Type 0) (after : Trail → ℕ) : Type 0 where
  pub whole : length new ≡ length old
  pub superblock : (place : ℕ) → place < block_words → place ≢ super_root → word new place ≡ word old place
  pub skeleton : IsSkeleton new Pointer
  pub kept : (p : Trail) → Pointer p → (turned p → ⊥) → word_on new p ≡ word_on old p
  pub bits : (p : Trail) → Pointer p → word_on new p % block_size ≡ word_on old p % block_size
  pub fresh : (p : Trail) → Pointer p → turned p → (block_on new p ≢ 0) × (LeadsTo old Pointer (block_on new p) → ⊥)
  pub words : (p : Trail) (slot : ℕ) → Pointer p → slot < block_words → (turned (slot ∷ p) → ⊥)
      → Counts (slot ∷ p) → word_on new (slot ∷ p) ≡ after (slot ∷ p)
  pub decide : (p : Trail) → turned p ⊎ (turned p → ⊥)
  pub pointers : (p : Trail) → turned p → Pointer p
