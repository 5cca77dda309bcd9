-- The effect of a commit on content words, wherever the trees have their blocks afterwards.
use Rattle.std.specs.Prelude.{◌≡◌, ◌≢◌, ℕ, ◌+◌, ◌*◌, ◌/◌, ◌%◌, ◌≤◌, ◌<◌, max, Option, unwrap_or}
use Rattle.bp_layout.specs.Words.{Image, byte_of}
use Rattle.bp_layout.specs.Tree.{content_word, byte}
use Rattle.bp_layout.specs.Inode.{IsFile, root_of, size_of}
use Rattle.bp_layout.specs.Reached.{IsReached}
use Rattle.bp_changes.specs.KeepsTrees.{KeepsTrees}
use Rattle.bp_changes.specs.SameContent.{IsReadByWords}

-- the content words that get new values, by tree and word number
abbrev pub Changes : Type 0
Changes = ℕ → ℕ → Option ℕ

-- the value of a word afterwards: the new one if it has one, else the old one
abbrev pub changed_word : Changes → Image → ℕ → ℕ → ℕ
changed_word changes old t k = unwrap_or (changes t k) (content_word old (root_of old t) k)

-- Each content word has its value; in files each byte has. The root words of inodes are excluded, since they may point
-- to copies.
pub record Commits (old new : Image) (changes : Changes) : Type 0 where
  pub trees : KeepsTrees old new
  pub inode_bytes : size_of new 0 ≡ size_of old 0
  pub words : (t k : ℕ) → IsReached old t → IsReadByWords old t → 8 * k + 8 ≤ max (size_of old t) (size_of new t) →
      (t ≡ 0 → k % 8 ≢ 1) → content_word new (root_of new t) k ≡ changed_word changes old t k
  pub bytes : (i o : ℕ) → IsReached old i → IsFile old i → o < max (size_of old i) (size_of new i) →
      byte new (root_of new i) o ≡ byte_of (changed_word changes old i (o / 8)) (o % 8)

-- Below the old sizes the commit changes only these words (`Changed`).
pub record CommitsOnly (old new : Image) (changes : Changes) (Changed : ℕ → ℕ → Type 0) : Type 0 where
  pub commits : Commits old new changes
  pub kept : (t k : ℕ) → IsReached old t → 8 * k < size_of old t → (Changed t k → ⊥) →
      changed_word changes old t k ≡ content_word old (root_of old t) k
