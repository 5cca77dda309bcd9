-- When two trees have the same content.
use Rattle.std.specs.Prelude.{◌≡◌, ◌⊎◌, ℕ, ◌+◌, ◌*◌, ◌<◌, ◌≤◌}
use Rattle.bp_limits.specs.Limits.{greatest_height}
use Rattle.bp_layout.specs.Words.{Image, height_of}
use Rattle.bp_layout.specs.Formatted.{version_of}
use Rattle.bp_layout.specs.Tree.{content_word, byte, HasBlock, IsSound, IsFull}
use Rattle.bp_layout.specs.Inode.{IsDirectory}
use Rattle.bp_layout.specs.Reached.{IsLiveBlock}

-- the inode file and directories are read by words, files by bytes
abbrev pub IsReadByWords : Image → ℕ → Type 0
IsReadByWords image t = (t ≡ 0) ⊎ IsDirectory image t

-- Two trees have the same content below a size: each byte is equal and, if they are read by words, each word that lies
-- fully below the size.
pub record SameContent (ByWords : Type 0) (old new : Image) (size root other : ℕ) : Type 0 where
  pub words : ByWords → (k : ℕ) → 8 * k + 8 ≤ size → content_word new other k ≡ content_word old root k
  pub bytes : (o : ℕ) → o < size → byte new other o ≡ byte old root o

-- In this image the second root word, with this size, can replace the first: its tree is no higher than the version
-- allows and has the same content, in blocks of the first tree and free ones.
pub record ReadsAs (ByWords : Type 0) (image : Image) (size root other : ℕ) : Type 0 where
  pub sound : IsSound image other size
  pub low : 0 < size → height_of other ≤ greatest_height (version_of image)
  pub content : SameContent ByWords image image size root other
  pub blocks : (b : ℕ) → HasBlock image other size b → HasBlock image root size b ⊎ (IsLiveBlock image b → ⊥)
  pub full : IsFull image root size → IsFull image other size
