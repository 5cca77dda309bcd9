-- When the names of a directory's entries are right.
use Rattle.std.specs.Prelude.{◌≡◌, ◌≢◌, ℕ, ◌+◌, ◌*◌, ◌/◌, ◌%◌, ◌<◌}
use Rattle.bp_limits.specs.Limits.{block_words, entry_size, entry_words}
use Rattle.bp_layout.specs.Words.{Image, height_of}
use Rattle.bp_layout.specs.Tree.{node}
use Rattle.bp_layout.specs.Directory.{ino_in, name_in}
use Rattle.bp_layout.specs.Paths.{IsName}
use Rattle.bp_spelling.specs.declared.fault.NameFault.{NameFault}
use Rattle.bp_spelling.specs.declared.fault.NameFault.TheVariants.{Form, Twice}

-- The entry lies below the size and refers to an inode.
pub record IsUsed (image : Image) (root size slot : ℕ) : Type 0 where
  pub live : slot < size / entry_size
  pub some : ino_in image root slot ≢ 0

-- The place of the first word of an entry in the region.
abbrev pub entry_place_in : Image → ℕ → ℕ → ℕ
entry_place_in image root slot =
    block_words * node image root (height_of root) ((entry_words * slot + 0) / block_words)
    + (entry_words * slot + 0) % block_words

-- Each name is a valid name, and no two are equal.
pub record AreNames (image : Image) (root size : ℕ) : Type 0 where
  pub forms : (slot : ℕ) → IsUsed image root size slot → IsName (name_in image root slot)
  pub differ : (slot other : ℕ) → IsUsed image root size slot → IsUsed image root size other
      → name_in image root slot ≡ name_in image root other → slot ≡ other

-- The fault of a directory's names: a name is not valid (the place is that of its length), or an entry has the name of
-- another one (the place is that of the entry).
pub data AreWrong (image : Image) (root size : ℕ) : NameFault → Type 0 where
  form : {slot : ℕ} → IsUsed image root size slot → ¬ IsName (name_in image root slot)
      → AreWrong image root size (Form (entry_place_in image root slot + 1))
  twice : {slot other : ℕ} → IsUsed image root size slot → IsUsed image root size other → slot ≢ other
      → name_in image root slot ≡ name_in image root other →
      AreWrong image root size (Twice (entry_place_in image root slot))
