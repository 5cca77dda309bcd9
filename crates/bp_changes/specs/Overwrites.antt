-- Bytes written over those of files, below their sizes.
use Rattle.std.specs.Prelude.{◌≡◌, ℕ, ◌<◌, List, [], ◌∷◌, ◌==◌, if◌then◌else◌}
use Rattle.bp_limits.specs.Limits.{entry_words}
use Rattle.bp_layout.specs.Words.{Image}
use Rattle.bp_layout.specs.Tree.{byte}
use Rattle.bp_layout.specs.Inode.{IsDirectory, IsFile, attributes_of, kind_of, root_of, size_of}
use Rattle.bp_layout.specs.Directory.{EntryNames, ino_at, entry_word, entry_count}
use Rattle.bp_layout.specs.Reached.{IsReached}
use Rattle.bp_changes.specs.KeepsTrees.{KeepsTrees}
use Rattle.pm_words.specs.Overlay.{byte_over}

-- bytes for a file, from an offset on
pub record Patch : Type 0 where
  pub inode : ℕ
  pub offset : ℕ
  pub bytes : List ℕ

-- byte o of file i with a patch written over it, given the old byte
abbrev pub patched_by : Patch → ℕ → ℕ → ℕ → ℕ
patched_by patch i o had = if patch.inode == i then byte_over patch.offset patch.bytes o had else had

-- byte o of file i with several patches written over it, one after the other; if two give the same byte, the later one
-- applies
abbrev pub patched : List Patch → ℕ → ℕ → ℕ → ℕ
patched [] i o had = had
patched (patch ∷ patches) i o had = patched patches i o (patched_by patch i o had)

-- The bytes of files are those before with the patches written over them. Nothing else changes, and neither do the
-- sizes.
pub record OverwritesFiles (patches : List Patch) (old new : Image) : Type 0 where
  pub trees : KeepsTrees old new
  pub kind : (t : ℕ) → IsReached old t → kind_of new t ≡ kind_of old t
  pub attributes : (t : ℕ) → IsReached old t → attributes_of new t ≡ attributes_of old t
  pub size : (t : ℕ) → IsReached old t → size_of new t ≡ size_of old t
  pub ino : (i s : ℕ) → IsReached old i → IsDirectory old i → s < entry_count old i →
      ino_at new i s ≡ ino_at old i s
  pub entry : (i s j f : ℕ) → IsReached old i → EntryNames old i s j → f < entry_words →
      entry_word new i s f ≡ entry_word old i s f
  pub bytes : (i o : ℕ) → IsReached old i → IsFile old i → o < size_of old i →
      byte new (root_of new i) o ≡ patched patches i o (byte old (root_of old i) o)
