-- What every change of files' bytes keeps: the directories, and so every path.
use Rattle.std.specs.Prelude.{◌≡◌, ℕ, ◌<◌}
use Rattle.bp_limits.specs.Limits.{entry_words}
use Rattle.bp_layout.specs.Words.{Image}
use Rattle.bp_layout.specs.Inode.{IsDirectory, kind_of, size_of}
use Rattle.bp_layout.specs.Directory.{EntryNames, ino_at, entry_word, entry_count}
use Rattle.bp_layout.specs.Reached.{IsReached}
use Rattle.bp_changes.specs.KeepsTrees.{KeepsTrees}

-- The inodes have the same kinds, and each directory has the same entries. Of files, this states only that their trees
-- are sound.
pub record KeepsDirectories (old new : Image) : Type 0 where
  pub trees : KeepsTrees old new
  pub kind : (t : ℕ) → IsReached old t → kind_of new t ≡ kind_of old t
  pub inode_bytes : size_of new 0 ≡ size_of old 0
  pub size : (i : ℕ) → IsReached old i → IsDirectory old i → size_of new i ≡ size_of old i
  pub ino : (i s : ℕ) → IsReached old i → IsDirectory old i → s < entry_count old i →
      ino_at new i s ≡ ino_at old i s
  pub entry : (i s j f : ℕ) → IsReached old i → EntryNames old i s j → f < entry_words →
      entry_word new i s f ≡ entry_word old i s f
