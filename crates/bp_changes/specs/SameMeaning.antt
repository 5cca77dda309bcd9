-- When a second image means the same as the first, in terms of the trees that the first one reaches: by inodes, not by
-- paths.
use Rattle.std.specs.Prelude.{◌≡◌, ℕ, suc, ◌%◌, ◌<◌, ◌≤◌}
use Rattle.bp_limits.specs.Limits.{block_size, entry_words}
use Rattle.bp_layout.specs.Words.{Image}
use Rattle.bp_layout.specs.Tree.{byte}
use Rattle.bp_layout.specs.Inode.{IsDirectory, IsFile, attributes_of, kind_of, root_of, size_of}
use Rattle.bp_layout.specs.Directory.{EntryNames, ino_at, entry_word, entry_count}
use Rattle.bp_layout.specs.Reached.{IsReached}
use Rattle.bp_changes.specs.KeepsTrees.{KeepsTrees}

pub record SameMeaning (old new : Image) : Type 0 where
  pub trees : KeepsTrees old new
  pub kind : (t : ℕ) → IsReached old t → kind_of new t ≡ kind_of old t
  pub attributes : (t : ℕ) → IsReached old t → attributes_of new t ≡ attributes_of old t
  pub size : (i : ℕ) → IsReached old (suc i) → size_of new (suc i) ≡ size_of old (suc i)
  -- the inode file may grow
  pub inode_blocks : size_of new 0 % block_size ≡ 0
  pub inodes : size_of old 0 ≤ size_of new 0
  pub ino : (i s : ℕ) → IsReached old i → IsDirectory old i → s < entry_count old i →
      ino_at new i s ≡ ino_at old i s
  pub entry : (i s j f : ℕ) → IsReached old i → EntryNames old i s j → f < entry_words →
      entry_word new i s f ≡ entry_word old i s f
  pub bytes : (i o : ℕ) → IsReached old i → IsFile old i → o < size_of old i →
      byte new (root_of new i) o ≡ byte old (root_of old i) o
