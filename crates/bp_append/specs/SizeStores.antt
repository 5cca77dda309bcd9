-- The store of a file's size after a preparation.
use Rattle.std.specs.Prelude.{◌≡◌, ℕ, suc, ◌+◌, ◌*◌, ◌<◌, List, Bool}
use Rattle.pm_epochs.specs.Crash.{commit}
use Rattle.bp_limits.specs.Limits.{inode_words, size_field}
use Rattle.bp_layout.specs.Inode.{ContentStandsAt, IsFile, size_of}
use Rattle.bp_layout.specs.Need.Change.{resizes}
use Rattle.bp_layout.specs.WordPaths.{WordPath}
use Rattle.pm_region.specs.Memory.{Memory, current_words, Adds}
use Rattle.bp_changes.specs.Performs.{PerformsThawed}
use Rattle.bp_append.specs.Prepared.{CanPrepare, PreparesWith}

-- A file grows to a size without given bytes: its tree is prepared, and then its size word, at a place, is stored alone
-- in its epoch.
pub record GrowsFile (in_snapshot : ℕ → Bool) (old middle new : Memory) (free_old free_new : List ℕ) (path : WordPath)
    (n size place : ℕ) : Type 0 where
  pub can : CanPrepare in_snapshot old free_old (suc n) path size size
  pub longer : size_of (current_words old) (suc n) < size
  pub is_file : IsFile (current_words old) (suc n)
  pub stands : ContentStandsAt (current_words old) 0 (inode_words * suc n + size_field) place
  pub bytes : List ℕ
  pub prepared : PreparesWith in_snapshot old middle free_old free_new (suc n) size size bytes
  pub stored : Adds middle new (commit place size)

-- A call that grows a file by a preparation and a store of its size is performed: it takes the blocks of its need, and
-- its last store is at the word of the cover.
abbrev pub GrownFilesArePerformed : Type 0
GrownFilesArePerformed = (in_snapshot : ℕ → Bool) (old middle new : Memory) (free_old free_new : List ℕ) (path : WordPath)
    (n size place : ℕ) → GrowsFile in_snapshot old middle new free_old free_new path n size place
    → PerformsThawed in_snapshot old new (resizes (suc n) size) (λ image after. size_of after (suc n) ≡ size)
