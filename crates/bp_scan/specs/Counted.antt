-- The totals that a scan has counted so far, inode by inode.
use Rattle.std.specs.Prelude.{◌≡◌, ℕ, ◌+◌, ◌-◌, ◌*◌, ◌^◌, ◌<◌, ◌≤◌, List, filter, not}
use Rattle.std.specs.List.{range_with_len, sum_by}
use Rattle.bp_free.specs.Set.{Set, has}
use Rattle.bp_limits.specs.Limits.{file_kind, directory_kind}
use Rattle.bp_layout.specs.Words.{Image}
use Rattle.bp_layout.specs.Totals.{of_kind, file_bytes, one_if, bytes_if}
use Rattle.bp_layout.specs.declared.totals.Totals.{Totals}

-- The totals when nothing was counted.
abbrev pub no_totals : Totals
no_totals = record { files = 0; dirs = 0; bytes = 0; live = 0 }

-- The inodes from 1 up to `to`, excluding `to`, that are not free, in ascending order.
abbrev pub used_below : Set → ℕ → List ℕ
used_below free to = filter (λ i. not (has free i)) (range_with_len 1 (to - 1))

-- The totals have the files, the directories and the bytes of the used inodes below `to`, and the bytes are bounded.
pub record HasCounted (image : Image) (free : Set) (to : ℕ) (totals : Totals) : Type 0 where
  pub files : totals.files ≡ sum_by (of_kind image file_kind) (used_below free to)
  pub dirs : totals.dirs ≡ sum_by (of_kind image directory_kind) (used_below free to)
  pub bytes : totals.bytes ≡ sum_by (file_bytes image) (used_below free to)
  pub few_bytes : totals.bytes ≤ 2 ^ 64 * totals.files

-- The totals are small enough for one more inode to be counted.
pub record IsCountable (totals : Totals) : Type 0 where
  pub few_files : totals.files < 2 ^ 32
  pub few_dirs : totals.dirs < 2 ^ 32
  pub few_bytes : totals.bytes ≤ 2 ^ 64 * totals.files

-- The new totals are the old ones and one more inode of this kind and size.
pub record CountsOne (kind size : ℕ) (old new : Totals) : Type 0 where
  pub files : new.files ≡ old.files + one_if kind file_kind
  pub dirs : new.dirs ≡ old.dirs + one_if kind directory_kind
  pub bytes : new.bytes ≡ old.bytes + bytes_if kind size
  pub fits : bytes_if kind size ≤ 2 ^ 64 * one_if kind file_kind
