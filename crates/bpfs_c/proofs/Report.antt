-- What is stated of a read, and of the number of an inode.
use Rattle.std.proofs.Common.{◌≡◌, ◌≤◌, ℕ, List, Result, Ok, Err, IfErr, IfOk, OnErr, drop, inl, inr, length, take, refl, sym, subst}
use Rattle.bp_plain.specs.declared.errors.FsError.{FsError}
use Rattle.bp_plain.specs.Seen.{refusal_of}
use Rattle.bp_roles.specs.Mounted.{served_words}
use Rattle.bp_volume.specs.Queries.{StopsWalk}
use Rattle.bp_volume.specs.Seen.{read_answer_of}
use Rattle.bp_fs.specs.Step.{PathFinds}
use Rattle.bpfs_c.specs.Codes.{IsRead, ReportsCount, ReportsInode}
use Rattle.pm_region.specs.Memory.{Memory}

pub read_reported : (ending : Result ℕ FsError) (into new : List ℕ) (count code new_count : ℕ) → ReportsCount ending count code new_count
    → IfOk ending (λ n. n ≤ length new) → IfOk ending (λ n. drop n new ≡ drop n into) → OnErr ending (new ≡ into)
    → IsRead (read_answer_of ending new) into count code new new_count
read_reported (Ok n) into new count code new_count counted fits rest unread =
    subst (λ k. (code ≡ 0) × (take k new ≡ take n new) × (k ≤ length new) × (drop k new ≡ drop k into)) (sym counted.1)
    (counted.0, refl, fits, rest)
read_reported (Err error) into new count code new_count counted fits rest unread = (counted.0, unread, counted.1)

pub inode_reported : (volume : Memory) (path : List ℕ) (ending : Result ℕ FsError) (old code new : ℕ) → ReportsCount ending old code new
    → IfOk ending (PathFinds (served_words volume) path) → IfErr ending (λ e. StopsWalk (served_words volume) path (refusal_of e))
    → ReportsInode volume path old code new
inode_reported volume path (Ok ino) old code new counted found stopped = inl (counted.0, subst (PathFinds (served_words volume) path) (sym counted.1) found)
inode_reported volume path (Err error) old code new counted found stopped = inr (refusal_of error, stopped, counted.0, counted.1)
