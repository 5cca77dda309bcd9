-- A call that is performed keeps a volume's memory safe, by its marker: at every moment of a crash both trees mean what
-- they meant before it or after it.
use Rattle.std.proofs.Common.{◌≡◌, ℕ, ◌≤◌, [], ◌∷◌, length, Bool, refl, arith}
use Rattle.pm_epochs.specs.declared.event.Event.TheVariants.{CallEnd}
use Rattle.pm_region.specs.Memory.{Adds, Memory, current_words}
use Rattle.pm_region.specs.Safe.{IsSafe}
use Rattle.pm_region.proofs.MemoryLaws.{current_words-adds}
use Rattle.pm_region.proofs.SafeLaws.{safe_committed}
use Rattle.bp_layout.specs.Need.{Change, cover}
use Rattle.bp_layout.specs.Thaw.{full_need}
use Rattle.bp_layout.specs.Trees.{AreInSnapshot, snapshot_of}
use Rattle.bp_layout.specs.WordPaths.{address}
use Rattle.bp_layout.specs.Words.{Image}
use Rattle.bp_layout.specs.Whole.{IsFileSystem, SameFiles}
use Rattle.bp_layout.proofs.SameLaws.{same_self}
use Rattle.bp_changes.specs.Performs.{Performs, most_stores}
use Rattle.bp_volume.proofs.WholeLaws.{whole_commit, whole_equivalence, whole_file_system, whole_snapshot}

-- ---- a file system by itself

pub long_words : (image : Image) → IsFileSystem image → 6 ≤ length image
long_words image is =
    let whole = is.first.formatted.sized.whole in
    let some = is.first.formatted.sized.at_least in
    omega (arith, whole, some)

pub whole_self : (image : Image) → IsFileSystem image → SameFiles image image
whole_self image is = record {
  first = same_self image is.first;
  second = record { there = refl; same = λ there. same_self (snapshot_of image) (is.second there) };
}

-- what means the same as anything is one
pub whole_of_same : (image other : Image) → SameFiles image other → IsFileSystem image
whole_of_same image other same = record {
  first = same.first.old_well_formed;
  second = λ there. (same.second.same there).old_well_formed;
}

-- ---- calls

module _ (in_snapshot : ℕ → Bool) (old new : Memory) (change : Change) (Effect : Image → Image → Type 0) (done : Performs in_snapshot old new change Effect)
    (is : IsFileSystem (current_words old)) (snapshot_blocks : AreInSnapshot (current_words old) in_snapshot) where
  abbrev place : ℕ
  place = address (current_words new) (cover (current_words old) change)

  long : 4 ≤ length (current_words old)
  long = omega (arith, long_words (current_words old) is)

  pub file_system_after : IsFileSystem (current_words new)
  file_system_after = whole_file_system in_snapshot old new change Effect done long is snapshot_blocks

  -- and the blocks of its snapshot are those that they were
  pub snapshot_after : AreInSnapshot (current_words new) in_snapshot
  snapshot_after = whole_snapshot in_snapshot old new change Effect done long is snapshot_blocks

  module _ (ended : Memory) (ends : Adds new ended (CallEnd ∷ [])) where
    words : current_words ended ≡ current_words new
    words = current_words-adds new ended (CallEnd ∷ []) ends

    pub whole_safe : IsSafe SameFiles old → IsSafe SameFiles ended
    whole_safe safe =
        safe_committed SameFiles whole_equivalence place done.value 10 (most_stores (full_need (current_words old) in_snapshot change)) old new ended safe
        (whole_commit in_snapshot old new change Effect done long is snapshot_blocks) ends (rw words (whole_self (current_words new) file_system_after))
