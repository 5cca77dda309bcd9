-- What may be written into a file before a thaw may be written after it, and so with a size that it is to get.
use Rattle.std.proofs.Common.{◌≡◌, ◌+◌, ◌<◌, ◌≤◌, [], ◌∷◌, ℕ, List, length, sym, ◌∙◌, subst}
use Rattle.bp_calls.specs.CanGrow.{CanGrowFile}
use Rattle.bp_calls.specs.CanWrite.{CanWrite, CanWriteInto, CanWriteThawed}
use Rattle.bp_calls.specs.Mounted.{IsMounted}
use Rattle.bp_calls.specs.Space.{HasRoomThawed, HasRoomWhereFree}
use Rattle.bp_calls.proofs.NothingInSnapshot.{room_at_once}
use Rattle.bp_calls.specs.ThawsFor.{ThawsFor}
use Rattle.bp_calls.specs.TouchedBelow.{IsRunFor, WritesBelow}
use Rattle.bp_calls.proofs.ThawedParts.{mounted_thawed, thawed_clear}
use Rattle.bp_changes.proofs.Formatted.{version_stays}
use Rattle.bp_changes.proofs.ReachedOn.{reached_on}
use Rattle.bp_cow.specs.declared.touched.Run.{Run}
use Rattle.bp_cow.specs.declared.touched.Touched.{Touched}
use Rattle.bp_free.specs.declared.parts.Parts.{Parts}
use Rattle.bp_layout.specs.Formatted.{version_of}
use Rattle.bp_layout.specs.Inode.{IsFile, size_of}
use Rattle.bp_layout.specs.Need.Change.{resizes, writes}
use Rattle.bp_layout.specs.Reached.{IsReached}
use Rattle.bp_layout.specs.Thaw.{targets, thawed}
use Rattle.bp_layout.specs.Words.{Image}
use Rattle.bp_limits.specs.CallLimits.{greatest_size}
use Rattle.bp_changes.specs.Sets.{in_snapshot_of}
use Rattle.pm_region.specs.Memory.{Memory, current_words}

-- mounted parts have what is asked of the image and the sets
pub write_mounted : {R : Type 0} (image : Image) (parts : Parts R) (i offset : ℕ) (bytes : List ℕ) → IsMounted image parts → CanWrite image i offset bytes → CanWriteInto (in_snapshot_of parts) image parts.free_blocks parts.free_inodes i offset bytes
write_mounted image parts i offset bytes mounted can = record { well_formed = mounted.well_formed; exact = mounted.exact.sets; can = can }

-- a write below the size of a file, over the parts of a file system
abbrev pub WritesIn : {R : Type 0} → (R → Memory) → Parts R → ℕ → ℕ → List ℕ → Touched → Type 0
WritesIn memory parts = WritesBelow (in_snapshot_of parts) (memory parts.region) parts.free_blocks parts.free_inodes

-- it is one where they are mounted, and the run for the bytes is all that is touched
pub writes_in : {R : Type 0} (memory : R → Memory) (parts : Parts R) (i offset : ℕ) (bytes : List ℕ) (touched : Touched) (run : Run)
    → IsMounted (current_words (memory parts.region)) parts → CanWrite (current_words (memory parts.region)) i offset bytes
    → offset + length bytes ≤ size_of (current_words (memory parts.region)) i → touched.runs.now ≡ run ∷ [] → touched.words.now ≡ []
    → touched.trees.now ≡ [] → IsRunFor (current_words (memory parts.region)) i offset bytes run → WritesIn memory parts i offset bytes touched
writes_in memory parts i offset bytes touched run mounted can below one no_words no_trees is = record {
  into = write_mounted (current_words (memory parts.region)) parts i offset bytes mounted can;
  below = below;
  touches = record { run = run; one = one; no_words = no_words; no_trees = no_trees; is = is };
}

-- where no block is in the snapshot it may be written at once
pub write_at_once : {R : Type 0} (memory : R → Memory) (parts : Parts R) (i offset : ℕ) (bytes : List ℕ) → IsMounted (current_words (memory parts.region)) parts → CanWrite (current_words (memory parts.region)) i offset bytes →
    thawed (current_words (memory parts.region)) (in_snapshot_of parts) (writes i offset (length bytes)) ≡ [] →
    HasRoomWhereFree (memory parts.region) (in_snapshot_of parts) parts.free_blocks (writes i offset (length bytes)) → CanWriteThawed (in_snapshot_of parts) (memory parts.region) parts.free_blocks parts.free_inodes i offset bytes
write_at_once memory parts i offset bytes mounted can clear room = record {
  into = write_mounted (current_words (memory parts.region)) parts i offset bytes mounted can;
  clear = clear;
  room = room_at_once memory (writes i offset (length bytes)) parts mounted clear room;
}

module _ {R : Type 0} (memory : R → Memory) (old new : Parts R) (mounted : IsMounted (current_words (memory old.region)) old) where
  abbrev image : Image
  image = current_words (memory old.region)

  abbrev after : Image
  after = current_words (memory new.region)

  -- bytes
  pub write_after_thaw : (i offset : ℕ) (bytes : List ℕ) → CanWrite (current_words (memory old.region)) i offset bytes → ThawsFor memory (targets (current_words (memory old.region)) (writes i offset (length bytes))) old new →
      HasRoomThawed (memory new.region) new.free_blocks (writes i offset (length bytes)) → CanWriteThawed (in_snapshot_of new) (memory new.region) new.free_blocks new.free_inodes i offset bytes
  write_after_thaw i offset bytes can done room =
      let there = mounted_thawed memory (writes i offset (length bytes)) old new mounted can.reached done in
      let still : CanWrite (current_words (memory new.region)) i offset bytes = record {
        reached = reached_on image after done.thaws.shape.meaning i can.reached;
        file = done.thaws.shape.meaning.kind i can.reached ∙ can.file;
        some = can.some;
        short = can.short;
        fits = subst (λ v. offset + length bytes ≤ greatest_size v) (sym (version_stays image after done.thaws.shape.meaning.trees.has_magic)) can.fits;
      } in
      record {
        into = write_mounted (current_words (memory new.region)) new i offset bytes there still;
        clear = thawed_clear memory (writes i offset (length bytes)) old new mounted can.reached done;
        room = room;
      }

  -- a greater size
  pub grow_after_thaw : (i size : ℕ) → (reached : IsReached (current_words (memory old.region)) i) → IsFile (current_words (memory old.region)) i → size_of (current_words (memory old.region)) i < size →
      size ≤ greatest_size (version_of (current_words (memory old.region))) → ThawsFor memory (targets (current_words (memory old.region)) (resizes i size)) old new →
      HasRoomThawed (memory new.region) new.free_blocks (resizes i size) → CanGrowFile (in_snapshot_of new) (memory new.region) new.free_blocks new.free_inodes i size
  grow_after_thaw i size reached file longer fits done room =
      let there = mounted_thawed memory (resizes i size) old new mounted reached done in
      record {
        well_formed = there.well_formed;
        exact = there.exact.sets;
        reached = reached_on image after done.thaws.shape.meaning i reached;
        file = done.thaws.shape.meaning.kind i reached ∙ file;
        longer = subst (λ s. s < size) (sym (done.thaws.shape.sizes i reached)) longer;
        fits = subst (λ v. size ≤ greatest_size v) (sym (version_stays image after done.thaws.shape.meaning.trees.has_magic)) fits;
        clear = thawed_clear memory (resizes i size) old new mounted reached done;
        room = room;
      }
