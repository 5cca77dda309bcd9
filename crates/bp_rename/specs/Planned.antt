-- What a rename touches, and the state once no block is left to thaw on the paths to it.
use Rattle.std.specs.Prelude.{◌≡◌, ℕ, ◌+◌, ◌^◌, ◌<◌, List}
use Rattle.arrayvec.specs.ArrayVec.{ArrayVec}
use Rattle.bp_calls.specs.ThawedFor.{IsThawedFor}
use Rattle.bp_changes.specs.Thawed.{AfterThaw, SameShape}
use Rattle.bp_changes.specs.Performs.{Performs, PerformsThawed}
use Rattle.bp_cow.specs.Cover.{LeadsInside, commit_cover, copied_count}
use Rattle.bp_cow.specs.Found.{AreWaysIn}
use Rattle.bp_cow.specs.Touched.{IsTouched, NoneBegins, all_paths}
use Rattle.bp_cow.specs.declared.covers.FoundWays.{FoundWays}
use Rattle.bp_cow.specs.declared.touched.Touched.{Touched}
use Rattle.bp_free.specs.declared.parts.Parts.{Parts}
use Rattle.bp_layout.specs.Inode.{size_of}
use Rattle.bp_layout.specs.Need.{need}
use Rattle.bp_layout.specs.Thaw.{cover_now}
use Rattle.bp_layout.specs.Words.{Image}
use Rattle.bp_limits.specs.Limits.{entry_size}
use Rattle.bp_changes.specs.Sets.{IsExact, in_snapshot_of}
use Rattle.pm_region.specs.Memory.{Memory, current_words}
use Rattle.bp_rename.specs.CanRename.{CanRename, change_of, moved_inode}
use Rattle.bp_rename.specs.RenamesEntry.{RenamesEntry}
use Rattle.bp_rename.specs.Respelled.{TouchesName}
use Rattle.bp_rename.specs.TouchesTwo.{AnyTree, AreTwo, OtherTree, TouchesTwo, ino_path, size_path}
use Rattle.bp_rename.specs.declared.moves.Move.{Move}

-- What each kind of rename touches: the words of the new name, or two words.
abbrev pub TouchesWithin : Image → Move → Touched → Type 0
TouchesWithin image move touched = TouchesName image move.from_dir move.from_slot move.name.now touched

abbrev pub TouchesOnto : Image → Move → ℕ → Touched → Type 0
TouchesOnto image move slot touched =
    TouchesTwo image AnyTree touched (ino_path image move.from_dir move.from_slot)
    (ino_path image move.to_dir slot) 0 (moved_inode image move)

abbrev pub TouchesInto : Image → Move → ℕ → Touched → Type 0
TouchesInto image move slot touched =
    TouchesTwo image AnyTree touched (ino_path image move.to_dir slot)
    (ino_path image move.from_dir move.from_slot) (moved_inode image move) 0

abbrev pub TouchesPastEnd : Image → Move → Touched → Type 0
TouchesPastEnd image move touched =
    TouchesTwo image (OtherTree move.to_dir) touched (size_path image move.to_dir)
    (ino_path image move.from_dir move.from_slot) (size_of image move.to_dir + entry_size) 0

-- The two touched words of each kind of rename, with their new values.
abbrev pub AreWordsOnto : Image → Move → ℕ → List (ArrayVec ℕ × ℕ) → Type 0
AreWordsOnto image move slot words = AreTwo words (ino_path image move.from_dir move.from_slot)
    (ino_path image move.to_dir slot) 0 (moved_inode image move)

abbrev pub AreWordsInto : Image → Move → ℕ → List (ArrayVec ℕ × ℕ) → Type 0
AreWordsInto image move slot words = AreTwo words (ino_path image move.to_dir slot)
    (ino_path image move.from_dir move.from_slot) (moved_inode image move) 0

abbrev pub AreWordsPastEnd : Image → Move → List (ArrayVec ℕ × ℕ) → Type 0
AreWordsPastEnd image move words = AreTwo words (size_path image move.to_dir)
    (ino_path image move.from_dir move.from_slot) (size_of image move.to_dir + entry_size) 0

-- The cover of the touched words is that of the rename. The paths to them lead inside the image, and still do after a
-- thaw.
pub record IsPlanned (image : Image) (move : Move) (touched : Touched) : Type 0 where
  pub shape : IsTouched touched
  pub apart : NoneBegins (all_paths touched)
  pub inside : (after : Image) → SameShape image after → LeadsInside after touched
  pub cover : commit_cover image touched ≡ cover_now image (change_of move)

-- The copied blocks and `besides` further blocks are together as many as the rename needs.
pub record Needs (image : Image) (move : Move) (touched : Touched) (besides : ℕ) : Type 0 where
  pub all : besides + copied_count image touched ≡ need image (change_of move)
  pub few : besides + copied_count image touched < 2 ^ 31

-- After the thaw the name may still move, with the blocks and the log room that this needs. The paths to the touched
-- words are found. The move, together with the thaw before it, is the whole rename.
pub record IsReadyToRename {R : Type 0} (memory : R → Memory) (move : Move) (touched : Touched) (old new : Parts R)
    (found : FoundWays) : Type 0 where
  pub shape : SameShape (current_words (memory old.region)) (current_words (memory new.region))
  pub can : CanRename (current_words (memory new.region)) move
  pub exact : IsExact (current_words (memory new.region)) new
  pub snapshot_blocks : new.snapshot_blocks ≡ old.snapshot_blocks
  pub thawed : IsThawedFor (in_snapshot_of new) (memory new.region) new.free_blocks (change_of move)
  pub ways : AreWaysIn (current_words (memory new.region)) touched found
  pub performs : (last : Parts R) →
      PerformsThawed (in_snapshot_of new) (memory new.region) (memory last.region) (change_of move) (RenamesEntry move) →
      Performs (in_snapshot_of old) (memory old.region) (memory last.region) (change_of move) (AfterThaw (RenamesEntry move))
