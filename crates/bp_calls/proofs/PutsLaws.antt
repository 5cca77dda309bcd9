-- An entry is put after the last one of a directory: what that asks of a preparation, and that it reads back.
use Rattle.std.proofs.Common.{◌≡◌, ℕ, Bool, zero, suc, ◌+◌, ◌*◌, ◌/◌, ◌%◌, ◌^◌, ◌<◌, ◌≤◌, List, length, refl, sym, ◌∙◌, arith, le_trans}
use Rattle.bp_limits.specs.declared.version.Version.TheVariants.{One}
use Rattle.bp_limits.proofs.Versions.{size_least}
use Rattle.bp_layout.specs.Formatted.{version_of}
use Rattle.std.proofs.lemmas.List.{append-nil}
use Rattle.bp_append.specs.Prepared.{CanPrepare, PreparesWith, need_for}
use Rattle.bp_append.proofs.FewNeeded.{few_needed}
use Rattle.bp_changes.proofs.ReachedOn.{reached_on}
use Rattle.bp_changes.proofs.SameMeaning.{well_formed-same}
use Rattle.bp_free.specs.Set.{Set, members}
use Rattle.bp_layout.proofs.FewLeaves.{few_entries}
use Rattle.bp_layout.specs.Paths.{Name}
use Rattle.bp_layout.specs.Inode.{kind_of, root_of, size_of}
use Rattle.bp_layout.specs.Reached.{IsReached}
use Rattle.bp_layout.specs.Tree.{byte, content_word, IsSound}
use Rattle.bp_append.specs.Given.{given}
use Rattle.bp_layout.specs.WellFormed.{IsWellFormed}
use Rattle.bp_layout.specs.WordPaths.{WordPath, inode_path}
use Rattle.bp_layout.specs.Words.{Image, height_of}
use Rattle.bp_limits.specs.Limits.{max_height}
use Rattle.bp_limits.specs.CallLimits.{greatest_size}
use Rattle.pm_region.specs.Memory.{Memory, current_words}
use Rattle.pm_region.proofs.MemoryLaws.{length-current_words}
use Rattle.bp_calls.specs.Entries.{AreEntryBytes, PutsPastEnd}
use Rattle.bp_calls.specs.Steps.{CanPutPastEnd, entering_room}
use Rattle.bp_calls.proofs.EnteredLaws.{directory_inode}
use Rattle.bp_calls.proofs.EntryBytes.{ino_there, length_there, ino_read, name_read_back}
use Rattle.bp_calls.proofs.TakenBlocks.{members_free, usable_members}
use Rattle.bp_append.proofs.StoresLaws.{room_past_end_one}

-- a directory is small, since it has no nulls
pub small_directory : (image : Image) → IsWellFormed image → (i : ℕ) → IsReached image i → kind_of image i ≡ 2 → size_of image i + 256 ≤ greatest_size One
small_directory image wf i reached kind =
    let few = few_entries image (root_of image i) (size_of image i) (wf.sound i reached) (wf.full_directories i reached kind) (omega (arith, wf.formatted.sized.at_least)) in
    omega (arith, few, wf.formatted.sized.at_most, wf.directory_sizes i reached kind)

-- an entry after the last one lies in one leaf
pub one_entry : (size : ℕ) → size % 256 ≡ 0 → size + 256 ≤ size / 4096 * 4096 + 4096
one_entry size whole = omega (arith, whole)

-- one entry needs few blocks
pub few_past_end : (image : Image) → IsWellFormed image → (i : ℕ) → IsReached image i → need_for image i (size_of image i) (size_of image i + 256) ≤ 18 + 3 * max_height
few_past_end image wf i reached =
    let few = few_needed image (root_of image i) (size_of image i) (size_of image i) (size_of image i + 256) 1 (omega arith) (omega arith) (omega arith) (wf.sound i reached).low in omega (arith, few)

module _ (old : Memory) (blocks : Set) (j : ℕ) (name : Name) where
  abbrev image : Image
  image = current_words old

  module _ {in_snapshot : ℕ → Bool} where
    prepares : (n : ℕ) → CanPutPastEnd in_snapshot old blocks (suc n) name → (path : WordPath) → path ≡ inode_path (height_of (root_of image 0)) (suc n) 1 →
        CanPrepare in_snapshot old (members blocks) (suc n) path (size_of image (suc n)) (size_of image (suc n) + 256)
    prepares n can path is = record {
      well = can.lacks.well_formed;
      reached = can.lacks.reached;
      leads = is ∙ sym (append-nil (inode_path (height_of (root_of image 0)) (suc n) 1));
      past_end = omega arith;
      order = omega arith;
      fits = le_trans (small_directory image can.lacks.well_formed (suc n) can.lacks.reached can.lacks.directory) (size_least (version_of image));
      by_words = λ by. refl;
      usable = usable_members image blocks can.inodes can.exact _ (omega (arith, length-current_words old));
      are_free = members_free image blocks can.inodes can.exact;
      loose = can.loose;
      enough = can.enough;
      room = go _ _ _ (room_past_end_one (size_of image (suc n)) (size_of image (suc n) + 256) max_height (one_entry (size_of image (suc n)) (can.lacks.well_formed.directory_sizes (suc n) can.lacks.reached can.lacks.directory))) can.room;
    }
      where
        go : (needed asked room : ℕ) → asked ≤ 1024 + max_height → entering_room needed ≤ room → 512 * needed + asked + 4 ≤ room
        go needed asked room a b = omega (arith, a, b)

    -- given the size that was read
    pub put_prepares : (i : ℕ) → CanPutPastEnd in_snapshot old blocks i name → (path : WordPath) → path ≡ inode_path (height_of (root_of image 0)) i 1 → (size : ℕ) → size ≡ size_of image i →
        CanPrepare in_snapshot old (members blocks) i path size (size + 256)
    put_prepares zero can path is size e = absurd (directory_inode image 0 can.lacks.directory refl)
    put_prepares (suc n) can path is size e = rw e (prepares n can path is)

-- the bytes of an entry are prepared after the last one of a directory, by the size that was read
pub record PreparesEntry (in_snapshot : ℕ → Bool) (old new : Memory) (blocks : Set) (rest : List ℕ) (i size j : ℕ) (name : Name) : Type 0 where
  pub bytes : List ℕ
  pub can : CanPutPastEnd in_snapshot old blocks i name
  pub sized : size ≡ size_of (current_words old) i
  pub entry : AreEntryBytes j name bytes
  pub prepared : PreparesWith in_snapshot old new (members blocks) rest i size (size + 256) bytes

module _ {in_snapshot : ℕ → Bool} {old new : Memory} {blocks : Set} {rest : List ℕ} {i size j : ℕ} {name : Name}
    (puts : PreparesEntry in_snapshot old new blocks rest i size j name) where
  open puts use {bytes, can, sized as e, entry, prepared}

  pub put_well_formed : IsWellFormed (current_words new)
  put_well_formed = well_formed-same (current_words old) (current_words new) can.lacks.well_formed prepared.ready.meaning

  pub put_reached : IsReached (current_words new) i
  put_reached = reached_on (current_words old) (current_words new) prepared.ready.meaning i can.lacks.reached

  pub put_sound : (root : ℕ) → root ≡ root_of (current_words new) i → IsSound (current_words new) root (size + 256)
  put_sound root is = rw is prepared.ready.sound

  laid : (o : ℕ) → size ≤ o → o < size + 256 → byte (current_words new) (root_of (current_words new) i) o ≡ given size bytes o
  laid o low high = prepared.ready.bytes_are o (omega (arith, low, e)) high

  entries : size % 256 ≡ 0
  entries = rw e (can.lacks.well_formed.directory_sizes i can.lacks.reached can.lacks.directory)

  module _ {root number count : ℕ} (is : root ≡ root_of (current_words new) i) (first : number ≡ content_word (current_words new) root (size / 8))
      (second : count ≡ content_word (current_words new) root (size / 8 + 1)) (small : number < 2 ^ 64) (also : count < 2 ^ 64) (low : j < 2 ^ 64) where
    first_is : content_word (current_words new) (root_of (current_words new) i) (size / 8) ≡ j
    first_is = ino_there (current_words new) (root_of (current_words new) i) size j name bytes entries entry laid low (rw (first, is) at small)

    second_is : content_word (current_words new) (root_of (current_words new) i) (size / 8 + 1) ≡ length name
    second_is = length_there (current_words new) (root_of (current_words new) i) size j name bytes entries entry laid
        (let short = can.lacks.form.short in omega (arith, short)) (rw (second, is) at also)

    pub put_number : number ≡ j
    put_number = first ∙ rw is first_is

    pub put_count : count ≡ length name
    put_count = second ∙ rw is second_is

    pub put_done : PutsPastEnd in_snapshot old new (members blocks) rest i j name
    put_done = record {
      bytes = bytes;
      prepared = rw e at prepared;
      ino = rw e at (ino_read (current_words new) (root_of (current_words new) i) size j name bytes entries entry laid first_is);
      spelled = rw e at
          (name_read_back (current_words new) (root_of (current_words new) i) size j name bytes entries entry laid can.lacks.form.short second_is);
    }
