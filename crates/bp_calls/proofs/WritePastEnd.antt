-- A write after the size of a file: what it asks of a preparation, and that it is performed.
use Rattle.std.proofs.Common.{◌≡◌, ◌⊎◌, ℕ, zero, suc, ◌+◌, ◌-◌, ◌*◌, ◌<◌, ◌≤◌, max, List, length, slice_index, refl, sym, ◌∙◌, ap, ap₂, subst, inl, inr, arith, lt-ltb, le-ltb, le-leb, Bool, ◌∷◌, []}
use Rattle.bp_limits.specs.Limits.{max_height}
use Rattle.std.proofs.lemmas.Bool.{cases_lt, lt-leb}
use Rattle.std.proofs.lemmas.List.{append-nil, length-append}
use Rattle.bp_free.specs.Set.{Set, members}
use Rattle.bp_layout.specs.Same.{Same}
use Rattle.bp_layout.specs.Inode.{kind_of, root_of, size_of, ContentStandsAt}
use Rattle.bp_layout.specs.Reached.{IsReached}
use Rattle.bp_layout.specs.WellFormed.{IsWellFormed}
use Rattle.bp_layout.specs.Need.{need}
use Rattle.bp_layout.specs.Need.Change.{writes}
use Rattle.bp_layout.specs.Nodes.{nodes_for}
use Rattle.bp_layout.specs.Tree.{byte}
use Rattle.bp_layout.specs.WordPaths.{WordPath, inode_path}
use Rattle.bp_layout.specs.Words.{Image, height_of}
use Rattle.pm_epochs.specs.Crash.{commit}
use Rattle.pm_region.specs.Memory.{Memory, current_words, room_in, Adds}
use Rattle.pm_region.proofs.MemoryLaws.{base-adds, length-current_words}
use Rattle.pm_region.proofs.SafeLaws.{room_after_quiet}
use Rattle.bp_changes.specs.Performs.{PerformsThawed, room_for}
use Rattle.bp_append.specs.Stores.{prep_stores}
use Rattle.bp_append.proofs.LaidLaws.{given-before, given-there}
use Rattle.bp_append.proofs.StoresLaws.{past_end_whole, room_past_end_whole}
use Rattle.bp_append.specs.Prepared.{HasLooseEnd, CanPrepare, PreparesWith, need_for}
use Rattle.bp_append.proofs.GrowsTree.{OnlyGrows, GrowsTree, only_need, grown_size, grown_performs}
use Rattle.bp_append.proofs.GrownEffect.{grown_changes, grown_bytes, grown_live, grown_stays, grown_taken}
use Rattle.bp_calls.specs.CanWrite.{CanWriteThawed}
use Rattle.bp_changes.specs.Sets.{AreExact}
use Rattle.bp_calls.specs.WritesFile.{WritesFile, written_byte}
use Rattle.bp_append.proofs.EndWays.{loose_end}
use Rattle.bp_calls.proofs.TakenBlocks.{exact_taken, members_free, usable_members}
use Rattle.bp_layout.specs.Thaw.{cover_now, end_path_now, root_path_now, targets}
use Rattle.bp_layout.specs.Members.{Has}
use Rattle.bp_layout.proofs.ThawLaws.{loose-on}
use Rattle.bp_calls.proofs.PreparedRoom.{preparation_room}

-- ---- one byte

-- after the new bytes the old ones stay
pub written_past : (offset : ℕ) (bytes : List ℕ) (size : ℕ) (old : ℕ → ℕ) (o : ℕ) → offset + length bytes ≤ o → o < size → written_byte offset bytes size old o ≡ old o
written_past offset bytes size old o past below = rw (le-leb offset o (omega (arith, past)), le-ltb o (offset + length bytes) past, lt-ltb o size below) refl

module _ (offset : ℕ) (bytes : List ℕ) (size : ℕ) (old : ℕ → ℕ) (o : ℕ) where
  pub written_inside : offset ≤ o → o < offset + length bytes → written_byte offset bytes size old o ≡ slice_index bytes (o - offset)
  written_inside low high = rw (le-leb offset o low, lt-ltb o (offset + length bytes) high) refl

  pub written_before : o < offset → o < size → written_byte offset bytes size old o ≡ old o
  written_before low below = rw (lt-leb offset o low, lt-ltb o size below) refl

  pub written_between : o < offset → size ≤ o → written_byte offset bytes size old o ≡ 0
  written_between low past = rw (lt-leb offset o low, le-ltb o size past) refl

-- ---- what the change touches

only_grows : (image : Image) (i offset len : ℕ) → size_of image i ≤ offset → 1 ≤ len → OnlyGrows image (writes i offset len) i offset (offset + len)
only_grows image i offset len past_end some = record {
  prepares =
      let top : max offset (size_of image i) ≡ offset = omega (arith, past_end) in
      rw (lt-ltb (size_of image i) (offset + len) (omega (arith, past_end, some)), top) refl;
  no_inodes = refl;
  touches = rw (le-ltb offset (size_of image i) past_end, lt-ltb (size_of image i) (offset + len) (omega (arith, past_end, some))) refl;
}

-- as many blocks it takes, stated by the root word and the size of its tree
pub past_end_needs : (image : Image) → IsWellFormed image → (i offset len root size : ℕ) → IsReached image i → kind_of image i ≡ 1 → size_of image i ≤ offset → 1 ≤ len → root ≡ root_of image i → size ≡ size_of image i →
    need image (writes i offset len) ≡ length (nodes_for image root size offset (offset + len))
past_end_needs image wf zero offset len root size reached file past_end some one two = absurd (omega (arith, file))
past_end_needs image wf (suc n) offset len root size reached file past_end some one two =
    only_need image (writes (suc n) offset len) n offset (offset + len) wf reached (only_grows image (suc n) offset len past_end some) ∙ sym (ap₂ (λ r s. length (nodes_for image r s offset (offset + len))) one two)

-- ---- the call

module _ {in_snapshot : ℕ → Bool} (old : Memory) (blocks inodes : Set) (n offset : ℕ) (bytes : List ℕ) (can : CanWriteThawed in_snapshot old blocks inodes (suc n) offset bytes) (past_end : size_of (current_words old) (suc n) ≤ offset) where
  abbrev image : Image
  image = current_words old

  abbrev end : ℕ
  end = offset + length bytes

  abbrev need_here : ℕ
  need_here = length (nodes_for image (root_of image (suc n)) (size_of image (suc n)) offset end)

  pub past_end_need : need image (writes (suc n) offset (length bytes)) ≡ need_here
  past_end_need = only_need image (writes (suc n) offset (length bytes)) n offset end can.into.well_formed can.into.can.reached (only_grows image (suc n) offset (length bytes) past_end can.into.can.some)

  -- the ways to the end of the file are loose
  ends : targets image (writes (suc n) offset (length bytes)) ≡ cover_now image (writes (suc n) offset (length bytes)) ∷ root_path_now image (suc n) ∷ end_path_now image (suc n) ∷ []
  ends = rw (lt-ltb (size_of image (suc n)) end (let some = can.into.can.some in omega (arith, past_end, some))) refl

  end_loose : HasLooseEnd image in_snapshot (suc n)
  end_loose =
      loose_end image can.into.well_formed in_snapshot (suc n) can.into.can.reached
      (loose-on image in_snapshot (targets image (writes (suc n) offset (length bytes))) can.clear (end_path_now image (suc n)) (subst (λ ps. Has ps (end_path_now image (suc n))) (sym ends) (inr (inr (inl refl)))) (length (root_path_now image (suc n)) - 1))

  pub past_end_prepares : need_here ≤ length (members blocks) → (path : WordPath) → path ≡ inode_path (height_of (root_of image 0)) (suc n) 1 → CanPrepare in_snapshot old (members blocks) (suc n) path offset end
  past_end_prepares enough path is = record {
    well = can.into.well_formed;
    reached = can.into.can.reached;
    leads = is ∙ sym (append-nil (inode_path (height_of (root_of image 0)) (suc n) 1));
    past_end = past_end;
    order = omega arith;
    fits = can.into.can.fits;
    by_words = λ by. elim by [ inl e ↦ omega (arith, e) | inr two ↦ omega (arith, two, can.into.can.file) ];
    usable = usable_members image blocks inodes can.into.exact _ (omega (arith, length-current_words old));
    are_free = members_free image blocks inodes can.into.exact;
    loose = end_loose;
    enough = enough;
    room = let room = can.room (omega (arith, past_end_need, enough)) in
        preparation_room _ _ _ _ past_end_need (room_past_end_whole (size_of image (suc n)) offset end max_height) room;
  }

  module _ (middle new : Memory) (after : Set) (path : WordPath) (place : ℕ) (prepares : CanPrepare in_snapshot old (members blocks) (suc n) path offset end) (stands : ContentStandsAt image 0 (8 * suc n + 2) place)
      (prepared : PreparesWith in_snapshot old middle (members blocks) (members after) (suc n) offset end bytes) (stored : Adds middle new (commit place end)) where
    only : OnlyGrows image (writes (suc n) offset (length bytes)) (suc n) offset end
    only = only_grows image (suc n) offset (length bytes) past_end can.into.can.some

    grows : GrowsTree in_snapshot old middle new (members blocks) (members after) path n offset end place bytes
    grows = record { can = prepares; is_file = can.into.can.file; stands = stands; prepared = prepared; stored = stored }

    size_is : size_of (current_words new) (suc n) ≡ end
    size_is = grown_size in_snapshot old middle new (members blocks) (members after) path n offset end place bytes grows (writes (suc n) offset (length bytes)) only

    byte_is : (o : ℕ) → o < end → byte (current_words new) (root_of (current_words new) (suc n)) o ≡ written_byte offset bytes (size_of image (suc n)) (byte image (root_of image (suc n))) o
    byte_is o low =
        grown_bytes in_snapshot old middle new (members blocks) (members after) path n offset end place bytes grows (writes (suc n) offset (length bytes)) only o low
        ∙ go (cases_lt o (size_of image (suc n))) (cases_lt o offset)
      where
        go : (o < size_of image (suc n)) ⊎ (size_of image (suc n) ≤ o) → (o < offset) ⊎ (offset ≤ o) →
            byte (current_words middle) (root_of (current_words middle) (suc n)) o ≡ written_byte offset bytes (size_of image (suc n)) (byte image (root_of image (suc n))) o
        go (inl below) where_is =
            prepared.ready.kept o below ∙ sym (written_before offset bytes (size_of image (suc n)) (byte image (root_of image (suc n))) o (omega (arith, below, past_end)) below)
        go (inr past) (inl before) =
            prepared.ready.bytes_are o past low ∙ given-before offset bytes o before ∙ sym (written_between offset bytes (size_of image (suc n)) (byte image (root_of image (suc n))) o before past)
        go (inr past) (inr inside) =
            prepared.ready.bytes_are o past low ∙ given-there offset bytes o inside ∙ sym (written_inside offset bytes (size_of image (suc n)) (byte image (root_of image (suc n))) o inside low)

    pub past_end_writes : WritesFile (suc n) offset bytes image (current_words new)
    past_end_writes = record {
      changes = grown_changes in_snapshot old middle new (members blocks) (members after) path n offset end place bytes grows (writes (suc n) offset (length bytes)) only;
      size = omega (arith, size_is, past_end);
      bytes_are = λ o low. byte_is o (omega (arith, low, size_is));
    }

    pub past_end_performs : PerformsThawed in_snapshot old new (writes (suc n) offset (length bytes)) (WritesFile (suc n) offset bytes)
    past_end_performs =
        grown_performs in_snapshot old middle new (members blocks) (members after) path n offset end place bytes grows (writes (suc n) offset (length bytes)) only (WritesFile (suc n) offset bytes) past_end_writes

    pub past_end_exact : length after ≡ length blocks → AreExact (current_words new) in_snapshot after inodes
    unfolding grows
    past_end_exact room =
        exact_taken image (current_words new) (suc n) can.into.well_formed past_end_writes.changes prepared.taken blocks after inodes can.into.exact prepared.takes room
        (grown_live in_snapshot old middle new (members blocks) (members after) path n offset end place bytes grows (writes (suc n) offset (length bytes)) only)
        (grown_stays in_snapshot old middle new (members blocks) (members after) path n offset end place bytes grows (writes (suc n) offset (length bytes)) only)
        (grown_taken in_snapshot old middle new (members blocks) (members after) path n offset end place bytes grows (writes (suc n) offset (length bytes)) only)

-- ---- by the number of the inode

module _ (old : Memory) (blocks inodes : Set) (offset : ℕ) (bytes : List ℕ) where
  not_inodes : {in_snapshot : ℕ → Bool} (P : Type 0) → CanWriteThawed in_snapshot old blocks inodes 0 offset bytes → P
  not_inodes P can = absurd (omega (arith, can.into.can.file))

  pub past_end_can : {in_snapshot : ℕ → Bool} (i : ℕ) (path : WordPath) → CanWriteThawed in_snapshot old blocks inodes i offset bytes → size_of (current_words old) i ≤ offset → need (current_words old) (writes i offset (length bytes)) ≤ length (members blocks) →
      path ≡ inode_path (height_of (root_of (current_words old) 0)) i 1 → CanPrepare in_snapshot old (members blocks) i path offset (offset + length bytes)
  past_end_can zero path can = λ past_end enough is. not_inodes _ can
  past_end_can (suc n) path can = λ past_end enough is. past_end_prepares old blocks inodes n offset bytes can past_end (omega (arith, enough, past_end_need old blocks inodes n offset bytes can past_end)) path is

  module _ (middle : Memory) (after : Set) where
    pub prepared_base : {in_snapshot : ℕ → Bool} (i : ℕ) → PreparesWith in_snapshot old middle (members blocks) (members after) i offset (offset + length bytes) bytes → length middle.base ≡ length old.base
    prepared_base i prepared = ap length (base-adds old middle _ prepared.adds.part.adds)

    pub prepared_room : {in_snapshot : ℕ → Bool} (i : ℕ) → CanWriteThawed in_snapshot old blocks inodes i offset bytes → size_of (current_words old) i ≤ offset → PreparesWith in_snapshot old middle (members blocks) (members after) i offset (offset + length bytes) bytes → 3 ≤ room_in middle
    prepared_room zero can = λ past_end prepared. not_inodes _ can
    prepared_room (suc n) can = λ past_end prepared.
        let left = room_after_quiet Same 2 (prep_stores (size_of (current_words old) (suc n)) offset (offset + length bytes) (need_for (current_words old) (suc n) offset (offset + length bytes))) old middle prepared.adds.part in
        let needs = past_end_need old blocks inodes n offset bytes can past_end in
        let all : length (members blocks) ≡ length prepared.taken + length (members after) = ap (λ (xs : List ℕ). length xs) prepared.takes ∙ length-append prepared.taken (members after) in
        let has : room_for (need (current_words old) (writes (suc n) offset (length bytes))) ≤ room_in old + 2 = can.room (omega (arith, needs, prepared.counted, all)) in
        enough _ _ _ _ left (past_end_whole (size_of (current_words old) (suc n)) offset (offset + length bytes) max_height) (rw needs at has)
      where
        enough : (needed past_end room left : ℕ) → room ≤ left + (2 + (512 * needed + past_end + 2)) → past_end ≤ 512 * suc max_height → room_for needed ≤ room + 2 → 3 ≤ left
        enough needed past_end room left a b c = omega (arith, a, b, c)

    module _ (new : Memory) (path : WordPath) (place : ℕ) where
      pub past_end_performs_at : {in_snapshot : ℕ → Bool} (i : ℕ) → CanWriteThawed in_snapshot old blocks inodes i offset bytes → size_of (current_words old) i ≤ offset → CanPrepare in_snapshot old (members blocks) i path offset (offset + length bytes) →
          ContentStandsAt (current_words old) 0 (8 * i + 2) place → PreparesWith in_snapshot old middle (members blocks) (members after) i offset (offset + length bytes) bytes → Adds middle new (commit place (offset + length bytes)) →
          PerformsThawed in_snapshot old new (writes i offset (length bytes)) (WritesFile i offset bytes)
      past_end_performs_at zero can = λ past_end prepares stands prepared stored. not_inodes _ can
      past_end_performs_at (suc n) can = λ past_end prepares stands prepared stored. past_end_performs old blocks inodes n offset bytes can past_end middle new after path place prepares stands prepared stored

      pub past_end_exact_at : {in_snapshot : ℕ → Bool} (i : ℕ) → CanWriteThawed in_snapshot old blocks inodes i offset bytes → size_of (current_words old) i ≤ offset → CanPrepare in_snapshot old (members blocks) i path offset (offset + length bytes) →
          ContentStandsAt (current_words old) 0 (8 * i + 2) place → PreparesWith in_snapshot old middle (members blocks) (members after) i offset (offset + length bytes) bytes → Adds middle new (commit place (offset + length bytes)) →
          length after ≡ length blocks → AreExact (current_words new) in_snapshot after inodes
      past_end_exact_at zero can = λ past_end prepares stands prepared stored room. not_inodes _ can
      past_end_exact_at (suc n) can = λ past_end prepares stands prepared stored room. past_end_exact old blocks inodes n offset bytes can past_end middle new after path place prepares stands prepared stored room
