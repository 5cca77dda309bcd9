-- A call thaws few blocks: so a log with room for a call has it for all that a change takes, and keeps room for the
-- marker.
use Rattle.std.proofs.Common.{◌≡◌, ℕ, zero, suc, ◌+◌, ◌-◌, ◌*◌, ◌/◌, ◌≤◌, ◌<◌, List, [], ◌∷◌, ◌++◌, length, take, map, filter, Bool, true, false, Option, None, Some, not, ◌==◌, refl, arith}
use Rattle.std.specs.Prelude.{◌&&◌, flat_map, fold, if◌then◌else◌, min, nat_lt}
use Rattle.std.specs.List.{range_with_len, list_any}
use Rattle.std.proofs.lemmas.List.{length-append}
use Rattle.std.proofs.lemmas.List.FromFn.{length-map-range_with_len}
use Rattle.pm_region.specs.Memory.{Memory, current_words, room_in}
use Rattle.pm_region.proofs.SafeLaws.{room_after_commit}
use Rattle.bp_limits.specs.Limits.{attribute_field, call_room}
use Rattle.bp_layout.specs.Directory.{empty_slot}
use Rattle.bp_layout.specs.Inode.{size_of}
use Rattle.bp_layout.specs.Members.{Each}
use Rattle.bp_layout.specs.Need.{Beyond, Change, Stretch, beyond, common, content_path_at, cover_of, entered_at, entry_path_at, existing_from, need, new_entry, new_inodes, prefixes_from, stretch_paths, touched_at}
use Rattle.bp_layout.specs.Need.Change.{writes, resizes, enters, leaves, replaces, moves, respells, overwrites, sets}
use Rattle.bp_layout.specs.Need.Entrant.{taken, grown, linked}
use Rattle.bp_layout.specs.Same.{Same}
use Rattle.bp_layout.specs.Tree.{span}
use Rattle.bp_layout.specs.Thaw.{end_path_now, end_targets, entry_targets, proper_prefixes_of, full_need, heights_now, is_proper_prefix, is_in_snapshot_at, is_there_now, slot_target, targets, thawed}
use Rattle.bp_layout.specs.WordPaths.{WordPath, digits, inode_path, tree_path}
use Rattle.bp_layout.specs.Words.{Image}
use Rattle.bp_layout.proofs.MemberLaws.{each-append}
use Rattle.bp_changes.specs.Performs.{HasRoomFor, Performs, most_barriers, most_stores, room_for}
use Rattle.bp_read.proofs.Digits.{length-digits}
use Rattle.bp_volume.proofs.FewBlocks.{IsFew, filter_few}

-- ---- paths, at whatever heights a root word reports

abbrev IsShort : WordPath → Type 0
IsShort path = length path ≤ 16

module _ (heights : ℕ → ℕ) (low : (t : ℕ) → heights t ≤ 7) where
  tree_short : (t depth index : ℕ) → depth ≤ 8 → IsShort (tree_path (heights 0) t depth index)
  tree_short zero depth index few = omega (arith, few, length-digits depth index)
  tree_short (suc t) depth index few =
      omega (arith, few, low 0, length-append (inode_path (heights 0) (suc t) 1) (digits depth index), length-digits (suc (heights 0)) (8 * suc t + 1), length-digits depth index)

  inode_short : (i f : ℕ) → IsShort (inode_path (heights 0) i f)
  inode_short i f = omega (arith, low 0, length-digits (suc (heights 0)) (8 * i + f))

  content_short : (t index : ℕ) → IsShort (content_path_at heights t index)
  content_short t index = tree_short t (suc (heights t)) index (omega (arith, low t))

  entered_short : (i : ℕ) (slot : Option ℕ) → IsShort (entered_at heights i slot)
  entered_short i None = inode_short i 2
  entered_short i (Some slot) = content_short i (32 * slot + 0)

  all_short : (path : ℕ → WordPath) → ((k : ℕ) → IsShort (path k)) → (ks : List ℕ) → Each IsShort (map path ks)
  all_short path short [] = tt
  all_short path short (k ∷ ks) = (short k, all_short path short ks)

  stretch_short : (s : Stretch) (is : Bool) (ks : List ℕ) → Each IsShort (if is then [] else map (content_path_at heights s.inode) ks)
  stretch_short s true ks = tt
  stretch_short s false ks = all_short (content_path_at heights s.inode) (content_short s.inode) ks

  stretches_short : (stretches : List Stretch) → Each IsShort (flat_map (stretch_paths heights) stretches)
  stretches_short [] = tt
  stretches_short (s ∷ stretches) =
      each-append IsShort (stretch_paths heights s) (flat_map (stretch_paths heights) stretches)
      (stretch_short s (s.len == 0) (range_with_len (s.offset / 8) (suc ((s.offset + s.len - 1) / 8 - s.offset / 8)))) (stretches_short stretches)

  size_short : (i : ℕ) (is : Bool) → Each IsShort (if is then inode_path (heights 0) i 2 ∷ [] else [])
  size_short i true = (inode_short i 2, tt)
  size_short i false = tt

  touched_short : (image : Image) (change : Change) → Each IsShort (touched_at heights image change)
  touched_short image (writes i offset len) =
      each-append IsShort (map (content_path_at heights i) (if nat_lt offset (size_of image i) then range_with_len (offset / 8) (suc ((min (offset + len) (size_of image i) - 1) / 8 - offset / 8)) else []))
      (if nat_lt (size_of image i) (offset + len) then inode_path (heights 0) i 2 ∷ [] else []) (all_short (content_path_at heights i) (content_short i) _) (size_short i (nat_lt (size_of image i) (offset + len)))
  touched_short image (resizes i size) = (inode_short i 2, tt)
  touched_short image (enters i entrant) = (entered_short i (empty_slot image i), tt)
  touched_short image (leaves i s) = (content_short i (32 * s + 0), tt)
  touched_short image (replaces i s j r) = (content_short i (32 * s + 0), (content_short j (32 * r + 0), tt))
  touched_short image (moves i s j) = (entered_short j (empty_slot image j), (content_short i (32 * s + 0), tt))
  touched_short image (respells i s len) = all_short (entry_path_at heights i s) (λ f. content_short i (32 * s + f)) (range_with_len 1 (suc ((len + 7) / 8)))
  touched_short image (overwrites stretches) = stretches_short stretches
  touched_short image (sets i k) = (inode_short i (attribute_field + k), tt)

-- ---- a cover

existing_few : (there : WordPath → Bool) (here path : WordPath) → length (existing_from there here path) ≤ length here + length path
existing_few there here [] = omega arith
existing_few there here (slot ∷ path) = go (there here) refl (existing_few there (here ++ slot ∷ []) path)
  where
    go : (b : Bool) → there here ≡ b → length (existing_from there (here ++ slot ∷ []) path) ≤ length (here ++ slot ∷ []) + length path → length (existing_from there here (slot ∷ path)) ≤ length here + length (slot ∷ path)
    go true at rest = rw at (omega (arith, rest, length-append here (slot ∷ [])))
    go false at rest = rw at (omega arith)

common_few : (path other : WordPath) → length (common path other) ≤ length path
common_few [] other = omega arith
common_few (slot ∷ path) [] = omega arith
common_few (slot ∷ path) (also ∷ other) = go (slot == also) refl (common_few path other)
  where
    go : (b : Bool) → (slot == also) ≡ b → length (common path other) ≤ length path → length (common (slot ∷ path) (also ∷ other)) ≤ length (slot ∷ path)
    go true at rest = rw at (omega (arith, rest))
    go false at rest = rw at (omega arith)

common_all_few : (path : WordPath) (paths : List WordPath) → length (fold common path paths) ≤ length path
common_all_few path [] = omega arith
common_all_few path (other ∷ paths) = omega (arith, common_few path other, common_all_few (common path other) paths)

cover_short : (there : WordPath → Bool) (paths : List WordPath) → Each IsShort paths → IsShort (cover_of there paths)
cover_short there [] short = omega arith
cover_short there (path ∷ paths) short = omega (arith, short.0, existing_few there [] (fold common path paths), common_all_few path paths)

-- ---- targets

module _ (image : Image) where
  heights_low : (t : ℕ) → heights_now image t ≤ 7
  heights_low t = omega arith

  end_short : (b : Beyond) → Each IsShort (end_targets image b)
  end_short b = (tree_short (heights_now image) heights_low b.tree 0 0 (omega arith), (go (nat_lt 0 (size_of image b.tree) && nat_lt (size_of image b.tree) (span (heights_now image b.tree))) refl, tt))
    where
      go : (is : Bool) → (nat_lt 0 (size_of image b.tree) && nat_lt (size_of image b.tree) (span (heights_now image b.tree))) ≡ is → IsShort (end_path_now image b.tree)
      go true at = rw at (tree_short (heights_now image) heights_low b.tree (suc (heights_now image b.tree)) (size_of image b.tree / 8) (omega (arith, heights_low b.tree)))
      go false at = rw at (tree_short (heights_now image) heights_low b.tree 0 0 (omega arith))

  ends_short : (bytes : List Beyond) → Each IsShort (flat_map (end_targets image) bytes)
  ends_short [] = tt
  ends_short (b ∷ bytes) = each-append IsShort (end_targets image b) (flat_map (end_targets image) bytes) (end_short b) (ends_short bytes)

  slot_short : (i : ℕ) (slot : Option ℕ) → Each IsShort (slot_target image i slot)
  slot_short i None = tt
  slot_short i (Some slot) = (content_short (heights_now image) heights_low i (32 * slot + 0), tt)

  entries_short : (change : Change) → Each IsShort (entry_targets image change)
  entries_short (writes i offset len) = tt
  entries_short (resizes i size) = tt
  entries_short (enters i (taken j)) = (inode_short (heights_now image) heights_low j 0, tt)
  entries_short (enters i grown) = tt
  entries_short (enters i linked) = tt
  entries_short (leaves i s) = tt
  entries_short (replaces i s j r) = tt
  entries_short (moves i s j) = slot_short j (empty_slot image j)
  entries_short (respells i s len) = tt
  entries_short (overwrites stretches) = tt
  entries_short (sets i k) = tt

  targets_short : (change : Change) → Each IsShort (targets image change)
  targets_short change = (
    cover_short (is_there_now image) (touched_at (heights_now image) image change) (touched_short (heights_now image) heights_low image change),
    each-append IsShort (flat_map (end_targets image) (beyond image change ++ new_inodes image change)) (entry_targets image change) (ends_short (beyond image change ++ new_inodes image change)) (entries_short change),
  )

  ends_many : (bytes : List Beyond) → length (flat_map (end_targets image) bytes) ≡ 2 * length bytes
  ends_many [] = refl
  ends_many (b ∷ bytes) = omega (arith, ends_many bytes, length-append (end_targets image b) (flat_map (end_targets image) bytes))

  one_beyond : (is : Bool) (b : Beyond) → length (if is then b ∷ [] else []) ≤ 1
  one_beyond true b = omega arith
  one_beyond false b = omega arith

  one_entry : (i : ℕ) (slot : Option ℕ) → length (new_entry image i slot) ≤ 1
  one_entry i None = omega arith
  one_entry i (Some slot) = omega arith

  beyond_few : (change : Change) → length (beyond image change) ≤ 1
  beyond_few (writes i offset len) = one_beyond (nat_lt (size_of image i) (offset + len)) _
  beyond_few (resizes i size) = one_beyond (nat_lt (size_of image i) size) _
  beyond_few (enters i entrant) = one_entry i (empty_slot image i)
  beyond_few (leaves i s) = omega arith
  beyond_few (replaces i s j r) = omega arith
  beyond_few (moves i s j) = one_entry j (empty_slot image j)
  beyond_few (respells i s len) = omega arith
  beyond_few (overwrites stretches) = omega arith
  beyond_few (sets i k) = omega arith

  inodes_few : (change : Change) → length (new_inodes image change) ≤ 1
  inodes_few (writes i offset len) = omega arith
  inodes_few (resizes i size) = omega arith
  inodes_few (enters i (taken j)) = omega arith
  inodes_few (enters i grown) = omega arith
  inodes_few (enters i linked) = omega arith
  inodes_few (leaves i s) = omega arith
  inodes_few (replaces i s j r) = omega arith
  inodes_few (moves i s j) = omega arith
  inodes_few (respells i s len) = omega arith
  inodes_few (overwrites stretches) = omega arith
  inodes_few (sets i k) = omega arith

  slot_few : (i : ℕ) (slot : Option ℕ) → length (slot_target image i slot) ≤ 1
  slot_few i None = omega arith
  slot_few i (Some slot) = omega arith

  entries_few : (change : Change) → length (entry_targets image change) ≤ 1
  entries_few (writes i offset len) = omega arith
  entries_few (resizes i size) = omega arith
  entries_few (enters i (taken j)) = omega arith
  entries_few (enters i grown) = omega arith
  entries_few (enters i linked) = omega arith
  entries_few (leaves i s) = omega arith
  entries_few (replaces i s j r) = omega arith
  entries_few (moves i s j) = slot_few j (empty_slot image j)
  entries_few (respells i s len) = omega arith
  entries_few (overwrites stretches) = omega arith
  entries_few (sets i k) = omega arith

  targets_few : (change : Change) → length (targets image change) ≤ 6
  targets_few change =
      omega (
        arith,
        beyond_few change,
        inodes_few change,
        entries_few change,
        ends_many (beyond image change ++ new_inodes image change),
        length-append (beyond image change) (new_inodes image change),
        length-append (flat_map (end_targets image) (beyond image change ++ new_inodes image change)) (entry_targets image change),
      )

-- ---- the pointers on the ways

prefixes_few : (paths : List WordPath) → Each IsShort paths → (earlier : List WordPath) → length (proper_prefixes_of earlier paths) ≤ 16 * length paths
prefixes_few [] short earlier = omega arith
prefixes_few (path ∷ paths) short earlier =
    let few = filter_few (λ prefix. not (list_any (is_proper_prefix prefix) earlier)) (prefixes_from 0 path) in
    let many : length (prefixes_from 0 path) ≡ length path - 0 = length-map-range_with_len (λ n. take n path) 0 (length path - 0) in
    let both = length-append (filter (λ prefix. not (list_any (is_proper_prefix prefix) earlier)) (prefixes_from 0 path)) (proper_prefixes_of (path ∷ earlier) paths) in
    omega (arith, short.0, few, many, both, prefixes_few paths short.1 (path ∷ earlier))

-- no call thaws more blocks, whichever are in the snapshot
pub thawed_few : (image : Image) (in_snapshot : ℕ → Bool) (change : Change) → length (thawed image in_snapshot change) ≤ 96
thawed_few image in_snapshot change =
    omega (arith, filter_few (is_in_snapshot_at image in_snapshot) (proper_prefixes_of [] (targets image change)), prefixes_few (targets image change) (targets_short image change) [], targets_few image change)

-- ---- room

room_enough : (needed thaws room : ℕ) → IsFew needed → thaws ≤ 96 → call_room ≤ room → room_for (thaws + needed) ≤ room
room_enough needed thaws room few most enough = omega (arith, few, most, enough)

room_is_left : (needed thaws room left : ℕ) → IsFew needed → thaws ≤ 96 → call_room ≤ room → room ≤ left + (most_barriers + most_stores (thaws + needed)) → 0 < left
room_is_left needed thaws room left few most enough took = omega (arith, few, most, enough, took)

-- a log with room for a call has room for a change that needs few blocks
pub few_room : (in_snapshot : ℕ → Bool) (memory : Memory) (change : Change) → IsFew (need (current_words memory) change) → call_room ≤ room_in memory → HasRoomFor memory in_snapshot change
few_room in_snapshot memory change few room =
    room_enough (need (current_words memory) change) (length (thawed (current_words memory) in_snapshot change)) (room_in memory) few (thawed_few (current_words memory) in_snapshot change) room

-- few blocks leave room
pub performs_room : (in_snapshot : ℕ → Bool) (old new : Memory) (change : Change) (Effect : Image → Image → Type 0) → Performs in_snapshot old new change Effect → IsFew (need (current_words old) change) → call_room ≤ room_in old → 0 < room_in new
performs_room in_snapshot old new change Effect performs few room =
    room_is_left (need (current_words old) change) (length (thawed (current_words old) in_snapshot change)) (room_in old) (room_in new) few (thawed_few (current_words old) in_snapshot change) room
    (room_after_commit Same _ performs.value most_barriers (most_stores (full_need (current_words old) in_snapshot change)) old new performs.commit)
