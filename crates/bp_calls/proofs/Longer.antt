-- A file gets longer, with zeros after its bytes: what its preparation asks, and what it leaves with the store of the size.
use Rattle.std.proofs.Common.{◌≡◌, ℕ, zero, suc, ◌+◌, ◌-◌, ◌*◌, ◌/◌, ◌<◌, ◌≤◌, List, [], ◌∷◌, length, Bool, refl, sym, ◌∙◌, ap, ap₂, subst, arith, inl, inr}
use Rattle.std.proofs.lemmas.Bool.{lt-ltb}
use Rattle.std.proofs.lemmas.List.{append-nil, length-append}
use Rattle.bp_append.proofs.LaidLaws.{given_none}
use Rattle.bp_append.specs.Prepared.{CanPrepare, HasLooseEnd, PreparesWith, need_for}
use Rattle.bp_append.proofs.GrownEffect.{grown_changes, grown_bytes, grown_live, grown_stays, grown_taken}
use Rattle.bp_append.proofs.GrowsTree.{OnlyGrows, GrowsTree, only_need, grown_performs, grown_size}
use Rattle.bp_append.proofs.StoresLaws.{past_end_whole, room_past_end_whole}
use Rattle.bp_calls.specs.CanGrow.{CanGrowFile}
use Rattle.bp_calls.specs.Resized.{ResizesFile}
use Rattle.bp_layout.specs.Members.{Has}
use Rattle.bp_layout.specs.Thaw.{IsLoose, cover_now}
use Rattle.bp_layout.proofs.ThawLaws.{loose-on}
use Rattle.bp_append.proofs.EndWays.{loose_end}
use Rattle.bp_calls.proofs.TakenBlocks.{exact_taken, members_free, usable_members}
use Rattle.bp_free.specs.Set.{Set, members}
use Rattle.bp_layout.specs.Inode.{ContentStandsAt, kind_of, root_of, size_of}
use Rattle.bp_layout.specs.Need.{need}
use Rattle.bp_layout.specs.Need.Change.{resizes}
use Rattle.bp_layout.specs.WordPaths.{WordPath, inode_path}
use Rattle.bp_layout.specs.Nodes.{nodes_for}
use Rattle.bp_layout.specs.Reached.{IsReached}
use Rattle.bp_layout.specs.WellFormed.{IsWellFormed}
use Rattle.bp_layout.specs.Words.{Image, height_of}
use Rattle.bp_limits.specs.Limits.{max_height}
use Rattle.bp_changes.specs.Sets.{AreExact}
use Rattle.bp_changes.specs.Performs.{PerformsThawed}
use Rattle.bp_read.proofs.RegionWords.{length_now}
use Rattle.pm_epochs.specs.Crash.{commit}
use Rattle.pm_region.specs.Memory.{Memory, Adds, current_words, room_in}
use Rattle.pm_region.proofs.MemoryLaws.{base-adds, room_in-piece}
use Rattle.bp_layout.specs.Thaw.{end_path_now, root_path_now, targets}
use Rattle.bp_calls.proofs.PreparedRoom.{preparation_room}

only_grows : (image : Image) (i size : ℕ) → size_of image i < size → OnlyGrows image (resizes i size) i size size
only_grows image i size longer = record { prepares = rw (lt-ltb (size_of image i) size longer) refl; no_inodes = refl; touches = refl }

-- as many blocks it takes, stated by the root word and the size of its tree
pub growing_needs : (image : Image) → IsWellFormed image → (i size root long : ℕ) → IsReached image i → kind_of image i ≡ 1 → size_of image i < size → root ≡ root_of image i → long ≡ size_of image i →
    need image (resizes i size) ≡ length (nodes_for image root long size size)
growing_needs image wf zero size root long reached file longer one two = absurd (omega (arith, file))
growing_needs image wf (suc n) size root long reached file longer one two =
    only_need image (resizes (suc n) size) n size size wf reached (only_grows image (suc n) size longer) ∙ sym (ap₂ (λ r s. length (nodes_for image r s size size)) one two)

module _ {in_snapshot : ℕ → Bool} (old : Memory) (blocks inodes : Set) (n size : ℕ) (can : CanGrowFile in_snapshot old blocks inodes (suc n) size) where
  abbrev image : Image
  image = current_words old

  needs : need image (resizes (suc n) size) ≡ need_for image (suc n) size size
  needs = only_need image (resizes (suc n) size) n size size can.well_formed can.reached (only_grows image (suc n) size can.longer)

  -- the ways to the end of the file are loose
  ends : targets image (resizes (suc n) size) ≡ cover_now image (resizes (suc n) size) ∷ root_path_now image (suc n) ∷ end_path_now image (suc n) ∷ []
  ends = rw (lt-ltb (size_of image (suc n)) size can.longer) refl

  end_loose : HasLooseEnd image in_snapshot (suc n)
  end_loose =
      let loose : (path : WordPath) → Has (targets image (resizes (suc n) size)) path → (shortest : ℕ) → IsLoose image in_snapshot shortest path = loose-on image in_snapshot (targets image (resizes (suc n) size)) can.clear in
      loose_end image can.well_formed in_snapshot (suc n) can.reached
      (loose (end_path_now image (suc n)) (subst (λ ps. Has ps (end_path_now image (suc n))) (sym ends) (inr (inr (inl refl)))) (length (root_path_now image (suc n)) - 1))

  can_prepare : (path : WordPath) → path ≡ inode_path (height_of (root_of image 0)) (suc n) 1 → need image (resizes (suc n) size) ≤ length (members blocks) → CanPrepare in_snapshot old (members blocks) (suc n) path size size
  can_prepare path leads enough = record {
    well = can.well_formed;
    reached = can.reached;
    leads = leads ∙ sym (append-nil (inode_path (height_of (root_of image 0)) (suc n) 1));
    past_end = omega (arith, can.longer);
    order = omega arith;
    fits = can.fits;
    by_words = λ by. elim by [ inl e ↦ omega (arith, e) | inr two ↦ omega (arith, two, can.file) ];
    usable = usable_members image blocks inodes can.exact (length old.base / 512) (omega (arith, length_now old));
    are_free = members_free image blocks inodes can.exact;
    loose = end_loose;
    enough = omega (arith, enough, needs);
    room = let room = can.room enough in
        preparation_room _ _ _ _ needs (room_past_end_whole (size_of image (suc n)) size size max_height) room;
  }

  -- after the preparation there is room for the store
  room_left : (middle : Memory) (free_new bytes : List ℕ) → PreparesWith in_snapshot old middle (members blocks) free_new (suc n) size size bytes → (3 ≤ room_in middle) × (length middle.base ≡ length old.base)
  room_left middle free_new bytes prepared =
      let stores = past_end_whole (size_of image (suc n)) size size max_height in
      let left = room_in-piece _ _ old middle prepared.adds.part.added prepared.adds.part.adds prepared.adds.part.piece in
      let all : length (members blocks) ≡ length prepared.taken + length free_new = ap (λ (xs : List ℕ). length xs) prepared.takes ∙ length-append prepared.taken free_new in
      let has = can.room (omega (arith, needs, prepared.counted, all)) in
      (omega (arith, needs, stores, left, has), ap length (base-adds old middle prepared.adds.part.added prepared.adds.part.adds))

  module _ (middle new : Memory) (rest : Set) (path : WordPath) (place : ℕ) (grows : GrowsTree in_snapshot old middle new (members blocks) (members rest) path n size size place []) (room : length rest ≡ length blocks) where
    only : OnlyGrows image (resizes (suc n) size) (suc n) size size
    only = only_grows image (suc n) size can.longer

    resized : ResizesFile (suc n) size image (current_words new)
    resized = record {
      changes = grown_changes in_snapshot old middle new (members blocks) (members rest) path n size size place [] grows (resizes (suc n) size) only;
      size_is = grown_size in_snapshot old middle new (members blocks) (members rest) path n size size place [] grows (resizes (suc n) size) only;
      kept = λ o low was. grown_bytes in_snapshot old middle new (members blocks) (members rest) path n size size place [] grows (resizes (suc n) size) only o low ∙ grows.prepared.ready.kept o was;
      zeros = λ o low past. grown_bytes in_snapshot old middle new (members blocks) (members rest) path n size size place [] grows (resizes (suc n) size) only o low ∙ grows.prepared.ready.bytes_are o past low ∙ given_none size o;
    }

    performs : PerformsThawed in_snapshot old new (resizes (suc n) size) (ResizesFile (suc n) size)
    performs =
        grown_performs in_snapshot old middle new (members blocks) (members rest) path n size size place [] grows (resizes (suc n) size) only (ResizesFile (suc n) size) resized

    exact : AreExact (current_words new) in_snapshot rest inodes
    exact =
        exact_taken image (current_words new) (suc n) can.well_formed resized.changes grows.prepared.taken blocks rest inodes can.exact grows.prepared.takes room
        (grown_live in_snapshot old middle new (members blocks) (members rest) path n size size place [] grows (resizes (suc n) size) only)
        (grown_stays in_snapshot old middle new (members blocks) (members rest) path n size size place [] grows (resizes (suc n) size) only)
        (grown_taken in_snapshot old middle new (members blocks) (members rest) path n size size place [] grows (resizes (suc n) size) only)

-- ---- by the number of the inode

-- the inode file is no file
pub no_file : (image : Image) → kind_of image 0 ≡ 1 → ⊥
no_file image one = omega (arith, one)

-- a file that got longer
pub record Grew (in_snapshot : ℕ → Bool) (old middle new : Memory) (blocks rest : Set) (path : WordPath) (i size place : ℕ) : Type 0 where
  pub can : CanPrepare in_snapshot old (members blocks) i path size size
  pub stands : ContentStandsAt (current_words old) 0 (8 * i + 2) place
  pub prepared : PreparesWith in_snapshot old middle (members blocks) (members rest) i size size []
  pub room : length rest ≡ length blocks
  pub stored : Adds middle new (commit place size)

module _ {in_snapshot : ℕ → Bool} (old : Memory) (blocks inodes : Set) where
  pub prepares : (i size : ℕ) → CanGrowFile in_snapshot old blocks inodes i size → (path : WordPath) → path ≡ inode_path (height_of (root_of (current_words old) 0)) i 1 → need (current_words old) (resizes i size) ≤ length (members blocks) →
      CanPrepare in_snapshot old (members blocks) i path size size
  prepares zero size can = absurd (no_file (current_words old) can.file)
  prepares (suc n) size can = can_prepare old blocks inodes n size can

  pub room_past_end : (middle : Memory) (free_new bytes : List ℕ) (i size : ℕ) → CanGrowFile in_snapshot old blocks inodes i size → PreparesWith in_snapshot old middle (members blocks) free_new i size size bytes → (3 ≤ room_in middle) × (length middle.base ≡ length old.base)
  room_past_end middle free_new bytes zero size can = absurd (no_file (current_words old) can.file)
  room_past_end middle free_new bytes (suc n) size can = room_left old blocks inodes n size can middle free_new bytes

  pub grew : (middle new : Memory) (rest : Set) (path : WordPath) (i size place : ℕ) → CanGrowFile in_snapshot old blocks inodes i size → Grew in_snapshot old middle new blocks rest path i size place →
      PerformsThawed in_snapshot old new (resizes i size) (ResizesFile i size) × AreExact (current_words new) in_snapshot rest inodes
  grew middle new rest path zero size place can = absurd (no_file (current_words old) can.file)
  grew middle new rest path (suc n) size place can = λ done.
      let grows : GrowsTree in_snapshot old middle new (members blocks) (members rest) path n size size place [] = record { can = done.can; is_file = can.file; stands = done.stands; prepared = done.prepared; stored = done.stored } in
      (performs old blocks inodes n size can middle new rest path place grows done.room, exact old blocks inodes n size can middle new rest path place grows done.room)
