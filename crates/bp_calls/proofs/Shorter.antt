-- A file gets smaller by a store of its size, and the blocks after it come back.
use Rattle.std.proofs.Common.{◌≡◌, ◌⊎◌, ℕ, zero, suc, ◌+◌, ◌*◌, ◌<◌, ◌≤◌, [], length, set, ◌/◌, Bool, true, false, sym, ◌∙◌, ap, suc-ne-zero, arith, inl, inr, lt_of_lt_of_le, refl, flat_map, fold, ◌==◌, ◌++◌, get_or, List, if◌then◌else◌}
use Rattle.std.proofs.lemmas.Bool.{cases_Bool, le-ltb}
use Rattle.std.proofs.lemmas.List.{length-set}
use Rattle.std.proofs.lemmas.List.FromFn.{get_or-map-range_with_len}
use Rattle.bp_calls.specs.GivenBack.{GivesBack}
use Rattle.bp_calls.specs.Resized.{ResizesFile}
use Rattle.bp_calls.proofs.TruncatedLaws.{gives_as, has_larger}
use Rattle.bp_calls.proofs.Longer.{no_file}
use Rattle.bp_calls.proofs.OpenPlaces.{content_live, inode_address, root_word_stays, stands_stored}
use Rattle.bp_calls.proofs.SetLaws.{free_inodes_stay}
use Rattle.bp_changes.specs.Effects.{ChangesFile}
use Rattle.bp_changes.proofs.ChangesFile as changed
use Rattle.bp_changes.proofs.ContentStore.{word-elsewhere}
use Rattle.bp_changes.proofs.Resize.{CanResize, resize_changes, size_here, bytes_of_file}
use Rattle.bp_free.specs.Set.{Set, has}
use Rattle.bp_layout.specs.Inode.{ContentStandsAt, kind_of, root_of, size_of, inode_count}
use Rattle.bp_layout.specs.Need.{Change, Beyond, beyond, prepared_for, height_after, inode_word_path, is_there_after, copied, cover, need}
use Rattle.bp_layout.specs.Need.Change.{resizes}
use Rattle.bp_layout.specs.Nodes.{height_with}
use Rattle.bp_layout.specs.Reached.{IsReached}
use Rattle.bp_layout.specs.Reached.IsReached.{inode_file}
use Rattle.bp_layout.specs.Same.{Same}
use Rattle.bp_layout.specs.Tree.{HasBlock, IsLivePointer, IsSound, byte, content}
use Rattle.bp_layout.specs.WellFormed.{IsWellFormed}
use Rattle.bp_layout.specs.WordPaths.{address, inode_path}
use Rattle.bp_layout.specs.Words.{Image, block_count, height_of}
use Rattle.bp_layout.proofs.Reached.{reached-in_file}
use Rattle.bp_layout.proofs.SameLaws.{same_self}
use Rattle.bp_layout.proofs.TreeLaws.{KeepsPointers, node-kept, sound-kept, has_block-kept, live_content, live_pointer_word}
use Rattle.bp_changes.specs.Sets.{AreExact}
use Rattle.bp_changes.specs.Freed.{IsTruncated}
use Rattle.bp_changes.proofs.Freed.{freed_blocks, resize_frees}
use Rattle.bp_changes.specs.Performs.{PerformsThawed}
use Rattle.bp_read.proofs.ExistingPaths.{AllThere, inode_path-there, cover-one, copied-one}
use Rattle.bp_changes.proofs.PerformsLaws.{performs_committed, takes_none}
use Rattle.pm_epochs.specs.Crash.{commit}
use Rattle.pm_epochs.proofs.CrashLaws.{quiet_none}
use Rattle.pm_epochs.proofs.PieceLaws.{IsPiece-commit}
use Rattle.pm_region.specs.Memory.{Memory, Adds, current_words}
use Rattle.pm_region.proofs.MemoryLaws.{current_words-adds}
use Rattle.bp_changes.specs.Performs.IsOpen.{in_live}

-- a tree is sound under a smaller size too
pub sound_smaller : (image : Image) (root size less : ℕ) → less ≤ size → IsSound image root size → IsSound image root less
sound_smaller image root size less low sound = record {
  low = λ some. sound.low (omega (arith, some, low));
  root_bits = λ some. sound.root_bits (omega (arith, some, low));
  pointer_bits = λ d k live. sound.pointer_bits d k (wider (suc d) k live);
  in_range = λ d k live. sound.in_range d k (wider d k live);
  once = λ d k e l live also. sound.once d k e l (wider d k live) (wider e l also);
  fits = omega (arith, low, sound.fits);
}
  where
    wider : (d k : ℕ) → IsLivePointer root less d k → IsLivePointer root size d k
    wider d k live = record { level = live.level; height = live.height; live = lt_of_lt_of_le live.live low }

-- ---- what the change covers and needs

module _ (image : Image) (wf : IsWellFormed image) (n size : ℕ) (reached : IsReached image (suc n)) (smaller : size ≤ size_of image (suc n)) where
  abbrev change : Change
  change = resizes (suc n) size

  none_beyond : beyond image change ≡ []
  none_beyond = rw (le-ltb (size_of image (suc n)) size smaller) refl

  low_tree : height_after image change 0 ≡ height_of (root_of image 0)
  low_tree = ap (λ bs. fold (λ h (b : Beyond). if b.tree == 0 then height_with (root_of image 0) (size_of image 0) b.to else h) (height_of (root_of image 0)) (bs ++ [])) none_beyond

  -- the path of the size word exists
  all : AllThere (is_there_after image change) [] (inode_word_path image change (suc n) 2)
  all = inode_path-there image change wf low_tree (suc n) 2 reached (omega arith)

  covered_smaller : cover image change ≡ inode_path (height_of (root_of image 0)) (suc n) 2
  covered_smaller = cover-one image change (inode_word_path image change (suc n) 2) refl all ∙ ap (λ h. inode_path h (suc n) 2) low_tree

  needed_smaller : need image change ≡ 0
  needed_smaller =
      let made : length (flat_map (prepared_for image) (beyond image change)) ≡ 0 = ap (λ bs. length (flat_map (prepared_for image) bs)) none_beyond in
      let copies : length (copied image change) ≡ 0 = ap length (copied-one image change (inode_word_path image change (suc n) 2) refl all) in
      omega (arith, made, copies)

-- stated of any number
pub none_shrinking : (image : Image) → IsWellFormed image → (i size : ℕ) → IsReached image i → kind_of image i ≡ 1 → size ≤ size_of image i → need image (resizes i size) ≡ 0
none_shrinking image wf zero size reached file smaller = absurd (omega (arith, file))
none_shrinking image wf (suc n) size reached file smaller = needed_smaller image wf n size reached smaller

-- ---- the store

-- a file whose size word is stored to
pub record Shrinks (image : Image) (in_snapshot : ℕ → Bool) (blocks inodes : Set) (i size place : ℕ) : Type 0 where
  pub well_formed : IsWellFormed image
  pub exact : AreExact image in_snapshot blocks inodes
  pub reached : IsReached image i
  pub is_file : kind_of image i ≡ 1
  pub smaller : size < size_of image i
  pub stands : ContentStandsAt image 0 (8 * i + 2) place

module _ {in_snapshot : ℕ → Bool} (image : Image) (blocks inodes : Set) (n size place : ℕ) (shrinks : Shrinks image in_snapshot blocks inodes (suc n) size place) where
  abbrev file : ℕ
  file = suc n

  abbrev last : Image
  last = set image place size

  abbrev wf : IsWellFormed image
  wf = shrinks.well_formed

  low : 8 * (8 * file + 2) < size_of image 0
  low = let in_file : file < inode_count image = reached-in_file image wf file shrinks.reached in omega (arith, in_file)

  can : CanResize image n size place
  can = record {
    reached = shrinks.reached;
    is_file = shrinks.is_file;
    stands = shrinks.stands;
    sound = sound_smaller image (root_of image file) (size_of image file) size (omega (arith, shrinks.smaller)) (wf.sound file shrinks.reached);
    low = λ some. wf.low file shrinks.reached (omega (arith, some, shrinks.smaller));
    apart = λ u b reached other here there. other (wf.apart u file b reached shrinks.reached there (has_larger image (root_of image file) size (size_of image file) b (omega (arith, shrinks.smaller)) here));
  }

  changes : ChangesFile image last file
  changes = resize_changes image wf n size place can

  byte_kept : (o : ℕ) → o < size → byte last (root_of last file) o ≡ byte image (root_of image file) o
  byte_kept o inside =
      let same : content last (root_of last file) size ≡ content image (root_of image file) size = rw (size_here image wf n size place can) at (bytes_of_file image wf n size place can) in
      sym (get_or-map-range_with_len (byte last (root_of last file)) 0 size o o 0 inside (omega arith))
      ∙ ap (λ (xs : List ℕ). get_or xs o 0) same
      ∙ get_or-map-range_with_len (byte image (root_of image file)) 0 size o o 0 inside (omega arith)

  resizes_last : ResizesFile file size image last
  resizes_last = record {
    changes = changes;
    size_is = size_here image wf n size place can;
    kept = λ o inside was. byte_kept o inside;
    zeros = λ o inside past. absurd (omega (arith, inside, past, shrinks.smaller));
  }

  -- ---- the tree under the size that it had

  keeps : KeepsPointers image last (root_of image file) (size_of image file)
  keeps = record {
    kept = λ d k live. word-elsewhere image wf 0 (height_of (root_of image 0)) (8 * file + 2) place size inode_file (live_content (root_of image 0) (size_of image 0) (8 * file + 2) low) shrinks.stands
        file d k shrinks.reached (live_pointer_word _ _ (suc d) k live) (λ same. suc-ne-zero n (sym same.tree));
  }

  pub still_sound : IsSound last (root_of image file) (size_of image file)
  still_sound = sound-kept image last (root_of image file) (size_of image file) keeps (length-set image place size) (wf.sound file shrinks.reached)

  pub still_room : length blocks ≡ block_count last
  still_room = rw (length-set image place size) shrinks.exact.block_room

  pub still_taken : (b : ℕ) → HasBlock last (root_of image file) (size_of image file) b → has blocks b ≡ false
  still_taken b has_now = go (cases_Bool (has blocks b))
    where
      here : HasBlock image (root_of image file) (size_of image file) b
      here = has_block-kept image last (root_of image file) (size_of image file) keeps b has_now

      go : (has blocks b ≡ true) ⊎ (has blocks b ≡ false) → has blocks b ≡ false
      go (inl is) = absurd ((shrinks.exact.free_blocks.free b is).free (record { tree = file; reached = shrinks.reached; has = here }))
      go (inr not) = not

  truncated_back : (b : ℕ) → IsTruncated last (root_of image file) (size_of image file) size b → IsTruncated image (root_of image file) (size_of image file) size b
  truncated_back b gone = record {
    has = record {
      depth = gone.has.depth;
      index = gone.has.index;
      pointer = gone.has.pointer;
      named = sym (node-kept image last (root_of image file) (size_of image file) keeps gone.has.depth gone.has.index gone.has.pointer) ∙ gone.has.named;
      not_null = gone.has.not_null;
    };
    past = gone.past;
  }

  truncated_on : (b : ℕ) → IsTruncated image (root_of image file) (size_of image file) size b → IsTruncated last (root_of image file) (size_of image file) size b
  truncated_on b gone = record {
    has = record {
      depth = gone.has.depth;
      index = gone.has.index;
      pointer = gone.has.pointer;
      named = node-kept image last (root_of image file) (size_of image file) keeps gone.has.depth gone.has.index gone.has.pointer ∙ gone.has.named;
      not_null = gone.has.not_null;
    };
    past = gone.past;
  }

  exact_last : (after : Set) → GivesBack in_snapshot (IsTruncated last (root_of image file) (size_of image file) size) blocks after → AreExact last in_snapshot after inodes
  exact_last after gives = record {
    block_room = rw (length-set image place size) (gives.room ∙ shrinks.exact.block_room);
    inode_room = rw (length-set image place size) shrinks.exact.inode_room;
    free_blocks = freed_blocks image last wf (length-set image place size) (IsTruncated image (root_of image file) (size_of image file) size)
        (resize_frees image wf n size place can (omega (arith, shrinks.smaller))) in_snapshot (has blocks) (has after) shrinks.exact.free_blocks
        reported.only reported.still reported.given;
    free_inodes = free_inodes_stay image last (has inodes) (changes.size 0 inode_file (λ e. suc-ne-zero n (sym e)))
        (changed.reached-back image last file wf changes) (changed.reached-on image last file wf changes) shrinks.exact.free_inodes;
  }
    where
      reported : GivesBack in_snapshot (IsTruncated image (root_of image file) (size_of image file) size) blocks after
      reported = gives_as (IsTruncated last (root_of image file) (size_of image file) size) (IsTruncated image (root_of image file) (size_of image file) size) blocks after truncated_back truncated_on gives

  -- the store is at the cover
  at_cover : address last (cover image (resizes file size)) ≡ place
  at_cover =
      let stays : root_of last 0 ≡ root_of image 0 = root_word_stays image wf 0 (8 * file + 2) place size inode_file low shrinks.stands in
      ap (address last) (covered_smaller image wf n size shrinks.reached (omega (arith, shrinks.smaller)) ∙ ap (λ r. inode_path (height_of r) file 2) (sym stays))
      ∙ inode_address last file 2 place (stands_stored image wf 0 (8 * file + 2) place size inode_file low shrinks.stands stays)

module _ {in_snapshot : ℕ → Bool} (old new : Memory) (blocks inodes : Set) (n size place : ℕ) (shrinks : Shrinks (current_words old) in_snapshot blocks inodes (suc n) size place) (adds : Adds old new (commit place size)) where
  stored : current_words new ≡ set (current_words old) place size
  stored = current_words-adds old new (commit place size) adds

  pub shorter_performs : in_snapshot (place / 512) ≡ false → PerformsThawed in_snapshot old new (resizes (suc n) size) (ResizesFile (suc n) size)
  shorter_performs loose =
      performs_committed in_snapshot old new (resizes (suc n) size) (ResizesFile (suc n) size) place size 2 1 []
      (record {
        prepared = [];
        adds = adds;
        quiet = quiet_none Same (current_words old) (same_self (current_words old) shrinks.well_formed);
        piece = IsPiece-commit place size;
      })
      (takes_none (current_words old) in_snapshot)
      (rw stored (sym (at_cover (current_words old) blocks inodes n size place shrinks)))
      (omega arith) (omega arith)
      (sym (needed_smaller (current_words old) shrinks.well_formed n size shrinks.reached (omega (arith, shrinks.smaller))))
      (in_live (content_live (current_words old) 0 (8 * suc n + 2) place inode_file (let small = low (current_words old) blocks inodes n size place shrinks in omega (arith, small)) shrinks.stands) loose)
      (rw stored (changed.well_formed-same (current_words old) (set (current_words old) place size) (suc n) shrinks.well_formed (changes (current_words old) blocks inodes n size place shrinks)))
      (rw stored (resizes_last (current_words old) blocks inodes n size place shrinks))

-- ---- stated of any number

-- what giving back asks after the store
pub record CanGiveBack (image : Image) (root size : ℕ) (blocks : Set) : Type 0 where
  pub sound : IsSound image root size
  pub room : length blocks ≡ block_count image
  pub taken : (b : ℕ) → HasBlock image root size b → has blocks b ≡ false

pub can_give_back : {in_snapshot : ℕ → Bool} (old new : Memory) (blocks inodes : Set) (i size place root was : ℕ) → root ≡ root_of (current_words old) i → was ≡ size_of (current_words old) i → Shrinks (current_words old) in_snapshot blocks inodes i size place → Adds old new (commit place size) →
    CanGiveBack (current_words new) root was blocks
can_give_back old new blocks inodes zero size place root was at here shrinks adds = absurd (no_file (current_words old) shrinks.is_file)
can_give_back old new blocks inodes (suc n) size place root was at here shrinks adds = rw (at, here, stored old new blocks inodes n size place shrinks adds) (record {
  sound = still_sound (current_words old) blocks inodes n size place shrinks;
  room = still_room (current_words old) blocks inodes n size place shrinks;
  taken = still_taken (current_words old) blocks inodes n size place shrinks;
})

pub shrunk : {in_snapshot : ℕ → Bool} (old new : Memory) (blocks after inodes : Set) (i size place root was : ℕ) → root ≡ root_of (current_words old) i → was ≡ size_of (current_words old) i → Shrinks (current_words old) in_snapshot blocks inodes i size place → Adds old new (commit place size) →
    in_snapshot (place / 512) ≡ false → GivesBack in_snapshot (IsTruncated (current_words new) root was size) blocks after → PerformsThawed in_snapshot old new (resizes i size) (ResizesFile i size) × AreExact (current_words new) in_snapshot after inodes
shrunk old new blocks after inodes zero size place root was at here shrinks adds loose gives = absurd (no_file (current_words old) shrinks.is_file)
shrunk old new blocks after inodes (suc n) size place root was at here shrinks adds loose gives = (
  shorter_performs old new blocks inodes n size place shrinks adds loose,
  rw (stored old new blocks inodes n size place shrinks adds)
      (exact_last (current_words old) blocks inodes n size place shrinks after (rw (at, here, stored old new blocks inodes n size place shrinks adds) at gives)),
)
