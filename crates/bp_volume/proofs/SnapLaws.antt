-- A snapshot is made by two words of the superblock: the first of them nobody sees, and the second makes the first tree the
-- second one, too. It goes by one word.
use Rattle.std.proofs.Common.{◌≡◌, ◌≢◌, ◌⊎◌, ℕ, zero, suc, take, ◌/◌, ◌<◌, ◌≤◌, List, [], ◌∷◌, length, set, Bool, true, false, Option, None, Some, refl, sym, ◌∙◌, ap, subst, arith, inl, inr, get_or-set_same, get_or-set_other}
use Rattle.std.specs.Prelude.{◌&&◌, is_none, is_some, nat_lt, not}
use Rattle.std.proofs.lemmas.Bool.{lt-ltb}
use Rattle.std.proofs.lemmas.List.{length-set}
use Rattle.pm_epochs.specs.declared.event.Event.{Event}
use Rattle.pm_epochs.specs.declared.event.Event.TheVariants.{Store}
use Rattle.pm_epochs.specs.Crash.{IsQuiet}
use Rattle.pm_epochs.specs.Log.{words_after}
use Rattle.pm_epochs.specs.Replay.{stores_of}
use Rattle.pm_epochs.specs.May.{AnyAt, EachMay}
use Rattle.pm_epochs.proofs.MayLaws.{quiet_may, same_where_none}
use Rattle.pm_region.specs.Memory.{Adds, Memory, current_words}
use Rattle.pm_region.proofs.MemoryLaws.{current_words-adds}
use Rattle.bp_changes.specs.Harmless.{Agrees, IsHarmless}
use Rattle.bp_changes.proofs.Frame.{same-by_agreement}
use Rattle.bp_changes.proofs.Stores.{harmless_here}
use Rattle.bp_free.specs.Set.{has}
use Rattle.bp_free.specs.declared.parts.Parts.{Parts}
use Rattle.bp_layout.specs.Formatted.{version_of}
use Rattle.bp_layout.specs.Free.{AreFreeBlocks}
use Rattle.bp_layout.specs.Need.{Change}
use Rattle.bp_layout.specs.Reached.{IsFreeBlock}
use Rattle.bp_layout.specs.Same.{Same}
use Rattle.bp_layout.specs.Thaw.{none_in_snapshot}
use Rattle.bp_layout.specs.Trees.{AreInSnapshot, has_snapshot, snapshot_of}
use Rattle.bp_layout.specs.WellFormed.{IsWellFormed}
use Rattle.bp_layout.specs.Whole.{IsFileSystem, SameFiles}
use Rattle.bp_layout.specs.Words.{Image, block_count, word}
use Rattle.bp_layout.proofs.NoSnapshot.{alone_file_system, has_none, snapshot_none}
use Rattle.bp_limits.specs.Limits.{version_at}
use Rattle.bp_limits.specs.CallLimits.{allows_snapshot}
use Rattle.bp_limits.specs.declared.version.Version.{Version}
use Rattle.bp_limits.specs.declared.version.Version.TheVariants.{One, Two, Three}
use Rattle.bp_plain.specs.Calls.{Answer}
use Rattle.bp_plain.specs.Calls.Answer.{done, refused as is_refused}
use Rattle.bp_plain.specs.Calls.Call.{snap, unsnap}
use Rattle.bp_plain.specs.Calls.Refusal.{has_snap, no_snap, old_version}
use Rattle.bp_plain.specs.Plain.{first, when}
use Rattle.bp_plain.specs.PlainTree.{FileTree, PathMap}
use Rattle.bp_plain.specs.Stands.{ShowsSnapshot, Stands}
use Rattle.bp_scan.specs.Others.{HasOthers}
use Rattle.bp_scan.specs.Scanned.{AreOthersLive}
use Rattle.bp_scan.proofs.BothScans.{snapshot_others}
use Rattle.bp_changes.specs.Sets.{IsExact, in_snapshot_of}
use Rattle.bp_stands.proofs.SnapStands.{idle-harmless, snap_stands, snapped_same, snapshot_is, unsnap_stands, unsnapped_same}
use Rattle.bp_volume.specs.Carried.{ChangesTree}
use Rattle.bp_volume.specs.Snapped.{Snaps, Unsnaps}
use Rattle.bp_volume.specs.Snapped.Snaps.{made as has_made, refused as has_refused}
use Rattle.bp_volume.specs.Snapped.Unsnaps.{gone, refused as refuses}
use Rattle.bp_fs.specs.SuperEvents.{snap_events, unsnap_events}
use Rattle.bp_fs.specs.Step.{Fits, IsChange}
use Rattle.bp_volume.specs.Queries.{Answers}
use Rattle.bp_volume.proofs.BesideExact.{beside_exact}
use Rattle.bp_volume.proofs.LiveBlocks.{others_live}
use Rattle.bp_volume.proofs.SafeLaws.{long_words, whole_self}
use Rattle.bp_volume.proofs.StepLaws.{refused_steps}
use Rattle.bp_volume.proofs.SuperLaws.{CallsSuper, StoresSuper, changing_steps, super_trees}
use Rattle.bp_volume.proofs.SuperLaws.CallsSuper.{altered, unchanged}
use Rattle.bp_volume.proofs.WholeLaws.{whole_equivalence}

-- ---- the snapshot of the tree for which an image stands

module _ (image : Image) (tree : FileTree) (stands : Stands image tree) where
  clash : (b : Bool) → b ≡ true → b ≡ false → ⊥
  clash b one two = absurd (cc)

  pub tree_has_none : has_snapshot image ≡ false → tree.snap ≡ None
  tree_has_none none = go tree.snap stands.snap
    where
      go : (snap : Option PathMap) → ShowsSnapshot image snap → snap ≡ None
      go None shows = refl
      go (Some map) shows = absurd (clash (has_snapshot image) shows.0 none)

  pub tree_has_one : has_snapshot image ≡ true → (map : PathMap) × (tree.snap ≡ Some map)
  tree_has_one there = go tree.snap stands.snap
    where
      go : (snap : Option PathMap) → ShowsSnapshot image snap → (map : PathMap) × (snap ≡ Some map)
      go None shows = absurd (clash (has_snapshot image) there shows)
      go (Some map) shows = (map, refl)

-- ---- refusals

pub snap_too_old : (image : Image) → version_of image ≡ One → Answers image snap (is_refused old_version)
snap_too_old image one tree stands =
    refused_steps image tree snap old_version (ap (λ version. first (when (not (allows_snapshot version)) old_version ∷ when (is_some tree.snap) has_snap ∷ [])) (stands.version ∙ one))

-- versions 2 and 3 allow a snapshot
pub later_allows : (version : Version) → (version ≡ Two) ⊎ (version ≡ Three) → allows_snapshot version ≡ true
later_allows version (inl two) = ap allows_snapshot two
later_allows version (inr three) = ap allows_snapshot three

pub snap_again : (image : Image) → allows_snapshot (version_of image) ≡ true → has_snapshot image ≡ true → Answers image snap (is_refused has_snap)
snap_again image allows there tree stands =
    let one = tree_has_one image tree stands there in
    refused_steps image tree snap has_snap
    (ap (λ b. first (when (not b) old_version ∷ when (is_some tree.snap) has_snap ∷ [])) (ap allows_snapshot stands.version ∙ allows)
    ∙ ap (λ o. first (when (is_some o) has_snap ∷ [])) one.1)

pub unsnap_none : (image : Image) → has_snapshot image ≡ false → Answers image unsnap (is_refused no_snap)
unsnap_none image none tree stands = refused_steps image tree unsnap no_snap (ap (λ o. when (is_none o) no_snap) (tree_has_none image tree stands none))

-- ---- stores after the words of the first tree

abbrev IsIdle : ℕ → Type 0
IsIdle place = (4 ≤ place) × (place < 512)

module _ (image other : Image) (wf : IsWellFormed image) (each : EachMay (AnyAt IsIdle) image other) where
  idle_agrees : Agrees image other
  idle_agrees = record { whole = each.size; each = λ place. go place (each.each place) }
    where
      go : (place : ℕ) → (word other place ≡ word image place) ⊎ IsIdle place → IsHarmless image place (word other place)
      go place (inl same) = subst (IsHarmless image place) (sym same) (harmless_here image place)
      go place (inr at) = idle-harmless image place (word other place) at.0 at.1

  -- the first tree means what it meant
  idle_same : Same image other
  idle_same = same-by_agreement image other wf idle_agrees

-- ---- a snapshot is made

-- the root word of the second tree
abbrev IsSnapshotRoot : ℕ → Type 0
IsSnapshotRoot place = place ≡ 4

module _ (image : Image) (is : IsFileSystem image) (allows : allows_snapshot (version_of image) ≡ true) (none : has_snapshot image ≡ false) where
  long : 6 ≤ length image
  long = long_words image is

  abbrev snapped : Image
  snapped = set (set image 4 (word image 2)) 5 (word image 3)

  -- no image in between has a snapshot
  between_none : (other : Image) → EachMay (AnyAt IsSnapshotRoot) image other → has_snapshot other ≡ false
  between_none other each =
      let at : (place : ℕ) → place ≢ 4 → word other place ≡ word image place = λ place apart. same_where_none (AnyAt IsSnapshotRoot) image other each place (λ value e. apart e) in
      (λ i. allows_snapshot (version_at (at 0 (λ e. omega (arith, e)) i)) && nat_lt 0 (at 5 (λ e. omega (arith, e)) i)) ∙ none

  between_same : (other : Image) → EachMay (AnyAt IsSnapshotRoot) image other → SameFiles image other
  between_same other each = record {
    first = idle_same image other is.first (record { size = each.size; each = λ place. go place (each.each place) });
    second = record {
      there = between_none other each ∙ sym none;
      same = λ there. absurd (let both : true ≡ false = sym there ∙ none in cc);
    };
  }
    where
      go : (place : ℕ) → (word other place ≡ word image place) ⊎ IsSnapshotRoot place → (word other place ≡ word image place) ⊎ IsIdle place
      go place (inl same) = inl same
      go place (inr e) = inr (omega (arith, e), omega (arith, e))

  snap_quiet : IsQuiet SameFiles image (Store 4 (word image 2) ∷ [])
  snap_quiet = quiet_may SameFiles whole_equivalence (AnyAt IsSnapshotRoot) image (Store 4 (word image 2) ∷ []) between_same (refl, tt)

  -- the second tree is there
  there_now : has_snapshot snapped ≡ true
  there_now =
      let size : word snapped 5 ≡ word image 3 = get_or-set_same (set image 4 (word image 2)) 5 (word image 3) 0 (rw (length-set image 4 (word image 2)) (omega (arith, long))) in
      let magic_stays : word snapped 0 ≡ word image 0 =
      get_or-set_other (set image 4 (word image 2)) 5 0 (word image 3) 0 (λ e. omega (arith, e)) ∙ get_or-set_other image 4 0 (word image 2) 0 (λ e. omega (arith, e)) in
      let some : 4096 ≤ word image 3 = is.first.some_inodes in
      (λ i. (ap (λ w. allows_snapshot (version_at w)) magic_stays ∙ allows) i && nat_lt 0 (size i)) ∙ lt-ltb 0 (word image 3) (omega (arith, some))

  snapped_well : IsWellFormed snapped
  snapped_well = (snapped_same image long is.first).new_well_formed

  snapped_second : IsWellFormed (snapshot_of snapped)
  snapped_second = subst IsWellFormed (sym (snapshot_is image long is.first)) snapped_well

  snapped_file_system : IsFileSystem snapped
  snapped_file_system = record { first = snapped_well; second = λ there. snapped_second }

  -- no change of an image is one of a snap, so it needs no block
  snap_needs_none : Fits image snap
  snap_needs_none needed free has = absurd (nothing has.change has.is)
    where
      nothing : (change : Change) → IsChange image snap change → ⊥
      nothing change changes = elim changes [ ]

  snap_changes : ChangesTree snap done image snapped
  snap_changes tree stands =
      changing_steps image snapped tree snap
      (ap (λ b. first (when (not b) old_version ∷ when (is_some tree.snap) has_snap ∷ [])) (ap allows_snapshot stands.version ∙ allows)
      ∙ ap (λ o. first (when (is_some o) has_snap ∷ [])) (tree_has_none image tree stands none))
      refl refl snap_needs_none (snap_stands image long is.first allows tree stands)

module _ (memory made : Memory) (is : IsFileSystem (current_words memory)) (allows : allows_snapshot (version_of (current_words memory)) ≡ true) (none : has_snapshot (current_words memory) ≡ false)
    (adds : Adds memory made (snap_events (current_words memory))) where
  abbrev image : Image
  image = current_words memory

  words_snapped : current_words made ≡ snapped image is allows none
  words_snapped = current_words-adds memory made (snap_events image) adds

  snap_stores : StoresSuper memory made snap
  snap_stores = record {
    prepared = Store 4 (word image 2) ∷ [];
    place = 5;
    value = word image 3;
    adds = adds;
    quiet = snap_quiet image is allows none;
    piece = record { no_call_end = refl; few_barriers = omega arith; few_stores = omega arith };
    beside = ((omega arith, (λ e. omega (arith, e)), (λ e. omega (arith, e))), ((omega arith, (λ e. omega (arith, e)), (λ e. omega (arith, e))), tt));
    leaves = λ roles outside. ((λ e. absurd (omega (arith, e))), ((λ e. absurd (omega (arith, e))), tt));
    reported = refl;
    well = rw words_snapped (snapped_file_system image is allows none);
    changes = rw words_snapped (snap_changes image is allows none);
  }

  -- ---- the sets, where all blocks that are not free are in the snapshot from then on

  module _ {R : Type 0} (parts : Parts R) (exact : IsExact image parts) (snapshot_blocks : AreInSnapshot image (in_snapshot_of parts)) where
    -- no block was in the snapshot before
    loose : in_snapshot_of parts ≡ none_in_snapshot
    loose = snapshot_none image (in_snapshot_of parts) none snapshot_blocks

    exact_now : IsExact (current_words made) parts
    exact_now = beside_exact image (current_words made) (super_trees memory made snap snap_stores) parts exact

    free_now : AreFreeBlocks (current_words made) none_in_snapshot (has parts.free_blocks)
    free_now = subst (λ in_snapshot. AreFreeBlocks (current_words made) in_snapshot (has parts.free_blocks)) loose exact_now.sets.free_blocks

    second_is : snapshot_of (current_words made) ≡ current_words made
    second_is = ap snapshot_of words_snapped ∙ snapshot_is image (long image is allows none) is.first ∙ sym words_snapped

    module _ (after : Parts R) (blocks : after.free_blocks ≡ parts.free_blocks) (inodes : after.free_inodes ≡ parts.free_inodes) (counts : after.link_counts ≡ parts.link_counts) (others : HasOthers parts.free_blocks after.snapshot_blocks) where
      pub snapshot_snapped : AreInSnapshot (current_words made) (in_snapshot_of after)
      snapshot_snapped =
          snapshot_others (current_words made) parts.free_blocks after.snapshot_blocks (rw words_snapped (there_now image is allows none))
          (rw words_snapped (snapped_second image is allows none)) exact_now.sets.block_room
          (subst (λ words. AreFreeBlocks words none_in_snapshot (has parts.free_blocks)) (sym second_is) free_now)
          (subst (λ words. AreOthersLive words (has parts.free_blocks)) (sym second_is)
          (others_live (current_words made) snap_stores.well.first parts exact_now free_now)) others

      -- a block that is free is not one of the others
      free_loose : (b : ℕ) → has parts.free_blocks b ≡ true → has after.snapshot_blocks b ≡ false
      free_loose b is_free =
          let free : IsFreeBlock (current_words made) none_in_snapshot b = free_now.free b is_free in
          let room : length parts.free_blocks ≡ block_count (current_words made) = exact_now.sets.block_room in
          let low : b < block_count (current_words made) = free.high in
          others.below b free.low (omega (arith, room, low)) ∙ ap not is_free

      pub exact_snapped : IsExact (current_words made) after
      exact_snapped = record {
        sets = record {
          block_room = ap length blocks ∙ exact_now.sets.block_room;
          inode_room = ap length inodes ∙ exact_now.sets.inode_room;
          free_blocks = record {
            free = λ b is_free.
                let was : has parts.free_blocks b ≡ true = sym (ap (λ s. has s b) blocks) ∙ is_free in
                let free : IsFreeBlock (current_words made) none_in_snapshot b = free_now.free b was in
                record { low = free.low; high = free.high; free = free.free; loose = free_loose b was };
            all = λ b free. ap (λ s. has s b) blocks ∙ free_now.all b (record { low = free.low; high = free.high; free = free.free; loose = refl });
          };
          free_inodes = rw inodes exact_now.sets.free_inodes;
        };
        counts = rw counts exact_now.counts;
        count_room = ap (λ (n : List ℕ). length n) counts ∙ exact_now.count_room;
        snapshot_room = others.room ∙ exact_now.sets.block_room;
      }

pub snap_calls : (memory made : Memory) (answer : Answer) → IsFileSystem (current_words memory) → Snaps memory answer made → CallsSuper memory made snap answer
snap_calls memory made answer is (has_made reported allows none adds) = altered reported (snap_stores memory made is allows none adds)
snap_calls memory made answer is (has_refused same reported) = unchanged same reported

-- ---- it goes

-- of no event a crash keeps none
quiet_none : (image : Image) → IsFileSystem image → IsQuiet SameFiles image []
quiet_none image is = record {
  each = λ cut right. subst (λ (events : List Event). SameFiles (words_after image (stores_of cut.epoch cut.mask events)) image) (sym (none_taken cut.moment)) (whole_self image is);
}
  where
    none_taken : (moment : ℕ) → take {A = Event} moment [] ≡ []
    none_taken zero = refl
    none_taken (suc moment) = refl

module _ (image : Image) (is : IsFileSystem image) (there : has_snapshot image ≡ true) where
  abbrev unsnapped : Image
  unsnapped = set image 5 0

  gone_now : has_snapshot unsnapped ≡ false
  gone_now = has_none unsnapped (λ allows. get_or-set_same image 5 0 0 (let long = long_words image is in omega (arith, long)))

  unsnapped_file_system : IsFileSystem unsnapped
  unsnapped_file_system = alone_file_system unsnapped (unsnapped_same image (long_words image is) is.first).new_well_formed gone_now

  unsnap_needs_none : Fits image unsnap
  unsnap_needs_none needed free has = absurd (nothing has.change has.is)
    where
      nothing : (change : Change) → IsChange image unsnap change → ⊥
      nothing change changes = elim changes [ ]

  unsnap_changes : ChangesTree unsnap done image unsnapped
  unsnap_changes tree stands =
      let one = tree_has_one image tree stands there in
      changing_steps image unsnapped tree unsnap (ap (λ o. when (is_none o) no_snap) one.1) refl refl unsnap_needs_none (unsnap_stands image (long_words image is) is.first tree stands)

module _ (memory made : Memory) (is : IsFileSystem (current_words memory)) (there : has_snapshot (current_words memory) ≡ true) (adds : Adds memory made unsnap_events) where
  words_unsnapped : current_words made ≡ set (current_words memory) 5 0
  words_unsnapped = current_words-adds memory made unsnap_events adds

  unsnap_stores : StoresSuper memory made unsnap
  unsnap_stores = record {
    prepared = [];
    place = 5;
    value = 0;
    adds = adds;
    quiet = quiet_none (current_words memory) is;
    piece = record { no_call_end = refl; few_barriers = omega arith; few_stores = omega arith };
    beside = ((omega arith, (λ e. omega (arith, e)), (λ e. omega (arith, e))), tt);
    leaves = λ roles outside. ((λ e. absurd (omega (arith, e))), tt);
    reported = refl;
    well = rw words_unsnapped (unsnapped_file_system (current_words memory) is there);
    changes = rw words_unsnapped (unsnap_changes (current_words memory) is there);
  }

  -- the words are a file system, of as many blocks, so a scan of them passes
  pub unsnapped_well : IsFileSystem (current_words made)
  unsnapped_well = unsnap_stores.well

  pub unsnapped_blocks : block_count (current_words made) ≡ block_count (current_words memory)
  unsnapped_blocks = ap (λ (words : Image). length words / 512) words_unsnapped ∙ ap (λ n. n / 512) (length-set (current_words memory) 5 0)

pub unsnap_calls : (memory made : Memory) (answer : Answer) → IsFileSystem (current_words memory) → Unsnaps memory answer made → CallsSuper memory made unsnap answer
unsnap_calls memory made answer is (gone reported there adds) = altered reported (unsnap_stores memory made is there adds)
unsnap_calls memory made answer is (refuses same reported) = unchanged same reported
