-- A name has moved into an empty entry of another directory: that it is performed, and that the sets are exact.
use Rattle.std.proofs.Common.{◌≡◌, ◌≢◌, ◌⊎◌, ℕ, zero, suc, ◌+◌, ◌*◌, ◌/◌, ◌%◌, ◌<◌, ◌≤◌, List, [], ◌∷◌, length, Bool, false, None, Some, unwrap_or, refl, sym, ◌∙◌, ap, subst, arith, inl, inr}
use Rattle.pm_epochs.specs.declared.event.Event.TheVariants.{Barrier}
use Rattle.pm_epochs.specs.May.{AnyAt}
use Rattle.pm_region.specs.Memory.{Adds, Memory, current_words, room_in}
use Rattle.pm_region.specs.Safe.{AddsMay}
use Rattle.pm_region.proofs.SafeLaws.{room_after_quiet}
use Rattle.bp_read.specs.Written.{HasNameAt}
use Rattle.bp_read.specs.Within.{IsWithin}
use Rattle.bp_changes.specs.Performs.{PerformsThawed, room_for}
use Rattle.bp_free.specs.Set.{Set, has}
use Rattle.bp_layout.specs.Directory.{empty_slot, entry_count, name_at}
use Rattle.bp_layout.specs.Inode.{ContentStandsAt, kind_of, root_of, size_of}
use Rattle.bp_layout.specs.Names.{AreCounts}
use Rattle.bp_layout.specs.Need.{common_all, cover, need}
use Rattle.bp_layout.specs.Need.Change.{moves}
use Rattle.bp_layout.specs.Reached.{IsReached}
use Rattle.bp_layout.specs.Same.{Same}
use Rattle.bp_layout.specs.WellFormed.{IsWellFormed}
use Rattle.bp_layout.specs.WordPaths.{is_pointed}
use Rattle.bp_layout.specs.Words.{block_count, height_of, word}
use Rattle.bp_changes.specs.Commits.{CommitsOnly}
use Rattle.bp_changes.specs.Effects.{CanMoveEntry, CarriesEntry, MovesEntry}
use Rattle.bp_changes.proofs.ChangesOver.{carries_over}
use Rattle.bp_changes.proofs.Committed.{commit_moves}
use Rattle.bp_changes.proofs.Move.{moved_well_formed, moves_carry}
use Rattle.bp_changes.proofs.Named.{carried_counts}
use Rattle.bp_changes.specs.Forest.{tree_trail}
use Rattle.bp_changes.specs.Sets.{AreExact}
use Rattle.bp_changes.specs.Trail.{block_on, trail_of}
use Rattle.bp_layout.specs.Thaw.{thawed}
use Rattle.bp_layout.specs.Tree.{node}
use Rattle.bp_layout.specs.Reached.IsReached.{inode_file}
use Rattle.bp_layout.proofs.TreeLaws.{node-kept}
use Rattle.bp_changes.proofs.FreeSets.{wf_forest}
use Rattle.bp_changes.proofs.MovedSets.{carried_exact}
use Rattle.bp_cow.specs.CanCommit.{CanCommit}
use Rattle.bp_cow.specs.Commit.{CommitsTouched, HasLooseCover, HasRoom}
use Rattle.bp_cow.specs.Committed.{after_commit, changes_of}
use Rattle.bp_cow.specs.Cover.{commit_cover, copied_count}
use Rattle.bp_cow.specs.Found.{AreWaysIn}
use Rattle.bp_cow.specs.Job.{IsTurned}
use Rattle.bp_cow.specs.Touched.{all_paths, job_of, path_of, word_paths}
use Rattle.bp_cow.specs.declared.covers.FoundWays.{FoundWays}
use Rattle.bp_cow.specs.declared.touched.Touched.{Touched}
use Rattle.bp_cow.proofs.CommitTaking.{commit_performs_after, copied_few, cover_open, stores_few}
use Rattle.bp_cow.proofs.CopiesNeed.{has-word}
use Rattle.bp_calls.proofs.AfterLaws.{live_before_too, size_after}
use Rattle.bp_calls.proofs.EnteredLaws.{name_same}
use Rattle.bp_calls.proofs.SetLaws.{exact_prepared}
use Rattle.bp_calls.proofs.Trees.{SameTrees}
use Rattle.bp_rename.specs.CanRename.{CanRename, moved_inode}
use Rattle.bp_rename.specs.RenamesEntry.{RenamesEntry, new_slot}
use Rattle.bp_rename.specs.RenamesEntry.RenamesEntry.{across}
use Rattle.bp_rename.specs.TouchesTwo.{AnyTree, TouchesTwo, ino_path}
use Rattle.bp_rename.specs.declared.moves.Move.{Move}
use Rattle.bp_rename.proofs.ContentWords.{AreContent, size_kept, words_can, words_only, words_value}
use Rattle.bp_rename.proofs.IntoDone.{into_count, into_cover, into_prefixes, into_loose, into_paths, into_shape, into_some, into_whole}
use Rattle.bp_rename.proofs.LooseCovers.{block_stays, still_loose}
use Rattle.bp_rename.proofs.IntoLaws.{into_can, into_taking, into_trees, mid_empty, mid_formed, mid_name, mid_outside, mid_touches}
use Rattle.bp_rename.proofs.TwoWords.{first_value, has_first, no_leaves, pick, second_value, two_are, two_count}
use Rattle.bp_calls.proofs.WaysStay.{ways_stay_on}
use Rattle.bp_rename.proofs.WholePaths.{cover-whole, pointed-directory}

module _ {in_snapshot : ℕ → Bool} (old third mid : Memory) (move : Move) (s entry : ℕ) (can : CanRename (current_words old) move) (new_name : move.to_slot ≡ None) (other : move.from_dir ≢ move.to_dir)
    (found : empty_slot (current_words old) move.to_dir ≡ Some s) (entry_at : ContentStandsAt (current_words old) move.to_dir (32 * s + 0) entry)
    (spells : AddsMay (AnyAt (IsWithin (entry + 1) 31)) 0 31 old third) (spelled : HasNameAt (current_words third) entry move.name.now)
    (ends : Adds third mid (Barrier ∷ [])) (touched : Touched)
    (is : TouchesTwo (current_words old) AnyTree touched (ino_path (current_words old) move.to_dir s) (ino_path (current_words old) move.from_dir move.from_slot) (moved_inode (current_words old) move) 0)
    (blocks inodes : Set) (exact : AreExact (current_words old) in_snapshot blocks inodes)
    (room : room_for (need (current_words old) (moves move.from_dir move.from_slot move.to_dir)) ≤ room_in old + 2) (loose : in_snapshot (entry / 512) ≡ false) where
  can_move : CanMoveEntry (current_words mid) move.from_dir move.from_slot move.to_dir s (moved_inode (current_words old) move)
  can_move = into_can old third mid move s entry can new_name other found entry_at spells spelled ends

  trees : SameTrees (current_words old) (current_words mid)
  trees = into_trees old third mid move s entry can new_name other found entry_at spells spelled ends

  formed : IsWellFormed (current_words mid)
  formed = mid_formed old third mid move s entry can new_name other found entry_at spells spelled ends

  is_mid : TouchesTwo (current_words mid) AnyTree touched (ino_path (current_words mid) move.to_dir s) (ino_path (current_words mid) move.from_dir move.from_slot) (moved_inode (current_words old) move) 0
  is_mid = mid_touches old third mid move s entry can new_name other found entry_at spells spelled ends touched (moved_inode (current_words old) move) 0 is

  low_target : 8 * (32 * s + 0) < size_of (current_words mid) move.to_dir
  low_target = omega (arith, can_move.in_size)

  are : AreContent (current_words mid) (size_of (current_words mid)) touched (pick move.to_dir move.from_dir) (pick (32 * s + 0) (32 * move.from_slot + 0))
  are =
      two_are (current_words mid) touched move.to_dir (32 * s + 0) move.from_dir (32 * move.from_slot + 0) (moved_inode (current_words old) move) 0 is_mid (size_of (current_words mid)) can_move.target can_move.reached low_target
      (omega (arith, can_move.entry.in_size)) (no_file move.to_dir (32 * s + 0) can_move.directory) (no_file move.from_dir (32 * move.from_slot + 0) can_move.entry.directory)
      (λ e f. other (sym e)) (λ t any. omega arith)
    where
      no_file : (t l : ℕ) → kind_of (current_words mid) t ≡ 2 → t ≡ 0 → l % 8 ≢ 1
      no_file t l kind e = let two : kind_of (current_words mid) 0 ≡ 2 = subst (λ t. kind_of (current_words mid) t ≡ 2) e kind in absurd (omega (arith, two))

  exact_mid : AreExact (current_words mid) in_snapshot blocks inodes
  exact_mid = exact_prepared (current_words old) (current_words mid) can.well_formed trees.prepared blocks inodes exact

  pub into_fits : block_count (current_words mid) ≤ length blocks
  into_fits = omega (arith, exact_mid.block_room)

  pub into_ready : CanCommit (current_words mid) (size_of (current_words mid)) in_snapshot touched (has blocks)
  into_ready = words_can (current_words mid) (size_of (current_words mid)) (wf_forest (current_words mid) formed) touched (pick move.to_dir move.from_dir) (pick (32 * s + 0) (32 * move.from_slot + 0)) are (λ t q. omega arith) (has blocks) exact_mid.free_blocks

  count : length touched.words.now ≡ 2
  count = two_count (current_words mid) touched move.to_dir (32 * s + 0) move.from_dir (32 * move.from_slot + 0) (moved_inode (current_words old) move) 0 is_mid

  leaves : (job_of touched).leaves ≡ 0
  leaves = no_leaves (current_words mid) touched move.to_dir (32 * s + 0) move.from_dir (32 * move.from_slot + 0) (moved_inode (current_words old) move) 0 is_mid

  covers : commit_cover (current_words mid) touched ≡ cover (current_words old) (moves move.from_dir move.from_slot move.to_dir)
  covers =
      cover-whole (is_pointed (current_words mid)) (all_paths touched) (ino_path (current_words mid) move.to_dir s)
      (has_first (current_words mid) touched move.to_dir (32 * s + 0) move.from_dir (32 * move.from_slot + 0) (moved_inode (current_words old) move) 0 is_mid)
      (pointed-directory (current_words mid) formed move.to_dir (32 * s + 0) can_move.target can_move.directory low_target)
      ∙ ap common_all (into_paths (current_words old) move s can other found touched is) ∙ sym (into_whole (current_words old) move s can other found touched is)

  pub into_copies : copied_count (current_words mid) touched ≡ need (current_words old) (moves move.from_dir move.from_slot move.to_dir)
  into_copies = into_count (current_words old) move s can other found touched is (current_words mid) covers

  pub into_room : HasRoom mid touched
  into_room =
      let few = copied_few (current_words mid) (size_of (current_words mid)) touched (has blocks) formed into_ready in
      let left = room_after_quiet Same 1 31 old mid (into_taking old third mid move s entry can new_name other found entry_at spells spelled ends in_snapshot loose).part in
      omega (arith, few, count, leaves, into_copies, room, left)

  -- the pointers on the way to the empty entry stay
  same_blocks : (d : ℕ) → d < length (path_of (word_paths touched) 0) → block_on (current_words mid) (trail_of (path_of (word_paths touched) 0) d) ≡ block_on (current_words old) (trail_of (path_of (word_paths touched) 0) d)
  same_blocks d low =
      let one = into_prefixes (current_words old) move s can other found touched is d low in
      let root = trees.root one.tree one.reached (omega (arith, one.live.live)) in
      block_stays (current_words old) (current_words mid) (size_of (current_words old)) (trail_of (path_of (word_paths touched) 0) d) one
      (ap height_of (trees.root 0 inode_file (omega (arith, can.well_formed.some_inodes))))
      (ap (λ r. node (current_words mid) r one.depth one.index) root
      ∙ node-kept (current_words old) (current_words mid) (root_of (current_words old) one.tree) (size_of (current_words old) one.tree) (trees.keeps one.tree one.reached) one.depth one.index one.live)

  -- so the ways that were found before are those of the image in the middle
  pub into_ways : (found_ways : FoundWays) → AreWaysIn (current_words old) touched found_ways → AreWaysIn (current_words mid) touched found_ways
  into_ways =
      ways_stay_on (current_words old) (current_words mid) touched (into_shape (current_words old) move s can other found touched is) trees.prepared.meaning.trees.whole
      (path_of (word_paths touched) 0) (has-word touched (into_shape (current_words old) move s can other found touched is) 0 (into_some (current_words old) move s can other found touched is)) same_blocks

  pub into_mid_loose : thawed (current_words old) in_snapshot (moves move.from_dir move.from_slot move.to_dir) ≡ [] → HasLooseCover (current_words mid) in_snapshot touched
  into_mid_loose clear =
      still_loose (current_words old) (current_words mid) touched into_ready.shape (path_of (word_paths touched) 0) (has-word touched into_ready.shape 0 (omega (arith, count))) same_blocks
      (covers ∙ sym (into_cover (current_words old) move s can other found touched is)) in_snapshot (into_loose (current_words old) move s can other found touched is in_snapshot clear)

  module _ (new : Memory) (left : Set) (done : CommitsTouched (size_of (current_words mid)) in_snapshot touched mid new blocks left) (as_long : length left ≡ length blocks) where
    apart_from_file : (i : ℕ) → pick move.to_dir move.from_dir i ≡ 0 → ⊥
    apart_from_file zero e = absurd (no_file can_move.directory e)
      where
        no_file : {t : ℕ} → kind_of (current_words mid) t ≡ 2 → t ≡ 0 → ⊥
        no_file kind e = let two : kind_of (current_words mid) 0 ≡ 2 = subst (λ t. kind_of (current_words mid) t ≡ 2) e kind in omega (arith, two)
    apart_from_file (suc i) e = absurd (no_file can_move.entry.directory e)
      where
        no_file : {t : ℕ} → kind_of (current_words mid) t ≡ 2 → t ≡ 0 → ⊥
        no_file kind e = let two : kind_of (current_words mid) 0 ≡ 2 = subst (λ t. kind_of (current_words mid) t ≡ 2) e kind in omega (arith, two)

    size_stays : (t : ℕ) → IsReached (current_words mid) t → size_of (current_words new) t ≡ size_of (current_words mid) t
    size_stays t reached =
        size_kept (current_words mid) (size_of (current_words mid)) (wf_forest (current_words mid) formed) touched (pick move.to_dir move.from_dir) (pick (32 * s + 0) (32 * move.from_slot + 0))
        are (has blocks) formed into_ready (current_words new) (IsTurned (job_of touched) (length (commit_cover (current_words mid) touched))) done.words
        t reached (λ i here e f. apart_from_file i e)

    only : CommitsOnly (current_words mid) (current_words new) (changes_of (current_words mid) (job_of touched)) (λ t l. ((t ≡ move.from_dir) × (l ≡ 32 * move.from_slot + 0)) ⊎ ((t ≡ move.to_dir) × (l ≡ 32 * s + 0)))
    only =
        words_only (current_words mid) (size_of (current_words mid)) (wf_forest (current_words mid) formed) touched (pick move.to_dir move.from_dir) (pick (32 * s + 0) (32 * move.from_slot + 0))
        are (has blocks) formed into_ready (current_words new) (IsTurned (job_of touched) (length (commit_cover (current_words mid) touched))) done.words
        (λ t l. ((t ≡ move.from_dir) × (l ≡ 32 * move.from_slot + 0)) ⊎ ((t ≡ move.to_dir) × (l ≡ 32 * s + 0)))
        (λ t reached. omega (arith, size_stays t reached)) formed.full_inode_file formed.full_directories
        (λ i here. reported i)
      where
        reported : (i : ℕ) → ((pick move.to_dir move.from_dir i ≡ move.from_dir) × (pick (32 * s + 0) (32 * move.from_slot + 0) i ≡ 32 * move.from_slot + 0)) ⊎
            ((pick move.to_dir move.from_dir i ≡ move.to_dir) × (pick (32 * s + 0) (32 * move.from_slot + 0) i ≡ 32 * s + 0))
        reported zero = inr (refl, refl)
        reported (suc i) = inl (refl, refl)

    value : (i : ℕ) → i < length touched.words.now →
        after_commit (current_words mid) (job_of touched) (tree_trail (height_of (word (current_words mid) 2)) (pick move.to_dir move.from_dir i) (suc (height_of (root_of (current_words mid) (pick move.to_dir move.from_dir i)))) (pick (32 * s + 0) (32 * move.from_slot + 0) i)) ≡
        (job_of touched).value i
    value = words_value (current_words mid) (size_of (current_words mid)) (wf_forest (current_words mid) formed) touched (pick move.to_dir move.from_dir) (pick (32 * s + 0) (32 * move.from_slot + 0)) are (has blocks) formed into_ready

    mid_moves : MovesEntry (current_words mid) (current_words new) move.from_dir move.from_slot move.to_dir s (moved_inode (current_words old) move)
    mid_moves =
        commit_moves (current_words mid) (current_words new) (changes_of (current_words mid) (job_of touched)) move.from_dir move.from_slot move.to_dir s (moved_inode (current_words old) move) can_move only
        (value 1 (omega (arith, count)) ∙ second_value (current_words mid) touched move.to_dir (32 * s + 0) move.from_dir (32 * move.from_slot + 0) (moved_inode (current_words old) move) 0 is_mid)
        (value 0 (omega (arith, count)) ∙ first_value (current_words mid) touched move.to_dir (32 * s + 0) move.from_dir (32 * move.from_slot + 0) (moved_inode (current_words old) move) 0 is_mid)

    mid_carries : CarriesEntry (current_words mid) (current_words new) move.from_dir move.from_slot move.to_dir s (moved_inode (current_words old) move)
    mid_carries =
        moves_carry (current_words mid) (current_words new) formed move.from_dir move.from_slot move.to_dir s (moved_inode (current_words old) move) can_move mid_moves
        (mid_empty old third mid move s entry can new_name other found entry_at spells spelled ends)

    slot_is : s ≡ new_slot (current_words old) move.to_dir
    slot_is = sym (ap (λ o. unwrap_or o (entry_count (current_words old) move.to_dir)) found)

    name_is : name_at (current_words new) move.to_dir s ≡ move.name.now
    name_is =
        let name = mid_name old third mid move s entry can new_name other found entry_at spells spelled ends in
        name_same (current_words mid) (current_words new) (root_of (current_words mid) move.to_dir) (root_of (current_words new) move.to_dir) s (rw name can.name.short)
        (λ f some few. mid_moves.entry move.to_dir s f can_move.target can_move.directory can_move.in_size few (λ e same. other e) (λ e same. omega (arith, same, some)))
        ∙ name

    into_carries : CarriesEntry (current_words old) (current_words new) move.from_dir move.from_slot move.to_dir s (moved_inode (current_words old) move)
    into_carries =
        carries_over (current_words old) (current_words mid) (current_words new) can.well_formed trees.prepared.meaning (size_after (current_words old) (current_words mid) can.well_formed trees.prepared)
        move.from_dir move.from_slot move.to_dir s (moved_inode (current_words old) move) mid_carries

    pub into_effect : RenamesEntry move (current_words old) (current_words new)
    into_effect =
        across new_name other
        (subst (λ r. CarriesEntry (current_words old) (current_words new) move.from_dir move.from_slot move.to_dir r (moved_inode (current_words old) move)) slot_is into_carries)
        (subst (λ r. name_at (current_words new) move.to_dir r ≡ move.name.now) slot_is name_is)

    pub into_performs : PerformsThawed in_snapshot old new (moves move.from_dir move.from_slot move.to_dir) (RenamesEntry move)
    into_performs =
        commit_performs_after old mid new (moves move.from_dir move.from_slot move.to_dir) (RenamesEntry move) (size_of (current_words mid)) touched blocks left [] 1 31
        (into_taking old third mid move s entry can new_name other found entry_at spells spelled ends in_snapshot loose) done
        (λ b live. inl (live_before_too (current_words old) (current_words mid) can.well_formed trees.prepared b live))
        (λ b there. (exact.free_blocks.free b there, λ never. never)) covers (omega arith)
        (let few = stores_few (current_words mid) (size_of (current_words mid)) touched (has blocks) formed into_ready in omega (arith, few, leaves, count, into_copies))
        (omega (arith, into_copies))
        (cover_open in_snapshot (current_words mid) formed touched into_ready.shape (path_of (word_paths touched) 0) (has-word touched into_ready.shape 0 (omega (arith, count)))
        (λ d low. into_ready.pointers 0 d (omega (arith, count)) low) done.loose done.taken)
        (moved_well_formed (current_words mid) (current_words new) formed move.from_dir move.from_slot move.to_dir s (moved_inode (current_words old) move) can_move mid_moves)
        into_effect

    pub into_exact : AreExact (current_words new) in_snapshot left inodes
    into_exact =
        carried_exact (current_words mid) (current_words new) formed move.from_dir move.from_slot move.to_dir s (moved_inode (current_words old) move) mid_carries
        (mid_outside old third mid move s entry can new_name other found entry_at spells spelled ends) (size_of (current_words mid)) in_snapshot size_stays blocks left inodes exact_mid as_long done.exact

    pub into_counts : (counts : List ℕ) → AreCounts (current_words old) counts → AreCounts (current_words new) counts
    into_counts = carried_counts (current_words old) (current_words new) can.well_formed move.from_dir move.from_slot move.to_dir s (moved_inode (current_words old) move) into_carries can.outside

    pub into_whole_image : length (current_words new) ≡ length (current_words old)
    into_whole_image = into_carries.trees.whole
