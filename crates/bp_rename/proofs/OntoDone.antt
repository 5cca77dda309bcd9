-- A name has moved onto another one: that it is performed, that the sets are exact, once what had the name comes back where it has no other, and how many names it has left.
use Rattle.std.proofs.Common.{◌≡◌, ◌≢◌, ◌⊎◌, ℕ, Bool, zero, suc, ◌+◌, ◌*◌, ◌/◌, ◌<◌, ◌≤◌, List, length, set, slice_index, true, false, Some, refl, sym, ◌∙◌, ap₂, subst, arith, inl, inr}
use Rattle.std.proofs.lemmas.Bool.{cases_Bool, cases_eq}
use Rattle.std.proofs.lemmas.List.{length-set}
use Rattle.bp_free.specs.Set.{Set, has, with}
use Rattle.bp_free.proofs.Members.{has_with_other, has_with_same}
use Rattle.bp_layout.proofs.FewLeaves.{few_inodes}
use Rattle.bp_layout.specs.Directory.{EntryNames, ino_at}
use Rattle.bp_layout.specs.Inode.{inode_count, kind_of, root_of, size_of}
use Rattle.bp_layout.specs.Names.{AreCounts}
use Rattle.bp_layout.specs.Need.{need}
use Rattle.bp_layout.specs.Need.Change.{replaces}
use Rattle.bp_layout.specs.Reached.{HoldsBlock, IsReached}
use Rattle.bp_layout.specs.Reached.IsReached.{inode_file, named}
use Rattle.bp_layout.specs.Tree.{HasBlock}
use Rattle.bp_layout.specs.WellFormed.{IsWellFormed}
use Rattle.bp_layout.specs.Words.{block_count, height_of, word}
use Rattle.bp_layout.proofs.Reached.{reached-in_file}
use Rattle.bp_changes.specs.Commits.{CommitsOnly}
use Rattle.bp_changes.specs.Effects.{CanMoveEntry, HasOtherName, IsLastName, MovesEntry}
use Rattle.bp_changes.proofs.Committed.{commit_moves}
use Rattle.bp_changes.proofs.Move.{moved_well_formed, names_stay, reached_back}
use Rattle.bp_changes.proofs.MoveReach.{moved_on}
use Rattle.bp_changes.proofs.Named.{replaced_counts}
use Rattle.bp_changes.proofs.MovedSets.{replaced_blocks, replaced_inode, same_reach_exact}
use Rattle.bp_changes.specs.Forest.{tree_trail}
use Rattle.bp_changes.specs.Freed.{IsTruncated}
use Rattle.bp_changes.specs.Sets.{AreExact}
use Rattle.bp_changes.proofs.FreeSets.{wf_forest}
use Rattle.bp_changes.specs.Performs.{PerformsThawed, room_for}
use Rattle.bp_cow.specs.CanCommit.{CanCommit}
use Rattle.bp_cow.specs.Commit.{CommitsTouched, HasRoom}
use Rattle.bp_cow.specs.Committed.{after_commit, changes_of}
use Rattle.bp_cow.specs.Cover.{commit_cover}
use Rattle.bp_cow.specs.Job.{IsTurned}
use Rattle.bp_cow.specs.Touched.{job_of, path_of, word_paths}
use Rattle.bp_cow.specs.declared.touched.Touched.{Touched}
use Rattle.bp_cow.proofs.CommitTaking.{commit_performs, copied_few, cover_open, stores_few}
use Rattle.bp_cow.proofs.CopiesNeed.{has-word}
use Rattle.pm_region.specs.Memory.{Memory, current_words, room_in}
use Rattle.bp_calls.specs.GivenBack.{GivesBack}
use Rattle.bp_calls.proofs.TruncatedLaws.{gives_as}
use Rattle.bp_calls.proofs.Shorter.{CanGiveBack}
use Rattle.bp_rename.specs.CanRename.{CanRename, moved_inode}
use Rattle.bp_rename.specs.TouchesTwo.{AnyTree, TouchesTwo, ino_path}
use Rattle.bp_rename.specs.declared.moves.Move.{Move}
use Rattle.bp_rename.proofs.ContentWords.{size_kept, words_only, words_value}
use Rattle.bp_rename.proofs.OntoLaws.{are, onto_can, onto_commit, onto_cover, onto_need, replaced_reached, replaced_some}
use Rattle.bp_rename.proofs.TwoWords.{first_value, no_leaves, pick, second_value, two_count}

module _ {in_snapshot : ℕ → Bool} (memory : Memory) (move : Move) (r : ℕ) (can : CanRename (current_words memory) move) (onto : move.to_slot ≡ Some r) (touched : Touched)
    (is : TouchesTwo (current_words memory) AnyTree touched (ino_path (current_words memory) move.from_dir move.from_slot) (ino_path (current_words memory) move.to_dir r) 0 (moved_inode (current_words memory) move))
    (blocks inodes : Set) (exact : AreExact (current_words memory) in_snapshot blocks inodes) (room : room_for (need (current_words memory) (replaces move.from_dir move.from_slot move.to_dir r)) ≤ room_in memory + 2) where
  pub ready : CanCommit (current_words memory) (size_of (current_words memory)) in_snapshot touched (has blocks)
  ready = onto_commit (current_words memory) move r can onto touched is (has blocks) exact.free_blocks

  count : length touched.words.now ≡ 2
  count = two_count (current_words memory) touched move.from_dir (32 * move.from_slot + 0) move.to_dir (32 * r + 0) 0 (moved_inode (current_words memory) move) is

  leaves : (job_of touched).leaves ≡ 0
  leaves = no_leaves (current_words memory) touched move.from_dir (32 * move.from_slot + 0) move.to_dir (32 * r + 0) 0 (moved_inode (current_words memory) move) is

  pub has_room : HasRoom memory touched
  has_room =
      let few = copied_few (current_words memory) (size_of (current_words memory)) touched (has blocks) can.well_formed ready in
      omega (arith, few, count, leaves, onto_need (current_words memory) move r can onto touched is, room)

-- What stands once a name has moved onto another one, where the inode of that one is `t`.
pub record IsReplaced (in_snapshot : ℕ → Bool) (old new : Memory) (move : Move) (r t : ℕ) (inodes left : Set) : Type 0 where
  pub well_formed : IsWellFormed (current_words new)
  pub whole : length (current_words new) ≡ length (current_words old)
  pub performs : PerformsThawed in_snapshot old new (replaces move.from_dir move.from_slot move.to_dir r)
      (λ image image_after. MovesEntry image image_after move.from_dir move.from_slot move.to_dir r (moved_inode image move))
  pub there : t < inode_count (current_words new)
  pub kind : (1 ≤ kind_of (current_words new) t) × (kind_of (current_words new) t ≤ 2)
  pub gives : CanGiveBack (current_words new) (root_of (current_words new) t) (size_of (current_words new) t) left
  pub in_room : t < length inodes
  pub taken : has inodes t ≡ false
  -- the sets are exact where it has another name, and else once it has come back with its blocks
  pub other : HasOtherName (current_words old) move.to_dir r t → AreExact (current_words new) in_snapshot left inodes
  pub last : (final : Set) → GivesBack in_snapshot (IsTruncated (current_words new) (root_of (current_words new) t) (size_of (current_words new) t) 0) left final →
      IsLastName (current_words old) move.to_dir r t → AreExact (current_words new) in_snapshot final (with inodes t)
  -- it has a name less
  pub counts : (before : List ℕ) → AreCounts (current_words old) before → t < length before → (rest : ℕ) →
      slice_index before t ≡ rest + 1 → AreCounts (current_words new) (set before t rest)

module _ {in_snapshot : ℕ → Bool} (old new : Memory) (move : Move) (r : ℕ) (can : CanRename (current_words old) move) (onto : move.to_slot ≡ Some r) (touched : Touched)
    (is : TouchesTwo (current_words old) AnyTree touched (ino_path (current_words old) move.from_dir move.from_slot) (ino_path (current_words old) move.to_dir r) 0 (moved_inode (current_words old) move))
    (blocks inodes left : Set) (exact : AreExact (current_words old) in_snapshot blocks inodes) (room : room_for (need (current_words old) (replaces move.from_dir move.from_slot move.to_dir r)) ≤ room_in old + 2)
    (done : CommitsTouched (size_of (current_words old)) in_snapshot touched old new blocks left) (as_long : length left ≡ length blocks) where
  commits : CanCommit (current_words old) (size_of (current_words old)) in_snapshot touched (has blocks)
  commits = ready old move r can onto touched is blocks inodes exact room

  some_words : length touched.words.now ≡ 2
  some_words = count old move r can onto touched is blocks inodes exact room

  apart_from_file : (i : ℕ) → pick move.from_dir move.to_dir i ≡ 0 → ⊥
  apart_from_file zero e = absurd (no_file can.entry.directory e)
    where
      no_file : {t : ℕ} → kind_of (current_words old) t ≡ 2 → t ≡ 0 → ⊥
      no_file kind e = let two : kind_of (current_words old) 0 ≡ 2 = subst (λ t. kind_of (current_words old) t ≡ 2) e kind in omega (arith, two)
  apart_from_file (suc i) e = absurd (no_file can.directory e)
    where
      no_file : {t : ℕ} → kind_of (current_words old) t ≡ 2 → t ≡ 0 → ⊥
      no_file kind e = let two : kind_of (current_words old) 0 ≡ 2 = subst (λ t. kind_of (current_words old) t ≡ 2) e kind in omega (arith, two)

  size_stays : (t : ℕ) → IsReached (current_words old) t → size_of (current_words new) t ≡ size_of (current_words old) t
  size_stays t reached =
      size_kept (current_words old) (size_of (current_words old)) (wf_forest (current_words old) can.well_formed) touched (pick move.from_dir move.to_dir) (pick (32 * move.from_slot + 0) (32 * r + 0))
      (are (current_words old) move r can onto touched is) (has blocks) can.well_formed commits (current_words new) (IsTurned (job_of touched) (length (commit_cover (current_words old) touched))) done.words
      t reached (λ i here e f. apart_from_file i e)

  only : CommitsOnly (current_words old) (current_words new) (changes_of (current_words old) (job_of touched)) (λ t l. ((t ≡ move.from_dir) × (l ≡ 32 * move.from_slot + 0)) ⊎ ((t ≡ move.to_dir) × (l ≡ 32 * r + 0)))
  only =
      words_only (current_words old) (size_of (current_words old)) (wf_forest (current_words old) can.well_formed) touched (pick move.from_dir move.to_dir) (pick (32 * move.from_slot + 0) (32 * r + 0))
      (are (current_words old) move r can onto touched is) (has blocks) can.well_formed commits (current_words new) (IsTurned (job_of touched) (length (commit_cover (current_words old) touched))) done.words
      (λ t l. ((t ≡ move.from_dir) × (l ≡ 32 * move.from_slot + 0)) ⊎ ((t ≡ move.to_dir) × (l ≡ 32 * r + 0)))
      (λ t reached. omega (arith, size_stays t reached)) can.well_formed.full_inode_file can.well_formed.full_directories
      (λ i here. reported i)
    where
      reported : (i : ℕ) → ((pick move.from_dir move.to_dir i ≡ move.from_dir) × (pick (32 * move.from_slot + 0) (32 * r + 0) i ≡ 32 * move.from_slot + 0)) ⊎
          ((pick move.from_dir move.to_dir i ≡ move.to_dir) × (pick (32 * move.from_slot + 0) (32 * r + 0) i ≡ 32 * r + 0))
      reported zero = inl (refl, refl)
      reported (suc i) = inr (refl, refl)

  value : (i : ℕ) → i < length touched.words.now →
      after_commit (current_words old) (job_of touched) (tree_trail (height_of (word (current_words old) 2)) (pick move.from_dir move.to_dir i) (suc (height_of (root_of (current_words old) (pick move.from_dir move.to_dir i)))) (pick (32 * move.from_slot + 0) (32 * r + 0) i)) ≡
      (job_of touched).value i
  value = words_value (current_words old) (size_of (current_words old)) (wf_forest (current_words old) can.well_formed) touched (pick move.from_dir move.to_dir) (pick (32 * move.from_slot + 0) (32 * r + 0))
      (are (current_words old) move r can onto touched is) (has blocks) can.well_formed commits

  onto_moves : MovesEntry (current_words old) (current_words new) move.from_dir move.from_slot move.to_dir r (moved_inode (current_words old) move)
  onto_moves =
      commit_moves (current_words old) (current_words new) (changes_of (current_words old) (job_of touched)) move.from_dir move.from_slot move.to_dir r (moved_inode (current_words old) move)
      (onto_can (current_words old) move r can onto) only
      (value 0 (omega (arith, some_words)) ∙ first_value (current_words old) touched move.from_dir (32 * move.from_slot + 0) move.to_dir (32 * r + 0) 0 (moved_inode (current_words old) move) is)
      (value 1 (omega (arith, some_words)) ∙ second_value (current_words old) touched move.from_dir (32 * move.from_slot + 0) move.to_dir (32 * r + 0) 0 (moved_inode (current_words old) move) is)

  moved_can : CanMoveEntry (current_words old) move.from_dir move.from_slot move.to_dir r (moved_inode (current_words old) move)
  moved_can = onto_can (current_words old) move r can onto

  onto_well_formed : IsWellFormed (current_words new)
  onto_well_formed = moved_well_formed (current_words old) (current_words new) can.well_formed move.from_dir move.from_slot move.to_dir r (moved_inode (current_words old) move) moved_can onto_moves

  onto_performs : PerformsThawed in_snapshot old new (replaces move.from_dir move.from_slot move.to_dir r)
      (λ image image_after. MovesEntry image image_after move.from_dir move.from_slot move.to_dir r (moved_inode image move))
  onto_performs =
      commit_performs old new (replaces move.from_dir move.from_slot move.to_dir r) (λ image image_after. MovesEntry image image_after move.from_dir move.from_slot move.to_dir r (moved_inode image move))
      (size_of (current_words old)) touched blocks left done
      (onto_cover (current_words old) move r can onto touched is) (onto_need (current_words old) move r can onto touched is)
      (let few = stores_few (current_words old) (size_of (current_words old)) touched (has blocks) can.well_formed commits in
      omega (arith, few, leaves old move r can onto touched is blocks inodes exact room, some_words, onto_need (current_words old) move r can onto touched is))
      (cover_open in_snapshot (current_words old) can.well_formed touched commits.shape (path_of (word_paths touched) 0) (has-word touched commits.shape 0 (omega (arith, some_words)))
      (λ d low. commits.pointers 0 d (omega (arith, some_words)) low) done.loose done.taken)
      onto_well_formed onto_moves

  -- ---- what had the name comes back

  was_there : IsReached (current_words old) (ino_at (current_words old) move.to_dir r)
  was_there = replaced_reached (current_words old) move r can onto

  some : ino_at (current_words old) move.to_dir r ≢ 0
  some = replaced_some (current_words old) move r can onto

  inode_low : ino_at (current_words old) move.to_dir r < inode_count (current_words old)
  inode_low = reached-in_file (current_words old) can.well_formed (ino_at (current_words old) move.to_dir r) was_there

  inode_there : ino_at (current_words old) move.to_dir r < inode_count (current_words new)
  inode_there = rw (size_stays 0 inode_file) inode_low

  kind_is : kind_of (current_words new) (ino_at (current_words old) move.to_dir r) ≡ kind_of (current_words old) (ino_at (current_words old) move.to_dir r)
  kind_is = onto_moves.kind (ino_at (current_words old) move.to_dir r) inode_low

  kind_some : (1 ≤ kind_of (current_words new) (ino_at (current_words old) move.to_dir r)) × (kind_of (current_words new) (ino_at (current_words old) move.to_dir r) ≤ 2)
  kind_some = rw kind_is (kinds (ino_at (current_words old) move.to_dir r) was_there some)
    where
      kinds : (t : ℕ) → IsReached (current_words old) t → t ≢ 0 → (1 ≤ kind_of (current_words old) t) × (kind_of (current_words old) t ≤ 2)
      kinds zero reached other = absurd (other refl)
      kinds (suc n) reached other = can.well_formed.kinds n reached

  onto_gives : CanGiveBack (current_words new) (root_of (current_words new) (ino_at (current_words old) move.to_dir r)) (size_of (current_words new) (ino_at (current_words old) move.to_dir r)) left
  onto_gives = record {
    sound = onto_moves.trees.sound (ino_at (current_words old) move.to_dir r) was_there;
    room = rw onto_moves.trees.whole (as_long ∙ exact.block_room);
    taken = λ b held.
        go b (record { tree = ino_at (current_words old) move.to_dir r; reached = was_there; has = rw (size_stays (ino_at (current_words old) move.to_dir r) was_there) at held })
        (cases_Bool (has left b));
  }
    where
      go : (b : ℕ) → HoldsBlock (current_words new) (IsReached (current_words old)) (size_of (current_words old)) b → (has left b ≡ true) ⊎ (has left b ≡ false) → has left b ≡ false
      go b held (inl e) = absurd ((done.exact.free b e).free held)
      go b held (inr e) = e

  inode_in_room : ino_at (current_words old) move.to_dir r < length inodes
  inode_in_room =
      let few : size_of (current_words old) 0 / 64 ≤ 64 * block_count (current_words old) =
      few_inodes (current_words old) (root_of (current_words old) 0) (size_of (current_words old) 0) (can.well_formed.sound 0 inode_file) can.well_formed.full_inode_file (omega (arith, can.well_formed.formatted.sized.at_least)) can.well_formed.inode_blocks in
      omega (arith, inode_low, few, exact.inode_room)

  inode_taken : has inodes (ino_at (current_words old) move.to_dir r) ≡ false
  inode_taken = go (cases_Bool (has inodes (ino_at (current_words old) move.to_dir r)))
    where
      go : (has inodes (ino_at (current_words old) move.to_dir r) ≡ true) ⊎ (has inodes (ino_at (current_words old) move.to_dir r) ≡ false) → has inodes (ino_at (current_words old) move.to_dir r) ≡ false
      go (inl e) = absurd ((exact.free_inodes.free (ino_at (current_words old) move.to_dir r) e).free was_there)
      go (inr e) = e

  -- where it has another name all stays
  module _ (more : HasOtherName (current_words old) move.to_dir r (ino_at (current_words old) move.to_dir r)) where
    not_itself : more.directory ≢ ino_at (current_words old) move.to_dir r
    not_itself e = can.alone r more.slot (ino_at (current_words old) move.to_dir r) onto (subst (λ t. EntryNames (current_words old) t more.slot (ino_at (current_words old) move.to_dir r)) e more.names)

    still_named : EntryNames (current_words new) more.directory more.slot (ino_at (current_words old) move.to_dir r)
    still_named =
        names_stay (current_words old) (current_words new) can.well_formed move.from_dir move.from_slot move.to_dir r (moved_inode (current_words old) move) moved_can onto_moves
        more.directory more.slot (ino_at (current_words old) move.to_dir r) more.reached more.names
        (λ e f. can.apart r onto (sym more.names.ino ∙ ap₂ (ino_at (current_words old)) e f)) more.other

    still_reached : (t : ℕ) → IsReached (current_words old) t → IsReached (current_words new) t
    still_reached t was = go (cases_eq t (ino_at (current_words old) move.to_dir r))
      where
        stays : (u : ℕ) → IsReached (current_words old) u → u ≢ ino_at (current_words old) move.to_dir r → IsReached (current_words new) u
        stays u reached other = moved_on (current_words old) (current_words new) can.well_formed move.from_dir move.from_slot move.to_dir r (moved_inode (current_words old) move) moved_can onto_moves can.outside u reached (λ not_zero. other)

        go : (t ≡ ino_at (current_words old) move.to_dir r) ⊎ (t ≡ ino_at (current_words old) move.to_dir r → ⊥) → IsReached (current_words new) t
        go (inl e) = subst (IsReached (current_words new)) (sym e) (named more.slot (stays more.directory more.reached not_itself) still_named)
        go (inr other) = stays t was other

    named_exact : AreExact (current_words new) in_snapshot left inodes
    named_exact =
        same_reach_exact (current_words old) (current_words new) (size_of (current_words old)) in_snapshot onto_moves.trees.whole (size_stays 0 inode_file) size_stays
        (reached_back (current_words old) (current_words new) can.well_formed move.from_dir move.from_slot move.to_dir r (moved_inode (current_words old) move) moved_can onto_moves) still_reached
        blocks left inodes exact as_long done.exact

  module _ (final : Set) (gives : GivesBack in_snapshot (IsTruncated (current_words new) (root_of (current_words new) (ino_at (current_words old) move.to_dir r)) (size_of (current_words new) (ino_at (current_words old) move.to_dir r)) 0) left final) where
    reported : GivesBack in_snapshot (HasBlock (current_words new) (root_of (current_words new) (ino_at (current_words old) move.to_dir r)) (size_of (current_words new) (ino_at (current_words old) move.to_dir r))) left final
    reported = gives_as (IsTruncated (current_words new) (root_of (current_words new) (ino_at (current_words old) move.to_dir r)) (size_of (current_words new) (ino_at (current_words old) move.to_dir r)) 0)
        (HasBlock (current_words new) (root_of (current_words new) (ino_at (current_words old) move.to_dir r)) (size_of (current_words new) (ino_at (current_words old) move.to_dir r))) left final
        (λ b gone. gone.has) (λ b held. record { has = held; past = omega arith }) gives

    -- where it was the last name
    onto_exact : IsLastName (current_words old) move.to_dir r (ino_at (current_words old) move.to_dir r) → AreExact (current_words new) in_snapshot final (with inodes (ino_at (current_words old) move.to_dir r))
    onto_exact last = record {
      block_room = rw onto_moves.trees.whole (gives.room ∙ as_long ∙ exact.block_room);
      inode_room = rw onto_moves.trees.whole (length-set inodes (ino_at (current_words old) move.to_dir r) true ∙ exact.inode_room);
      free_blocks =
          replaced_blocks (current_words old) (current_words new) can.well_formed move.from_dir move.from_slot move.to_dir r (moved_inode (current_words old) move) moved_can onto_moves can.outside some
          last in_snapshot (has left) (has final) done.exact reported.only reported.still reported.given;
      free_inodes =
          replaced_inode (current_words old) (current_words new) can.well_formed move.from_dir move.from_slot move.to_dir r (moved_inode (current_words old) move) moved_can onto_moves can.outside some
          last (has inodes) (has (with inodes (ino_at (current_words old) move.to_dir r))) exact.free_inodes
          (has_with_same inodes (ino_at (current_words old) move.to_dir r) inode_in_room) (has_with_other inodes (ino_at (current_words old) move.to_dir r));
    }

  -- ---- how many names it has

  onto_counts : (counts : List ℕ) → AreCounts (current_words old) counts → ino_at (current_words old) move.to_dir r < length counts → (rest : ℕ) →
      slice_index counts (ino_at (current_words old) move.to_dir r) ≡ rest + 1 → AreCounts (current_words new) (set counts (ino_at (current_words old) move.to_dir r) rest)
  onto_counts counts are low rest is =
      replaced_counts (current_words old) (current_words new) can.well_formed move.from_dir move.from_slot move.to_dir r (moved_inode (current_words old) move) moved_can onto_moves can.outside
      (can.apart r onto) counts are some low rest is

  pub onto_done : IsReplaced in_snapshot old new move r (ino_at (current_words old) move.to_dir r) inodes left
  onto_done = record {
    well_formed = onto_well_formed;
    whole = onto_moves.trees.whole;
    performs = onto_performs;
    there = inode_there;
    kind = kind_some;
    gives = onto_gives;
    in_room = inode_in_room;
    taken = inode_taken;
    other = named_exact;
    last = onto_exact;
    counts = onto_counts;
  }
