-- A name moves after the last entry of another directory: an entry is prepared there, and then one commit takes it in by the directory's size, and empties the old one.
use Rattle.std.proofs.Common.{◌≡◌, ◌≢◌, ◌⊎◌, ℕ, zero, suc, ◌+◌, ◌*◌, ◌/◌, ◌<◌, ◌≤◌, List, [], ◌∷◌, ◌++◌, length, Bool, None, slice_index, unwrap_or, refl, sym, ◌∙◌, ap, ap₂, subst, arith, inl, inr}
use Rattle.std.proofs.lemmas.Bool.{cases_eq}
use Rattle.std.proofs.lemmas.List.{length-append}
use Rattle.pm_region.specs.Memory.{Memory, current_words, room_in}
use Rattle.pm_region.proofs.MemoryLaws.{room_in-piece}
use Rattle.bp_append.specs.Prepared.{HasLooseEnd, need_for}
use Rattle.bp_append.specs.Stores.{prep_stores}
use Rattle.bp_append.proofs.StoresLaws.{past_end_whole}
use Rattle.bp_free.specs.Set.{Set, has, members}
use Rattle.bp_layout.specs.Directory.{EntryNames, empty_slot, entry_count, entry_word, ino_at, name_at, slot_named}
use Rattle.bp_layout.specs.Paths.{IsName}
use Rattle.bp_layout.specs.Free.{AreUnheld}
use Rattle.bp_layout.specs.Inode.{inode_count, kind_of, root_of, size_of}
use Rattle.bp_layout.specs.Names.{AreCounts}
use Rattle.bp_layout.specs.Need.{common_all, need}
use Rattle.bp_layout.specs.Need.Change.{moves}
use Rattle.bp_layout.specs.Reached.{IsReached}
use Rattle.bp_layout.specs.Reached.IsReached.{inode_file}
use Rattle.bp_layout.specs.Thaw.{thawed}
use Rattle.bp_layout.specs.Tree.{IsFull, IsLivePointer, node}
use Rattle.bp_layout.proofs.TreeLaws.{live_pointer_word, tree_word-zero}
use Rattle.bp_read.proofs.Digits.{length-digits}
use Rattle.bp_changes.specs.Trail.{Trail, block_on, trail_of}
use Rattle.bp_changes.proofs.PathTrails.{length-trail_of}
use Rattle.bp_layout.specs.WellFormed.{IsWellFormed}
use Rattle.bp_layout.specs.WordPaths.{WordPath, digits, inode_path, tree_path}
use Rattle.bp_layout.specs.Words.{Image, block_count, block_of, height_of, word}
use Rattle.bp_layout.proofs.Reached.{reached-in_file}
use Rattle.bp_limits.specs.Limits.{block_inodes, block_words, max_blocks, max_height}
use Rattle.bp_changes.specs.Commits.{CommitsOnly}
use Rattle.bp_changes.specs.Effects.{CarriesEntry}
use Rattle.bp_changes.proofs.Carry.{carried_well_formed}
use Rattle.bp_changes.proofs.ChangesOver.{carries_over}
use Rattle.bp_changes.proofs.Committed.{commit_carries}
use Rattle.bp_changes.proofs.Named.{carried_counts}
use Rattle.bp_changes.proofs.ReachedOn.{names_on, reached_on}
use Rattle.bp_changes.proofs.SameMeaning.{well_formed-same}
use Rattle.bp_changes.specs.Forest.{tree_trail, IsForest}
use Rattle.bp_changes.specs.Sets.{AreExact, AreExactFor}
use Rattle.bp_changes.proofs.FreeSets.{wf_forest}
use Rattle.bp_changes.proofs.MovedSets.{carried_exact}
use Rattle.bp_changes.specs.Performs.{IsOpen, PerformsThawed, most_stores_thawed, room_for}
use Rattle.bp_cow.specs.CanCommit.{CanCommit}
use Rattle.bp_cow.specs.Commit.{CommitsTouched, HasLooseCover, HasRoom, commit_stores, cover_word}
use Rattle.bp_cow.specs.Committed.{after_commit, changes_of}
use Rattle.bp_cow.specs.Cover.{commit_cover, copied_count}
use Rattle.bp_cow.specs.Job.{IsTurned}
use Rattle.bp_cow.specs.Touched.{job_of, path_of, word_paths}
use Rattle.bp_cow.specs.Found.{AreWaysIn}
use Rattle.bp_cow.specs.declared.covers.FoundWays.{FoundWays}
use Rattle.bp_cow.specs.declared.touched.Touched.{Touched}
use Rattle.bp_cow.proofs.CommitTaking.{commit_performs_after, cover_open}
use Rattle.bp_cow.proofs.CopiesNeed.{has-word}
use Rattle.bp_calls.proofs.ReadingLaws.{few_inode}
use Rattle.bp_calls.specs.Entries.{PutsPastEnd}
use Rattle.bp_calls.specs.Steps.{CanPutPastEnd}
use Rattle.bp_calls.proofs.AfterLaws.{slot_named_over}
use Rattle.bp_calls.proofs.EnteredLaws.{name_same, not_named}
use Rattle.bp_calls.proofs.PreparedSets.{live_before, prepared_exact, prepared_forest, prepared_sets, sizes_low, still_free}
use Rattle.bp_calls.proofs.SizesWith.{size_with_here, size_with_other, sizes_with}
use Rattle.bp_rename.specs.CanRename.{CanRename, moved_inode}
use Rattle.bp_rename.specs.RenamesEntry.{RenamesEntry, new_slot}
use Rattle.bp_rename.specs.RenamesEntry.RenamesEntry.{across}
use Rattle.bp_rename.specs.TouchesTwo.{OtherTree, TouchesTwo, ino_path, size_path}
use Rattle.bp_rename.specs.declared.moves.Move.{Move}
use Rattle.bp_rename.proofs.PastEndTouched.{past_end_are, past_end_cover, past_end_few, past_end_needs, past_end_whole_cover, not_inodes, size_prefixes, touched_loose, touched_needs, touched_paths, touched_size}
use Rattle.bp_rename.proofs.ListedTrees.{lists_stay}
use Rattle.bp_rename.proofs.LooseCovers.{block_stays, still_loose}
use Rattle.bp_rename.proofs.ContentWords.{AreContent, content_trail, size_given, size_kept, words_can, words_prefixes, words_kept, words_only, words_value}
use Rattle.bp_rename.proofs.Outside.{below_before}
use Rattle.bp_calls.proofs.WaysStay.{ways_stay_on}
use Rattle.bp_rename.proofs.TwoWords.{first_value, pick, second_value, two_count}

-- a trail that is shorter than those of inodes' words is that of a pointer of the inode file
short_trail : (h i d k n : ℕ) (path : WordPath) → n < suc h → tree_trail h (suc i) d k ≡ trail_of path n → ⊥
short_trail h i d k n path low same =
    let root : WordPath = inode_path h (suc i) 1 in
    let trails : trail_of path n ≡ trail_of (tree_path h (suc i) d k) (length (tree_path h (suc i) d k)) = sym same ∙ sym (content_trail h (suc i) d k) in
    let long : n ≡ length (root ++ digits d k) =
    sym (length-trail_of path n) ∙ ap (λ (q : Trail). length q) trails ∙ length-trail_of (tree_path h (suc i) d k) (length (tree_path h (suc i) d k)) in
    omega (arith, low, long, length-append root (digits d k), length-digits (suc h) (8 * suc i + 1))

-- the inode that moves is a number of 32 bits
pub moved_few : (image : Image) (move : Move) → CanRename image move → moved_inode image move < block_inodes * max_blocks
moved_few image move can = few_inode image can.well_formed (moved_inode image move) (can.well_formed.inos move.from_dir move.from_slot (moved_inode image move) can.source can.entry)

-- the entry can be put there
pub can_put : {in_snapshot : ℕ → Bool} (memory : Memory) (move : Move) (blocks inodes : Set) (can : CanRename (current_words memory) move) (other : move.from_dir ≢ move.to_dir) (new_name : move.to_slot ≡ None) (none : empty_slot (current_words memory) move.to_dir ≡ None)
    (touched : Touched) (is : TouchesTwo (current_words memory) (OtherTree move.to_dir) touched (size_path (current_words memory) move.to_dir) (ino_path (current_words memory) move.from_dir move.from_slot) (size_of (current_words memory) move.to_dir + 256) 0) →
    AreExact (current_words memory) in_snapshot blocks inodes → need (current_words memory) (moves move.from_dir move.from_slot move.to_dir) ≤ length (members blocks) →
    room_for (need (current_words memory) (moves move.from_dir move.from_slot move.to_dir)) ≤ room_in memory + 2 → HasLooseEnd (current_words memory) in_snapshot move.to_dir → CanPutPastEnd in_snapshot memory blocks move.to_dir move.name.now
can_put memory move blocks inodes can other new_name none touched is exact enough room loose = record {
  lacks = record { well_formed = can.well_formed; reached = can.target; directory = can.directory; form = can.name; missing = can.slot ∙ new_name };
  none = none;
  inodes = inodes;
  exact = exact;
  enough = let needs = touched_needs (current_words memory) move can other none touched is in omega (arith, needs, enough);
  room = let needs = touched_needs (current_words memory) move can other none touched is in omega (arith, needs, room);
  loose = loose;
}

module _ {in_snapshot : ℕ → Bool} (old middle : Memory) (move : Move) (blocks inodes after : Set) (can : CanRename (current_words old) move) (new_name : move.to_slot ≡ None) (other : move.from_dir ≢ move.to_dir)
    (none : empty_slot (current_words old) move.to_dir ≡ None) (exact : AreExact (current_words old) in_snapshot blocks inodes)
    (room : room_for (need (current_words old) (moves move.from_dir move.from_slot move.to_dir)) ≤ room_in old + 2)
    (puts : PutsPastEnd in_snapshot old middle (members blocks) (members after) move.to_dir (moved_inode (current_words old) move) move.name.now) (as_long : length after ≡ length blocks)
    (touched : Touched) (is : TouchesTwo (current_words old) (OtherTree move.to_dir) touched (size_path (current_words old) move.to_dir) (ino_path (current_words old) move.from_dir move.from_slot) (size_of (current_words old) move.to_dir + 256) 0) where
  abbrev image : Image
  image = current_words old

  abbrev mid : Image
  mid = current_words middle

  abbrev i : ℕ
  i = move.from_dir

  abbrev s : ℕ
  s = move.from_slot

  abbrev j : ℕ
  j = move.to_dir

  abbrev x : ℕ
  x = moved_inode (current_words old) move

  abbrev bound : ℕ → ℕ
  bound = sizes_with (current_words middle) touched

  -- ---- the image in the middle

  pub past_end_formed : IsWellFormed (current_words middle)
  past_end_formed = well_formed-same image mid can.well_formed puts.prepared.ready.meaning

  on : (t : ℕ) → IsReached image t → IsReached mid t
  on = reached_on image mid puts.prepared.ready.meaning

  source : IsReached mid i
  source = on i can.source

  target : IsReached mid j
  target = on j can.target

  entry : EntryNames mid i s x
  entry = names_on image mid puts.prepared.ready.meaning i s x can.source can.entry

  directory : kind_of mid j ≡ 2
  directory = puts.prepared.ready.meaning.kind j can.target ∙ can.directory

  not_file : j ≢ 0
  not_file e = not_inodes image j can.directory e

  size_was : size_of mid j ≡ size_of image j
  size_was = puts.prepared.ready.sizes j can.target

  missing : slot_named mid j move.name.now ≡ None
  missing = slot_named_over image mid can.well_formed puts.prepared.ready.meaning j move.name.now can.target can.directory ∙ can.slot ∙ new_name

  ino : ino_at mid j (entry_count mid j) ≡ x
  ino = rw size_was puts.ino

  spelled : name_at mid j (entry_count mid j) ≡ move.name.now
  spelled = rw size_was puts.spelled

  -- ---- the paths stay

  root_inodes : root_of image 0 ≡ root_of mid 0
  root_inodes = sym (puts.prepared.ready.roots 0 inode_file (λ e. not_file (sym e)))

  size_stays : size_path image j ≡ size_path mid j
  size_stays = ap (λ r. inode_path (height_of r) j 2) root_inodes

  entry_stays : ino_path image i s ≡ ino_path mid i s
  entry_stays = ap₂ (λ top root. tree_path (height_of top) i (suc (height_of root)) (32 * s + 0)) root_inodes (sym (puts.prepared.ready.roots i can.source other))

  is_mid : TouchesTwo mid (OtherTree j) touched (size_path mid j) (ino_path mid i s) (size_of image j + 256) 0
  is_mid = record {
    none = is.none;
    trees = lists_stay image mid (OtherTree j) touched.trees.now (ap height_of (sym root_inodes)) (λ t apart reached some. (on t reached, (puts.prepared.ready.roots t reached apart, puts.prepared.ready.sizes t reached))) is.trees;
    paths = is.paths ∙ ap₂ (λ (p q : WordPath). p ∷ q ∷ []) size_stays entry_stays;
    values = is.values;
  }

  -- ---- the sizes that count

  in_file : j < inode_count mid
  in_file = reached-in_file mid past_end_formed j target

  path_is : path_of (word_paths touched) 0 ≡ size_path mid j
  path_is = ap (λ ps. path_of ps 0) is_mid.paths

  bound_here : sizes_with (current_words middle) touched j ≡ size_of image j + 256
  bound_here = size_with_here mid past_end_formed j in_file touched path_is ∙ ap (λ vs. slice_index vs 0) is_mid.values

  bound_other : (t : ℕ) → (t ≡ j → ⊥) → sizes_with (current_words middle) touched t ≡ size_of mid t
  bound_other = size_with_other mid past_end_formed j in_file touched path_is

  past : size_of image j ≤ size_of image j + 256
  past = omega arith

  forest : IsForest mid (sizes_with (current_words middle) touched)
  forest = prepared_forest old middle blocks inodes after j (size_of image j) (size_of image j + 256) puts.bytes can.well_formed exact can.target not_file past puts.prepared (sizes_with mid touched) bound_here bound_other

  low : (t : ℕ) → size_of mid t ≤ sizes_with (current_words middle) touched t
  low = sizes_low old middle blocks inodes after j (size_of image j) (size_of image j + 256) puts.bytes can.well_formed exact can.target not_file past puts.prepared (sizes_with mid touched) bound_here bound_other

  unheld : AreUnheld mid (IsReached mid) (sizes_with (current_words middle) touched) in_snapshot (has after)
  unheld = prepared_exact old middle blocks inodes after j (size_of image j) (size_of image j + 256) puts.bytes can.well_formed exact can.target not_file past puts.prepared (sizes_with mid touched) bound_here bound_other

  sets : AreExactFor mid (IsReached mid) (sizes_with (current_words middle) touched) in_snapshot after inodes
  sets = prepared_sets old middle blocks inodes after j (size_of image j) (size_of image j + 256) puts.bytes can.well_formed exact can.target not_file past puts.prepared (sizes_with mid touched) bound_here bound_other as_long

  pub past_end_fits : block_count (current_words middle) ≤ length after
  past_end_fits = omega (arith, sets.block_room)

  are : AreContent mid (sizes_with (current_words middle) touched) touched (pick 0 i) (pick (8 * j + 2) (32 * s + 0))
  are = past_end_are mid past_end_formed i s j (size_of image j + 256) source entry.in_size entry.directory target touched is_mid (sizes_with mid touched) low (λ t apart. let same = bound_other t apart in omega (arith, same))

  pub past_end_can : CanCommit (current_words middle) (sizes_with (current_words middle) touched) in_snapshot touched (has after)
  past_end_can = words_can mid (sizes_with mid touched) forest touched (pick 0 i) (pick (8 * j + 2) (32 * s + 0)) are (λ t reached. low t) (has after) unheld

  count : length touched.words.now ≡ 2
  count = two_count mid touched 0 (8 * j + 2) i (32 * s + 0) (size_of image j + 256) 0 is_mid

  -- ---- the copies

  covers : commit_cover mid touched ≡ common_all (size_path image j ∷ ino_path image i s ∷ [])
  covers =
      past_end_cover mid past_end_formed i s j (size_of image j + 256) source entry.in_size entry.directory target touched is_mid
      ∙ ap₂ (λ p q. common_all (p ∷ q ∷ [])) (sym size_stays) (sym entry_stays)

  needs : need image (moves move.from_dir move.from_slot move.to_dir) ≡ need_for image j (size_of image j) (size_of image j + 256) + copied_count mid touched
  needs = past_end_needs image move can other none touched (touched_paths image move can other none touched is) mid covers

  few_copies : copied_count mid touched ≤ 23
  few_copies = past_end_few mid past_end_formed i s j (size_of image j + 256) source entry.in_size entry.directory target touched is_mid

  pub past_end_some : need (current_words old) (moves move.from_dir move.from_slot move.to_dir) ≤ length (members blocks) → copied_count (current_words middle) touched ≤ length (members after)
  past_end_some enough =
      let all : length (members blocks) ≡ length puts.prepared.taken + length (members after) = ap length puts.prepared.takes ∙ length-append puts.prepared.taken (members after) in
      omega (arith, all, enough, needs, puts.prepared.counted)

  pub past_end_room : HasRoom middle touched
  past_end_room =
      enough _ _ _ _ _ _ _ (room_in-piece _ _ old middle puts.prepared.adds.part.added puts.prepared.adds.part.adds puts.prepared.adds.part.piece) (past_end_whole (size_of image j) (size_of image j) (size_of image j + 256) max_height)
      needs few_copies count room
    where
      enough : (made past_end copied needed words before left : ℕ) → before ≤ left + (2 + (block_words * made + past_end + 2)) → past_end ≤ block_words * suc max_height → needed ≡ made + copied → copied ≤ 23 → words ≡ 2 → room_for needed ≤ before + 2 →
          (block_words + 1) * copied + words + 1 + 2 ≤ left
      enough made past_end copied needed words before left a b c d e f = omega (arith, a, b, c, d, e, f)

  -- ---- the word of the cover

  -- the pointers of the inode file stay
  inode_node : (d k : ℕ) → IsLivePointer (root_of image 0) (size_of image 0) d k → node mid (root_of mid 0) d k ≡ node image (root_of image 0) d k
  inode_node zero k live = ap block_of (tree_word-zero mid (root_of mid 0) k ∙ sym root_inodes ∙ sym (tree_word-zero image (root_of image 0) k))
  inode_node (suc d) k live =
      ap block_of (puts.prepared.ready.others 0 d k inode_file (λ e. not_file (sym e)) (live_pointer_word (root_of image 0) (size_of image 0) (suc d) k live) (λ e last f. omega (arith, last, live.height)))

  -- so do all on the way to the size
  size_node : (t d k n : ℕ) → n < length (size_path image j) → IsLivePointer (root_of image t) (size_of image t) d k → tree_trail (height_of (root_of image 0)) t d k ≡ trail_of (size_path image j) n →
      node mid (root_of mid t) d k ≡ node image (root_of image t) d k
  size_node zero d k n low live named = inode_node d k live
  size_node (suc u) d k n low live named =
      absurd (short_trail (height_of (root_of image 0)) u d k n (size_path image j) (omega (arith, low, length-digits (suc (height_of (root_of image 0))) (8 * j + 2))) named)

  same_blocks : (n : ℕ) → n < length (size_path image j) → block_on mid (trail_of (size_path image j) n) ≡ block_on image (trail_of (size_path image j) n)
  same_blocks n low =
      let one = size_prefixes image move can other none touched is n low in
      block_stays image mid (size_of image) (trail_of (size_path image j) n) one (ap height_of (sym root_inodes)) (size_node one.tree one.depth one.index n low one.live one.named)

  -- so the ways that were found before are those of the image in the middle
  pub past_end_ways : (found : FoundWays) → AreWaysIn (current_words old) touched found → AreWaysIn (current_words middle) touched found
  past_end_ways = ways_stay_on image mid touched past_end_can.shape puts.prepared.ready.meaning.trees.whole (size_path image j) (touched_size image move can other none touched is) same_blocks

  pub past_end_loose : thawed (current_words old) in_snapshot (moves move.from_dir move.from_slot move.to_dir) ≡ [] → HasLooseCover (current_words middle) in_snapshot touched
  past_end_loose clear =
      still_loose image mid touched past_end_can.shape (size_path image j) (touched_size image move can other none touched is) same_blocks
      (covers ∙ sym (past_end_cover image can.well_formed i s j (size_of image j + 256) can.source can.entry.in_size can.entry.directory can.target touched is))
      in_snapshot (touched_loose image move can other none touched is in_snapshot clear)

  few_stores : prep_stores (size_of image j) (size_of image j) (size_of image j + 256) (need_for image j (size_of image j) (size_of image j + 256)) + commit_stores mid touched ≤
      most_stores_thawed (need image (moves move.from_dir move.from_slot move.to_dir))
  few_stores = go _ _ _ _ _ needs (past_end_whole (size_of image j) (size_of image j) (size_of image j + 256) max_height) count few_copies
    where
      go : (made copied words needed past_end : ℕ) → needed ≡ made + copied → past_end ≤ block_words * suc max_height → words ≡ 2 → copied ≤ 23 →
          block_words * made + past_end + 2 + ((block_words + 1) * copied + words + 1) ≤ most_stores_thawed needed
      go made copied words needed past_end a b c d = omega (arith, a, b, c, d)

  -- ---- what the commit makes

  module _ (new : Memory) (last : Set) (done : CommitsTouched (sizes_with (current_words middle) touched) in_snapshot touched middle new after last) where
    not_source : i ≡ 0 → ⊥
    not_source e = not_inodes image i can.entry.directory e

    size_here : (u : ℕ) → j ≡ u → size_of (current_words new) u ≡ size_of image j + 256
    size_here zero e = absurd (not_file e)
    size_here (suc n) e =
        size_given mid (sizes_with mid touched) forest touched (pick 0 i) (pick (8 * j + 2) (32 * s + 0)) are (has after) past_end_formed past_end_can (current_words new) (IsTurned (job_of touched) (length (commit_cover mid touched))) done.words
        n 0 (subst (IsReached mid) e target) (omega (arith, count)) refl (ap (λ u. 8 * u + 2) e)
        ∙ first_value mid touched 0 (8 * j + 2) i (32 * s + 0) (size_of image j + 256) 0 is_mid

    size_there : (t : ℕ) → IsReached mid t → (t ≡ j → ⊥) → size_of (current_words new) t ≡ size_of mid t
    size_there t reached apart =
        size_kept mid (sizes_with mid touched) forest touched (pick 0 i) (pick (8 * j + 2) (32 * s + 0)) are (has after) past_end_formed past_end_can (current_words new) (IsTurned (job_of touched) (length (commit_cover mid touched))) done.words
        t reached (λ k here e f. beside k e f)
      where
        beside : (k : ℕ) → pick 0 i k ≡ 0 → pick (8 * j + 2) (32 * s + 0) k ≡ 8 * t + 2 → ⊥
        beside zero e f = apart (omega (arith, f))
        beside (suc k) e f = not_source e

    sizes : (t : ℕ) → IsReached mid t → size_of (current_words new) t ≡ sizes_with (current_words middle) touched t
    sizes t reached = go (cases_eq t j)
      where
        go : (t ≡ j) ⊎ (t ≡ j → ⊥) → size_of (current_words new) t ≡ sizes_with (current_words middle) touched t
        go (inl e) = size_here t (sym e) ∙ sym bound_here ∙ ap (sizes_with mid touched) (sym e)
        go (inr apart) = size_there t reached apart ∙ sym (bound_other t apart)

    only : CommitsOnly mid (current_words new) (changes_of mid (job_of touched)) (λ t l. ((t ≡ i) × (l ≡ 32 * s + 0)) ⊎ ((t ≡ 0) × (l ≡ 8 * j + 2)))
    only =
        words_only mid (sizes_with mid touched) forest touched (pick 0 i) (pick (8 * j + 2) (32 * s + 0)) are (has after) past_end_formed past_end_can (current_words new) (IsTurned (job_of touched) (length (commit_cover mid touched))) done.words
        (λ t l. ((t ≡ i) × (l ≡ 32 * s + 0)) ⊎ ((t ≡ 0) × (l ≡ 8 * j + 2)))
        (λ t reached. omega (arith, sizes t reached))
        (subst (IsFull mid (root_of mid 0)) (sym (bound_other 0 (λ e. not_file (sym e)))) past_end_formed.full_inode_file)
        (λ t reached kind. full t reached kind (cases_eq t j))
        (λ k here. reported k)
      where
        full : (t : ℕ) → IsReached mid t → kind_of mid t ≡ 2 → (t ≡ j) ⊎ (t ≡ j → ⊥) → IsFull mid (root_of mid t) (sizes_with (current_words middle) touched t)
        full t reached kind (inl e) = subst (λ u. IsFull mid (root_of mid u) (sizes_with (current_words middle) touched u)) (sym e) (subst (IsFull mid (root_of mid j)) (sym bound_here) (puts.prepared.ready.full (inr can.directory)))
        full t reached kind (inr apart) = subst (IsFull mid (root_of mid t)) (sym (bound_other t apart)) (past_end_formed.full_directories t reached kind)

        reported : (k : ℕ) → ((pick 0 i k ≡ i) × (pick (8 * j + 2) (32 * s + 0) k ≡ 32 * s + 0)) ⊎ ((pick 0 i k ≡ 0) × (pick (8 * j + 2) (32 * s + 0) k ≡ 8 * j + 2))
        reported zero = inr (refl, refl)
        reported (suc k) = inl (refl, refl)

    value : (k : ℕ) → k < length touched.words.now →
        after_commit mid (job_of touched) (tree_trail (height_of (word mid 2)) (pick 0 i k) (suc (height_of (root_of mid (pick 0 i k)))) (pick (8 * j + 2) (32 * s + 0) k)) ≡ (job_of touched).value k
    value = words_value mid (sizes_with mid touched) forest touched (pick 0 i) (pick (8 * j + 2) (32 * s + 0)) are (has after) past_end_formed past_end_can

    -- the words of the entry after the last stay
    stays : (f : ℕ) → f < 32 → after_commit mid (job_of touched) (tree_trail (height_of (word mid 2)) j (suc (height_of (root_of mid j))) (32 * entry_count mid j + f)) ≡ entry_word mid j (entry_count mid j) f
    stays f few =
        words_kept mid (sizes_with mid touched) forest touched (pick 0 i) (pick (8 * j + 2) (32 * s + 0)) are (has after) past_end_formed past_end_can
        j (32 * entry_count mid j + f) target (omega (arith, few, bound_here, size_was)) (λ k here e g. beside k e)
      where
        beside : (k : ℕ) → j ≡ pick 0 i k → ⊥
        beside zero e = not_file e
        beside (suc k) e = other (sym e)

    mid_carries : CarriesEntry mid (current_words new) i s j (entry_count mid j) x
    mid_carries =
        commit_carries mid (current_words new) (changes_of mid (job_of touched)) i s j x past_end_formed source entry target directory ino (subst IsName (sym spelled) can.name)
        (λ y l n same. not_named mid past_end_formed j move.name.now target missing y l n (same ∙ spelled)) only
        (value 1 (omega (arith, count)) ∙ second_value mid touched 0 (8 * j + 2) i (32 * s + 0) (size_of image j + 256) 0 is_mid)
        (value 0 (omega (arith, count)) ∙ first_value mid touched 0 (8 * j + 2) i (32 * s + 0) (size_of image j + 256) 0 is_mid ∙ ap (λ n. n + 256) (sym size_was))
        stays

    slot_is : entry_count mid j ≡ new_slot image j
    slot_is = ap (λ n. n / 256) size_was ∙ sym (ap (λ o. unwrap_or o (entry_count image j)) none)

    name_is : name_at (current_words new) j (entry_count mid j) ≡ move.name.now
    name_is =
        name_same mid (current_words new) (root_of mid j) (root_of (current_words new) j) (entry_count mid j) (rw spelled can.name.short)
        (λ f some few.
        only.commits.words j (32 * entry_count mid j + f) target (inr directory)
        (let grown = size_here j refl in let inside : 8 * (32 * entry_count mid j + f) + 8 ≤ size_of (current_words new) j = omega (arith, few, grown, size_was) in omega (arith, inside))
        (λ e. absurd (not_file e)) ∙ stays f few)
        ∙ spelled

    carries : CarriesEntry image (current_words new) i s j (entry_count mid j) x
    carries = carries_over image mid (current_words new) can.well_formed puts.prepared.ready.meaning puts.prepared.ready.sizes i s j (entry_count mid j) x mid_carries

    effect : RenamesEntry move image (current_words new)
    effect =
        across new_name other
        (subst (λ r. CarriesEntry image (current_words new) i s j r x) slot_is carries)
        (subst (λ r. name_at (current_words new) j r ≡ move.name.now) slot_is name_is)

    open_cover : IsOpen mid in_snapshot done.taken (cover_word mid touched)
    open_cover =
        cover_open in_snapshot mid past_end_formed touched past_end_can.shape (path_of (word_paths touched) 0) (has-word touched past_end_can.shape 0 (omega (arith, count)))
        (λ d deep.
        words_prefixes mid (size_of mid) (wf_forest mid past_end_formed) touched (pick 0 i) (pick (8 * j + 2) (32 * s + 0))
        (past_end_are mid past_end_formed i s j (size_of image j + 256) source entry.in_size entry.directory target touched is_mid (size_of mid) (λ t. omega arith) (λ t apart. omega arith)) 0 d (omega (arith, count)) deep)
        done.loose done.taken

    pub past_end_performs : PerformsThawed in_snapshot old new (moves move.from_dir move.from_slot move.to_dir) (RenamesEntry move)
    past_end_performs =
        commit_performs_after old middle new (moves move.from_dir move.from_slot move.to_dir) (RenamesEntry move) (sizes_with mid touched) touched after last puts.prepared.taken 2
        (prep_stores (size_of image j) (size_of image j) (size_of image j + 256) (need_for image j (size_of image j) (size_of image j + 256))) puts.prepared.adds done
        (live_before old middle blocks inodes after j (size_of image j) (size_of image j + 256) puts.bytes can.well_formed exact can.target not_file past puts.prepared (sizes_with mid touched) bound_here bound_other)
        (still_free old middle blocks inodes after j (size_of image j) (size_of image j + 256) puts.bytes can.well_formed exact can.target not_file past puts.prepared (sizes_with mid touched) bound_here bound_other)
        (covers ∙ sym (past_end_whole_cover image move can other none)) (omega arith) few_stores (omega (arith, puts.prepared.counted, needs)) open_cover
        (carried_well_formed mid (current_words new) past_end_formed i s j (entry_count mid j) x mid_carries) effect

    pub past_end_exact : length last ≡ length after → AreExact (current_words new) in_snapshot last inodes
    past_end_exact same =
        carried_exact mid (current_words new) past_end_formed i s j (entry_count mid j) x mid_carries
        (λ below. can.outside (below_before image mid can.well_formed puts.prepared.ready.meaning i s x can.source can.entry j below))
        (sizes_with mid touched) in_snapshot sizes after last inodes sets same done.exact

    pub past_end_counts : (counts : List ℕ) → AreCounts (current_words old) counts → AreCounts (current_words new) counts
    past_end_counts = carried_counts image (current_words new) can.well_formed i s j (entry_count mid j) x carries can.outside

    pub past_end_whole_image : length (current_words new) ≡ length (current_words old)
    past_end_whole_image = carries.trees.whole
