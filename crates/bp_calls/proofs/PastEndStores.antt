-- An entry after the last one of a directory, and then the directory's size: what stands before the size takes it in,
-- and what is left then, whichever inode the entry names.
use Rattle.std.proofs.Common.{◌≡◌, ◌≢◌, ◌⊎◌, ℕ, Bool, false, ◌+◌, ◌*◌, ◌/◌, ◌%◌, ◌<◌, ◌≤◌, List, [], ◌++◌, length, None, unwrap_or, set, sym, ◌∙◌, ap, subst, arith, inl, inr}
use Rattle.bp_limits.specs.Limits.{max_height}
use Rattle.std.proofs.lemmas.Bool.{cases_eq}
use Rattle.std.proofs.lemmas.List.{append_assoc, append-nil}
use Rattle.bp_append.specs.Prepared.{Prepares, need_for}
use Rattle.bp_append.specs.Stores.{prep_stores}
use Rattle.bp_append.proofs.OtherTrees.{node_stays, other_block_back, other_block_on}
use Rattle.bp_changes.specs.SameMeaning.{SameMeaning}
use Rattle.bp_changes.proofs.ReachedOn.{meaning_on, reached_on}
use Rattle.bp_changes.proofs.SameMeaning.{reached-back, well_formed-same}
use Rattle.bp_free.specs.Set.{Set, has as contains, members}
use Rattle.bp_layout.specs.Directory.{empty_slot, entry_count, slot_named}
use Rattle.bp_layout.specs.Paths.{Name}
use Rattle.bp_layout.specs.Free.{AreFreeInodes}
use Rattle.bp_layout.specs.Inode.{ContentStandsAt, RootPlace, kind_of, root_of, size_of, inode_count}
use Rattle.bp_layout.specs.Inode.RootPlace.{inode}
use Rattle.bp_layout.specs.Members.{Has}
use Rattle.bp_layout.specs.Need.{Change, cover}
use Rattle.bp_layout.specs.Need.Change.{enters as gains}
use Rattle.bp_layout.specs.Reached.{IsReached, IsLiveBlock}
use Rattle.bp_layout.specs.Reached.IsReached.{inode_file}
use Rattle.bp_layout.specs.Same.{Same}
use Rattle.bp_layout.specs.Tree.{node, HasBlock}
use Rattle.bp_layout.specs.WellFormed.{IsWellFormed}
use Rattle.bp_layout.specs.WordPaths.{address}
use Rattle.bp_layout.specs.Words.{Image, word, height_of}
use Rattle.bp_layout.proofs.Reached.{reached-in_file}
use Rattle.bp_changes.specs.Sets.{AreExact}
use Rattle.bp_changes.specs.Performs.{AddsTaking, IsOpen, PerformsWithin, TakesBlocks}
use Rattle.bp_changes.specs.Performs.IsOpen.{in_taken, in_live, at_root, at_size}
use Rattle.bp_changes.proofs.PerformsLaws.{same_equivalence, takes_twice, within_committed, within_more}
use Rattle.bp_append.proofs.StoresLaws.{past_end_one}
use Rattle.pm_epochs.specs.Crash.{commit}
use Rattle.pm_epochs.specs.Log.{words_after}
use Rattle.pm_epochs.specs.May.{AnyAt, EachMay}
use Rattle.pm_epochs.proofs.CrashLaws.{quiet-append}
use Rattle.pm_epochs.proofs.MayLaws.{StoresMay-weaker, quiet_may}
use Rattle.pm_epochs.proofs.PieceLaws.{IsPiece-append, IsPiece-commit}
use Rattle.pm_region.specs.Memory.{Memory, current_words, room_in, Adds}
use Rattle.pm_region.specs.Safe.{AddsMay}
use Rattle.pm_region.proofs.MayLaws.{each_after}
use Rattle.pm_region.proofs.MemoryLaws.{adds_both, base-adds, current_words-adds, room_in-piece}
use Rattle.bp_calls.specs.Entered.{IsReadyPastEnd}
use Rattle.bp_calls.specs.Entries.{PutsPastEnd}
use Rattle.bp_calls.specs.Growth.{stores_after_growth}
use Rattle.bp_calls.specs.Spare.{IsSpare}
use Rattle.bp_calls.specs.Steps.{entering_room, name_need, CanPutPastEnd}
use Rattle.bp_calls.proofs.AfterLaws.{prepared_well_formed, prepared_same, size_after, slot_named_over}
use Rattle.bp_calls.proofs.EnteredLaws.{directory_inode}
use Rattle.bp_calls.proofs.GrownLaws.{GrowsBlocks, grown_blocks, grown_file}
use Rattle.bp_calls.proofs.NeedLaws.{need_past_end}
use Rattle.bp_calls.proofs.OpenPlaces.{content_open, each_weaker, size_covered}
use Rattle.bp_calls.proofs.TakenBlocks.{free_taken}
use Rattle.bp_calls.proofs.Trees.{SameTrees, has_more, live_leaf, spare_trees, stands_kept}
use Rattle.bp_calls.proofs.PutsLaws.{one_entry}
use Rattle.bp_layout.specs.Need.Entrant.{linked}
use Rattle.bp_calls.proofs.SlotStores.{IsHidden}

-- a preparation, and then stores that nobody sees and the commit of one word
module _ {in_snapshot : ℕ → Bool} (old mid third new : Memory) (change : Change) (Effect : Image → Image → Type 0) (took : List ℕ) (most_barriers most : ℕ) (one : AddsTaking in_snapshot took most_barriers most old mid)
    (May : ℕ → ℕ → Type 0) (more place value amount : ℕ) (two : AddsMay May 0 more mid third) (last : Adds third new (commit place value)) where
  pub within_past_end : ((image : Image) → EachMay May (current_words mid) image → Same (current_words mid) image) → ((word stored : ℕ) → May word stored → IsOpen (current_words mid) in_snapshot [] word) →
      ((b : ℕ) → IsLiveBlock (current_words mid) b → IsLiveBlock (current_words old) b ⊎ Has took b) → place ≡ address (current_words new) (cover (current_words old) change) → length took ≡ amount →
      IsOpen (current_words mid) in_snapshot [] place → IsWellFormed (current_words new) → Effect (current_words old) (current_words new) → PerformsWithin in_snapshot amount (most_barriers + 2) (most + (more + 1)) old new change Effect
  within_past_end unseen inside live at number open_place well_formed effect =
      within_committed in_snapshot old new change Effect place value (most_barriers + 2) (most + (more + 1)) amount took
      (record {
        prepared = one.part.added ++ two.added;
        adds = rw parts (adds_both old mid new one.part.added (two.added ++ commit place value) one.part.adds (adds_both mid third new two.added (commit place value) two.adds last));
        quiet = quiet-append Same same_equivalence.transitive (current_words old) one.part.added two.added one.part.closed one.part.quiet
            (rw words at (quiet_may Same same_equivalence May (current_words mid) two.added unseen two.may));
        piece = rw parts
            (IsPiece-append most_barriers most 2 (more + 1) one.part.added (two.added ++ commit place value) one.part.piece
            (IsPiece-append 0 more 2 1 two.added (commit place value) two.piece (IsPiece-commit place value)));
      })
      (rw (append-nil took) at takes) at number (open_over place open_place) well_formed effect
    where
      words : current_words mid ≡ words_after (current_words old) one.part.added
      words = current_words-adds old mid one.part.added one.part.adds

      parts : (one.part.added ++ two.added) ++ commit place value ≡ one.part.added ++ (two.added ++ commit place value)
      parts = append_assoc one.part.added two.added (commit place value)

      takes : TakesBlocks (current_words old) in_snapshot (took ++ []) (one.part.added ++ two.added)
      takes =
          takes_twice in_snapshot (current_words old) (current_words mid) took [] one.part.added two.added live (λ b none. elim none [ ]) one.takes
          (record { once = tt; free = tt; stored = tt; only = StoresMay-weaker May (AnyAt (IsOpen (current_words mid) in_snapshot [])) inside two.added two.may })

      open_over : (word : ℕ) → IsOpen (current_words mid) in_snapshot [] word → IsOpen (current_words old) in_snapshot took word
      open_over word (in_taken none) = elim none [ ]
      open_over word (in_live is loose) = elim (live (word / 512) is) [ inl was ↦ in_live was loose | inr took ↦ in_taken took ]
      open_over word (at_root e) = at_root e
      open_over word (at_size e) = at_size e

-- ---- after the preparation

module _ {in_snapshot : ℕ → Bool} (first second : Memory) (blocks after : Set) (i j : ℕ) (name : Name) (can : CanPutPastEnd in_snapshot first blocks i name) (puts : PutsPastEnd in_snapshot first second (members blocks) (members after) i j name) where
  abbrev image : Image
  image = current_words first

  abbrev mid : Image
  mid = current_words second

  abbrev ready : Prepares image mid i (size_of image i) (size_of image i + 256) puts.bytes puts.prepared.taken
  ready = puts.prepared.ready

  wf : IsWellFormed image
  wf = can.lacks.well_formed

  reached : IsReached image i
  reached = can.lacks.reached

  not_inodes : i ≢ 0
  not_inodes = directory_inode image i can.lacks.directory

  pub put_well_formed_past_end : IsWellFormed mid
  put_well_formed_past_end = well_formed-same image mid wf ready.meaning

  pub put_there : (t : ℕ) → IsReached image t → IsReached mid t
  put_there = reached_on image mid ready.meaning

  pub put_before : (t : ℕ) → IsReached mid t → IsReached image t
  put_before = reached-back image mid wf ready.meaning

  mid_kind : kind_of mid i ≡ 2
  mid_kind = ready.meaning.kind i reached ∙ can.lacks.directory

  pub put_size : size_of mid i ≡ size_of image i
  put_size = ready.sizes i reached

  pub put_ready : IsReadyPastEnd mid i j name
  put_ready = record {
    reached = put_there i reached;
    directory = mid_kind;
    sound = rw put_size ready.sound;
    low = ready.low;
    full = rw put_size (ready.full (inr can.lacks.directory));
    apart = λ u b there other has also. ready.apart u b (put_before u there) other also (rw put_size at has);
    ino = rw put_size puts.ino;
    spelled = rw put_size puts.spelled;
  }

  in_file : i < inode_count image
  in_file = reached-in_file image wf i reached

  size_leaf : 4096 * ((8 * i + 2) / 512) < size_of image 0
  size_leaf = omega (arith, in_file)

  pub put_size_leaf : 4096 * ((8 * i + 2) / 512) < size_of mid 0
  put_size_leaf = rw (ready.sizes 0 inode_file) size_leaf

  pub put_root : root_of mid 0 ≡ root_of image 0
  put_root = ready.roots 0 inode_file (λ e. not_inodes (sym e))

  pub put_size_at : (place : ℕ) → ContentStandsAt image 0 (8 * i + 2) place → ContentStandsAt mid 0 (8 * i + 2) place
  put_size_at place size_at =
      let leaf : node mid (root_of mid 0) (height_of (root_of mid 0)) ((8 * i + 2) / 512) ≡ node image (root_of image 0) (height_of (root_of image 0)) ((8 * i + 2) / 512) =
      ap (λ r. node mid (root_of mid 0) (height_of r) ((8 * i + 2) / 512)) put_root
      ∙ node_stays image mid i (size_of image i) (size_of image i + 256) puts.bytes puts.prepared.taken ready 0 inode_file (λ e. not_inodes (sym e)) (height_of (root_of image 0)) ((8 * i + 2) / 512)
      (live_leaf (root_of image 0) (size_of image 0) ((8 * i + 2) / 512) size_leaf) in
      record { present = λ null. size_at.present (sym leaf ∙ null); at = ap (λ b. 512 * b + (8 * i + 2) % 512) leaf ∙ size_at.at }

  -- and the words of inodes
  pub put_row_back : (t place : ℕ) → t < inode_count image → ContentStandsAt mid 0 (8 * t + 0) place → ContentStandsAt image 0 (8 * t + 0) place
  put_row_back t place low stands =
      let leaf : node mid (root_of mid 0) (height_of (root_of mid 0)) ((8 * t + 0) / 512) ≡ node image (root_of image 0) (height_of (root_of image 0)) ((8 * t + 0) / 512) =
      ap (λ r. node mid (root_of mid 0) (height_of r) ((8 * t + 0) / 512)) put_root
      ∙ node_stays image mid i (size_of image i) (size_of image i + 256) puts.bytes puts.prepared.taken ready 0 inode_file (λ e. not_inodes (sym e)) (height_of (root_of image 0)) ((8 * t + 0) / 512)
      (live_leaf (root_of image 0) (size_of image 0) ((8 * t + 0) / 512) (omega (arith, low))) in
      record { present = λ null. stands.present (leaf ∙ null); at = ap (λ b. 512 * b + (8 * t + 0) % 512) (sym leaf) ∙ stands.at }

  -- the word of the size is beside the root word
  pub put_size_loose : (place : ℕ) → ContentStandsAt image 0 (8 * i + 2) place → in_snapshot (place / 512) ≡ false
  put_size_loose place stands =
      let b : ℕ = node image (root_of image 0) (height_of (root_of image 0)) ((8 * i + 2) / 512) in
      let leaf : (8 * i + 1) / 512 ≡ (8 * i + 2) / 512 = omega arith in
      let same : node image (root_of image 0) (height_of (root_of image 0)) ((8 * i + 1) / 512) ≡ b = ap (node image (root_of image 0) (height_of (root_of image 0))) leaf in
      let slot : (8 * i + 1) % 512 + 1 ≡ (8 * i + 2) % 512 = omega arith in
      let root : RootPlace image i (512 * b + (8 * i + 1) % 512) =
      inode not_inodes (record { present = λ null. stands.present (sym same ∙ null); at = ap (λ n. 512 * n + (8 * i + 1) % 512) same }) in
      let block : (512 * b + (8 * i + 1) % 512) / 512 ≡ place / 512 = omega (arith, stands.at, slot) in
      subst (λ n. in_snapshot n ≡ false) block (can.loose.root (512 * b + (8 * i + 1) % 512) root not_inodes)

  -- a live block was live, or it was taken
  pub put_live : (b : ℕ) → IsLiveBlock mid b → IsLiveBlock image b ⊎ Has puts.prepared.taken b
  put_live b live = go (cases_eq live.tree i)
    where
      go : (live.tree ≡ i) ⊎ (live.tree ≡ i → ⊥) → IsLiveBlock image b ⊎ Has puts.prepared.taken b
      go (inl e) =
          elim (ready.blocks b (rw put_size at (has_more mid (root_of mid i) (size_of mid i) 256 b (subst (λ t. HasBlock mid (root_of mid t) (size_of mid t) b) e live.has)))) [
            | inl was ↦ inl (record { tree = i; reached = reached; has = was })
            | inr took ↦ inr took
          ]
      go (inr other) =
          inl (record {
            tree = live.tree;
            reached = put_before live.tree live.reached;
            has = other_block_back image mid i (size_of image i) (size_of image i + 256) puts.bytes puts.prepared.taken ready live.tree (put_before live.tree live.reached) other b live.has;
          })

  pub put_number : length puts.prepared.taken ≡ name_need image i
  put_number = puts.prepared.counted ∙ sym (need_past_end image i wf reached can.lacks.directory can.none)

  -- ---- what is left of the memory

  pub put_base : length second.base ≡ length first.base
  put_base = ap length (base-adds first second puts.prepared.adds.part.added puts.prepared.adds.part.adds)

  pub put_room : 12 ≤ room_in second
  put_room =
      enough _ _ _ _ (room_in-piece _ _ first second puts.prepared.adds.part.added puts.prepared.adds.part.adds puts.prepared.adds.part.piece)
      (past_end_one (size_of image i) (size_of image i + 256) max_height (one_entry (size_of image i) (wf.directory_sizes i reached can.lacks.directory)))
      can.room
    where
      enough : (needed past_end room left : ℕ) → room ≤ left + (2 + (512 * needed + past_end + 2)) → past_end ≡ 512 + max_height → entering_room needed ≤ room → 12 ≤ left
      enough needed past_end room left a b c = omega (arith, a, b, c)

-- ---- after stores that nobody sees, over which the entry stays ready, and the store of the size

-- under the size that it gets the directory has the blocks that it had
pub record KeepsGrown (old new : Image) (i : ℕ) : Type 0 where
  pub back : (b : ℕ) → HasBlock new (root_of new i) (size_of new i + 256) b → HasBlock old (root_of old i) (size_of old i + 256) b
  pub stay : (b : ℕ) → HasBlock old (root_of old i) (size_of old i + 256) b → HasBlock new (root_of new i) (size_of new i + 256) b

module _ {in_snapshot : ℕ → Bool} (first second third last : Memory) (blocks after : Set) (i j place more : ℕ) (name : Name) (can : CanPutPastEnd in_snapshot first blocks i name)
    (puts : PutsPastEnd in_snapshot first second (members blocks) (members after) i j name) (stored : AddsMay (AnyAt (IsHidden in_snapshot (current_words second))) 0 more second third)
    (ready_then : IsReadyPastEnd (current_words third) i j name) (keeps : KeepsGrown (current_words second) (current_words third) i) (size_at : ContentStandsAt (current_words first) 0 (8 * i + 2) place)
    (commits : Adds third last (commit place (size_of (current_words first) i + 256))) where
  abbrev before : Image
  before = current_words first

  abbrev middle : Image
  middle = current_words second

  abbrev full : Image
  full = current_words third

  abbrev prepares : Prepares before middle i (size_of before i) (size_of before i + 256) puts.bytes puts.prepared.taken
  prepares = puts.prepared.ready

  well : IsWellFormed before
  well = can.lacks.well_formed

  here : IsReached before i
  here = can.lacks.reached

  middle_well : IsWellFormed middle
  middle_well = put_well_formed_past_end first second blocks after i j name can puts

  middle_size : size_of middle i ≡ size_of before i
  middle_size = put_size first second blocks after i j name can puts

  middle_size_leaf : 4096 * ((8 * i + 2) / 512) < size_of middle 0
  middle_size_leaf = put_size_leaf first second blocks after i j name can puts

  middle_size_at : ContentStandsAt middle 0 (8 * i + 2) place
  middle_size_at = put_size_at first second blocks after i j name can puts place size_at

  trees_of : (other : Image) → EachMay (AnyAt (IsHidden in_snapshot middle)) middle other → SameTrees middle other
  trees_of other all = spare_trees middle other middle_well (each_weaker (IsHidden in_snapshot middle) (IsSpare middle) middle other (λ p both. both.0) all)

  trees : SameTrees middle full
  trees = trees_of full (each_after (AnyAt (IsHidden in_snapshot middle)) 0 more second third stored)

  pub full_well_formed : IsWellFormed full
  full_well_formed = prepared_well_formed middle full middle_well trees.prepared

  full_size : size_of full i ≡ size_of before i
  full_size = size_after middle full middle_well trees.prepared i (put_there first second blocks after i j name can puts i here) ∙ middle_size

  pub full_file : size_of full 0 ≡ size_of before 0
  full_file = trees.prepared.inode_bytes ∙ prepares.sizes 0 inode_file

  pub full_meaning : SameMeaning before full
  full_meaning = meaning_on before middle full prepares.meaning trees.prepared.meaning

  pub full_missing : slot_named full i name ≡ None
  full_missing = slot_named_over before full well full_meaning i name here can.lacks.directory ∙ can.lacks.missing

  pub full_size_at : ContentStandsAt full 0 (8 * i + 2) place
  full_size_at = stands_kept middle full trees 0 (8 * i + 2) place inode_file middle_size_leaf middle_size_at

  full_root : root_of full 0 ≡ root_of before 0
  full_root = trees.root 0 inode_file (omega (arith, middle_size_leaf)) ∙ put_root first second blocks after i j name can puts

  abbrev done : Image
  done = set full place (size_of full i + 256)

  pub past_end_committed : current_words last ≡ done
  past_end_committed = current_words-adds third last (commit place (size_of before i + 256)) commits ∙ ap (λ n. set full place (n + 256)) (sym full_size)

  pub past_end_slot : size_of full i / 256 ≡ unwrap_or (empty_slot before i) (entry_count before i)
  past_end_slot = ap (λ n. n / 256) full_size ∙ sym (ap (λ o. unwrap_or o (entry_count before i)) can.none)

  -- ---- the store of the size

  abbrev stores : ℕ
  stores = prep_stores (size_of before i) (size_of before i) (size_of before i + 256) (need_for before i (size_of before i) (size_of before i + 256))

  few_stores : more ≤ 8 → stores + (more + 1) ≤ stores_after_growth (name_need before i)
  few_stores few = go _ _ _ (need_past_end before i well here can.lacks.directory can.none) (past_end_one (size_of before i) (size_of before i + 256) max_height (one_entry (size_of before i) (well.directory_sizes i here can.lacks.directory)))
    where
      go : (made needs past_end : ℕ) → needs ≡ made → past_end ≡ 512 + max_height → 512 * made + past_end + 2 + (more + 1) ≤ 512 * (needs + 4) + 64
      go made needs past_end e low = omega (arith, e, low, few)

  module _ (change : Change) (Effect : Image → Image → Type 0) (few : more ≤ 8) (covers : cover before change ≡ cover before (gains i linked)) (well_formed : IsWellFormed done) (effect : Effect before done) where
    covered : place ≡ address (current_words last) (cover before change)
    covered =
        rw past_end_committed
        (sym (ap (address done) covers ∙ size_covered before full i place (size_of full i + 256) well full_well_formed full_root here ready_then.reached can.lacks.directory can.none full_size_at))

    in_four : PerformsWithin in_snapshot (name_need before i) 4 (stores + (more + 1)) first last change Effect
    in_four =
        within_past_end first second third last change Effect puts.prepared.taken 2 stores puts.prepared.adds (AnyAt (IsHidden in_snapshot middle)) more place (size_of before i + 256) (name_need before i) stored commits
        (λ other all. prepared_same middle other middle_well (trees_of other all).prepared) (λ p v may. may.1) (put_live first second blocks after i j name can puts) covered
        (put_number first second blocks after i j name can puts) (content_open middle [] 0 (8 * i + 2) place inode_file middle_size_leaf middle_size_at (put_size_loose first second blocks after i j name can puts place size_at))
        (rw past_end_committed well_formed) (rw past_end_committed effect)

    pub past_end_within : PerformsWithin in_snapshot (name_need before i) 5 (stores_after_growth (name_need before i)) first last change Effect
    past_end_within = within_more in_snapshot (name_need before i) 4 (stores + (more + 1)) first last change Effect in_four 5 (stores_after_growth (name_need before i)) (omega arith) (few_stores few)

  -- ---- the blocks

  grows : GrowsBlocks full done i
  grows = grown_blocks full full_well_formed i j place name ready_then full_size_at

  pub full_there : (t : ℕ) → IsReached before t → IsReached full t
  full_there = reached_on before full full_meaning

  pub full_before : (t : ℕ) → IsReached full t → IsReached before t
  full_before = reached-back before full well full_meaning

  pub done_file : size_of done 0 ≡ size_of before 0
  done_file = grown_file full full_well_formed i j place name ready_then full_size_at ∙ full_file

  -- the directory's blocks
  own_back : (b : ℕ) → HasBlock full (root_of full i) (size_of full i + 256) b → IsLiveBlock before b ⊎ Has puts.prepared.taken b
  own_back b has =
      elim (prepares.blocks b (rw middle_size at (keeps.back b has))) [
        | inl was ↦ inl (record { tree = i; reached = here; has = was })
        | inr took ↦ inr took
      ]

  -- what was reached still is, and nothing else that has a block
  module _ (done_before : (t b : ℕ) → IsReached done t → HasBlock done (root_of done t) (size_of done t) b → IsReached before t) (done_there : (t : ℕ) → IsReached before t → IsReached done t) (whole : length done ≡ length before) where
    own_on : (b : ℕ) → HasBlock middle (root_of middle i) (size_of before i + 256) b → IsLiveBlock done b
    own_on b has = record { tree = i; reached = done_there i here; has = grows.here b (keeps.stay b (rw middle_size has)) }

    done_back : (b : ℕ) → IsLiveBlock done b → IsLiveBlock before b ⊎ Has puts.prepared.taken b
    done_back b live = go (done_before live.tree b live.reached live.has) (cases_eq live.tree i)
      where
        go : IsReached before live.tree → (live.tree ≡ i) ⊎ (live.tree ≡ i → ⊥) → IsLiveBlock before b ⊎ Has puts.prepared.taken b
        go there (inl e) =
            elim (grows.back i b (full_there i here) (subst (λ t. HasBlock done (root_of done t) (size_of done t) b) e live.has)) [
              | inl own ↦ own_back b (has_more full (root_of full i) (size_of full i) 256 b own)
              | inr more ↦ own_back b more.1
            ]
        go there (inr other) =
            elim (grows.back live.tree b (full_there live.tree there) live.has) [
              | inl was ↦ inl (record {
                tree = live.tree;
                reached = there;
                has = other_block_back before middle i (size_of before i) (size_of before i + 256) puts.bytes puts.prepared.taken prepares live.tree there other b
                    (trees.prepared.blocks.back live.tree b (reached_on before middle prepares.meaning live.tree there) was);
              })
              | inr more ↦ absurd (other more.0)
            ]

    done_on : (b : ℕ) → IsLiveBlock before b → IsLiveBlock done b
    done_on b live = go (cases_eq live.tree i)
      where
        go : (live.tree ≡ i) ⊎ (live.tree ≡ i → ⊥) → IsLiveBlock done b
        go (inl e) = own_on b (prepares.has_old b (subst (λ t. HasBlock before (root_of before t) (size_of before t) b) e live.has))
        go (inr other) = record {
          tree = live.tree;
          reached = done_there live.tree live.reached;
          has = grows.stay live.tree b (full_there live.tree live.reached) other
              (trees.prepared.blocks.stay live.tree b (reached_on before middle prepares.meaning live.tree live.reached)
              (other_block_on before middle i (size_of before i) (size_of before i + 256) puts.bytes puts.prepared.taken prepares live.tree live.reached other b live.has));
        }

    pub past_end_sets : length after ≡ length blocks → (inodes filled : Set) → AreExact before in_snapshot blocks inodes → length filled ≡ length inodes → AreFreeInodes done (contains filled) → AreExact done in_snapshot after filled
    past_end_sets room inodes filled exact as_long free = record {
      block_room = rw whole (room ∙ exact.block_room);
      inode_room = rw whole (as_long ∙ exact.inode_room);
      free_blocks = free_taken before done whole puts.prepared.taken blocks after inodes exact puts.prepared.takes done_back done_on (λ b took. own_on b (prepares.has_taken b took));
      free_inodes = free;
    }
