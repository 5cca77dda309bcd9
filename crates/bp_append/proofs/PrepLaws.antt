-- A prepared tree in its image: nobody sees the preparation, and the tree is ready.
use Rattle.std.proofs.Common.{◌≡◌, ◌≢◌, ℕ, ◌+◌, ◌*◌, ◌/◌, ◌%◌, ◌<◌, ◌≤◌, List, [], ◌∷◌, ◌++◌, length, Bool, false, set, refl, sym, ◌∙◌, subst, arith, inl, inr}
use Rattle.std.proofs.lemmas.List.{append_assoc}
use Rattle.bp_changes.proofs.PerformsLaws.{same_equivalence}
use Rattle.bp_layout.proofs.MemberLaws.{each-as, each-has}
use Rattle.bp_layout.specs.Words.{Image, word, height_of}
use Rattle.bp_layout.specs.Tree.{node, HasBlock}
use Rattle.bp_layout.specs.Inode.{root_of, size_of, inode_count, RootPlace, ContentStandsAt}
use Rattle.bp_layout.specs.Reached.{IsReached, IsLiveBlock, IsFreeBlock}
use Rattle.bp_layout.specs.Reached.IsReached.{inode_file}
use Rattle.bp_layout.specs.WellFormed.{IsWellFormed}
use Rattle.bp_layout.specs.Same.{Same}
use Rattle.bp_changes.specs.SameMeaning.{SameMeaning}
use Rattle.bp_changes.specs.Harmless.{IsHarmless, Agrees}
use Rattle.bp_layout.specs.Inode.RootPlace.{top, inode}
use Rattle.bp_layout.specs.Members.{Each, AreApart}
use Rattle.bp_layout.specs.Stores.{after_stores}
use Rattle.bp_layout.proofs.TreeLaws.{node-kept, live_above, live_content}
use Rattle.bp_layout.proofs.Reached.{reached-in_file}
use Rattle.bp_changes.proofs.Frame.{keeps, meaning-same, same-by_agreement, root-same, has_block-back}
use Rattle.bp_changes.proofs.SameMeaning.{reached-back, well_formed-same}
use Rattle.bp_changes.proofs.Stores.{harmless_here}
use Rattle.bp_changes.proofs.Separation.{stands_in_block, free-harmless}
use Rattle.bp_changes.proofs.ReachedOn.{reached_on}
use Rattle.pm_epochs.specs.declared.event.Event.{Event}
use Rattle.pm_epochs.specs.declared.event.Event.TheVariants.{Barrier}
use Rattle.pm_epochs.specs.Log.{words_after, StoresTo}
use Rattle.pm_epochs.specs.May.{AnyAt, StoresMay, EachMay, AnyOf, links_of}
use Rattle.pm_epochs.proofs.MayLaws.{StoresMay-append, StoresMay-weaker}
use Rattle.pm_epochs.proofs.PieceLaws.{IsPiece-append, IsPiece-more, IsPiece-barrier, StoresTo-prefix}
use Rattle.pm_region.specs.Memory.{Memory, current_words, Adds}
use Rattle.pm_region.proofs.MemoryLaws.{adds_both, current_words-adds}
use Rattle.bp_changes.specs.Performs.{InBlock, IsOpen, AddsTaking}
use Rattle.bp_changes.specs.Performs.IsOpen.{in_live, at_root}
use Rattle.bp_append.specs.Into.{AddsInto}
use Rattle.bp_append.specs.Built.{InBlocks}
use Rattle.bp_append.specs.Grown.{changed, epoch_of_links, Links}
use Rattle.bp_append.proofs.ChangedLaws.{after_changed, any_changed, may_changed, few_changed, after_epoch, quiet_epochs, closed_epochs, piece_epoch, may_epoch}

-- the root word of an inode is in a block of the inode file
root_block : (old : Image) → IsWellFormed old → (t place : ℕ) → IsReached old t → ContentStandsAt old 0 (8 * t + 1) place → IsLiveBlock old (place / 512)
root_block old wf t place reached stands =
    let in_file : t < inode_count old = reached-in_file old wf t reached in
    let here : node old (root_of old 0) (height_of (root_of old 0)) ((8 * t + 1) / 512) ≡ place / 512 = omega (arith, stands.at) in
    record {
      tree = 0;
      reached = inode_file;
      has = subst (HasBlock old (root_of old 0) (size_of old 0)) here
          (stands_in_block old 0 (height_of (root_of old 0)) (8 * t + 1) place stands (live_content _ _ (8 * t + 1) (omega (arith, in_file))));
    }

-- so a preparation may store to it, where that block is not in the snapshot
pub open_root : (old : Image) → IsWellFormed old → (in_snapshot : ℕ → Bool) (t place : ℕ) → IsReached old t → RootPlace old t place → (t ≢ 0 → in_snapshot (place / 512) ≡ false) → (taken : List ℕ) → IsOpen old in_snapshot taken place
open_root old wf in_snapshot t place reached (top first two) loose taken = at_root two
open_root old wf in_snapshot t place reached (inode some stands) loose taken = in_live (root_block old wf t place reached stands) (loose some)

-- free blocks are not live
pub not_live : (old : Image) (in_snapshot : ℕ → Bool) (blocks : List ℕ) → Each (IsFreeBlock old in_snapshot) blocks → Each (λ b. IsLiveBlock old b → ⊥) blocks
not_live old in_snapshot blocks free = each-as (IsFreeBlock old in_snapshot) (λ b. IsLiveBlock old b → ⊥) (λ b is. is.free) blocks free

-- a word of a free block may be anything
pub in_free_harmless : (old : Image) → IsWellFormed old → (blocks : List ℕ) → Each (λ b. 1 ≤ b) blocks → Each (λ b. IsLiveBlock old b → ⊥) blocks → (w v : ℕ) → InBlocks blocks w → IsHarmless old w v
in_free_harmless old wf blocks low free w v m =
    let place : 512 * (w / 512) + w % 512 ≡ w = omega arith in
    subst (λ p. IsHarmless old p v) place (free-harmless old wf (w / 512) (w % 512) v (each-has _ blocks (w / 512) low m) (omega arith) (each-has _ blocks (w / 512) free m))

-- and no root word stands in it
pub no_root_in_free : (old : Image) → IsWellFormed old → (blocks : List ℕ) → Each (λ b. 1 ≤ b) blocks → Each (λ b. IsLiveBlock old b → ⊥) blocks → (t place : ℕ) → IsReached old t →
    RootPlace old t place → InBlocks blocks place → ⊥
no_root_in_free old wf blocks low free t place reached (top first two) m = let some : 1 ≤ place / 512 = each-has _ blocks (place / 512) low m in omega (arith, some, two)
no_root_in_free old wf blocks low free t place reached (inode some stands) m = each-has _ blocks (place / 512) free m (root_block old wf t place reached stands)

pub agrees_of : (old new : Image) → EachMay (IsHarmless old) old new → Agrees old new
agrees_of old new all = record {
  whole = all.size;
  each = λ place. elim (all.each place) [ inl same ↦ subst (IsHarmless old place) (sym same) (harmless_here old place) | inr may ↦ may ];
}

pub after_append : (words : Image) (xs ys : List (ℕ × ℕ)) → after_stores words (xs ++ ys) ≡ after_stores (after_stores words xs) ys
after_append words [] ys = refl
after_append words (x ∷ xs) ys = after_append (set words x.0 x.1) xs ys

pub words_new : (between new : Memory) (links : List (ℕ × ℕ)) → Links between new links → current_words new ≡ after_stores (current_words between) links
words_new between new links ends =
    current_words-adds between new (Barrier ∷ epoch_of_links (changed (current_words between) links)) ends
    ∙ after_epoch (current_words between) (changed (current_words between) links)
    ∙ after_changed (current_words between) links

-- Two epochs: stores that nobody sees, into each of the blocks that are taken, and links of which any may be done.
module _ (in_snapshot : ℕ → Bool) (old between new : Memory) (taken : List ℕ) (May : ℕ → ℕ → Type 0) (most : ℕ) (links : List (ℕ × ℕ))
    (well : IsWellFormed (current_words old)) (stores : AddsInto taken May most old between)
    (harmless : (w v : ℕ) → May w v → IsHarmless (current_words old) w v) (ends : Links between new links) where
  abbrev events : List Event
  events = stores.part.added

  abbrev Open : ℕ → Type 0
  Open = IsOpen (current_words old) in_snapshot taken

  -- the links that are stored
  abbrev done : List (ℕ × ℕ)
  done = changed (current_words between) links

  words_between : current_words between ≡ words_after (current_words old) events
  words_between = current_words-adds old between events stores.part.adds

  joined : events ++ (Barrier ∷ epoch_of_links done) ≡ (events ++ Barrier ∷ []) ++ epoch_of_links done
  joined = sym (append_assoc events (Barrier ∷ []) (epoch_of_links done))

  pub epochs_taking : (more : ℕ) → most + length links ≤ more → AnyOf Same (current_words between) (current_words between) links → AreApart taken → Each (IsFreeBlock (current_words old) in_snapshot) taken →
      ((w v : ℕ) → May w v → IsOpen (current_words old) in_snapshot taken w) → StoresMay (AnyAt (IsOpen (current_words old) in_snapshot taken)) (links_of links) → AddsTaking in_snapshot taken 2 more old new
  epochs_taking more few any once free opens open_links = record {
    part = record {
      added = (events ++ Barrier ∷ []) ++ epoch_of_links done;
      adds = subst (Adds old new) joined (adds_both old between new events (Barrier ∷ epoch_of_links done) stores.part.adds ends);
      quiet = quiet_epochs Same same_equivalence (IsHarmless (current_words old)) (current_words old) events done
          (λ image all. same-by_agreement (current_words old) image well (agrees_of (current_words old) image all)) (StoresMay-weaker May (IsHarmless (current_words old)) harmless events stores.part.may)
          (subst (λ ws. AnyOf Same ws ws done) words_between (any_changed Same (current_words between) (current_words between) (current_words between) links any));
      closed = closed_epochs events done;
      piece = IsPiece-more _ _ 2 more ((events ++ Barrier ∷ []) ++ epoch_of_links done) (omega arith) (omega (arith, few, few_changed (current_words between) links))
          (IsPiece-append _ _ _ _ (events ++ Barrier ∷ []) (epoch_of_links done) (IsPiece-append 0 most 1 0 events (Barrier ∷ []) stores.part.piece IsPiece-barrier) (piece_epoch done));
    };
    takes = record {
      once = once;
      free = free;
      stored = each-as (λ b. StoresTo (InBlock b) events) (λ b. StoresTo (InBlock b) ((events ++ Barrier ∷ []) ++ epoch_of_links done))
          (λ b found. StoresTo-prefix (InBlock b) (events ++ Barrier ∷ []) (epoch_of_links done) (StoresTo-prefix (InBlock b) events (Barrier ∷ []) found)) taken stores.stored;
      only = StoresMay-append (AnyAt Open) (events ++ Barrier ∷ []) (epoch_of_links done)
          (StoresMay-append (AnyAt Open) events (Barrier ∷ []) (StoresMay-weaker May (AnyAt Open) opens events stores.part.may) tt)
          (may_epoch (AnyAt Open) done (may_changed (AnyAt Open) (current_words between) links open_links));
    };
  }

-- the image after the first epoch
module _ (old middle : Image) (wf : IsWellFormed old) (agrees : Agrees old middle) (t place : ℕ) (reached : IsReached old t) (at : RootPlace old t place) where
  pub meaning_middle : SameMeaning old middle
  meaning_middle = meaning-same old middle wf agrees

  pub wf_middle : IsWellFormed middle
  wf_middle = well_formed-same old middle wf meaning_middle

  pub reached_middle : IsReached middle t
  reached_middle = reached_on old middle meaning_middle t reached

  pub place_middle : RootPlace middle t place
  place_middle = go at
    where
      go : RootPlace old t place → RootPlace middle t place
      go (top first two) = top first two
      go (inode some stands) =
          let two : word middle 2 ≡ word old 2 = root-same old middle wf agrees 0 inode_file (omega (arith, wf.some_inodes)) in
          let in_file : t < inode_count old = reached-in_file old wf t reached in
          let below : 8 * (8 * t + 1) < size_of old 0 = omega (arith, in_file) in
          let same : node middle (root_of old 0) (height_of (root_of old 0)) ((8 * t + 1) / 512) ≡ node old (root_of old 0) (height_of (root_of old 0)) ((8 * t + 1) / 512) =
          node-kept old middle (root_of old 0) (size_of old 0) (keeps old middle wf agrees 0 inode_file) (height_of (root_of old 0)) ((8 * t + 1) / 512)
          (live_above _ _ (height_of (root_of old 0)) (8 * t + 1) (live_content _ _ (8 * t + 1) below)) in
          inode some (record { present = rw (two, same) stands.present; at = rw (two, same) stands.at })

  pub still_free : (b : ℕ) → (IsLiveBlock old b → ⊥) → IsLiveBlock middle b → ⊥
  still_free b free live =
      let reached_old : IsReached old live.tree = reached-back old middle wf meaning_middle live.tree live.reached in
      free (record { tree = live.tree; reached = reached_old; has = has_block-back old middle wf agrees live.tree b reached_old live.has })
