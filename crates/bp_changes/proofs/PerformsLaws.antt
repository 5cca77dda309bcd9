-- Calls that are performed: how they are put together of parts, and what follows for the memory, the log and its cost.
use Rattle.std.proofs.Common.{◌≡◌, ◌≢◌, ◌⊎◌, ℕ, ◌+◌, ◌/◌, ◌<◌, ◌≤◌, List, [], ◌∷◌, ◌++◌, length, drop, Bool, true, false, ◌*◌, sym, ◌∙◌, ap, subst, arith, inl, inr}
use Rattle.std.proofs.Math.Seq.{drop-append_seam}
use Rattle.std.specs.List.{range_with_len}
use Rattle.bp_layout.proofs.MemberLaws.{apart-append, apart-within, each-append, each-as, each-has, each-of, has-after, has-filter, has-prefix, has-range}
use Rattle.bp_layout.specs.Free.{HasFree, numbers_below}
use Rattle.std.proofs.lemmas.List.{append_assoc, length-append}
use Rattle.pm_epochs.specs.declared.event.Event.{Event}
use Rattle.pm_epochs.specs.declared.event.Event.TheVariants.{Store, Barrier, CallEnd}
use Rattle.pm_epochs.specs.Log.{words_after, StoresTo, call_ends}
use Rattle.pm_epochs.specs.May.{AnyAt, EachMay, StoresMay}
use Rattle.pm_epochs.specs.Crash.{IsPartialEquivalence, commit}
use Rattle.pm_epochs.proofs.MayLaws.{quiet_may, StoresMay-weaker, StoresMay-append}
use Rattle.pm_epochs.proofs.CrashLaws.{IsClosed-append, quiet-append}
use Rattle.pm_epochs.proofs.PieceLaws.{IsPiece-append, IsPiece-more, IsPiece-commit, last_stored-commit, StoresTo-append, StoresTo-prefix, StoresTo-after}
use Rattle.pm_region.specs.Memory.{Memory, current_words, events_between, Adds}
use Rattle.pm_region.specs.Safe.{IsSafe, AddsCommit, AddsMay}
use Rattle.pm_region.proofs.MemoryLaws.{adds_both, current_words-adds, length-current_words}
use Rattle.pm_region.proofs.SafeLaws.{safe_committed}
use Rattle.bp_layout.proofs.SameLaws.{same_self, same_symmetric, same_transitive}
use Rattle.bp_limits.specs.Limits.{super_root, super_size}
use Rattle.bp_layout.specs.Members.{AreApart, Each, Has}
use Rattle.bp_layout.specs.Need.{Change, cover, need}
use Rattle.bp_layout.specs.Thaw.{full_need, thawed}
use Rattle.bp_layout.specs.Reached.{IsLiveBlock, IsFreeBlock}
use Rattle.bp_layout.specs.Same.{Same}
use Rattle.bp_changes.specs.Thawed.{AfterThaw, SameShape}
use Rattle.bp_changes.proofs.ShapeLaws.{IsOfReached, cover-shape, need-shape}
use Rattle.bp_layout.specs.WellFormed.{IsWellFormed}
use Rattle.bp_layout.specs.WordPaths.{address}
use Rattle.bp_layout.specs.Words.{Image, block_count}
use Rattle.bp_changes.specs.Performs.{InBlock, IsOpen, TakesBlocks, AddsTaking, most_stores, most_stores_thawed, Performs, PerformsThawed, PerformsWithin, IsShort}
use Rattle.bp_changes.specs.Performs.IsOpen.{in_taken, in_live, at_root, at_size}

pub same_equivalence : IsPartialEquivalence Same
same_equivalence = record { symmetric = same_symmetric; transitive = same_transitive }

-- ---- stores

-- a store to a block, among stores to some words, goes to one of these words
pub stored_at : (P : ℕ → Type 0) (b : ℕ) (events : List Event) → StoresMay (AnyAt P) events → StoresTo (InBlock b) events → (word : ℕ) × (P word × (word / 512 ≡ b))
stored_at P b [] all found = elim found [ ]
stored_at P b (Store word value ∷ events) all (inl here) = (word, (all.0, here))
stored_at P b (Store word value ∷ events) all (inr later) = stored_at P b events all.1 later
stored_at P b (Barrier ∷ events) all found = stored_at P b events all found
stored_at P b (CallEnd ∷ events) all found = stored_at P b events all found

-- an open word of a free block is one of a block that is taken
pub open-free : (image : Image) (in_snapshot : ℕ → Bool) (taken : List ℕ) (word b : ℕ) → word / 512 ≡ b → IsFreeBlock image in_snapshot b → IsOpen image in_snapshot taken word → Has taken b
open-free image in_snapshot taken word b here free (in_taken has) = subst (Has taken) here has
open-free image in_snapshot taken word b here free (in_live live loose) = absurd (free.free (subst (IsLiveBlock image) here live))
open-free image in_snapshot taken word b here free (at_root e) = let some : 1 ≤ b = free.low in absurd (omega (arith, here, e, some))
open-free image in_snapshot taken word b here free (at_size e) = let some : 1 ≤ b = free.low in absurd (omega (arith, here, e, some))

-- ---- parts

pub takes_none : (image : Image) (in_snapshot : ℕ → Bool) → TakesBlocks image in_snapshot [] []
takes_none image in_snapshot = record { once = tt; free = tt; stored = tt; only = tt }

-- The live blocks of the second image were live in the first, or the first part took them. What the second part takes was free then, and the first part did not take it: a block that is
-- prepared after a size is not live yet, so that of the second image alone this does not follow.
module _ (in_snapshot : ℕ → Bool) (old mid : Image) (first second : List ℕ) (one two : List Event) (live : (b : ℕ) → IsLiveBlock mid b → IsLiveBlock old b ⊎ Has first b) where
  open_before : (word : ℕ) → IsOpen mid in_snapshot second word → IsOpen old in_snapshot (first ++ second) word
  open_before word (in_taken has) = in_taken (has-after first second (word / 512) has)
  open_before word (in_live is loose) = elim (live (word / 512) is) [ inl before ↦ in_live before loose | inr took ↦ in_taken (has-prefix first second (word / 512) took) ]
  open_before word (at_root e) = at_root e
  open_before word (at_size e) = at_size e

  open_more : (word : ℕ) → IsOpen old in_snapshot first word → IsOpen old in_snapshot (first ++ second) word
  open_more word (in_taken has) = in_taken (has-prefix first second (word / 512) has)
  open_more word (in_live is loose) = in_live is loose
  open_more word (at_root e) = at_root e
  open_more word (at_size e) = at_size e

  -- one part after another
  pub takes_twice : ((b : ℕ) → Has second b → IsFreeBlock old in_snapshot b × (Has first b → ⊥)) → TakesBlocks old in_snapshot first one → TakesBlocks mid in_snapshot second two → TakesBlocks old in_snapshot (first ++ second) (one ++ two)
  takes_twice free prefix rest = record {
    once = apart-append first second prefix.once rest.once (λ b early late. (free b late).1 early);
    free = each-append (IsFreeBlock old in_snapshot) first second prefix.free (each-of (IsFreeBlock old in_snapshot) second (λ b has. (free b has).0));
    stored = each-append (λ b. StoresTo (InBlock b) (one ++ two)) first second
        (each-as (λ b. StoresTo (InBlock b) one) (λ b. StoresTo (InBlock b) (one ++ two)) (λ b. StoresTo-prefix (InBlock b) one two) first prefix.stored)
        (each-as (λ b. StoresTo (InBlock b) two) (λ b. StoresTo (InBlock b) (one ++ two)) (λ b. StoresTo-after (InBlock b) one two) second rest.stored);
    only = StoresMay-append (AnyAt (IsOpen old in_snapshot (first ++ second))) one two
        (StoresMay-weaker (AnyAt (IsOpen old in_snapshot first)) (AnyAt (IsOpen old in_snapshot (first ++ second))) (λ word value. open_more word) one prefix.only)
        (StoresMay-weaker (AnyAt (IsOpen mid in_snapshot second)) (AnyAt (IsOpen old in_snapshot (first ++ second))) (λ word value. open_before word) two rest.only);
  }

module _ (in_snapshot : ℕ → Bool) (old mid new : Memory) (first second : List ℕ) (most_barriers most more_barriers more : ℕ) where
  -- one part of a preparation after another, as where the inode file grows and then a directory
  pub taking_twice : (one : AddsTaking in_snapshot first most_barriers most old mid) → AddsTaking in_snapshot second more_barriers more mid new → ((b : ℕ) → IsLiveBlock (current_words mid) b → IsLiveBlock (current_words old) b ⊎ Has first b) →
      ((b : ℕ) → Has second b → IsFreeBlock (current_words old) in_snapshot b × (Has first b → ⊥)) → AddsTaking in_snapshot (first ++ second) (most_barriers + more_barriers) (most + more) old new
  taking_twice one two live free = record {
    part = record {
      added = one.part.added ++ two.part.added;
      adds = adds_both old mid new one.part.added two.part.added one.part.adds two.part.adds;
      quiet = quiet-append Same same_equivalence.transitive (current_words old) one.part.added two.part.added one.part.closed one.part.quiet (rw (current_words-adds old mid one.part.added one.part.adds) at two.part.quiet);
      closed = IsClosed-append one.part.added two.part.added one.part.closed two.part.closed;
      piece = IsPiece-append most_barriers most more_barriers more one.part.added two.part.added one.part.piece two.part.piece;
    };
    takes = takes_twice in_snapshot (current_words old) (current_words mid) first second one.part.added two.part.added live free one.takes two.takes;
  }

-- ---- calls

module _ (in_snapshot : ℕ → Bool) (needed most_barriers most : ℕ) (old new : Memory) (change : Change) (Effect : Image → Image → Type 0) (done : PerformsWithin in_snapshot needed most_barriers most old new change Effect) where
  -- looser bounds
  pub within_more : (barriers stores : ℕ) → most_barriers ≤ barriers → most ≤ stores → PerformsWithin in_snapshot needed barriers stores old new change Effect
  within_more barriers stores low few = record {
    value = done.value;
    commit = record {
      prepared = done.commit.prepared;
      adds = done.commit.adds;
      quiet = done.commit.quiet;
      piece = IsPiece-more most_barriers most barriers stores (done.commit.prepared ++ commit (address (current_words new) (cover (current_words old) change)) done.value) low few done.commit.piece;
    };
    taken = done.taken;
    takes = done.takes;
    number = done.number;
    in_open = done.in_open;
    well_formed = done.well_formed;
    effect = done.effect;
  }

module _ (in_snapshot : ℕ → Bool) (old new : Memory) (change : Change) (Effect : Image → Image → Type 0) where
  abbrev covered : ℕ
  covered = address (current_words new) (cover (current_words old) change)

  abbrev needed : ℕ
  needed = need (current_words old) change

  -- a commit whose stores are reported
  pub within_committed : (word value most_barriers most amount : ℕ) (taken : List ℕ) (done : AddsCommit Same word value most_barriers most old new) → TakesBlocks (current_words old) in_snapshot taken done.prepared → word ≡ covered →
      length taken ≡ amount → IsOpen (current_words old) in_snapshot taken word → IsWellFormed (current_words new) → Effect (current_words old) (current_words new) →
      PerformsWithin in_snapshot amount most_barriers most old new change Effect
  within_committed word value most_barriers most amount taken done takes at number inside well_formed effect = make moved
    where
      Moved : ℕ → Type 0
      Moved place = (commit : AddsCommit Same place value most_barriers most old new) × (TakesBlocks (current_words old) in_snapshot taken commit.prepared × IsOpen (current_words old) in_snapshot taken place)

      moved : Moved covered
      moved = subst Moved at (done, (takes, inside))

      make : Moved covered → PerformsWithin in_snapshot amount most_barriers most old new change Effect
      make (commit, (of, open_word)) = record {
        value = value;
        commit = commit;
        taken = taken;
        takes = of;
        number = number;
        in_open = open_word;
        well_formed = well_formed;
        effect = effect;
      }

  -- stores that nobody sees, and then the commit of one word in its place
  pub within_stores : (May : ℕ → ℕ → Type 0) (most : ℕ) (middle : Memory) (word value : ℕ) (taken : List ℕ) → ((image : Image) → EachMay May (current_words old) image → Same (current_words old) image) →
      (part : AddsMay May 0 most old middle) → Adds middle new (commit word value) → AreApart taken → Each (IsFreeBlock (current_words old) in_snapshot) taken → Each (λ b. StoresTo (InBlock b) part.added) taken →
      ((place stored : ℕ) → May place stored → IsOpen (current_words old) in_snapshot taken place) → word ≡ covered → length taken ≡ needed → IsOpen (current_words old) in_snapshot taken word →
      IsWellFormed (current_words new) → Effect (current_words old) (current_words new) → PerformsWithin in_snapshot needed 2 (most + 1) old new change Effect
  within_stores May most middle word value taken unseen part adds once free stored inside at number open_word well_formed effect =
      within_committed word value 2 (most + 1) needed taken
      (record {
        prepared = part.added;
        adds = adds_both old middle new part.added (commit word value) part.adds adds;
        quiet = quiet_may Same same_equivalence May (current_words old) part.added unseen part.may;
        piece = IsPiece-append 0 most 2 1 part.added (commit word value) part.piece (IsPiece-commit word value);
      })
      (record { once = once; free = free; stored = stored; only = StoresMay-weaker May (AnyAt (IsOpen (current_words old) in_snapshot taken)) inside part.added part.may }) at number open_word well_formed effect

  -- and within the bounds of a call
  pub performs_committed : (word value most_barriers most : ℕ) (taken : List ℕ) (done : AddsCommit Same word value most_barriers most old new) → TakesBlocks (current_words old) in_snapshot taken done.prepared → word ≡ covered →
      most_barriers ≤ 8 → most ≤ most_stores_thawed needed → length taken ≡ needed → IsOpen (current_words old) in_snapshot taken word → IsWellFormed (current_words new) → Effect (current_words old) (current_words new) →
      PerformsThawed in_snapshot old new change Effect
  performs_committed word value most_barriers most taken done takes at low few number inside well_formed effect =
      within_more in_snapshot needed most_barriers most old new change Effect (within_committed word value most_barriers most needed taken done takes at number inside well_formed effect) 8 (most_stores_thawed needed) low few

  -- a preparation, and then the commit of one word in its place
  pub performs_word : (middle : Memory) (word value most_barriers most : ℕ) (taken : List ℕ) → AddsTaking in_snapshot taken most_barriers most old middle → Adds middle new (commit word value) → word ≡ covered →
      most_barriers + 2 ≤ 8 → most + 1 ≤ most_stores_thawed needed → length taken ≡ needed → IsOpen (current_words old) in_snapshot taken word → IsWellFormed (current_words new) → Effect (current_words old) (current_words new) →
      PerformsThawed in_snapshot old new change Effect
  performs_word middle word value most_barriers most taken first adds at low few number inside well_formed effect =
      performs_committed word value (most_barriers + 2) (most + 1) taken
      (record {
        prepared = first.part.added;
        adds = adds_both old middle new first.part.added (commit word value) first.part.adds adds;
        quiet = first.part.quiet;
        piece = IsPiece-append most_barriers most 2 1 first.part.added (commit word value) first.part.piece (IsPiece-commit word value);
      }) first.takes at low few number inside well_formed effect

  -- a preparation, and then one more with its commit, as where blocks are copied
  pub within_twice : (middle : Memory) (word value most_barriers most more_barriers more amount : ℕ) (first second : List ℕ) (one : AddsTaking in_snapshot first most_barriers most old middle)
      (two : AddsCommit Same word value more_barriers more middle new) → TakesBlocks (current_words middle) in_snapshot second two.prepared →
      ((b : ℕ) → IsLiveBlock (current_words middle) b → IsLiveBlock (current_words old) b ⊎ Has first b) → ((b : ℕ) → Has second b → IsFreeBlock (current_words old) in_snapshot b × (Has first b → ⊥)) →
      word ≡ covered → length first + length second ≡ amount → IsOpen (current_words middle) in_snapshot second word →
      IsWellFormed (current_words new) → Effect (current_words old) (current_words new) → PerformsWithin in_snapshot amount (most_barriers + more_barriers) (most + more) old new change Effect
  within_twice middle word value most_barriers most more_barriers more amount first second one two takes live free at number inside well_formed effect =
      within_committed word value (most_barriers + more_barriers) (most + more) amount (first ++ second)
      (record {
        prepared = one.part.added ++ two.prepared;
        adds = rw parts (adds_both old middle new one.part.added (two.prepared ++ commit word value) one.part.adds two.adds);
        quiet = quiet-append Same same_equivalence.transitive (current_words old) one.part.added two.prepared one.part.closed one.part.quiet (rw words at two.quiet);
        piece = rw parts (IsPiece-append most_barriers most more_barriers more one.part.added (two.prepared ++ commit word value) one.part.piece two.piece);
      })
      (takes_twice in_snapshot (current_words old) (current_words middle) first second one.part.added two.prepared live free one.takes takes) at
      (length-append first second ∙ number) (open_before in_snapshot (current_words old) (current_words middle) first second one.part.added two.prepared live word inside) well_formed effect
    where
      words : current_words middle ≡ words_after (current_words old) one.part.added
      words = current_words-adds old middle one.part.added one.part.adds

      parts : (one.part.added ++ two.prepared) ++ commit word value ≡ one.part.added ++ (two.prepared ++ commit word value)
      parts = append_assoc one.part.added two.prepared (commit word value)

  pub performs_twice : (middle : Memory) (word value most_barriers most more_barriers more : ℕ) (first second : List ℕ) (one : AddsTaking in_snapshot first most_barriers most old middle)
      (two : AddsCommit Same word value more_barriers more middle new) → TakesBlocks (current_words middle) in_snapshot second two.prepared →
      ((b : ℕ) → IsLiveBlock (current_words middle) b → IsLiveBlock (current_words old) b ⊎ Has first b) → ((b : ℕ) → Has second b → IsFreeBlock (current_words old) in_snapshot b × (Has first b → ⊥)) →
      word ≡ covered → most_barriers + more_barriers ≤ 8 → most + more ≤ most_stores_thawed needed → length first + length second ≡ needed → IsOpen (current_words middle) in_snapshot second word →
      IsWellFormed (current_words new) → Effect (current_words old) (current_words new) → PerformsThawed in_snapshot old new change Effect
  performs_twice middle word value most_barriers most more_barriers more first second one two takes live free at low few number inside well_formed effect =
      within_more in_snapshot needed (most_barriers + more_barriers) (most + more) old new change Effect
      (within_twice middle word value most_barriers most more_barriers more needed first second one two takes live free at number inside well_formed effect) 8 (most_stores_thawed needed) low few

  -- a call goes on at once, as where no block is in the snapshot
  pub performs_unthawed : thawed (current_words old) in_snapshot change ≡ [] → PerformsThawed in_snapshot old new change Effect → Performs in_snapshot old new change Effect
  performs_unthawed none done =
      let nothing : length (thawed (current_words old) in_snapshot change) ≡ 0 = ap length none in
      let full : full_need (current_words old) in_snapshot change ≡ needed = omega (arith, nothing) in
      within_more in_snapshot (full_need (current_words old) in_snapshot change) 8 (most_stores_thawed needed) old new change Effect
      (subst (λ n. PerformsWithin in_snapshot n 8 (most_stores_thawed needed) old new change Effect) (sym full) done)
      10 (most_stores (full_need (current_words old) in_snapshot change)) (omega arith) (omega (arith, full))

-- ---- after a thaw

-- Blocks that are in the snapshot were copied. What is live then was live or is a copy, the copies are, and what is not
-- live any more is in the snapshot.
module _ (in_snapshot : ℕ → Bool) (old middle : Memory) (first : List ℕ) (thaw : AddsTaking in_snapshot first 2 ((512 + 1) * length first) old middle)
    (live : (b : ℕ) → IsLiveBlock (current_words middle) b → IsLiveBlock (current_words old) b ⊎ Has first b) (used : (b : ℕ) → Has first b → IsLiveBlock (current_words middle) b)
    (stay : (b : ℕ) → IsLiveBlock (current_words old) b → IsLiveBlock (current_words middle) b ⊎ (in_snapshot b ≡ true)) where
  same_count : block_count (current_words middle) ≡ block_count (current_words old)
  same_count =
      let base : length middle.base ≡ length old.base = ap (λ (memory : Memory). length memory.base) thaw.part.adds in
      ap (λ n. n / 512) (length-current_words middle ∙ base ∙ sym (length-current_words old))

  -- so what is free then was free, and is none of the copies
  pub free_after_thaw : (b : ℕ) → IsFreeBlock (current_words middle) in_snapshot b → IsFreeBlock (current_words old) in_snapshot b × (Has first b → ⊥)
  free_after_thaw b free = (record { low = free.low; high = rw same_count at free.high; free = not_live; loose = free.loose }, λ took. free.free (used b took))
    where
      clash : (is : Bool) → is ≡ true → is ≡ false → ⊥
      clash is one two = absurd (cc)

      not_live : IsLiveBlock (current_words old) b → ⊥
      not_live was = elim (stay b was) [ inl is ↦ free.free is | inr snapshot_blocks ↦ clash (in_snapshot b) snapshot_blocks free.loose ]

  module _ (new : Memory) (change : Change) (Rest Effect : Image → Image → Type 0) (rest : PerformsThawed in_snapshot middle new change Rest) where
    -- the call goes on as where nothing has to be thawed
    pub performs_after_thaw : length first ≡ length (thawed (current_words old) in_snapshot change) → cover (current_words middle) change ≡ cover (current_words old) change →
        need (current_words middle) change ≡ need (current_words old) change → (Rest (current_words middle) (current_words new) → Effect (current_words old) (current_words new)) → Performs in_snapshot old new change Effect
    performs_after_thaw number same_cover same_need effect =
        let n : ℕ = length first in
        let m : ℕ = need (current_words middle) change in
        let all : length first + need (current_words middle) change ≡ full_need (current_words old) in_snapshot change = omega (arith, number, same_need) in
        let free : (b : ℕ) → Has rest.taken b → IsFreeBlock (current_words old) in_snapshot b × (Has first b → ⊥) =
        (λ b took. free_after_thaw b (each-has (IsFreeBlock (current_words middle) in_snapshot) rest.taken b rest.takes.free took)) in
        within_more in_snapshot (full_need (current_words old) in_snapshot change) (2 + 8) ((512 + 1) * n + most_stores_thawed m) old new change Effect
        (within_twice in_snapshot old new change Effect middle (address (current_words new) (cover (current_words middle) change)) rest.value 2 ((512 + 1) * n) 8 (most_stores_thawed m) (full_need (current_words old) in_snapshot change) first
        rest.taken thaw rest.commit rest.takes live free (ap (address (current_words new)) same_cover) (ap (λ x. n + x) rest.number ∙ all) rest.in_open rest.well_formed (effect rest.effect))
        10 (most_stores (full_need (current_words old) in_snapshot change)) (omega arith) (omega (arith, all))

  -- in an image of the same shape, whose cover and need are those of the image before
  pub performs_thawed : IsWellFormed (current_words old) → SameShape (current_words old) (current_words middle) → (new : Memory) (change : Change) (Effect : Image → Image → Type 0) → IsOfReached (current_words old) change →
      length first ≡ length (thawed (current_words old) in_snapshot change) → PerformsThawed in_snapshot middle new change Effect → Performs in_snapshot old new change (AfterThaw Effect)
  performs_thawed well shape new change Effect of number rest =
      performs_after_thaw new change Effect (AfterThaw Effect) rest number (cover-shape (current_words old) (current_words middle) well shape change of) (need-shape (current_words old) (current_words middle) well shape change of)
      (λ effect. record { middle = current_words middle; thawed = shape; effect = effect })

-- ---- what follows

module _ (in_snapshot : ℕ → Bool) (old new : Memory) (change : Change) (Effect : Image → Image → Type 0) (done : Performs in_snapshot old new change Effect) where
  abbrev wanted : ℕ
  wanted = full_need (current_words old) in_snapshot change

  abbrev place : ℕ
  place = address (current_words new) (cover (current_words old) change)

  -- the events up to the marker
  abbrev pub performed : List Event
  performed = done.commit.prepared ++ commit place done.value

  take_all : (b : ℕ) → IsFreeBlock (current_words old) in_snapshot b → StoresTo (InBlock b) performed → Has done.taken b
  take_all b free found = go (StoresTo-append (InBlock b) done.commit.prepared (commit place done.value) found)
    where
      go : StoresTo (InBlock b) done.commit.prepared ⊎ StoresTo (InBlock b) (commit place done.value) → Has done.taken b
      go (inl early) =
          let at = stored_at (IsOpen (current_words old) in_snapshot done.taken) b done.commit.prepared done.takes.only early in
          open-free (current_words old) in_snapshot done.taken at.0 b at.1.1 free at.1.0
      go (inr (inl here)) = open-free (current_words old) in_snapshot done.taken place b here free done.in_open
      go (inr (inr never)) = absurd never

  pub all_open : StoresMay (AnyAt (IsOpen (current_words old) in_snapshot done.taken)) performed
  all_open = StoresMay-append (AnyAt (IsOpen (current_words old) in_snapshot done.taken)) done.commit.prepared (commit place done.value) done.takes.only (done.in_open, tt)

  -- no word of the superblock is stored to but the two that describe the inode file
  pub no_idle_word : (word : ℕ) → word < 512 → word ≢ super_root → word ≢ super_size → StoresTo (λ place. place ≡ word) performed → ⊥
  no_idle_word word high not_root not_size found = go performed all_open found
    where
      none : (place : ℕ) → place ≡ word → IsOpen (current_words old) in_snapshot done.taken place → ⊥
      none place e (in_taken has) = let some : 1 ≤ place / 512 = (each-has (IsFreeBlock (current_words old) in_snapshot) done.taken (place / 512) done.takes.free has).low in omega (arith, e, high, some)
      none place e (in_live live loose) = live.has.not_null (omega (arith, e, high))
      none place e (at_root two) = not_root (sym e ∙ two)
      none place e (at_size three) = not_size (sym e ∙ three)

      go : (events : List Event) → StoresMay (AnyAt (IsOpen (current_words old) in_snapshot done.taken)) events → StoresTo (λ place. place ≡ word) events → ⊥
      go [] may never = never
      go (Store place value ∷ events) may (inl here) = none place here may.0
      go (Store place value ∷ events) may (inr later) = go events may.1 later
      go (Barrier ∷ events) may found = go events may found
      go (CallEnd ∷ events) may found = go events may found

  -- nor is a word of a block that is in the snapshot
  pub no_snapshot_word : (word : ℕ) → 512 ≤ word → in_snapshot (word / 512) ≡ true → StoresTo (λ place. place ≡ word) performed → ⊥
  no_snapshot_word word low is found = go performed all_open found
    where
      clash : (b : Bool) → b ≡ true → b ≡ false → ⊥
      clash b one two = absurd (cc)

      none : (place : ℕ) → place ≡ word → IsOpen (current_words old) in_snapshot done.taken place → ⊥
      none place e (in_taken has) =
          let loose : in_snapshot (place / 512) ≡ false = (each-has (IsFreeBlock (current_words old) in_snapshot) done.taken (place / 512) done.takes.free has).loose in
          clash (in_snapshot (word / 512)) is (subst (λ w. in_snapshot (w / 512) ≡ false) e loose)
      none place e (in_live live loose) = clash (in_snapshot (word / 512)) is (subst (λ w. in_snapshot (w / 512) ≡ false) e loose)
      none place e (at_root two) = omega (arith, e, two, low)
      none place e (at_size three) = omega (arith, e, three, low)

      go : (events : List Event) → StoresMay (AnyAt (IsOpen (current_words old) in_snapshot done.taken)) events → StoresTo (λ place. place ≡ word) events → ⊥
      go [] may never = never
      go (Store place value ∷ events) may (inl here) = none place here may.0
      go (Store place value ∷ events) may (inr later) = go events may.1 later
      go (Barrier ∷ events) may found = go events may found
      go (CallEnd ∷ events) may found = go events may found

  pub performs_short : IsShort (current_words old) (current_words new) in_snapshot change performed
  performs_short = record {
    last = last_stored-commit done.commit.prepared place done.value;
    taken = done.taken;
    are = record {
      once = done.takes.once;
      some = λ b has. (
        each-has (IsFreeBlock (current_words old) in_snapshot) done.taken b done.takes.free has,
        StoresTo-prefix (InBlock b) done.commit.prepared (commit place done.value) (each-has (λ x. StoresTo (InBlock x) done.commit.prepared) done.taken b done.takes.stored has),
      );
      all = take_all;
    };
    number = done.number;
    few_barriers = done.commit.piece.few_barriers;
    few_stores = done.commit.piece.few_stores;
    keeps = no_snapshot_word;
    idle = no_idle_word;
  }

  pub performs_adds : Adds old new performed
  performs_adds = done.commit.adds

  pub performs_no_call_end : call_ends performed ≡ 0
  performs_no_call_end = done.commit.piece.no_call_end

  -- with its marker it keeps the memory safe: crashes are right, and each store has a barrier after it
  pub performs_safe : (ended : Memory) → IsSafe Same old → Adds new ended (CallEnd ∷ []) → IsSafe Same ended
  performs_safe ended safe ends =
      safe_committed Same same_equivalence place done.value 10 (most_stores (full_need (current_words old) in_snapshot change)) old new ended safe done.commit ends
      (rw (current_words-adds new ended (CallEnd ∷ []) ends) (same_self (current_words new) done.well_formed))

  -- the blocks that it needed were free
  pub performs_fits : (free : ℕ) → HasFree (current_words old) in_snapshot free → full_need (current_words old) in_snapshot change ≤ free
  performs_fits free has =
      let within : length done.taken ≤ length (numbers_below (block_count (current_words old)) has.set) =
      apart-within done.taken (numbers_below (block_count (current_words old)) has.set) done.takes.once
      (λ b took.
      let is : IsFreeBlock (current_words old) in_snapshot b = each-has (IsFreeBlock (current_words old) in_snapshot) done.taken b done.takes.free took in
      has-filter has.set (range_with_len 0 (block_count (current_words old))) b (has-range 0 (block_count (current_words old)) b (omega arith) (omega (arith, is.high))) (has.are.all b is)) in
      omega (arith, within, done.number, has.number)

  -- another word for what it does
  pub performs_as : (Other : Image → Image → Type 0) → (Effect (current_words old) (current_words new) → Other (current_words old) (current_words new)) → Performs in_snapshot old new change Other
  performs_as Other other = record {
    value = done.value;
    commit = done.commit;
    taken = done.taken;
    takes = done.takes;
    number = done.number;
    in_open = done.in_open;
    well_formed = done.well_formed;
    effect = other done.effect;
  }

  -- a call that needs no block stores to no free block
  pub no_free_block : full_need (current_words old) in_snapshot change ≡ 0 → (b : ℕ) → IsFreeBlock (current_words old) in_snapshot b → StoresTo (InBlock b) performed → ⊥
  no_free_block none b free found = go done.taken (done.number ∙ none) (take_all b free found)
    where
      go : (taken : List ℕ) → length taken ≡ 0 → Has taken b → ⊥
      go [] empty has = has
      go (x ∷ xs) empty has = omega (arith, empty)

  -- the events up to the marker are those that the memory got
  pub events_performed : events_between old new ≡ performed
  events_performed = ap (λ memory. drop (length old.events) memory.events) done.commit.adds ∙ drop-append_seam old.events performed

  pub performs_short_between : IsShort (current_words old) (current_words new) in_snapshot change (events_between old new)
  performs_short_between = subst (IsShort (current_words old) (current_words new) in_snapshot change) (sym events_performed) performs_short

  pub no_free_block_between : full_need (current_words old) in_snapshot change ≡ 0 → (b : ℕ) → IsFreeBlock (current_words old) in_snapshot b → StoresTo (InBlock b) (events_between old new) → ⊥
  no_free_block_between none b free found = no_free_block none b free (subst (StoresTo (InBlock b)) events_performed found)
