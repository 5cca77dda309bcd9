-- A tree with blocks that has grown: what stands before the links.
use Rattle.std.proofs.Common.{◌≡◌, ◌≢◌, ◌⊎◌, ℕ, ◌+◌, ◌*◌, ◌/◌, ◌%◌, ◌<◌, ◌≤◌, List, ◌++◌, length, Bool, false, sym, ◌∙◌, subst, arith, inl, inr, le_trans}
use Rattle.bp_changes.proofs.Formatted.{version_stays}
use Rattle.bp_layout.specs.Formatted.{version_of}
use Rattle.bp_layout.proofs.MemberLaws.{each-has, each-of, has-after}
use Rattle.bp_layout.specs.Words.{Image, block_of}
use Rattle.bp_layout.specs.Tree.{node, span, HasBlock}
use Rattle.bp_layout.specs.Inode.{root_of, size_of, RootPlace}
use Rattle.bp_layout.specs.Reached.{IsReached, IsLiveBlock, IsFreeBlock}
use Rattle.bp_layout.specs.WellFormed.{IsWellFormed}
use Rattle.bp_changes.specs.SameMeaning.{SameMeaning}
use Rattle.bp_changes.specs.Harmless.{IsHarmless, Agrees}
use Rattle.bp_layout.specs.Members.{Has, Each}
use Rattle.bp_changes.specs.Links.{IsChain}
use Rattle.bp_changes.proofs.Frame.{root-kept, size-same}
use Rattle.bp_changes.proofs.PastEnd.{past_end_harmless, no_root_past_end}
use Rattle.bp_changes.specs.PastEnd.{IsPastEnd}
use Rattle.bp_changes.specs.Performs.{IsOpen}
use Rattle.bp_changes.specs.Performs.IsOpen.{in_taken, in_live}
use Rattle.pm_region.specs.Memory.{Memory, current_words}
use Rattle.bp_append.specs.Filled.{IsUsable}
use Rattle.pm_region.proofs.MemoryLaws.{length-current_words}
use Rattle.pm_region.proofs.MayLaws.{may_weaker, may_frame, each_after}
use Rattle.bp_append.specs.Built.{InBlocks}
use Rattle.bp_append.proofs.FillLaws.{each_left, usable_left}
use Rattle.bp_append.specs.Grown.{Grows}
use Rattle.bp_append.specs.Prepared.{CanPrepare}
use Rattle.bp_append.proofs.NeedLaws.{tall_most}
use Rattle.bp_append.proofs.PrepLaws.{open_root, not_live, in_free_harmless, no_root_in_free, agrees_of, meaning_middle, wf_middle, reached_middle, place_middle, still_free}
use Rattle.bp_append.proofs.EndWays.{past_end_within}

-- a tree with blocks that can be prepared has grown as it is to
pub record HasGrown (in_snapshot : ℕ → Bool) (first new : Memory) (free_old free_new : List ℕ) (t place from to : ℕ) (path raw : List ℕ) : Type 0 where
  pub can : CanPrepare in_snapshot first free_old t path from to
  pub at : RootPlace (current_words first) t place
  pub grows : Grows first new free_old free_new place (root_of (current_words first) t) (size_of (current_words first) t) from to raw
  pub some : 0 < size_of (current_words first) t
  pub present : 1 ≤ block_of (root_of (current_words first) t)

pub has_grown : {in_snapshot : ℕ → Bool} {first new : Memory} {free_old free_new : List ℕ} {t place from to : ℕ} {path raw : List ℕ} →
    CanPrepare in_snapshot first free_old t path from to → RootPlace (current_words first) t place →
    Grows first new free_old free_new place (root_of (current_words first) t) (size_of (current_words first) t) from to raw →
    0 < size_of (current_words first) t → 1 ≤ block_of (root_of (current_words first) t) → HasGrown in_snapshot first new free_old free_new t place from to path raw
has_grown can at grows some present = record { can = can; at = at; grows = grows; some = some; present = present }

-- what the lemmas about such a tree speak of
pub record Views : Type 0 where
  -- the words before it, and before the links
  pub old : Image
  pub middle : Image
  -- its root word and its size before it
  pub root : ℕ
  pub size : ℕ
  -- the blocks that it took
  pub taken : List ℕ

module _ {in_snapshot : ℕ → Bool} {first new : Memory} {free_old free_new : List ℕ} {t place from to : ℕ} {path raw : List ℕ}
    (ready : HasGrown in_snapshot first new free_old free_new t place from to path raw) where
  open ready use {can, at, grows}

  abbrev pub views : Views
  views = record {
    old = current_words first;
    middle = current_words grows.between;
    root = root_of (current_words first) t;
    size = size_of (current_words first) t;
    taken = grows.visited ++ grows.raised;
  }

  open views use {old, middle, root, size, taken}

  pub order : size_of old t ≤ to
  order = le_trans can.past_end can.order

  pub taken_are : Each (IsFreeBlock old in_snapshot) taken
  taken_are = each_left _ taken free_new (rw grows.takes at can.are_free)

  pub taken_free : Each (λ b. IsLiveBlock old b → ⊥) taken
  taken_free = not_live old in_snapshot taken taken_are

  pub open_place : IsOpen old in_snapshot taken place
  open_place = open_root old can.well in_snapshot t place can.reached at (can.loose.root place at) taken

  pub usable : IsUsable (length first.base / 512) taken
  usable = usable_left (length first.base / 512) free_old taken free_new grows.takes can.usable

  -- what may be stored before the links
  abbrev pub May : ℕ → ℕ → Type 0
  May w v = InBlocks taken w ⊎ IsPastEnd old root size w v

  pub harmless : (w v : ℕ) → May w v → IsHarmless old w v
  harmless w v (inl own) = in_free_harmless old can.well taken usable.low taken_free w v own
  harmless w v (inr past_end) = past_end_harmless old can.well t w v can.reached past_end

  pub agrees : Agrees old middle
  agrees =
      let part = may_weaker May (IsHarmless old) 0 _ first grows.between harmless grows.stores.part in
      agrees_of old middle (each_after (IsHarmless old) 0 _ first grows.between part)

  -- a word after the size is in a block of the tree
  pub past_end_block : (w v : ℕ) → IsPastEnd old root size w v → HasBlock old root size (w / 512)
  past_end_block w v past_end = record {
    depth = past_end.depth;
    index = past_end.index / 512;
    pointer = past_end.parent;
    named = row past_end.depth past_end.index past_end.at;
    not_null = λ e. past_end.present (row past_end.depth past_end.index past_end.at ∙ e);
  }
    where
      row : (d i : ℕ) → 512 * node old root d (i / 512) + i % 512 ≡ w → node old root d (i / 512) ≡ w / 512
      row d i e = omega (arith, e)

  -- and has the byte at the size, so it is not in the snapshot
  past_end_loose : (w v : ℕ) → IsPastEnd old root size w v → in_snapshot (w / 512) ≡ false
  past_end_loose w v past_end =
      let high : size_of old t < past_end.index / 512 * span past_end.parent.level + span past_end.parent.level =
      past_end_within root size past_end.depth past_end.index past_end.parent.level past_end.parent.height past_end.no_pointer past_end.ends in
      let row : node old root past_end.depth (past_end.index / 512) ≡ w / 512 = omega (arith, past_end.at) in
      subst (λ b. in_snapshot b ≡ false) row (can.loose.nodes past_end.depth (past_end.index / 512) past_end.parent past_end.present high)

  pub opens : (w v : ℕ) → May w v → IsOpen old in_snapshot taken w
  opens w v (inl own) = in_taken own
  opens w v (inr past_end) = in_live (record { tree = t; reached = can.reached; has = past_end_block w v past_end }) (past_end_loose w v past_end)

  pub sizes : size_of middle t ≡ size_of old t
  sizes = size-same old middle can.well agrees t can.reached

  pub roots_stay : (u : ℕ) → IsReached old u → root_of middle u ≡ root_of old u
  roots_stay u r =
      root-kept old middle can.well agrees u r (λ p there. may_frame _ 0 _ first grows.between grows.stores.part p (λ v m. elim m [
        | inl own ↦ no_root_in_free old can.well taken usable.low taken_free u p r there own
        | inr past_end ↦ no_root_past_end old can.well t p v can.reached past_end u r there
      ]))

  pub roots : root_of middle t ≡ root_of old t
  roots = roots_stay t can.reached

  pub meaning : SameMeaning old middle
  meaning = meaning_middle old middle can.well agrees t place can.reached at

  pub well : IsWellFormed middle
  well = wf_middle old middle can.well agrees t place can.reached at

  pub there : IsReached middle t
  there = reached_middle old middle can.well agrees t place can.reached at

  pub place_there : RootPlace middle t place
  place_there = place_middle old middle can.well agrees t place can.reached at

  pub in_taken_chain : (b : ℕ) → Has grows.chain b → Has taken b
  in_taken_chain b m = has-after grows.visited grows.raised b (grows.inside b m)

  pub free_there : (b : ℕ) → Has taken b → IsLiveBlock middle b → ⊥
  free_there b m = still_free old middle can.well agrees t place can.reached at b (each-has (λ c. IsLiveBlock old c → ⊥) taken b taken_free m)

  pub chain_there : IsChain middle (root_of middle t) grows.chain
  chain_there = record {
    low =
        let most = tall_most (version_of old) root size to (can.well.low t can.reached) can.fits in
        rw (roots, version_stays old middle meaning.trees.has_magic) (omega (arith, grows.tall, most));
    in_range = each-of _ grows.chain (λ b m.
        let low = each-has (λ c. c < length first.base / 512) taken b usable.high (in_taken_chain b m) in
        omega (arith, low, agrees.whole, length-current_words first));
    not_null = each-of _ grows.chain (λ b m e. let low = each-has (λ c. 1 ≤ c) taken b usable.low (in_taken_chain b m) in omega (arith, low, e));
    free = each-of _ grows.chain (λ b m. free_there b (in_taken_chain b m));
    apart = grows.apart;
    down = rw roots grows.down;
  }

  -- the blocks of the tree are none of the chain
  pub fresh : (b : ℕ) → HasBlock middle (root_of middle t) (size_of middle t) b → Each (λ c. c ≢ b) grows.chain
  fresh b has = each-of _ grows.chain (λ c m e.
      let has_own = subst (HasBlock middle (root_of middle t) (size_of middle t)) (sym e) has in
      free_there c (in_taken_chain c m) (record { tree = t; reached = there; has = has_own }))
