-- The blocks of a tree after a smaller size: those that it has under its size and not under the smaller one.
use Rattle.std.proofs.Common.{◌≡◌, ◌≢◌, ◌⊎◌, ℕ, zero, suc, ◌+◌, ◌-◌, ◌*◌, ◌/◌, ◌<◌, ◌≤◌, min, Bool, true, false, refl, sym, ◌∙◌, ap, subst, subst₂, arith, inl, inr, lt_of_lt_of_le}
use Rattle.std.proofs.lemmas.Bool.{cases_eq, cases_lt, cases_Bool, true≢false}
use Rattle.std.proofs.Math.Nat.{le-div_iff_mul-le}
use Rattle.bp_free.specs.Set.{Set, has}
use Rattle.bp_layout.specs.Pieces.{child, piece, HasChildren, Joins}
use Rattle.bp_layout.specs.Tree.{covered, span, node, HasBlock, IsLivePointer, IsSound}
use Rattle.bp_layout.specs.Words.{Image, block_count, block_of, height_of}
use Rattle.bp_layout.proofs.Addresses.{present_above}
use Rattle.bp_layout.proofs.Pieces.{InChild, sound_shape, joined_block, child_block, splits}
use Rattle.bp_layout.proofs.TreeLaws.{first_index, tree_word-zero}
use Rattle.bp_changes.specs.Freed.{IsTruncated}
use Rattle.bp_append.proofs.TallyLaws.{span-positive, div_order}
use Rattle.bp_calls.specs.Truncated.{IsTopTruncated, IsTruncatedIn}
use Rattle.bp_calls.specs.Truncated.IsTruncatedIn.{top, below}
use Rattle.bp_calls.specs.GivenBack.{GivesBack}

-- ---- sets

module _ (P Q : ℕ → Type 0) (old new : Set) where
  -- the same numbers, reported in other words
  pub gives_as : {in_snapshot : ℕ → Bool} → ((b : ℕ) → P b → Q b) → ((b : ℕ) → Q b → P b) → GivesBack in_snapshot P old new → GivesBack in_snapshot Q old new
  gives_as there back gives = record {
    room = gives.room;
    given = λ b q loose. gives.given b (back b q) loose;
    still = gives.still;
    only = λ b is. elim (gives.only b is) [ inl was ↦ inl was | inr (p, loose) ↦ inr (there b p, loose) ];
  }

pub gives_none : {in_snapshot : ℕ → Bool} (P : ℕ → Type 0) (set : Set) → ((b : ℕ) → P b → ⊥) → GivesBack in_snapshot P set set
gives_none P set none = record { room = refl; given = λ b p loose. absurd (none b p); still = λ b is. is; only = λ b is. inl is }

pub gives_twice : {in_snapshot : ℕ → Bool} (P Q R : ℕ → Type 0) (old mid new : Set) → ((b : ℕ) → P b → R b) → ((b : ℕ) → Q b → R b) → ((b : ℕ) → R b → P b ⊎ Q b) → GivesBack in_snapshot P old mid → GivesBack in_snapshot Q mid new → GivesBack in_snapshot R old new
gives_twice P Q R old mid new first second both one two = record {
  room = two.room ∙ one.room;
  given = λ b r loose. elim (both b r) [ inl p ↦ two.still b (one.given b p loose) | inr q ↦ two.given b q loose ];
  still = λ b is. two.still b (one.still b is);
  only = λ b is. elim (two.only b is) [ inl was ↦ elim (one.only b was) [ inl before ↦ inl before | inr (p, loose) ↦ inr (first b p, loose) ] | inr (q, loose) ↦ inr (second b q, loose) ];
}

-- ---- one tree under two sizes

module _ (image : Image) (root : ℕ) where
  pub has_larger : (shorter size b : ℕ) → shorter ≤ size → HasBlock image root shorter b → HasBlock image root size b
  has_larger shorter size b smaller has = record {
    depth = has.depth;
    index = has.index;
    pointer = record { level = has.pointer.level; height = has.pointer.height; live = lt_of_lt_of_le has.pointer.live smaller };
    named = has.named;
    not_null = has.not_null;
  }

  -- what is given up the tree has not under a size up to the smaller one
  pub truncated_not_in_snapshot : (size shorter less b : ℕ) → IsSound image root size → less ≤ shorter → less ≤ size → IsTruncated image root size shorter b → HasBlock image root less b → ⊥
  truncated_not_in_snapshot size shorter less b sound low smaller gone has =
      let one : HasBlock image root size b = record {
        depth = has.depth;
        index = has.index;
        pointer = record { level = has.pointer.level; height = has.pointer.height; live = lt_of_lt_of_le has.pointer.live smaller };
        named = has.named;
        not_null = has.not_null;
      } in
      let same : (has.depth ≡ gone.has.depth) × (has.index ≡ gone.has.index) =
      sound.once has.depth has.index gone.has.depth gone.has.index one.pointer gone.has.pointer (λ null. has.not_null (sym has.named ∙ null)) (has.named ∙ sym gone.has.named) in
      let level : gone.has.pointer.level ≡ has.pointer.level = omega (arith, has.pointer.height, gone.has.pointer.height, same.0) in
      let past : shorter ≤ has.index * covered (suc has.pointer.level) = subst₂ (λ k l. shorter ≤ k * covered (suc l)) (sym same.1) level gone.past in
      let live : has.index * covered (suc has.pointer.level) < less = has.pointer.live in
      omega (arith, past, live, low)

  pub truncated_of : (size shorter b : ℕ) → HasBlock image root size b → (HasBlock image root shorter b → ⊥) → IsTruncated image root size shorter b
  truncated_of size shorter b has none = go (cases_lt (has.index * covered (suc has.pointer.level)) shorter)
    where
      go : (has.index * covered (suc has.pointer.level) < shorter) ⊎ (shorter ≤ has.index * covered (suc has.pointer.level)) → IsTruncated image root size shorter b
      go (inl low) = absurd (none (record {
        depth = has.depth;
        index = has.index;
        pointer = record { level = has.pointer.level; height = has.pointer.height; live = low };
        named = has.named;
        not_null = has.not_null;
      }))
      go (inr past) = record { has = has; past = past }

  present_top : (d k : ℕ) → node image root d k ≢ 0 → block_of root ≢ 0
  present_top zero k present null = present (ap block_of (tree_word-zero image root k) ∙ null)
  present_top (suc d) k present null = present_top d (k / 512) (present_above image root d k present) null

  -- a tree without a topmost block has none
  pub null_truncated : (size shorter b : ℕ) → block_of root ≡ 0 → IsTruncated image root size shorter b → ⊥
  null_truncated size shorter b null gone = present_top gone.has.depth gone.has.index (λ none. gone.has.not_null (sym gone.has.named ∙ none)) null

  top_live : (size : ℕ) → 0 < size → IsLivePointer root size 0 0
  top_live size some = record { level = height_of root; height = omega arith; live = omega (arith, some) }

  pub top_block : (size : ℕ) → 0 < size → block_of root ≢ 0 → HasBlock image root size (block_of root)
  top_block size some present = record { depth = 0; index = 0; pointer = top_live size some; named = ap block_of (tree_word-zero image root 0); not_null = present }

  pub top_in_range : (size : ℕ) → IsSound image root size → 0 < size → block_of root < block_count image
  top_in_range size sound some = subst (λ b. b < block_count image) (ap block_of (tree_word-zero image root 0)) (sound.in_range 0 0 (top_live size some))

  -- ---- a leaf

  module _ (size shorter : ℕ) (sound : IsSound image root size) (some : shorter < size) (present : block_of root ≢ 0) (leaf : height_of root ≡ 0) where
    leaf_there : (b : ℕ) → IsTopTruncated (block_of root) shorter b → IsTruncated image root size shorter b
    leaf_there b is = record { has = subst (HasBlock image root size) (sym is.is) (top_block size (omega (arith, some)) present); past = omega (arith, is.whole) }

    leaf_back : (b : ℕ) → IsTruncated image root size shorter b → IsTopTruncated (block_of root) shorter b
    leaf_back b gone = go gone.has.depth gone.has.index gone.has.pointer gone.has.named gone.past
      where
        go : (d k : ℕ) (live : IsLivePointer root size d k) → node image root d k ≡ b → shorter ≤ k * covered (suc live.level) → IsTopTruncated (block_of root) shorter b
        go zero k live named past =
            let first : k ≡ 0 = first_index root size k sound.fits live in
            record { whole = omega (arith, rw first at past); is = sym named ∙ ap block_of (tree_word-zero image root k) }
        go (suc d) k live named past = absurd (omega (arith, live.height, leaf))

    pub leaf_gives : {in_snapshot : ℕ → Bool} (old new : Set) → GivesBack in_snapshot (IsTopTruncated (block_of root) shorter) old new → GivesBack in_snapshot (IsTruncated image root size shorter) old new
    leaf_gives old new gives = gives_as (IsTopTruncated (block_of root) shorter) (IsTruncated image root size shorter) old new leaf_there leaf_back gives

-- ---- a tree that is higher

-- a tree whose top has children, which loses its blocks past a size below its own
pub record LosesSlots (image : Image) (root size level shorter : ℕ) : Type 0 where
  pub sound : IsSound image root size
  pub some : shorter < size
  pub present : block_of root ≢ 0
  pub height : height_of root ≡ suc level

module _ {image : Image} {root size level shorter : ℕ} (loses : LosesSlots image root size level shorter) where
  open loses use {sound, some, present, height}

  pub shape : HasChildren image root size level
  shape = sound_shape image root size level sound (omega (arith, some)) height

  shape_shorter : HasChildren image root shorter level
  shape_shorter = record {
    height = height;
    low = shape.low;
    fits = omega (arith, shape.fits, some);
    words = λ c low. shape.words c (omega (arith, low, some));
  }

  joins : Joins image root size level
  joins = splits image root size level shape sound (omega (arith, some)) present

  abbrev pub Child : ℕ → ℕ → ℕ → Type 0
  Child slot z b = HasBlock image (child image (block_of root) level slot) z b

  abbrev pub TruncatedAt : ℕ → ℕ → Type 0
  TruncatedAt slot b = IsTruncated image (child image (block_of root) level slot) (piece size level slot) (shorter - slot * span level) b

  -- the slots before the first hold nothing that is given up
  before_first : (slot b : ℕ) → slot < shorter / span level → TruncatedAt slot b → ⊥
  before_first slot b low gone =
      let next : (slot + 1) * span level ≤ shorter = (le-div_iff_mul-le {k = span level} {x = slot + 1} {y = shorter} (span-positive level)).0 (omega (arith, low)) in
      go (span level) next gone.past gone.has.pointer.live
    where
      go : (s : ℕ) → (slot + 1) * s ≤ shorter → shorter - slot * s ≤ gone.has.index * covered (suc gone.has.pointer.level) → gone.has.index * covered (suc gone.has.pointer.level) < min (size - slot * s) s → ⊥
      go s next past live = omega (arith, next, past, live)

  -- a live slot is one of those up to the last
  last_slot : (slot : ℕ) → slot * span level < size → slot < (size - 1) / span level + 1
  last_slot slot low =
      let at : slot ≤ (size - 1) / span level = (le-div_iff_mul-le {k = span level} {x = slot} {y = size - 1} (span-positive level)).1 (omega (arith, low)) in
      omega (arith, at)

  pub slot_live : (slot : ℕ) → slot < (size - 1) / span level + 1 → slot * span level < size
  slot_live slot low =
      let at : slot * span level ≤ size - 1 = (le-div_iff_mul-le {k = span level} {x = slot} {y = size - 1} (span-positive level)).0 (omega (arith, low)) in
      omega (arith, at, some)

  -- the first slot is no later than the one after the last
  pub slots_order : shorter / span level ≤ (size - 1) / span level + 1
  slots_order = let order = div_order shorter (size - 1) level (omega (arith, some)) in omega (arith, order)

  pub child_is_sound : (slot : ℕ) → slot * span level < size → IsSound image (child image (block_of root) level slot) (piece size level slot)
  child_is_sound = joins.sound

  -- the tree in a slot is lower
  pub child_is_lower : (slot : ℕ) → slot * span level < size → height_of (child image (block_of root) level slot) ≡ level
  child_is_lower slot live = let word = shape.words slot live in omega (arith, word, shape.low)

  top_truncated : (b : ℕ) → IsTopTruncated (block_of root) shorter b → IsTruncated image root size shorter b
  top_truncated b is = record { has = subst (HasBlock image root size) (sym is.is) (top_block image root size (omega (arith, some)) present); past = omega (arith, is.whole) }

  -- what a child has under both sizes the tree has under the smaller one
  kept_below : (slot b : ℕ) → slot * span level < size → (has : Child slot (piece size level slot) b) → has.index * covered (suc has.pointer.level) < shorter - slot * span level → HasBlock image root shorter b
  kept_below slot b live has low =
      child_block image root shorter level shape_shorter slot b (omega (arith, low)) (record {
        depth = has.depth;
        index = has.index;
        pointer = record { level = has.pointer.level; height = has.pointer.height; live = let in_piece = has.pointer.live in omega (arith, low, in_piece) };
        named = has.named;
        not_null = has.not_null;
      })

  truncated_in : (b : ℕ) → IsTruncated image root size shorter b → IsTruncatedIn image root size level shorter ((size - 1) / span level + 1) b
  truncated_in b gone = go (joined_block image root size level shape b gone.has)
    where
      at_top : b ≡ block_of root → (shorter ≡ 0) ⊎ (shorter ≡ 0 → ⊥) → IsTruncatedIn image root size level shorter ((size - 1) / span level + 1) b
      at_top is (inl none) = top (record { whole = none; is = is })
      at_top is (inr more) =
          absurd (truncated_not_in_snapshot image root size shorter shorter b sound (omega arith) (omega (arith, some)) gone (subst (HasBlock image root shorter) (sym is) (top_block image root shorter (omega (arith, more)) present)))

      in_child : (slot : ℕ) → slot * span level < size → (has : Child slot (piece size level slot) b) →
          (has.index * covered (suc has.pointer.level) < shorter - slot * span level) ⊎ (shorter - slot * span level ≤ has.index * covered (suc has.pointer.level)) →
          IsTruncatedIn image root size level shorter ((size - 1) / span level + 1) b
      in_child slot live has (inl low) = absurd (truncated_not_in_snapshot image root size shorter shorter b sound (omega arith) (omega (arith, some)) gone (kept_below slot b live has low))
      in_child slot live has (inr past) = below slot (last_slot slot live) live (record { has = has; past = past })

      go : (b ≡ block_of root) ⊎ InChild image root size level shape b → IsTruncatedIn image root size level shorter ((size - 1) / span level + 1) b
      go (inl is) = at_top is (cases_eq shorter 0)
      go (inr inside) = in_child inside.slot inside.below inside.has (cases_lt (inside.has.index * covered (suc inside.has.pointer.level)) (shorter - inside.slot * span level))

  truncated_out : (slots b : ℕ) → IsTruncatedIn image root size level shorter slots b → IsTruncated image root size shorter b
  truncated_out slots b (top is) = top_truncated b is
  truncated_out slots b (below slot low live gone) = truncated_of image root size shorter b (child_block image root size level shape slot b live gone.has) none
    where
      smaller : (c : ℕ) → piece shorter level c ≤ piece size level c
      smaller c = omega (arith, some)

      none : HasBlock image root shorter b → ⊥
      none in_snapshot = go (joined_block image root shorter level shape_shorter b in_snapshot)
        where
          go : (b ≡ block_of root) ⊎ InChild image root shorter level shape_shorter b → ⊥
          go (inl is) = joins.own slot live (subst (Child slot (piece size level slot)) is gone.has)
          go (inr inside) =
              let there : inside.slot * span level < size = omega (arith, inside.below, some) in
              let also : Child inside.slot (piece size level inside.slot) b = has_larger image (child image (block_of root) level inside.slot) (piece shorter level inside.slot) (piece size level inside.slot) b (smaller inside.slot) inside.has in
              let same : inside.slot ≡ slot = joins.apart inside.slot slot b there live also gone.has in
              let here : Child slot (piece shorter level slot) b = subst (λ c. Child c (piece shorter level c) b) same inside.has in
              truncated_not_in_snapshot image (child image (block_of root) level slot) (piece size level slot) (shorter - slot * span level) (piece shorter level slot) b (joins.sound slot live) (omega arith) (smaller slot) gone here

  -- ---- the walk over the slots

  pub slots_begin : {in_snapshot : ℕ → Bool} (old new : Set) → GivesBack in_snapshot (IsTopTruncated (block_of root) shorter) old new → GivesBack in_snapshot (IsTruncatedIn image root size level shorter (shorter / span level)) old new
  slots_begin old new gives = gives_as (IsTopTruncated (block_of root) shorter) (IsTruncatedIn image root size level shorter (shorter / span level)) old new (λ b is. top is) back gives
    where
      back : (b : ℕ) → IsTruncatedIn image root size level shorter (shorter / span level) b → IsTopTruncated (block_of root) shorter b
      back b (top is) = is
      back b (below slot low live gone) = absurd (before_first slot b low gone)

  pub slots_step : {in_snapshot : ℕ → Bool} (slot : ℕ) (old now new : Set) → slot * span level < size → GivesBack in_snapshot (IsTruncatedIn image root size level shorter slot) old now → GivesBack in_snapshot (TruncatedAt slot) now new → GivesBack in_snapshot (IsTruncatedIn image root size level shorter (slot + 1)) old new
  slots_step slot old now new live one two =
      gives_twice (IsTruncatedIn image root size level shorter slot) (TruncatedAt slot) (IsTruncatedIn image root size level shorter (slot + 1)) old now new there (λ b gone. below slot (omega arith) live gone) both one two
    where
      there : (b : ℕ) → IsTruncatedIn image root size level shorter slot b → IsTruncatedIn image root size level shorter (slot + 1) b
      there b (top is) = top is
      there b (below c low at gone) = below c (omega (arith, low)) at gone

      both : (b : ℕ) → IsTruncatedIn image root size level shorter (slot + 1) b → IsTruncatedIn image root size level shorter slot b ⊎ TruncatedAt slot b
      both b (top is) = inl (top is)
      both b (below c low at gone) = elim (cases_eq c slot) [ inl e ↦ inr (subst (λ x. TruncatedAt x b) e gone) | inr other ↦ inl (below c (omega (arith, low, other)) at gone) ]

  pub slots_end : {in_snapshot : ℕ → Bool} (old new : Set) → GivesBack in_snapshot (IsTruncatedIn image root size level shorter ((size - 1) / span level + 1)) old new → GivesBack in_snapshot (IsTruncated image root size shorter) old new
  slots_end old new gives = gives_as (IsTruncatedIn image root size level shorter ((size - 1) / span level + 1)) (IsTruncated image root size shorter) old new (truncated_out _) truncated_in gives

  -- the blocks in a slot are not yet in the set
  pub not_yet : {in_snapshot : ℕ → Bool} (slot : ℕ) (old now : Set) → slot * span level < size → ((b : ℕ) → HasBlock image root size b → has old b ≡ false) → GivesBack in_snapshot (IsTruncatedIn image root size level shorter slot) old now →
      (b : ℕ) → Child slot (piece size level slot) b → has now b ≡ false
  not_yet slot old now live taken gives b here = go (cases_Bool (has now b))
    where
      out : has old b ≡ false
      out = taken b (child_block image root size level shape slot b live here)

      never : IsTruncatedIn image root size level shorter slot b → ⊥
      never (top is) = joins.own slot live (subst (Child slot (piece size level slot)) is.is here)
      never (below c low at gone) = let same : c ≡ slot = joins.apart c slot b at live gone.has here in omega (arith, low, same)

      go : (has now b ≡ true) ⊎ (has now b ≡ false) → has now b ≡ false
      go (inr not) = not
      go (inl is) = elim (gives.only b is) [ inl was ↦ absurd (true≢false (sym was ∙ out)) | inr (gone, loose) ↦ absurd (never gone) ]
