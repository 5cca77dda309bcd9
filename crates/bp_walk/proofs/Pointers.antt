-- A walk over one more pointer: it names a block that leaves the set, or it is null.
use Rattle.std.proofs.Common.{◌≡◌, ◌≢◌, ◌⊎◌, ℕ, zero, suc, ◌+◌, ◌*◌, ◌%◌, ◌<◌, ◌≤◌, Bool, true, false, length, refl, sym, ◌∙◌, ap, subst, arith, inl, inr, Result, Ok, Err}
use Rattle.bp_layout.specs.Formatted.{version_of}
use Rattle.bp_limits.specs.Limits.{greatest_height}
use Rattle.std.proofs.lemmas.Bool.{cases_eq, cases_lt}
use Rattle.std.specs.Result.{OnOk, IfErr}
use Rattle.bp_free.specs.Set.{Set, has, without}
use Rattle.bp_layout.specs.Words.{Image, word, block_count, block_of, height_of}
use Rattle.bp_layout.specs.Tree.{tree_word, node, covered}
use Rattle.bp_layout.specs.Checks.{Passes}
use Rattle.bp_layout.specs.Fields.{IsRootWord}
use Rattle.bp_layout.specs.declared.check.Check.{Check}
use Rattle.bp_layout.specs.declared.check.Check.TheVariants.{Height, PointerBits}
use Rattle.bp_walk.specs.Taken.{block_at, Takes}
use Rattle.bp_walk.specs.Pointed.{ClaimsPointed, RefusesPointed}
use Rattle.bp_walk.specs.Pointed.RefusesPointed.{too_high, is_null, has_left}
use Rattle.bp_walk.specs.Walk.{IsPlace, WalksBelow, FailsBelow, FailsTree}
use Rattle.bp_walk.specs.Walk.FailsBelow.{range, hole}
use Rattle.bp_walk.specs.Walk.FailsTree.{height, root_bits, root_range, root_hole, root_taken, below}
use Rattle.bp_walk.proofs.TakenLaws.{clash, take_one, take_null, length_without, has_without, has_less}
use Rattle.bp_walk.proofs.Below.{child_word, leaf, null}
use Rattle.bp_walk.proofs.NextSlot.{AtSlot, step, repeats_here, fails_below}

module _ {block : ℕ} {holes : Bool} {old new : Set} (claims : ClaimsPointed block holes old new) where
  pub claimed_takes : (image : Image) (at : ℕ) → block_at image at ≡ block → Takes image (λ p. p ≡ at) old new
  claimed_takes image at named = go (cases_eq block 0)
    where
      go : (block ≡ 0) ⊎ (block ≡ 0 → ⊥) → Takes image (λ p. p ≡ at) old new
      go (inl none) = subst (λ set. Takes image (λ p. p ≡ at) old set) (sym (claims.null none).1) (take_null image at old (named ∙ none))
      go (inr some) =
          let eq : without old (block_at image at) ≡ new = ap (without old) named ∙ sym (claims.present some).1 in
          subst (λ set. Takes image (λ p. p ≡ at) old set) eq
          (take_one image at old (subst (λ x. x < length old) (sym named) claims.in_range) (ap (has old) named ∙ (claims.present some).0))

  pub claimed_full : holes ≡ false → block ≢ 0
  claimed_full closed none = clash (claims.null none).0 closed

  pub claimed_room : length new ≡ length old
  claimed_room = go (cases_eq block 0)
    where
      go : (block ≡ 0) ⊎ (block ≡ 0 → ⊥) → length new ≡ length old
      go (inl none) = ap length (claims.null none).1
      go (inr some) = ap length (claims.present some).1 ∙ length_without old block

  -- what was out stays out
  pub claimed_less : (b : ℕ) → has old b ≡ false → has new b ≡ false
  claimed_less b out = go (cases_eq block 0)
    where
      go : (block ≡ 0) ⊎ (block ≡ 0 → ⊥) → has new b ≡ false
      go (inl none) = ap (λ set. has set b) (claims.null none).1 ∙ out
      go (inr some) = ap (λ set. has set b) (claims.present some).1 ∙ has_less old block b claims.in_range out

  -- the block is out, null or not
  pub claimed_out : has old 0 ≡ false → has new block ≡ false
  claimed_out first = go (cases_eq block 0)
    where
      go : (block ≡ 0) ⊎ (block ≡ 0 → ⊥) → has new block ≡ false
      go (inl none) = ap (has new) none ∙ claimed_less 0 first
      go (inr some) = ap (λ set. has set block) (claims.present some).1 ∙ has_without old block claims.in_range

-- the code has read the pointer of that slot
pub record ReadsSlot (image : Image) (root size : ℕ) (holes : Bool) (d k b s : ℕ) (old now : Set) (pointer : ℕ) : Type 0 where
  pub come : AtSlot image 0 root size holes d k b s old now
  pub stands : pointer ≡ word image (512 * b + s)
  pub room : length old ≡ block_count image

module _ {image : Image} {root size : ℕ} {holes : Bool} {d k b s : ℕ} {old now : Set} {pointer : ℕ}
    (slot : ReadsSlot image root size holes d k b s old now pointer) where
  pub here : pointer ≡ tree_word image root (suc d) (512 * k + s)
  here = slot.stands ∙ child_word image 0 root size d (512 * k + s) (512 * b + s) slot.come.child

  pointed : block_of pointer ≡ node image root (suc d) (512 * k + s)
  pointed = ap block_of here

  room_now : length now ≡ block_count image
  room_now = slot.come.walks.takes.room ∙ slot.room

  pub refused_below : {check : Check} → RefusesPointed (block_of pointer) holes now check → FailsBelow image 0 root size holes b old check (512 * b + s)
  refused_below (too_high high) = range slot.come.child (omega (arith, pointed, room_now, high))
  refused_below (is_null none closed) = hole slot.come.child closed (sym pointed ∙ none)
  refused_below (has_left present in_range gone) =
      repeats_here slot.come (λ none. present (pointed ∙ none)) (omega (arith, pointed, room_now, in_range)) (ap (has now) (sym pointed) ∙ gone)

  -- its block was claimed
  module _ {mid : Set} {block : ℕ} (reads : block_of pointer ≡ block) (claims : ClaimsPointed block holes now mid) where
    pub claimed_node : node image root (suc d) (512 * k + s) ≡ block
    claimed_node = sym pointed ∙ reads

    pub claimed_passes : pointer % 4096 ≡ 0 → Passes image root (suc d) (512 * k + s)
    claimed_passes bits = (ap (λ x. x % 4096) (sym here) ∙ bits, omega (arith, claimed_node, room_now, claims.in_range))

    pub claimed_step : {new : Set} → pointer % 4096 ≡ 0 → WalksBelow image 0 root size holes (suc d) (512 * k + s) 512 mid new →
        WalksBelow image 0 root size holes d k (s + 1) old new
    claimed_step {new} bits under = step slot.come mid new takes (claimed_passes bits) full under
      where
        takes : Takes image (λ p. p ≡ 512 * b + s) now mid
        takes = claimed_takes claims image (512 * b + s) (ap block_of (sym slot.stands) ∙ reads)

        full : holes ≡ false → node image root (suc d) (512 * k + s) ≢ 0
        full closed none = claimed_full claims closed (sym claimed_node ∙ none)

    -- a leaf has nothing below
    pub claimed_leaf : height_of root ≤ suc d → pointer % 4096 ≡ 0 → WalksBelow image 0 root size holes d k (s + 1) old mid
    claimed_leaf bottom bits = claimed_step bits (leaf image 0 root size holes (suc d) (512 * k + s) mid bottom)

    pub claimed_present : pointer % 4096 ≡ 0 → (pointer ≡ 0 → holes ≡ false) → block ≢ 0
    claimed_present bits full none = clash (claims.null none).0 (full (omega (arith, bits, reads, none)))

    pub claimed_fails : {check : Check} {p : ℕ} → block ≢ 0 → FailsBelow image 0 root size holes block mid check p →
        FailsBelow image 0 root size holes b old check p
    claimed_fails {check} {p} some fails =
        fails_below slot.come block claimed_node claims.in_range (claims.present some).0 check p
        (subst (λ set. FailsBelow image 0 root size holes block set check p) (claims.present some).1 fails)

  -- a null that may be is passed over
  null_step : b < block_count image → holes ≡ true → pointer ≡ 0 → WalksBelow image 0 root size holes d k (s + 1) old now
  null_step some may none =
      let nothing : block_of pointer ≡ 0 = ap block_of none in
      let claims : ClaimsPointed 0 holes now now =
      record { in_range = omega (arith, some, room_now); null = λ is. (may, refl); present = λ is. absurd (is refl) } in
      claimed_step nothing claims (ap (λ x. x % 4096) none) (null image 0 root size holes (suc d) (512 * k + s) now (sym pointed ∙ nothing))

-- nulls that may be are passed over
module _ {image : Image} {root size : ℕ} {holes : Bool} {d k b : ℕ} {old now : Set} (named : node image root d k ≡ b) (out : has old b ≡ false)
    (room : length old ≡ block_count image) (some : b < block_count image) (may : holes ≡ true) (s : ℕ)
    (walks : WalksBelow image 0 root size holes d k s old now) where
  pub null_steps : (n : ℕ) → s + n ≤ 512 → ((r : ℕ) → s ≤ r → r < s + n → IsPlace image 0 root size (suc d) (512 * k + r) (512 * b + r)) →
      ((r : ℕ) → s ≤ r → r < s + n → word image (512 * b + r) ≡ 0) → WalksBelow image 0 root size holes d k (s + n) old now
  null_steps zero low places nulls =
      let same : s ≡ s + 0 = omega arith in
      subst (λ (t : ℕ). WalksBelow image 0 root size holes d k t old now) same walks
  null_steps (suc n) low places nulls =
      let next : s + n + 1 ≡ s + suc n = omega arith in
      let before : WalksBelow image 0 root size holes d k (s + n) old now =
      null_steps n (omega (arith, low)) (λ r order below. places r order (omega (arith, below))) (λ r order below. nulls r order (omega (arith, below))) in
      let come : AtSlot image 0 root size holes d k b (s + n) old now =
      record { named = named; low = omega (arith, low); out = out; child = places (s + n) (omega arith) (omega arith); walks = before } in
      let slot : ReadsSlot image root size holes d k b (s + n) old now (word image (512 * b + (s + n))) = record { come = come; stands = refl; room = room } in
      subst (λ (t : ℕ). WalksBelow image 0 root size holes d k t old now) next (null_step slot some may (nulls (s + n) (omega arith) (omega arith)))

-- a check that fails at the root word, or in the tree below it
module _ {image : Image} {at root size : ℕ} {holes : Bool} {old : Set} (some : 0 < size) where
  -- the root word has no form
  pub unformed_root : {check : Check} → (IsRootWord (greatest_height (version_of image)) root → ⊥) →
      (greatest_height (version_of image) < height_of root → check ≡ Height) → (height_of root ≤ greatest_height (version_of image) → check ≡ PointerBits) →
      FailsTree image at root size holes old check at
  unformed_root {check} unformed high low = go (cases_lt (greatest_height (version_of image)) (height_of root))
    where
      go : (greatest_height (version_of image) < height_of root) ⊎ (height_of root ≤ greatest_height (version_of image)) →
          FailsTree image at root size holes old check at
      go (inl above) = subst (λ c. FailsTree image at root size holes old c at) (sym (high above)) (height some above)
      go (inr within) = subst (λ c. FailsTree image at root size holes old c at) (sym (low within)) (root_bits some (λ even. unformed (within, even)))

  -- the root word is refused
  pub refused_root : {check : Check} → length old ≡ block_count image → size ≤ covered (suc (height_of root)) → RefusesPointed (block_of root) holes old check →
      FailsTree image at root size holes old check at
  refused_root room fits (too_high high) = root_range some (omega (arith, room, high))
  refused_root room fits (is_null none closed) = root_hole some closed none
  refused_root room fits (has_left present in_range gone) = root_taken some fits present (omega (arith, room, in_range)) gone

  -- a check fails below the root, whose block was claimed
  pub claimed_root_fails : {mid : Set} {block : ℕ} {check : Check} {p : ℕ} → length old ≡ block_count image → block_of root ≡ block →
      ClaimsPointed block holes old mid → block ≢ 0 → FailsBelow image 0 root size holes block mid check p → FailsTree image at root size holes old check p
  claimed_root_fails {mid} {block} {check} {p} room named claims present fails =
      below some (λ none. present (sym named ∙ none)) (omega (arith, named, room, claims.in_range)) (ap (has old) named ∙ (claims.present present).0) under
    where
      under : FailsBelow image 0 root size holes (block_of root) (without old (block_of root)) check p
      under =
          subst (λ x. FailsBelow image 0 root size holes x (without old x) check p) (sym named)
          (subst (λ set. FailsBelow image 0 root size holes block set check p) (claims.present present).1 fails)

-- a pointer that passes names a block of the image
pub within_blocks : (image : Image) (root d k : ℕ) → Passes image root d k → node image root d k < block_count image
within_blocks image root zero k passes = passes.1
within_blocks image root (suc d) k passes = passes.1

-- what follows from a clause of an answer holds of the answer
pub on_ok_then : {T E : Type 0} {A B : Type 0} (r : Result T E) → (A → B) → OnOk r A → OnOk r B
on_ok_then (Ok v) f a = f a
on_ok_then (Err e) f a = a

pub if_err_then : {T E : Type 0} {P Q : E → Type 0} (r : Result T E) → ((e : E) → P e → Q e) → IfErr r P → IfErr r Q
if_err_then (Ok v) f a = a
if_err_then (Err e) f a = f e a
