-- One more slot of a node, which a walk below it comes to: its pointer and what is below that.
use Rattle.std.proofs.Common.{◌≡◌, ◌≢◌, ◌⊎◌, ℕ, suc, ◌+◌, ◌*◌, ◌/◌, ◌%◌, ◌<◌, ◌≤◌, Bool, true, false, length, refl, sym, ◌∙◌, ap, subst, arith, inl, inr}
use Rattle.std.proofs.lemmas.Bool.{cases_eq, cases_lt}
use Rattle.bp_free.specs.Set.{Set, has, without}
use Rattle.bp_layout.specs.Words.{Image, block_count}
use Rattle.bp_layout.specs.Tree.{node, place_of, IsLivePointer}
use Rattle.bp_layout.specs.Checks.{IsFollowed, Passes}
use Rattle.bp_layout.specs.declared.check.Check.{Check}
use Rattle.bp_layout.specs.declared.check.Check.TheVariants.{BlockTwice}
use Rattle.bp_layout.proofs.TreeLaws.{live_above, live_pointer_word}
use Rattle.bp_walk.specs.Taken.{block_at, NamesBlock, Takes}
use Rattle.bp_walk.specs.Walk.{IsPointerUnder, IsPlace, IsBelow, WalksBelow, FailsBelow}
use Rattle.bp_walk.specs.Walk.IsPointerUnder.{here, under}
use Rattle.bp_walk.specs.Walk.FailsBelow.{bits, range, hole, taken, twice}
use Rattle.bp_walk.proofs.TakenLaws.{clash, known, take_same, take_both, has_other, has_less}
use Rattle.bp_walk.proofs.Below.{Strict, below_word, column, in_row, lift, low_slot, place_word, row, same_slot, split}

-- a walk below a node that has come to one of its slots
pub record AtSlot (image : Image) (at root size : ℕ) (holes : Bool) (d k b s : ℕ) (old now : Set) : Type 0 where
  pub named : node image root d k ≡ b
  pub low : s < 512
  pub out : has old b ≡ false
  pub child : IsPlace image at root size (suc d) (512 * k + s) (512 * b + s)
  pub walks : WalksBelow image at root size holes d k s old now

module _ {image : Image} {at root size : ℕ} {holes : Bool} {d k b s : ℕ} {old now : Set} (come : AtSlot image at root size holes d k b s old now) where
  abbrev All : ℕ → Type 0
  All p = (IsBelow image at root size d k s p ⊎ (p ≡ 512 * b + s)) ⊎ IsBelow image at root size (suc d) (512 * k + s) 512 p

  -- a pointer is let through by the checks
  abbrev IsSound : ℕ → ℕ → Type 0
  IsSound e l = Passes image root e l × (holes ≡ false → node image root e l ≢ 0)

  pub step : (mid new : Set) → Takes image (λ p. p ≡ 512 * b + s) now mid → Passes image root (suc d) (512 * k + s) →
      (holes ≡ false → node image root (suc d) (512 * k + s) ≢ 0) → WalksBelow image at root size holes (suc d) (512 * k + s) 512 mid new →
      WalksBelow image at root size holes d k (s + 1) old new
  step mid new one passes full below = record {
    takes = take_same image All (IsBelow image at root size d k (s + 1)) old new there (λ p i. back p i (cases_lt i.slot s)) all;
    passing = λ slot e l lower u live followed. go slot e l lower u live followed (cases_lt slot s);
  }
    where
      all : Takes image All old new
      all = take_both image _ _ old mid new (take_both image _ _ old now mid come.walks.takes one) below.takes

      there : (p : ℕ) → All p → IsBelow image at root size d k (s + 1) p
      there p (inl (inl i)) = record { slot = i.slot; low = omega (arith, i.low); depth = i.depth; index = i.index; under = i.under; is = i.is }
      there p (inl (inr e)) =
          let is : IsPlace image at root size (suc d) (512 * k + s) p = subst (IsPlace image at root size (suc d) (512 * k + s)) (sym e) come.child in
          record { slot = s; low = omega arith; depth = suc d; index = 512 * k + s; under = here; is = is }
      there p (inr i) =
          let under : IsPointerUnder (suc d) (512 * k + s) i.depth i.index = lift (suc d) (512 * k + s) i.slot i.depth i.index i.low i.under in
          record { slot = s; low = omega arith; depth = i.depth; index = i.index; under = under; is = i.is }

      at_slot : (p e l : ℕ) → IsPlace image at root size e l p → ((suc d ≡ e) × (512 * k + s ≡ l)) ⊎ Strict (suc d) (512 * k + s) e l → All p
      at_slot p e l is (inl same) =
          let eq : place_of image at root (suc d) (512 * k + s) ≡ place_of image at root e l =
          ap (λ (x : ℕ). place_of image at root x (512 * k + s)) same.0 ∙ ap (place_of image at root e) same.1 in
          inl (inr (sym is.stands ∙ sym eq ∙ come.child.stands))
      at_slot p e l is (inr t) = inr (record { slot = t.slot; low = t.low; depth = e; index = l; under = t.below; is = is })

      back : (p : ℕ) (i : IsBelow image at root size d k (s + 1) p) → (i.slot < s) ⊎ (s ≤ i.slot) → All p
      back p i (inl lower) = inl (inl (record { slot = i.slot; low = lower; depth = i.depth; index = i.index; under = i.under; is = i.is }))
      back p i (inr high) =
          let same : i.slot ≡ s = omega (arith, i.low, high) in
          let under : IsPointerUnder (suc d) (512 * k + s) i.depth i.index =
          subst (λ (x : ℕ). IsPointerUnder (suc d) (512 * k + x) i.depth i.index) same i.under in
          at_slot p i.depth i.index i.is (split (suc d) (512 * k + s) i.depth i.index under)

      here_or : (e l : ℕ) → IsLivePointer root size e l → IsFollowed image root size e l →
          ((suc d ≡ e) × (512 * k + s ≡ l)) ⊎ Strict (suc d) (512 * k + s) e l → IsSound e l
      here_or e l live followed (inl same) = subst (λ (x : ℕ). IsSound x l) same.0 (subst (IsSound (suc d)) same.1 (passes, full))
      here_or e l live followed (inr t) = below.passing t.slot e l t.low t.below live followed

      go : (slot e l : ℕ) → slot < s + 1 → IsPointerUnder (suc d) (512 * k + slot) e l → IsLivePointer root size e l → IsFollowed image root size e l →
          (slot < s) ⊎ (s ≤ slot) → IsSound e l
      go slot e l lower u live followed (inl less) = come.walks.passing slot e l less u live followed
      go slot e l lower u live followed (inr high) =
          let same : slot ≡ s = omega (arith, lower, high) in
          here_or e l live followed (split (suc d) (512 * k + s) e l (subst (λ (x : ℕ). IsPointerUnder (suc d) (512 * k + x) e l) same u))

  -- where the places stand that were walked over
  data Stands (q : ℕ) : Type 0 where
    slot_of : (r : ℕ) → r < s → 512 * b + r ≡ q → Stands q
    deep : has old (q / 512) ≡ true → has now (q / 512) ≡ false → Stands q

  stands_at : (q slot e l : ℕ) → slot < s → IsPointerUnder (suc d) (512 * k + slot) e l → IsPlace image at root size e l q → Stands q
  stands_at q slot _ _ lower here is =
      let less : slot < 512 = omega (arith, lower, come.low) in
      let above : node image root d ((512 * k + slot) / 512) ≡ b = ap (node image root d) (row k slot less) ∙ come.named in
      let place : (512 * k + slot) % 512 ≡ slot = column k slot less in
      slot_of slot lower (omega (arith, above, place, is.stands))
  stands_at q slot _ l lower (under {e = e} u) is =
      let place = place_of image at root e (l / 512) in
      let parent : IsPlace image at root size e (l / 512) place =
      record { live = live_above _ _ e l (live_pointer_word _ _ (suc e) l is.live); followed = is.followed.1; stands = refl } in
      let i : IsBelow image at root size d k s place = record { slot = slot; low = lower; depth = e; index = l / 512; under = u; is = parent } in
      let w : block_at image place ≡ node image root e (l / 512) = below_word image at root size d (512 * k + slot) e (l / 512) place u parent in
      let same : q / 512 ≡ node image root e (l / 512) = in_row (node image root e (l / 512)) (l % 512) q (low_slot l) is.stands in
      let some : block_at image place ≢ 0 = λ none. is.followed.3 (sym w ∙ none) in
      deep (ap (has old) (same ∙ sym w) ∙ come.walks.takes.was place i some) (ap (has now) (same ∙ sym w) ∙ come.walks.takes.gone place i some)

  -- a place is none of those that were walked over
  fresh_row : (q : ℕ) → Stands q → 512 * b + s ≢ q
  fresh_row q (slot_of r lower place) same = let eq : 512 * b + r ≡ 512 * b + s = place ∙ sym same in omega (arith, lower, same_slot b r s eq)
  fresh_row q (deep was gone) same = clash was (ap (has old) (in_row b s q come.low same) ∙ come.out)

  -- a pointer that repeats a block
  module _ (d' k' p n : ℕ) (is : IsPlace image at root size (suc d') k' p) (named : node image root (suc d') k' ≡ n) (present : n ≢ 0)
      (gone : has now n ≡ false) (fresh : (q : ℕ) → Stands q → p ≢ q) where
    abbrev Twice : Type 0
    Twice = FailsBelow image at root size holes b old BlockTwice p

    -- the other pointer is one of those that were walked over
    two : (q slot e l : ℕ) → p ≢ q → IsPointerUnder (suc d) (512 * k + slot) e l → IsPlace image at root size e l q → block_at image q ≡ n → Twice
    two q slot _ _ other here also same =
        twice is also other (λ none. present (sym named ∙ none)) (named ∙ sym same ∙ place_word image at root size d (512 * k + slot) q also)
    two q slot _ l other (under {e = e} u) also same =
        twice is also other (λ none. present (sym named ∙ none)) (named ∙ sym same ∙ place_word image at root size e l q also)

    repeats : n < block_count image → (p / 512 ≡ b) ⊎ (has old (p / 512) ≡ true) → Twice
    repeats in_range where_p = go (known (has old n))
      where
        go : (has old n ≡ true) ⊎ (has old n ≡ false) → Twice
        go (inr not_in) =
            let low : node image root (suc d') k' < block_count image = subst (λ x. x < block_count image) (sym named) in_range in
            taken is (λ none. present (sym named ∙ none)) low (ap (has old) named ∙ not_in) where_p
        go (inl was) =
            let other : NamesBlock image (IsBelow image at root size d k s) n = come.walks.takes.named n was gone in
            let i = other.is in
            let apart : p ≢ other.place = fresh other.place (stands_at other.place i.slot i.depth i.index i.low i.under i.is) in
            two other.place i.slot i.depth i.index apart i.under i.is other.named

  pub repeats_here : node image root (suc d) (512 * k + s) ≢ 0 → node image root (suc d) (512 * k + s) < block_count image →
      has now (node image root (suc d) (512 * k + s)) ≡ false → FailsBelow image at root size holes b old BlockTwice (512 * b + s)
  repeats_here present in_range gone =
      repeats d (512 * k + s) (512 * b + s) _ come.child refl present gone fresh_row in_range (inl (in_row b s (512 * b + s) come.low refl))

  -- a fault below the child, stated of the walk below the node
  module _ (c : ℕ) (child_named : node image root (suc d) (512 * k + s) ≡ c) (c_low : c < length now) (c_in : has now c ≡ true) where
    before : (x : ℕ) → has now x ≡ true → has old x ≡ true
    before x still = go (known (has old x))
      where
        go : (has old x ≡ true) ⊎ (has old x ≡ false) → has old x ≡ true
        go (inl was) = was
        go (inr out_then) = absurd (clash still (come.walks.takes.less x out_then))

    mid_before : (x : ℕ) → has (without now c) x ≡ true → has now x ≡ true
    mid_before x still = go (known (has now x))
      where
        go : (has now x ≡ true) ⊎ (has now x ≡ false) → has now x ≡ true
        go (inl was) = was
        go (inr out_then) = absurd (clash still (has_less now c x c_low out_then))

    in_now : (p : ℕ) → (p / 512 ≡ c) ⊎ (has (without now c) (p / 512) ≡ true) → has now (p / 512) ≡ true
    in_now p (inl same) = ap (has now) same ∙ c_in
    in_now p (inr still) = mid_before (p / 512) still

    fresh_deep : (p q : ℕ) → has now (p / 512) ≡ true → Stands q → p ≢ q
    fresh_deep p q there (slot_of r lower place) same =
        let less : r < 512 = omega (arith, lower, come.low) in
        clash (before b (ap (has now) (sym (in_row b r q less place) ∙ ap (λ (x : ℕ). x / 512) (sym same)) ∙ there)) come.out
    fresh_deep p q there (deep was gone) same = clash there (ap (λ (x : ℕ). has now (x / 512)) same ∙ gone)

    fresh_child : (p : ℕ) → has now (p / 512) ≡ true → p ≢ 512 * b + s
    fresh_child p there same = clash (before b (ap (has now) (sym (in_row b s p come.low (sym same))) ∙ there)) come.out

    pub fails_below : (check : Check) (p : ℕ) → FailsBelow image at root size holes c (without now c) check p →
        FailsBelow image at root size holes b old check p
    fails_below _ p (bits is odd) = bits is odd
    fails_below _ p (range is high) = range is high
    fails_below _ p (hole is none gap) = hole is none gap
    fails_below _ p (twice is also other present same) = twice is also other present same
    fails_below _ p (taken {d = e} {k = l} is present in_range gone where_p) = go (cases_eq (node image root (suc e) l) c)
      where
        there : has now (p / 512) ≡ true
        there = in_now p where_p

        go : (node image root (suc e) l ≡ c) ⊎ (node image root (suc e) l ≡ c → ⊥) → FailsBelow image at root size holes b old BlockTwice p
        go (inl same) = twice is come.child (fresh_child p there) present (same ∙ sym child_named)
        go (inr other) =
            let out_now : has now (node image root (suc e) l) ≡ false = sym (has_other now c (node image root (suc e) l) other) ∙ gone in
            repeats e l p _ is refl present out_now (λ q at_q. fresh_deep p q there at_q) in_range (inr (before (p / 512) there))
