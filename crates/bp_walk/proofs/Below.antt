-- A step of a walk below a node.
use Rattle.std.proofs.Common.{◌≡◌, ◌≢◌, ◌⊎◌, ℕ, zero, suc, ◌+◌, ◌*◌, ◌/◌, ◌%◌, ◌<◌, ◌≤◌, Bool, false, refl, sym, ◌∙◌, ap, subst, arith, inl, inr, ⊎_elim}
use Rattle.bp_limits.specs.Limits.{max_height}
use Rattle.bp_limits.specs.CallLimits.{max_size}
use Rattle.std.proofs.lemmas.Bool.{cases_lt}
use Rattle.std.proofs.Math.Nat.{mul-le-mul_right}
use Rattle.bp_free.specs.Set.{Set}
use Rattle.bp_layout.specs.Words.{Image, word, block_of, height_of}
use Rattle.bp_layout.specs.Tree.{tree_word, node, covered, IsLivePointer}
use Rattle.bp_layout.specs.Checks.{IsFollowed, Passes}
use Rattle.bp_layout.proofs.TreeLaws.{live_above, live_pointer_word}
use Rattle.bp_walk.specs.Taken.{block_at}
use Rattle.bp_walk.specs.Walk.{IsPointerUnder, IsPlace, IsBelow, WalksBelow}
use Rattle.bp_walk.specs.Walk.IsPointerUnder.{here, under}
use Rattle.bp_walk.proofs.TakenLaws.{take_none, take_same}
use Rattle.bp_walk.proofs.Places.{word_below}

pub row : (k s : ℕ) → s < 512 → (512 * k + s) / 512 ≡ k
row k s low = omega arith

pub column : (k s : ℕ) → s < 512 → (512 * k + s) % 512 ≡ s
column k s low = omega arith

pub low_slot : (l : ℕ) → l % 512 < 512
low_slot l = omega arith

pub in_row : (b r q : ℕ) → r < 512 → 512 * b + r ≡ q → q / 512 ≡ b
in_row b r q low at = omega arith

pub same_slot : (b r s : ℕ) → 512 * b + r ≡ 512 * b + s → r ≡ s
same_slot b r s same = omega arith

live_up : (root size d k e l : ℕ) → IsPointerUnder d k e l → IsLivePointer root size e l → IsLivePointer root size d k
live_up root size d k _ _ here live = live
live_up root size d k _ l (under {e = e} u) live = live_up root size d k e (l / 512) u (live_above _ _ e l (live_pointer_word _ _ (suc e) l live))

followed_up : (image : Image) (root size d k e l : ℕ) → IsPointerUnder d k e l → IsFollowed image root size e l → IsFollowed image root size d k
followed_up image root size d k _ _ here f = f
followed_up image root size d k _ l (under {e = e} u) f = followed_up image root size d k e (l / 512) u f.1

deeper : (d k e l : ℕ) → IsPointerUnder d k e l → d ≤ e
deeper d k _ _ here = omega arith
deeper d k _ l (under {e = e} u) = let low : d ≤ e = deeper d k e (l / 512) u in omega (arith, low)

pub lift : (d k r e l : ℕ) → r < 512 → IsPointerUnder (suc d) (512 * k + r) e l → IsPointerUnder d k e l
lift d k r _ _ low here = under (subst (λ (x : ℕ). IsPointerUnder d k d x) (sym (row k r low)) here)
lift d k r _ l low (under {e = e} u) = under (lift d k r e (l / 512) low u)

pub record Strict (d k e l : ℕ) : Type 0 where
  pub slot : ℕ
  pub low : slot < 512
  pub below : IsPointerUnder (suc d) (512 * k + slot) e l

pub split : (d k e l : ℕ) → IsPointerUnder d k e l → ((d ≡ e) × (k ≡ l)) ⊎ Strict d k e l
split d k _ _ here = inl (refl, refl)
split d k _ l (under {e = e} u) = go (split d k e (l / 512) u)
  where
    go : ((d ≡ e) × (k ≡ l / 512)) ⊎ Strict d k e (l / 512) → ((d ≡ suc e) × (k ≡ l)) ⊎ Strict d k (suc e) l
    go (inl same) =
        let number : 512 * k + l % 512 ≡ l = omega (arith, same.1) in
        inr (record {
          slot = l % 512;
          low = low_slot l;
          below = subst (λ (x : ℕ). IsPointerUnder (suc d) (512 * k + l % 512) (suc x) l) same.0
              (subst (λ (x : ℕ). IsPointerUnder (suc d) (512 * k + l % 512) (suc d) x) number here);
        })
    go (inr s) = inr (record { slot = s.slot; low = s.low; below = under s.below })

pub place_word : (image : Image) (at root size d k p : ℕ) → IsPlace image at root size (suc d) k p → block_at image p ≡ node image root (suc d) k
place_word image at root size d k p is = ap block_of (ap (word image) (sym is.stands) ∙ word_below image at root d k is.followed.3)

pub below_word : (image : Image) (at root size d n e l p : ℕ) → IsPointerUnder (suc d) n e l → IsPlace image at root size e l p →
    block_at image p ≡ node image root e l
below_word image at root size d n _ _ p here is = place_word image at root size d n p is
below_word image at root size d n _ l p (under {e = e} u) is = place_word image at root size e l p is

child_live : (root size d k s level : ℕ) → 1 ≤ level → d + level ≡ height_of root → (512 * k + s) * covered level < size →
    IsLivePointer root size (suc d) (512 * k + s)
child_live root size d k s zero least height low = absurd (omega (arith, least))
child_live root size d k s (suc level) least height low = record { level = level; height = omega (arith, height); live = low }

-- the first byte of a live child is below the size
pub child_below : (root size d k r level : ℕ) → d + level ≡ height_of root → IsLivePointer root size (suc d) (512 * k + r) →
    (512 * k + r) * covered level < size
child_below root size d k r level height live =
    let same : suc live.level ≡ level = omega (arith, height, live.height) in
    subst (λ (x : ℕ). (512 * k + r) * covered x < size) same live.live

-- the pointers below one are followed
abbrev CanGoOn : Image → ℕ → ℕ → ℕ → ℕ → Type 0
CanGoOn image root size d k = (size ≤ covered (suc (height_of root))) × IsFollowed image root size d k × Passes image root d k × (node image root d k ≢ 0)

child_followed : (image : Image) (root size d k s : ℕ) → s < 512 → size ≤ covered (suc (height_of root)) → IsFollowed image root size d k →
    Passes image root d k → node image root d k ≢ 0 → IsFollowed image root size (suc d) (512 * k + s)
child_followed image root size d k s low fits followed passes present =
    subst (CanGoOn image root size d) (sym (row k s low)) (fits, followed, passes, present)

child_place : (image : Image) (at root size d k s b : ℕ) → s < 512 → node image root d k ≡ b → IsLivePointer root size (suc d) (512 * k + s) →
    IsFollowed image root size (suc d) (512 * k + s) → IsPlace image at root size (suc d) (512 * k + s) (512 * b + s)
child_place image at root size d k s b low named live followed =
    let above : node image root d ((512 * k + s) / 512) ≡ b = ap (node image root d) (row k s low) ∙ named in
    let slot : (512 * k + s) % 512 ≡ s = column k s low in
    record { live = live; followed = followed; stands = omega (arith, above, slot) }

module _ (image : Image) (at root size : ℕ) (holes : Bool) where
  -- a walk where there is nothing below
  nothing : (d k : ℕ) (set : Set) →
      ((slot e l : ℕ) → slot < 512 → IsPointerUnder (suc d) (512 * k + slot) e l → IsLivePointer root size e l → IsFollowed image root size e l → ⊥) →
      WalksBelow image at root size holes d k 512 set set
  nothing d k set none = record {
    takes = take_same image (λ p. ⊥) (IsBelow image at root size d k 512) set set (λ p never. absurd never) nowhere (take_none image set);
    passing = λ slot e l low u live followed. absurd (none slot e l low u live followed);
  }
    where
      nowhere : (p : ℕ) → IsBelow image at root size d k 512 p → ⊥
      nowhere p i = none i.slot i.depth i.index i.low i.under i.is.live i.is.followed

  pub leaf : (d k : ℕ) (set : Set) → height_of root ≤ d → WalksBelow image at root size holes d k 512 set set
  leaf d k set bottom = nothing d k set (λ slot e l low u live followed. deep slot e l u live)
    where
      deep : (slot e l : ℕ) → IsPointerUnder (suc d) (512 * k + slot) e l → IsLivePointer root size e l → ⊥
      deep slot e l u live = let low : suc d ≤ e = deeper (suc d) (512 * k + slot) e l u in omega (arith, low, bottom, live.height)

  pub null : (d k : ℕ) (set : Set) → node image root d k ≡ 0 → WalksBelow image at root size holes d k 512 set set
  null d k set none = nothing d k set (λ slot e l low u live followed.
      (followed_up image root size (suc d) (512 * k + slot) e l u followed).3 (ap (node image root d) (row k slot low) ∙ none))

  -- the slots from one on are not live
  pub rest : (d k s : ℕ) (old new : Set) → s ≤ 512 →
      ((r : ℕ) → s ≤ r → r < 512 → IsLivePointer root size (suc d) (512 * k + r) → ⊥) → WalksBelow image at root size holes d k s old new →
      WalksBelow image at root size holes d k 512 old new
  rest d k s old new order dead walks = record {
    takes = take_same image (IsBelow image at root size d k s) (IsBelow image at root size d k 512) old new there back walks.takes;
    passing = λ slot e l low u live followed. go slot e l low u live followed (cases_lt slot s);
  }
    where
      there : (p : ℕ) → IsBelow image at root size d k s p → IsBelow image at root size d k 512 p
      there p i = record { slot = i.slot; low = omega (arith, i.low, order); depth = i.depth; index = i.index; under = i.under; is = i.is }

      live_at : {p : ℕ} (i : IsBelow image at root size d k 512 p) → IsLivePointer root size (suc d) (512 * k + i.slot)
      live_at i = live_up root size (suc d) (512 * k + i.slot) i.depth i.index i.under i.is.live

      back : (p : ℕ) → IsBelow image at root size d k 512 p → IsBelow image at root size d k s p
      back p i = record {
        slot = i.slot;
        low = ⊎_elim (λ low. low) (λ high. absurd (dead i.slot high i.low (live_at i))) (cases_lt i.slot s);
        depth = i.depth;
        index = i.index;
        under = i.under;
        is = i.is;
      }

      go : (slot e l : ℕ) → slot < 512 → IsPointerUnder (suc d) (512 * k + slot) e l → IsLivePointer root size e l → IsFollowed image root size e l →
          (slot < s) ⊎ (s ≤ slot) → Passes image root e l × (holes ≡ false → node image root e l ≢ 0)
      go slot e l within u live followed (inl low) = walks.passing slot e l low u live followed
      go slot e l within u live followed (inr high) = absurd (dead slot high within (live_up root size (suc d) (512 * k + slot) e l u live))

-- the number of a live pointer fits
pub small_number : (number step size : ℕ) → 0 < step → number * step < size → number < size
small_number number step size some live =
    let more : 1 * number ≤ step * number = mul-le-mul_right number (omega (arith, some)) in
    omega (arith, more, live)

pub covered_most : (rank : ℕ) → rank ≤ suc max_height → covered rank ≤ max_size
covered_most zero low = omega arith
covered_most (suc zero) low = omega arith
covered_most (suc (suc zero)) low = omega arith
covered_most (suc (suc (suc zero))) low = omega arith
covered_most (suc (suc (suc (suc zero)))) low = omega arith
covered_most (suc (suc (suc (suc (suc zero))))) low = omega arith
covered_most (suc (suc (suc (suc (suc (suc zero)))))) low = omega arith
covered_most (suc (suc (suc (suc (suc (suc (suc n))))))) low = absurd (omega (arith, low))

pub child_word : (image : Image) (at root size d k p : ℕ) → IsPlace image at root size (suc d) k p → word image p ≡ tree_word image root (suc d) k
child_word image at root size d k p is = ap (word image) (sym is.stands) ∙ word_below image at root d k is.followed.3

-- the pointer in a slot, as the code finds it
pub child_of : (image : Image) (root size d k s b level : ℕ) → s < 512 → 1 ≤ level → d + level ≡ height_of root → (512 * k + s) * covered level < size →
    size ≤ covered (suc (height_of root)) → IsFollowed image root size d k → Passes image root d k → node image root d k ≡ b → b ≢ 0 →
    IsPlace image 0 root size (suc d) (512 * k + s) (512 * b + s)
child_of image root size d k s b level low least height below fits followed passes named present =
    child_place image 0 root size d k s b low named
    (child_live root size d k s level least height below)
    (child_followed image root size d k s low fits followed passes (λ null. present (sym named ∙ null)))
