-- A walk over a whole tree.
use Rattle.std.proofs.Common.{◌≡◌, ◌≢◌, ◌⊎◌, ℕ, zero, suc, ◌+◌, ◌*◌, ◌/◌, ◌<◌, ◌≤◌, Bool, false, length, sym, ◌∙◌, ap, subst, arith, inl, inr}
use Rattle.bp_layout.specs.Formatted.{version_of}
use Rattle.bp_limits.specs.Limits.{greatest_height}
use Rattle.bp_free.specs.Set.{Set}
use Rattle.bp_layout.specs.Words.{Image, word, block_count, block_of, height_of}
use Rattle.bp_layout.specs.Tree.{tree_word, node, place_of, covered, IsLivePointer}
use Rattle.bp_layout.specs.Checks.{IsFollowed, Passes}
use Rattle.bp_layout.specs.Fields.{IsRootWord}
use Rattle.bp_layout.proofs.TreeLaws.{live_above, live_pointer_word}
use Rattle.bp_layout.proofs.OnePlace.{index_zero}
use Rattle.bp_walk.specs.Taken.{Takes}
use Rattle.bp_walk.specs.Walk.{IsPointerUnder, IsPlace, IsBelow, WalksBelow, IsTreePlace, TakesTree}
use Rattle.bp_walk.specs.Walk.IsPointerUnder.{here, under}
use Rattle.bp_walk.proofs.TakenLaws.{take_same, take_both}
use Rattle.bp_walk.specs.Pointed.{ClaimsPointed}
use Rattle.bp_walk.proofs.Below.{Strict, split}
use Rattle.bp_walk.proofs.Pointers.{claimed_takes, claimed_full}

all_under : (root size d k : ℕ) → size ≤ covered (suc (height_of root)) → IsLivePointer root size d k → IsPointerUnder 0 0 d k
all_under root size zero k fits live = subst (λ (x : ℕ). IsPointerUnder 0 0 0 x) (sym (index_zero root size k live fits)) here
all_under root size (suc d) k fits live = under (all_under root size d (k / 512) fits (live_above _ _ d k (live_pointer_word _ _ (suc d) k live)))

from_zero : (image : Image) (at root size n e l p : ℕ) → IsPointerUnder 1 n e l → IsPlace image 0 root size e l p → IsPlace image at root size e l p
from_zero image at root size n _ _ p here is = record { live = is.live; followed = is.followed; stands = is.stands }
from_zero image at root size n _ l p (under u) is = record { live = is.live; followed = is.followed; stands = is.stands }

to_zero : (image : Image) (at root size n e l p : ℕ) → IsPointerUnder 1 n e l → IsPlace image at root size e l p → IsPlace image 0 root size e l p
to_zero image at root size n _ _ p here is = record { live = is.live; followed = is.followed; stands = is.stands }
to_zero image at root size n _ l p (under u) is = record { live = is.live; followed = is.followed; stands = is.stands }

pub root_live : (root size : ℕ) → 0 < size → IsLivePointer root size 0 0
root_live root size some = record { level = height_of root; height = omega arith; live = omega (arith, some) }

pub root_passes : (image : Image) (root : ℕ) → IsRootWord (greatest_height (version_of image)) root → block_of root < block_count image → Passes image root 0 0
unfolding tree_word
root_passes image root form in_range = (omega (arith, form.0, form.1), in_range)

-- a root word that names no more than it can hold, of a tree that has a byte
pub record RootsTree (image : Image) (at root size : ℕ) : Type 0 where
  pub rooted : word image at ≡ root
  pub fits : size ≤ covered (suc (height_of root))
  pub some : 0 < size

-- a pointer is let through by the checks
abbrev IsSound : Image → ℕ → Bool → ℕ → ℕ → Type 0
IsSound image root holes d k = Passes image root d k × (holes ≡ false → node image root d k ≢ 0)

module _ {image : Image} {at root size : ℕ} (roots : RootsTree image at root size) where
  -- a pointer is the root, or it is below it
  root_or_below : (d k : ℕ) → IsLivePointer root size d k → ((0 ≡ d) × (0 ≡ k)) ⊎ Strict 0 0 d k
  root_or_below d k live = split 0 0 d k (all_under root size d k roots.fits live)

  -- the root, and what is below it
  whole_tree : {holes : Bool} {old mid new : Set} → Passes image root 0 0 → (holes ≡ false → block_of root ≢ 0) →
      Takes image (λ p. p ≡ at) old mid → WalksBelow image 0 root size holes 0 0 512 mid new → TakesTree image at root size holes old new
  unfolding tree_word
  whole_tree {holes} {old} {mid} {new} passes full one walks = record {
    fits = roots.fits;
    takes = take_same image (λ p. (p ≡ at) ⊎ IsBelow image 0 root size 0 0 512 p) (IsTreePlace image at root size) old new there
        (λ p i. back p i.depth i.index i.is (root_or_below i.depth i.index i.is.live)) (take_both image _ _ old mid new one walks.takes);
    passing = λ d k live followed. go d k live followed (root_or_below d k live);
  }
    where
      there : (p : ℕ) → (p ≡ at) ⊎ IsBelow image 0 root size 0 0 512 p → IsTreePlace image at root size p
      there p (inl e) = record { depth = 0; index = 0; is = record { live = root_live root size roots.some; followed = tt; stands = sym e } }
      there p (inr i) = record { depth = i.depth; index = i.index; is = from_zero image at root size (512 * 0 + i.slot) i.depth i.index p i.under i.is }

      back : (p d k : ℕ) → IsPlace image at root size d k p → ((0 ≡ d) × (0 ≡ k)) ⊎ Strict 0 0 d k → (p ≡ at) ⊎ IsBelow image 0 root size 0 0 512 p
      back p d k is (inl same) =
          let eq : place_of image at root 0 k ≡ place_of image at root d k = ap (λ (x : ℕ). place_of image at root x k) same.0 in inl (sym is.stands ∙ sym eq)
      back p d k is (inr s) =
          let place : IsPlace image 0 root size d k p = to_zero image at root size (512 * 0 + s.slot) d k p s.below is in
          inr (record { slot = s.slot; low = s.low; depth = d; index = k; under = s.below; is = place })

      go : (d k : ℕ) → IsLivePointer root size d k → IsFollowed image root size d k → ((0 ≡ d) × (0 ≡ k)) ⊎ Strict 0 0 d k →
          IsSound image root holes d k
      go d k live followed (inl same) = subst (λ (x : ℕ). IsSound image root holes x k) same.0 (subst (IsSound image root holes 0) same.1 (passes, full))
      go d k live followed (inr s) = walks.passing s.slot d k s.low s.below live followed

  -- the same where the root word was claimed as any pointer is
  pub claimed_tree : {holes : Bool} {old mid new : Set} {block : ℕ} → IsRootWord (greatest_height (version_of image)) root →
      length old ≡ block_count image → block_of root ≡ block → ClaimsPointed block holes old mid →
      WalksBelow image 0 root size holes 0 0 512 mid new → TakesTree image at root size holes old new
  claimed_tree form room named claims walks =
      whole_tree (root_passes image root form (omega (arith, named, room, claims.in_range)))
      (λ closed none. claimed_full claims closed (sym named ∙ none))
      (claimed_takes claims image at (ap block_of roots.rooted ∙ named)) walks
