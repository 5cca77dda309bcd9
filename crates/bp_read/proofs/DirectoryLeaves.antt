-- Scans leaf by leaf: what is found, and how much is counted, in a prefix of a range and in the rest.
use Rattle.std.proofs.Common.{◌≡◌, ℕ, zero, suc, ◌+◌, ◌-◌, ◌*◌, ◌/◌, ◌<◌, ◌≤◌, Bool, true, false, Option, Some, None, find, min, length, filter, refl, sym, ◌∙◌, ap, subst, arith, nat_lt, true≢false}
use Rattle.std.specs.List.{range_with_len}
use Rattle.std.proofs.lemmas.Bool.{ltb-true, ltb-false}
use Rattle.std.specs.Prelude.{IfSome, IfNone, is_some}
use Rattle.bp_read.specs.declared.tree.Tree.{Tree}
use Rattle.bp_read.specs.Spots.{found_slot}
use Rattle.bp_read.specs.declared.leaf.Leaf.{Leaf}
use Rattle.bp_read.specs.declared.spot.Found.{Found}

module _ (p : ℕ → Bool) where
  -- what is found in a prefix is found in the whole
  pub find-early : (a m n k : ℕ) → m ≤ n → find p (range_with_len a m) ≡ Some k → find p (range_with_len a n) ≡ Some k
  find-early a zero n k inside found = absurd (cc)
  find-early a (suc m) zero k inside found = absurd (omega (arith, inside))
  find-early a (suc m) (suc n) k inside found = go (p a) refl (λ f. find-early (a + 1) m n k (omega (arith, inside)) f)
    where
      go : (b : Bool) → p a ≡ b → (find p (range_with_len (a + 1) m) ≡ Some k → find p (range_with_len (a + 1) n) ≡ Some k) → find p (range_with_len a (suc n)) ≡ Some k
      go true at rest = rw at (rw at at found)
      go false at rest = rw at (rest (rw at at found))

  -- where a prefix has nothing the rest decides
  pub find-late : (a m n : ℕ) → m ≤ n → find p (range_with_len a m) ≡ None → find p (range_with_len a n) ≡ find p (range_with_len (a + m) (n - m))
  find-late a zero n inside none = let here : a + 0 ≡ a = omega arith in let all : n - 0 ≡ n = omega arith in rw (here, all) refl
  find-late a (suc m) zero inside none = absurd (omega (arith, inside))
  find-late a (suc m) (suc n) inside none = go (p a) refl (λ f. find-late (a + 1) m n (omega (arith, inside)) f)
    where
      go : (b : Bool) → p a ≡ b → (find p (range_with_len (a + 1) m) ≡ None → find p (range_with_len (a + 1) n) ≡ find p (range_with_len (a + 1 + m) (n - m))) →
          find p (range_with_len a (suc n)) ≡ find p (range_with_len (a + suc m) (suc n - suc m))
      go true at rest = absurd (clash (rw at at none))
        where
          clash : Some a ≡ None → ⊥
          clash e = cc
      go false at rest =
          let start : a + 1 + m ≡ a + suc m = omega arith in
          let left : n - m ≡ suc n - suc m = omega arith in
          rw (at, ← start, ← left) (rest (rw at at none))

  -- a prefix and the rest are counted one by one
  pub count-parts : (a m n : ℕ) → m ≤ n → length (filter p (range_with_len a n)) ≡ length (filter p (range_with_len a m)) + length (filter p (range_with_len (a + m) (n - m)))
  count-parts a zero n inside = let here : a + 0 ≡ a = omega arith in let all : n - 0 ≡ n = omega arith in rw (here, all) (omega arith)
  count-parts a (suc m) zero inside = absurd (omega (arith, inside))
  count-parts a (suc m) (suc n) inside = go (p a) refl (count-parts (a + 1) m n (omega (arith, inside)))
    where
      go : (b : Bool) → p a ≡ b → length (filter p (range_with_len (a + 1) n)) ≡ length (filter p (range_with_len (a + 1) m)) + length (filter p (range_with_len (a + 1 + m) (n - m))) →
          length (filter p (range_with_len a (suc n))) ≡ length (filter p (range_with_len a (suc m))) + length (filter p (range_with_len (a + suc m) (suc n - suc m)))
      go true at rest =
          let start : a + 1 + m ≡ a + suc m = omega arith in
          let left : n - m ≡ suc n - suc m = omega arith in
          rw (at, ← start, ← left) (omega (arith, rest))
      go false at rest =
          let start : a + 1 + m ≡ a + suc m = omega arith in
          let left : n - m ≡ suc n - suc m = omega arith in
          rw (at, ← start, ← left) rest

  -- what holds of the numbers of a row
  pub from-first : (first slot index : ℕ) → first ≤ slot → slot < first + index → ((k : ℕ) → k < index → p (first + k) ≡ false) → p slot ≡ false
  from-first first slot index low high fails =
      let k : ℕ = slot - first in
      let back : first + k ≡ slot = omega arith in
      ap p (sym back) ∙ fails k (omega arith)

  module _ (number n : ℕ) (inside : 16 * number < n) where
    leaf-small : min 16 (n - 16 * number) ≤ n - 16 * number
    leaf-small = omega arith

    -- sixteen numbers further, or none are left
    after : (T : ℕ → ℕ → Type 0) → ((a b : ℕ) → T a 0 → T b 0) → T (16 * number + min 16 (n - 16 * number)) (n - 16 * number - min 16 (n - 16 * number)) → T (16 * (number + 1)) (n - 16 * (number + 1))
    after T none here = go (nat_lt (n - 16 * number) 16) refl
      where
        go : (b : Bool) → nat_lt (n - 16 * number) 16 ≡ b → T (16 * (number + 1)) (n - 16 * (number + 1))
        go true at =
            let few : n - 16 * number < 16 = ltb-true (n - 16 * number) 16 at in
            let left : n - 16 * (number + 1) ≡ 0 = omega (arith, few) in
            let over : n - 16 * number - min 16 (n - 16 * number) ≡ 0 = omega (arith, few) in
            rw left (none (16 * number + min 16 (n - 16 * number)) (16 * (number + 1)) (subst (T (16 * number + min 16 (n - 16 * number))) over here))
        go false at =
            let many : 16 ≤ n - 16 * number = ltb-false (n - 16 * number) 16 at in
            let start : 16 * number + min 16 (n - 16 * number) ≡ 16 * (number + 1) = omega (arith, many) in
            let left : n - 16 * number - min 16 (n - 16 * number) ≡ n - 16 * (number + 1) = omega (arith, many) in
            subst (λ b. T (16 * (number + 1)) b) left (subst (λ a. T a (n - 16 * number - min 16 (n - 16 * number))) start here)

    pub leaf-early : (k : ℕ) → find p (range_with_len (16 * number) (min 16 (n - 16 * number))) ≡ Some k → find p (range_with_len (16 * number) (n - 16 * number)) ≡ Some k
    leaf-early k found = find-early (16 * number) (min 16 (n - 16 * number)) (n - 16 * number) k leaf-small found

    pub leaf-late : find p (range_with_len (16 * number) (min 16 (n - 16 * number))) ≡ None →
        find p (range_with_len (16 * number) (n - 16 * number)) ≡ find p (range_with_len (16 * (number + 1)) (n - 16 * (number + 1)))
    leaf-late none =
        after (λ a b. find p (range_with_len (16 * number) (n - 16 * number)) ≡ find p (range_with_len a b)) (λ a b e. e)
        (find-late (16 * number) (min 16 (n - 16 * number)) (n - 16 * number) leaf-small none)

    pub leaf-count : length (filter p (range_with_len (16 * number) (n - 16 * number))) ≡
        length (filter p (range_with_len (16 * number) (min 16 (n - 16 * number)))) + length (filter p (range_with_len (16 * (number + 1)) (n - 16 * (number + 1))))
    leaf-count =
        after (λ a b. length (filter p (range_with_len (16 * number) (n - 16 * number))) ≡ length (filter p (range_with_len (16 * number) (min 16 (n - 16 * number)))) + length (filter p (range_with_len a b))) (λ a b e. e)
        (count-parts (16 * number) (min 16 (n - 16 * number)) (n - 16 * number) leaf-small)

    -- the first that passes, known from before or from these sixteen
    pub first-on : (before now total : Option ℕ) →
        IfSome before (λ slot. before ≡ total) → IfNone before (total ≡ find p (range_with_len (16 * number) (n - 16 * number))) →
        IfSome before (λ slot. now ≡ before) → IfNone before (now ≡ find p (range_with_len (16 * number) (min 16 (n - 16 * number)))) →
        IfSome now (λ slot. now ≡ total) × IfNone now (total ≡ find p (range_with_len (16 * (number + 1)) (n - 16 * (number + 1))))
    first-on (Some s) (Some t) total known none same here = (same ∙ known, tt)
    first-on (Some s) None total known none same here = absurd (cc)
    first-on None (Some t) total known none same here = (sym (none ∙ leaf-early t (sym here)), tt)
    first-on None None total known none same here = (tt, none ∙ leaf-late (sym here))

-- what is said of a leaf's slots, said of those from its number on
pub in_leaf : {A : Type 0} (f : ℕ → ℕ → ℕ → A) (tree : Tree) (leaf : Leaf) (number : ℕ) →
    leaf.tree ≡ tree → leaf.first ≡ 16 * number → leaf.count ≡ min 16 (tree.size / 256 - 16 * number) →
    f leaf.tree.root leaf.first leaf.count ≡ f tree.root (16 * number) (min 16 (tree.size / 256 - 16 * number))
in_leaf f tree leaf number same first count = rw (same, first, count) refl

pub if_none : (before now a b : Option ℕ) → IfNone before (now ≡ a) → a ≡ b → IfNone before (now ≡ b)
if_none (Some s) now a b is same = tt
if_none None now a b is same = is ∙ same

pub none_left : (p : ℕ → Bool) (first n : ℕ) → n ≡ 0 → find p (range_with_len first n) ≡ None
none_left p first n none = rw none refl

pub known_first : (p : ℕ → Bool) (known total : Option ℕ) (first n : ℕ) → n ≡ 0 →
    IfSome known (λ slot. known ≡ total) → IfNone known (total ≡ find p (range_with_len first n)) → known ≡ total
known_first p (Some slot) total first n none some rest = some
known_first p None total first n none some rest = sym (rest ∙ none_left p first n none)

-- ---- the first number that passes, sought leaf by leaf

-- it is this one, or none of the leaves before this one has it
pub record IsFirstFrom (p : ℕ → Bool) (number n : ℕ) (known : Option ℕ) : Type 0 where
  pub some : IfSome known (λ slot. known ≡ find p (range_with_len 0 n))
  pub none : IfNone known (find p (range_with_len 0 n) ≡ find p (range_with_len (16 * number) (n - 16 * number)))

pub first_goes_on : (p : ℕ → Bool) (number n : ℕ) → 16 * number < n → (before now : Option ℕ) → IsFirstFrom p number n before → IfSome before (λ slot. now ≡ before) →
    IfNone before (now ≡ find p (range_with_len (16 * number) (min 16 (n - 16 * number)))) → IsFirstFrom p (number + 1) n now
first_goes_on p number n inside before now was same here =
    let on = first-on p number n inside before now (find p (range_with_len 0 n)) was.some was.none same here in record { some = on.0; none = on.1 }

pub first_of_all : (p : ℕ → Bool) (number n : ℕ) (known : Option ℕ) → n - 16 * number ≡ 0 → IsFirstFrom p number n known → known ≡ find p (range_with_len 0 n)
first_of_all p number n known left is = known_first p known (find p (range_with_len 0 n)) (16 * number) (n - 16 * number) left is.some is.none

-- ---- entries that were found

slot_kept : (before now : Option Found) → IfSome before (λ found. now ≡ before) → IfSome (found_slot before) (λ slot. found_slot now ≡ found_slot before)
slot_kept (Some found) now same = ap found_slot same
slot_kept None now same = tt

slot_sought : (before now : Option Found) (here there : Option ℕ) → here ≡ there → IfNone before (found_slot now ≡ here) → IfNone (found_slot before) (found_slot now ≡ there)
slot_sought (Some found) now here there same is = tt
slot_sought None now here there same is = is ∙ same

pub found_goes_on : (p : ℕ → ℕ → Bool) (tree : Tree) (leaf : Leaf) (number : ℕ) → 16 * number < tree.size / 256 → leaf.tree ≡ tree → leaf.first ≡ 16 * number →
    leaf.count ≡ min 16 (tree.size / 256 - 16 * number) → (before now : Option Found) → IsFirstFrom (p tree.root) number (tree.size / 256) (found_slot before) →
    IfSome before (λ found. now ≡ before) → IfNone before (found_slot now ≡ find (p leaf.tree.root) (range_with_len leaf.first leaf.count)) →
    IsFirstFrom (p tree.root) (number + 1) (tree.size / 256) (found_slot now)
found_goes_on p tree leaf number inside same first count before now was kept here =
    first_goes_on (p tree.root) number (tree.size / 256) inside (found_slot before) (found_slot now) was (slot_kept before now kept)
    (slot_sought before now _ _ (in_leaf (λ root from n. find (p root) (range_with_len from n)) tree leaf number same first count) here)

pub found_is_first : (p : ℕ → Bool) (number n : ℕ) (found : Option Found) → is_some found ≡ true → IsFirstFrom p number n (found_slot found) → found_slot found ≡ find p (range_with_len 0 n)
found_is_first p number n (Some found) some is = is.some
found_is_first p number n None some is = absurd (true≢false (sym some))

pub ino_kept : (f : ℕ → ℕ) (before now : Option Found) → IfSome before (λ found. found.ino ≡ f found.slot) → IfSome before (λ found. now ≡ before) →
    IfNone before (IfSome now (λ found. found.ino ≡ f found.slot)) → IfSome now (λ found. found.ino ≡ f found.slot)
ino_kept f (Some found) now was same here = let P : Option Found → Type 0 = λ o. IfSome o (λ it. it.ino ≡ f it.slot) in subst P (sym same) was
ino_kept f None now was same here = here
