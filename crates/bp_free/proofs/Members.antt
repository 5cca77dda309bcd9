-- The members of a set, and what they are after one joins or leaves.
use Rattle.std.proofs.Common.{◌≡◌, ℕ, zero, suc, ◌+◌, ◌-◌, ◌<◌, ◌≤◌, ◌≢◌, [], ◌∷◌, ◌++◌, ◌↔◌, length, Bool, true, false, cond, set, get_or, refl, sym, ◌∙◌, ap, arith}
use Rattle.std.specs.List.{filter, range_with_len, Contains}
use Rattle.std.specs.List.Sorted.{IsStrictlyIncreasing}
use Rattle.std.proofs.lemmas.List.{get_or-set_same, get_or-set_other, get_or_past, get_or-replicate, length-set, length-append, length-replicate, get_or_at}
use Rattle.std.proofs.lemmas.List.Elements.{filter-append, filter_passes, All-contains}
use Rattle.std.proofs.lemmas.List.Kept.{IsStrictlyIncreasing-filter}
use Rattle.std.proofs.lemmas.List.Sums.{length-filter, count_by-le-length}
use Rattle.std.proofs.lemmas.List.FromFn.{length-range_with_len, get_or-range_with_len}
use Rattle.bp_free.specs.Set.{Set, has, members, below, members_above, with, without, empty, IsLeast, TakesLeast, TakesOne, Fills}

-- ---- ranges

pub range_split : (a n m : ℕ) → range_with_len a (n + m) ≡ range_with_len a n ++ range_with_len (a + n) m
range_split a zero m =
    let none : 0 + m ≡ m = omega arith in
    let same : a + 0 ≡ a = omega arith in
    rw (none, same)
range_split a (suc n) m =
    let more : suc n + m ≡ suc (n + m) = omega arith in
    let place : a + suc n ≡ a + 1 + n = omega arith in
    let rest : range_with_len (a + 1) (n + m) ≡ range_with_len (a + 1) n ++ range_with_len (a + 1 + n) m = range_split (a + 1) n m in
    rw (more, place) (ap (λ xs. a ∷ xs) rest)

-- two tests that agree on a range keep the same numbers
pub filter_same : (p q : ℕ → Bool) (a n : ℕ) → ((k : ℕ) → a ≤ k → k < a + n → p k ≡ q k) → filter p (range_with_len a n) ≡ filter q (range_with_len a n)
filter_same p q a zero same = refl
filter_same p q a (suc n) same =
    let rest : filter p (range_with_len (a + 1) n) ≡ filter q (range_with_len (a + 1) n) = filter_same p q (a + 1) n (λ k low high. same k (omega (arith, low)) (omega (arith, high))) in
    let head : p a ≡ q a = same a (omega arith) (omega arith) in
    rw (head, rest)

pub filter_none : (p : ℕ → Bool) (a n : ℕ) → ((k : ℕ) → a ≤ k → k < a + n → p k ≡ false) → filter p (range_with_len a n) ≡ []
filter_none p a zero none = refl
filter_none p a (suc n) none =
    let rest : filter p (range_with_len (a + 1) n) ≡ [] = filter_none p (a + 1) n (λ k low high. none k (omega (arith, low)) (omega (arith, high))) in
    let head : p a ≡ false = none a (omega arith) (omega arith) in
    rw (head, rest)

pub filter_all : (p : ℕ → Bool) (a n : ℕ) → ((k : ℕ) → a ≤ k → k < a + n → p k ≡ true) → filter p (range_with_len a n) ≡ range_with_len a n
filter_all p a zero all = refl
filter_all p a (suc n) all =
    let rest : filter p (range_with_len (a + 1) n) ≡ range_with_len (a + 1) n = filter_all p (a + 1) n (λ k low high. all k (omega (arith, low)) (omega (arith, high))) in
    let head : p a ≡ true = all a (omega arith) (omega arith) in
    rw (head, rest)

range_rises : (n : ℕ) → IsStrictlyIncreasing (range_with_len 0 n)
range_rises n k low =
    let size = length-range_with_len 0 n in
    let here = get_or-range_with_len 0 n k 0 (omega (arith, low, size)) in
    let next = get_or-range_with_len 0 n (k + 1) 0 (omega (arith, low, size)) in
    omega (arith, here, next)

-- ---- one number

pub has_with_same : (s : Set) (i : ℕ) → i < length s → has (with s i) i ≡ true
has_with_same s i low = get_or-set_same s i true false low

pub has_with_other : (s : Set) (i k : ℕ) → k ≢ i → has (with s i) k ≡ has s k
has_with_other s i k other = get_or-set_other s i k true false other

pub has_without_same : (s : Set) (i : ℕ) → i < length s → has (without s i) i ≡ false
has_without_same s i low = get_or-set_same s i false false low

pub has_without_other : (s : Set) (i k : ℕ) → k ≢ i → has (without s i) k ≡ has s k
has_without_other s i k other = get_or-set_other s i k false false other

pub has_past : (s : Set) (i : ℕ) → length s ≤ i → has s i ≡ false
has_past s i past = get_or_past s i false past

-- ---- the members

members_split : (s : Set) (i : ℕ) → i < length s → members s ≡ below s i ++ filter (has s) (i ∷ range_with_len (i + 1) (length s - (i + 1)))
members_split s i low =
    let rest = length s - (i + 1) in
    let whole : length s ≡ i + suc rest = omega arith in
    let parts : range_with_len 0 (i + suc rest) ≡ range_with_len 0 i ++ range_with_len (0 + i) (suc rest) = range_split 0 i (suc rest) in
    let start : 0 + i ≡ i = omega arith in
    let parts_here : range_with_len 0 (length s) ≡ range_with_len 0 i ++ range_with_len i (suc rest) =
    ap (range_with_len 0) whole ∙ parts ∙ ap (λ a. range_with_len 0 i ++ range_with_len a (suc rest)) start in
    ap (filter (has s)) parts_here ∙ filter-append (has s) (range_with_len 0 i) (range_with_len i (suc rest))

-- a set that has i is the members below i, i, and the members above i
pub members_in : (s : Set) (i : ℕ) → i < length s → has s i ≡ true → members s ≡ below s i ++ i ∷ members_above s i
members_in s i low there = members_split s i low ∙ ap (λ b. below s i ++ cond b (i ∷ members_above s i) (members_above s i)) there

-- a set that lacks i is the members below i and the members above i
pub members_out : (s : Set) (i : ℕ) → i < length s → has s i ≡ false → members s ≡ below s i ++ members_above s i
members_out s i low out = members_split s i low ∙ ap (λ b. below s i ++ cond b (i ∷ members_above s i) (members_above s i)) out

below_set : (s : Set) (i : ℕ) (b : Bool) → below (set s i b) i ≡ below s i
below_set s i b = filter_same _ _ 0 i (λ k low high. get_or-set_other s i k b false (omega (arith, high)))

above_set : (s : Set) (i : ℕ) (b : Bool) → members_above (set s i b) i ≡ members_above s i
above_set s i b =
    let long : length (set s i b) ≡ length s = length-set s i b in
    ap (λ n. filter (has (set s i b)) (range_with_len (i + 1) (n - (i + 1)))) long
    ∙ filter_same _ _ (i + 1) (length s - (i + 1)) (λ k low high. get_or-set_other s i k b false (omega (arith, low)))

-- i joins
pub members_with : (s : Set) (i : ℕ) → i < length s → members (with s i) ≡ below s i ++ i ∷ members_above s i
members_with s i low =
    let long : length (with s i) ≡ length s = length-set s i true in
    let low' : i < length (with s i) = omega (arith, low, long) in
    members_in (with s i) i low' (has_with_same s i low)
    ∙ ap (λ xs. xs ++ i ∷ members_above (with s i) i) (below_set s i true)
    ∙ ap (λ xs. below s i ++ i ∷ xs) (above_set s i true)

-- i leaves
pub members_without : (s : Set) (i : ℕ) → i < length s → members (without s i) ≡ below s i ++ members_above s i
members_without s i low =
    let long : length (without s i) ≡ length s = length-set s i false in
    let low' : i < length (without s i) = omega (arith, low, long) in
    members_out (without s i) i low' (has_without_same s i low)
    ∙ ap (λ xs. xs ++ members_above (without s i) i) (below_set s i false)
    ∙ ap (λ xs. below s i ++ xs) (above_set s i false)

-- the least number is the first member
pub members_least : (s : Set) (i : ℕ) → IsLeast s i → members s ≡ i ∷ members (without s i)
members_least s i least =
    let none : below s i ≡ [] = filter_none (has s) 0 i (λ k low high. least.first k (omega (arith, high))) in
    members_in s i least.low least.is_in
    ∙ ap (λ xs. xs ++ i ∷ members_above s i) none
    ∙ ap (λ xs. i ∷ xs) (sym (members_without s i least.low ∙ ap (λ xs. xs ++ members_above s i) none))

pub members_none : (s : Set) → ((k : ℕ) → has s k ≡ false) → members s ≡ []
members_none s none = filter_none (has s) 0 (length s) (λ k _ _. none k)

pub members_empty : (room : ℕ) → members (empty room) ≡ []
members_empty room =
    let long : length (empty room) ≡ room = length-replicate room false in
    filter_none (has (empty room)) 0 (length (empty room))
    (λ k low high. get_or-replicate room k false false (omega (arith, high, long)))

-- ---- a set by its members

-- each number that is in is a member, and each member is in
pub members_all : (s : Set) (i : ℕ) → i < length s → has s i ≡ true → Contains (members s) i
members_all s i low there =
    let parts = members_in s i low there in
    let size = ap length parts ∙ length-append (below s i) (i ∷ members_above s i) in
    (length (below s i), omega (arith, size), ap (λ xs. get_or xs (length (below s i)) i) parts ∙ get_or_at (below s i) i (members_above s i) i (length (below s i)) refl)

pub members_has : (s : Set) (i : ℕ) → Contains (members s) i → has s i ≡ true
members_has s i there = All-contains (λ k. has s k ≡ true) (members s) i (filter_passes (has s) (range_with_len 0 (length s))) there

pub members_report : (s : Set) (i : ℕ) → i < length s → Contains (members s) i ↔ (has s i ≡ true)
members_report s i low = (members_has s i, members_all s i low)

-- the members rise
pub members_rise : (s : Set) → IsStrictlyIncreasing (members s)
members_rise s = IsStrictlyIncreasing-filter (has s) (range_with_len 0 (length s)) (range_rises (length s))

-- ---- how many

pub count_with : (s : Set) (i : ℕ) → i < length s → has s i ≡ false → length (members (with s i)) ≡ length (members s) + 1
count_with s i low out =
    let now = ap length (members_with s i low) ∙ length-append (below s i) (i ∷ members_above s i) in
    let before = ap length (members_out s i low out) ∙ length-append (below s i) (members_above s i) in
    omega (arith, now, before)

pub count_without : (s : Set) (i : ℕ) → i < length s → has s i ≡ true → length (members (without s i)) + 1 ≡ length (members s)
count_without s i low there =
    let now = ap length (members_without s i low) ∙ length-append (below s i) (members_above s i) in
    let before = ap length (members_in s i low there) ∙ length-append (below s i) (i ∷ members_above s i) in
    omega (arith, now, before)

-- the set that lacks its least number is what is left when that is taken
pub taken_least : (old new : Set) (i : ℕ) → IsLeast old i → new ≡ without old i → TakesLeast old new i
taken_least old new i least rest = record {
  least = least;
  rest = rest;
  taken = record {
    was = least.is_in;
    gone = ap (λ s. has s i) rest ∙ has_without_same old i least.low;
    others = λ k other. ap (λ s. has s k) rest ∙ has_without_other old i k other;
  };
  first = members_least old i least ∙ ap (λ s. i ∷ members s) (sym rest);
  count = ap (λ s. length (members s) + 1) rest ∙ count_without old i least.low least.is_in;
  size = ap length rest ∙ length-set old i false;
}

-- a number that is in leaves
pub taken_one : (old new : Set) (i : ℕ) → i < length old → has old i ≡ true → new ≡ without old i → TakesOne old new i
taken_one old new i low there rest = record {
  taken = record {
    was = there;
    gone = ap (λ s. has s i) rest ∙ has_without_same old i low;
    others = λ k other. ap (λ s. has s k) rest ∙ has_without_other old i k other;
  };
  count = ap (λ s. length (members s) + 1) rest ∙ count_without old i low there;
  size = ap length rest ∙ length-set old i false;
}

pub count_most : (s : Set) → length (members s) ≤ length s
count_most s =
    let some = length-filter (has s) (range_with_len 0 (length s)) in
    let most = count_by-le-length (has s) (range_with_len 0 (length s)) in
    let all = length-range_with_len 0 (length s) in
    omega (arith, some, most, all)

pub count_less : (s : Set) (i : ℕ) → i < length s → has s i ≡ false → length (members s) < length s
count_less s i low out =
    let more = count_with s i low out in
    let most = count_most (with s i) in
    let same = length-set s i true in
    omega (arith, more, most, same)

-- the members of a set are those below one number, those up to another, and the rest
members_parts : (s : Set) (from to : ℕ) → from ≤ to → to ≤ length s →
    length (members s) ≡ length (filter (has s) (range_with_len 0 from)) + length (filter (has s) (range_with_len from (to - from))) + length (filter (has s) (range_with_len to (length s - to)))
members_parts s from to order within =
    let size : length s ≡ from + (to - from) + (length s - to) = omega (arith, order, within) in
    let here : 0 + from ≡ from = omega arith in
    let there : 0 + (from + (to - from)) ≡ to = omega (arith, order) in
    let parts : range_with_len 0 (length s) ≡ (range_with_len 0 from ++ range_with_len from (to - from)) ++ range_with_len to (length s - to) =
    ap (range_with_len 0) size
    ∙ range_split 0 (from + (to - from)) (length s - to)
    ∙ ap (λ xs. xs ++ range_with_len (0 + (from + (to - from))) (length s - to)) (range_split 0 from (to - from))
    ∙ ap (λ a. (range_with_len 0 from ++ range_with_len a (to - from)) ++ range_with_len (0 + (from + (to - from))) (length s - to)) here
    ∙ ap (λ a. (range_with_len 0 from ++ range_with_len from (to - from)) ++ range_with_len a (length s - to)) there in
    ap (λ xs. length (filter (has s) xs)) parts
    ∙ ap length (filter-append (has s) (range_with_len 0 from ++ range_with_len from (to - from)) (range_with_len to (length s - to)))
    ∙ length-append (filter (has s) (range_with_len 0 from ++ range_with_len from (to - from))) (filter (has s) (range_with_len to (length s - to)))
    ∙ ap (λ xs. length xs + length (filter (has s) (range_with_len to (length s - to)))) (filter-append (has s) (range_with_len 0 from) (range_with_len from (to - from)))
    ∙ ap (λ n. n + length (filter (has s) (range_with_len to (length s - to)))) (length-append (filter (has s) (range_with_len 0 from)) (filter (has s) (range_with_len from (to - from))))

-- a run joins of which none was in
pub count_filled : (from to : ℕ) (old new : Set) → from ≤ to → to ≤ length old → ((k : ℕ) → from ≤ k → k < to → has old k ≡ false) → Fills from to old new → length (members new) ≡ length (members old) + (to - from)
count_filled from to old new order within none fills =
    let within_new : to ≤ length new = omega (arith, within, fills.room) in
    let now = members_parts new from to order within_new in
    let before = members_parts old from to order within in
    let prefix : filter (has new) (range_with_len 0 from) ≡ filter (has old) (range_with_len 0 from) =
    filter_same (has new) (has old) 0 from (λ k low high. fills.below k (omega (arith, high))) in
    let middle : filter (has new) (range_with_len from (to - from)) ≡ range_with_len from (to - from) =
    filter_all (has new) from (to - from) (λ k low high. fills.inside k low (omega (arith, low, high, order))) in
    let middle_old : filter (has old) (range_with_len from (to - from)) ≡ [] =
    filter_none (has old) from (to - from) (λ k low high. none k low (omega (arith, low, high, order))) in
    let back : filter (has new) (range_with_len to (length new - to)) ≡ filter (has old) (range_with_len to (length old - to)) =
    ap (λ n. filter (has new) (range_with_len to (n - to))) fills.room
    ∙ filter_same (has new) (has old) to (length old - to) (λ k low high. fills.above k low) in
    let prefix_size = ap length prefix in
    let middle_size : length (filter (has new) (range_with_len from (to - from))) ≡ to - from = ap length middle ∙ length-range_with_len from (to - from) in
    let middle_none : length (filter (has old) (range_with_len from (to - from))) ≡ 0 = ap length middle_old in
    let back_size = ap length back in
    omega (arith, now, before, prefix_size, middle_size, middle_none, back_size)
