-- Inodes are counted one after another, and the count of all is the totals.
use Rattle.std.proofs.Common.{◌≡◌, ◌≢◌, ℕ, suc, ◌+◌, ◌-◌, ◌^◌, ◌<◌, ◌≤◌, List, [], ◌∷◌, ◌++◌, Bool, true, false, not, cond, length, refl, sym, ◌∙◌, ap, ap₂, subst, arith, ◌⊎◌, inl, inr}
use Rattle.std.specs.Prelude.{◌==◌, if◌then◌else◌}
use Rattle.std.specs.List.{filter, range_with_len, sum_by, Contains}
use Rattle.std.specs.List.Sorted.{IsStrictlyIncreasing}
use Rattle.std.proofs.lemmas.Bool.{not-true, not_from_false, not_from_true}
use Rattle.std.proofs.lemmas.List.Elements.{filter-append, filter_passes, All-contains, All-contains_itself, All-filter, Contains-append_right}
use Rattle.std.proofs.lemmas.List.Kept.{IsStrictlyIncreasing-filter}
use Rattle.std.proofs.lemmas.List.Filters.{length-filter_both}
use Rattle.std.proofs.lemmas.List.Sums.{sum_by-append, sum_by-cons}
use Rattle.std.proofs.lemmas.List.FromFn.{length-range_with_len, get_or-range_with_len}
use Rattle.bp_free.specs.Set.{Set, has, members, without}
use Rattle.bp_free.proofs.Members.{range_split, filter_same, filter_none, count_less}
use Rattle.bp_layout.specs.Words.{Image, block_count}
use Rattle.bp_layout.specs.Free.{AreFreeBlocks, AreFreeInodes, HasFree}
use Rattle.bp_layout.specs.Inode.{kind_of, size_of, inode_count}
use Rattle.bp_layout.specs.Reached.{IsReached}
use Rattle.bp_layout.specs.Trees.{AreInSnapshot}
use Rattle.bp_layout.specs.WellFormed.{IsWellFormed}
use Rattle.bp_layout.proofs.Reached.{reached-in_file}
use Rattle.bp_walk.proofs.TakenLaws.{clash, known, has_other, has_without}
use Rattle.bp_scan.specs.Counted.{CountsOne, HasCounted, IsCountable, no_totals, used_below}
use Rattle.bp_layout.specs.Totals.{AreReached, HasLive, HasTotals, HasTreeTotals, of_kind, file_bytes}
use Rattle.bp_layout.specs.declared.totals.Totals.{Totals}
use Rattle.bp_layout.specs.Thaw.{none_in_snapshot}

-- ---- one inode more

of_kind-few : (image : Image) (kind i : ℕ) → of_kind image kind i ≤ 1
of_kind-few image kind i = go (kind_of image i == kind)
  where
    go : (b : Bool) → (if b then 1 else 0) ≤ 1
    go true = omega arith
    go false = omega arith

-- the inode that leaves the set is one more of those that are used
module _ (free : Set) (i to : ℕ) (some : 1 ≤ i) (low : i < to) (room : i < length free) (is : has free i ≡ true) where
  abbrev before : ℕ
  before = i - 1

  abbrev beyond : ℕ
  beyond = to - 1 - i

  abbrev used : Set → ℕ → Bool
  used set k = not (has set k)

  parts : range_with_len 1 (to - 1) ≡ range_with_len 1 before ++ i ∷ range_with_len (i + 1) beyond
  parts =
      let whole : to - 1 ≡ before + suc beyond = omega (arith, some, low) in
      let place : 1 + before ≡ i = omega (arith, some) in
      ap (range_with_len 1) whole ∙ range_split 1 before (suc beyond) ∙ ap (λ b. range_with_len 1 before ++ range_with_len b (suc beyond)) place

  kept : (p : ℕ → Bool) → filter p (range_with_len 1 (to - 1)) ≡ filter p (range_with_len 1 before) ++ filter p (i ∷ range_with_len (i + 1) beyond)
  kept p = ap (filter p) parts ∙ filter-append p (range_with_len 1 before) (i ∷ range_with_len (i + 1) beyond)

  abbrev lower : List ℕ
  lower = filter (used free) (range_with_len 1 before)

  abbrev higher : List ℕ
  higher = filter (used free) (range_with_len (i + 1) beyond)

  old_parts : used_below free to ≡ lower ++ higher
  old_parts = kept (used free) ∙ ap (λ b. lower ++ cond b (i ∷ higher) higher) (not_from_true (has free i) is)

  same_else : (k : ℕ) → k ≢ i → used (without free i) k ≡ used free k
  same_else k other = ap not (has_other free i k other)

  new_parts : used_below (without free i) to ≡ lower ++ i ∷ higher
  new_parts =
      let first : filter (used (without free i)) (range_with_len 1 before) ≡ lower = filter_same _ _ 1 before (λ k from high. same_else k (λ same. omega (arith, same, high, some))) in
      let last : filter (used (without free i)) (range_with_len (i + 1) beyond) ≡ higher = filter_same _ _ (i + 1) beyond (λ k from high. same_else k (λ same. omega (arith, same, from))) in
      let head : used (without free i) i ≡ true = not_from_false (has (without free i) i) (has_without free i room) in
      kept (used (without free i))
      ∙ ap₂ (λ xs ys. xs ++ cond (used (without free i) i) (i ∷ ys) ys) first last
      ∙ ap (λ b. lower ++ cond b (i ∷ higher) higher) head

  sum_more : (f : ℕ → ℕ) → sum_by f (used_below (without free i) to) ≡ sum_by f (used_below free to) + f i
  sum_more f =
      let new : sum_by f (used_below (without free i) to) ≡ sum_by f lower + (f i + sum_by f higher) =
      ap (sum_by f) new_parts ∙ sum_by-append f lower (i ∷ higher) ∙ ap (λ n. sum_by f lower + n) (sum_by-cons f i higher) in
      let old : sum_by f (used_below free to) ≡ sum_by f lower + sum_by f higher = ap (sum_by f) old_parts ∙ sum_by-append f lower higher in
      omega (arith, new, old)

pub one_counted : (image : Image) (free : Set) (i to : ℕ) (old new : Totals) → 1 ≤ i → i < to → i < length free → has free i ≡ true → HasCounted image free to old →
    CountsOne (kind_of image i) (size_of image i) old new → HasCounted image (without free i) to new
one_counted image free i to old new some low room is counted one = record {
  files = one.files ∙ ap (λ n. n + of_kind image 1 i) counted.files ∙ sym (sum_more free i to some low room is (of_kind image 1));
  dirs = one.dirs ∙ ap (λ n. n + of_kind image 2 i) counted.dirs ∙ sym (sum_more free i to some low room is (of_kind image 2));
  bytes = one.bytes ∙ ap (λ n. n + file_bytes image i) counted.bytes ∙ sym (sum_more free i to some low room is (file_bytes image));
  few_bytes = omega (arith, one.files, one.bytes, one.fits, counted.few_bytes);
}

-- where inode 1 alone was entered it alone is counted
pub first_counted : (image : Image) (free : Set) (to : ℕ) (old new : Totals) → 2 ≤ to → ((t : ℕ) → 2 ≤ t → t < to → has free t ≡ true) → has free 1 ≡ false → old ≡ no_totals →
    CountsOne (kind_of image 1) (size_of image 1) old new → HasCounted image free to new
first_counted image free to old new low rest out none one = record {
  files = omega (arith, one.files, ap (λ (t : Totals). t.files) none, alone (of_kind image 1));
  dirs = omega (arith, one.dirs, ap (λ (t : Totals). t.dirs) none, alone (of_kind image 2));
  bytes = omega (arith, one.bytes, ap (λ (t : Totals). t.bytes) none, alone (file_bytes image));
  few_bytes = omega (arith, one.files, one.bytes, one.fits, ap (λ (t : Totals). t.bytes) none);
}
  where
    root : used_below free to ≡ 1 ∷ []
    root =
        let whole : to - 1 ≡ suc (to - 2) = omega (arith, low) in
        let empty : filter (λ k. not (has free k)) (range_with_len 2 (to - 2)) ≡ [] =
        filter_none _ 2 (to - 2) (λ k from high. not_from_true (has free k) (rest k from (omega (arith, high, low)))) in
        ap (λ n. filter (λ k. not (has free k)) (range_with_len 1 n)) whole
        ∙ ap (λ xs. cond (not (has free 1)) (1 ∷ xs) xs) empty
        ∙ ap (λ b. cond b (1 ∷ []) []) (not_from_false (has free 1) out)

    alone : (f : ℕ → ℕ) → sum_by f (used_below free to) ≡ f 1
    alone f = let one : 0 + f 1 ≡ f 1 = omega arith in ap (sum_by f) root ∙ one

-- each inode counts once at most
sum_few : (image : Image) (kind : ℕ) (xs : List ℕ) → sum_by (of_kind image kind) xs ≤ length xs
sum_few image kind [] = omega arith
sum_few image kind (x ∷ xs) = omega (arith, sum_by-cons (of_kind image kind) x xs, of_kind-few image kind x, sum_few image kind xs)

pub countable : (image : Image) (free : Set) (to : ℕ) (totals : Totals) → to < 2 ^ 32 → HasCounted image free to totals → IsCountable totals
countable image free to totals low counted =
    let all = length-filter_both (λ k. not (has free k)) (λ k. not (not (has free k))) (λ k. refl) (range_with_len 1 (to - 1)) in
    let long = length-range_with_len 1 (to - 1) in
    record {
      few_files = omega (arith, counted.files, sum_few image 1 (used_below free to), all, long, low);
      few_dirs = omega (arith, counted.dirs, sum_few image 2 (used_below free to), all, long, low);
      few_bytes = counted.few_bytes;
    }

-- ---- all inodes

range_rises : (a n : ℕ) → IsStrictlyIncreasing (range_with_len a n)
range_rises a n k low =
    let size = length-range_with_len a n in
    let here = get_or-range_with_len a n k 0 (omega (arith, low, size)) in
    let next = get_or-range_with_len a n (k + 1) 0 (omega (arith, low, size)) in
    omega (arith, here, next)

-- each number of a filtered range lies in the range, and each of the range that passes is there
filter_in_range : (p : ℕ → Bool) (a n i : ℕ) → Contains (filter p (range_with_len a n)) i → (a ≤ i) × (i < a + n)
filter_in_range p a n i there = go from_range
  where
    from_range : Contains (range_with_len a n) i
    from_range = All-contains (Contains (range_with_len a n)) (filter p (range_with_len a n)) i
        (All-filter p (Contains (range_with_len a n)) (range_with_len a n) (All-contains_itself (range_with_len a n))) there

    go : Contains (range_with_len a n) i → (a ≤ i) × (i < a + n)
    go (k, low, is) =
        let size = length-range_with_len a n in
        let here = get_or-range_with_len a n k i (omega (arith, low, size)) in
        (omega (arith, is, here), omega (arith, is, here, low, size))

filter_has : (p : ℕ → Bool) (a n i : ℕ) → a ≤ i → i < a + n → p i ≡ true → Contains (filter p (range_with_len a n)) i
filter_has p a n i low high is =
    let rest = a + n - (i + 1) in
    let whole : n ≡ i - a + suc rest = omega (arith, low, high) in
    let place : a + (i - a) ≡ i = omega (arith, low) in
    let parts : range_with_len a n ≡ range_with_len a (i - a) ++ range_with_len i (suc rest) =
    ap (range_with_len a) whole ∙ range_split a (i - a) (suc rest) ∙ ap (λ b. range_with_len a (i - a) ++ range_with_len b (suc rest)) place in
    let kept : filter p (range_with_len a n) ≡ filter p (range_with_len a (i - a)) ++ filter p (i ∷ range_with_len (i + 1) rest) =
    ap (filter p) parts ∙ filter-append p (range_with_len a (i - a)) (i ∷ range_with_len (i + 1) rest) in
    let head : filter p (i ∷ range_with_len (i + 1) rest) ≡ i ∷ filter p (range_with_len (i + 1) rest) =
    ap (λ b. cond b (i ∷ filter p (range_with_len (i + 1) rest)) (filter p (range_with_len (i + 1) rest))) is in
    subst (λ xs. Contains xs i) (sym (kept ∙ ap (λ xs. filter p (range_with_len a (i - a)) ++ xs) head))
    (Contains-append_right (filter p (range_with_len a (i - a))) (i ∷ filter p (range_with_len (i + 1) rest)) i (0, omega arith, refl))

pub are_reached : (image : Image) (free : Set) → IsWellFormed image → AreFreeInodes image (has free) → ((i : ℕ) → 1 ≤ i → i < inode_count image → has free i ≡ false → IsReached image i) →
    AreReached image (used_below free (inode_count image))
are_reached image free wf are reached = record {
  rising = IsStrictlyIncreasing-filter _ _ (range_rises 1 (inode_count image - 1));
  reached = λ i there.
      let range : (1 ≤ i) × (i < 1 + (inode_count image - 1)) = filter_in_range _ 1 (inode_count image - 1) i there in
      let passes : not (has free i) ≡ true = All-contains (λ k. not (has free k) ≡ true) _ i (filter_passes (λ k. not (has free k)) (range_with_len 1 (inode_count image - 1))) there in
      (reached i range.0 (omega (arith, range.0, range.1)) (not-true (has free i) passes), range.0);
  all = λ i is some.
      let high : i < inode_count image = reached-in_file image wf i is in
      filter_has (λ k. not (has free k)) 1 (inode_count image - 1) i some (omega (arith, high)) (not_from_false (has free i) (used i is));
}
  where
    used : (i : ℕ) → IsReached image i → has free i ≡ false
    used i is = go (known (has free i))
      where
        go : (has free i ≡ true) ⊎ (has free i ≡ false) → has free i ≡ false
        go (inl there) = absurd ((are.free i there).free is)
        go (inr gone) = gone

-- ---- the blocks

-- two tests of the free blocks are one
same_blocks : (image : Image) (in_snapshot p q : ℕ → Bool) → AreFreeBlocks image in_snapshot p → AreFreeBlocks image in_snapshot q → (b : ℕ) → p b ≡ q b
same_blocks image in_snapshot p q one other b = go (known (p b)) (known (q b))
  where
    go : (p b ≡ true) ⊎ (p b ≡ false) → (q b ≡ true) ⊎ (q b ≡ false) → p b ≡ q b
    go (inl x) (inl y) = x ∙ sym y
    go (inl x) (inr y) = absurd (clash (other.all b (one.free b x)) y)
    go (inr x) (inl y) = absurd (clash (one.all b (other.free b y)) x)
    go (inr x) (inr y) = x ∙ sym y

-- block 0 is not free, so fewer blocks are free than there are
pub few_free : (image : Image) (in_snapshot : ℕ → Bool) (free : Set) → AreFreeBlocks image in_snapshot (has free) → 0 < length free → length (members free) < length free
few_free image in_snapshot free are some = count_less free 0 some (go (known (has free 0)))
  where
    go : (has free 0 ≡ true) ⊎ (has free 0 ≡ false) → has free 0 ≡ false
    go (inl there) = absurd (omega (arith, (are.free 0 there).low))
    go (inr gone) = gone

live_with : (image : Image) (in_snapshot : ℕ → Bool) (free : Set) (live : ℕ) → AreFreeBlocks image in_snapshot (has free) → length free ≡ block_count image → live + length (members free) + 1 ≡ block_count image →
    (count : ℕ) → HasFree image in_snapshot count → live + count + 1 ≡ block_count image
live_with image in_snapshot free live are room sum count other =
    let here : length (members free) ≡ length (filter (has free) (range_with_len 0 (block_count image))) = ap (λ n. length (filter (has free) (range_with_len 0 n))) room in
    let same : length (filter (has free) (range_with_len 0 (block_count image))) ≡ length (filter other.set (range_with_len 0 (block_count image))) =
    ap length (filter_same (has free) other.set 0 (block_count image) (λ b _ _. same_blocks image in_snapshot (has free) other.set are other.are b)) in
    omega (arith, sum, here, same, other.number)

pub has_totals : (image : Image) (blocks inodes : Set) (seen totals : Totals) → IsWellFormed image → AreFreeBlocks image none_in_snapshot (has blocks) → AreFreeInodes image (has inodes) →
    ((i : ℕ) → i < inode_count image → has inodes i ≡ false → IsReached image i) → length blocks ≡ block_count image → totals.live + length (members blocks) + 1 ≡ block_count image →
    HasCounted image inodes (inode_count image) seen → totals.files ≡ seen.files → totals.dirs ≡ seen.dirs → totals.bytes ≡ seen.bytes → HasTreeTotals image totals
has_totals image blocks inodes seen totals wf free_blocks free_inodes reached room live counted files dirs bytes = record {
  inodes = used_below inodes (inode_count image);
  are = are_reached image inodes wf free_inodes (λ i some low gone. reached i low gone);
  files = files ∙ counted.files;
  dirs = dirs ∙ counted.dirs;
  bytes = bytes ∙ counted.bytes;
  live = live_with image none_in_snapshot blocks totals.live free_blocks room live;
}

-- ---- both trees

-- two tests of the blocks of the second tree are one
same_snapshot_blocks : (image : Image) (p q : ℕ → Bool) → AreInSnapshot image p → AreInSnapshot image q → p ≡ q
same_snapshot_blocks image p q one other = λ i b. at b (known (p b)) (known (q b)) i
  where
    at : (b : ℕ) → (p b ≡ true) ⊎ (p b ≡ false) → (q b ≡ true) ⊎ (q b ≡ false) → p b ≡ q b
    at b (inl x) (inl y) = x ∙ sym y
    at b (inl x) (inr y) = absurd (clash (other.all b (one.are b x)) y)
    at b (inr x) (inl y) = absurd (clash (one.all b (other.are b y)) x)
    at b (inr x) (inr y) = x ∙ sym y

-- With the blocks of the second tree reported, as many are in one of both.
pub has_live : (image : Image) (snapshot_blocks blocks : Set) (live : ℕ) → AreInSnapshot image (has snapshot_blocks) → AreFreeBlocks image (has snapshot_blocks) (has blocks) → length blocks ≡ block_count image →
    live + length (members blocks) + 1 ≡ block_count image → HasLive image live
has_live image snapshot_blocks blocks live are free room sum space has_space =
    live_with image (has snapshot_blocks) blocks live free room sum space
    (subst (λ (in_snapshot : ℕ → Bool). HasFree image in_snapshot space) (same_snapshot_blocks image has_space.in_snapshot (has snapshot_blocks) has_space.are are) has_space.free)

-- the totals of the first tree, with another number of live blocks
pub with_live : (image : Image) (old new : Totals) → HasTreeTotals image old → new.files ≡ old.files → new.dirs ≡ old.dirs → new.bytes ≡ old.bytes → HasLive image new.live → HasTotals image new
with_live image old new has files dirs bytes live = record {
  inodes = has.inodes;
  are = has.are;
  files = files ∙ has.files;
  dirs = dirs ∙ has.dirs;
  bytes = bytes ∙ has.bytes;
  live = live;
}
