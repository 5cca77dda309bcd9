-- A commit by copies takes the blocks that it needs, and stores to no others.
use Rattle.std.proofs.Common.{◌≡◌, ℕ, ◌+◌, ◌/◌, List, [], ◌∷◌, length, filter, not, Bool, true, false, if◌then◌else◌, refl, sym, ◌∙◌, ap, arith}
use Rattle.std.specs.List.{range_with_len}
use Rattle.pm_epochs.specs.Log.{StoresTo}
use Rattle.pm_epochs.specs.May.{AnyAt}
use Rattle.pm_epochs.proofs.MayLaws.{StoresMay-weaker}
use Rattle.pm_region.specs.Memory.{Memory, current_words}
use Rattle.bp_layout.proofs.MemberLaws.{apart-filter, apart-range, each-of, filter-has, has-filter, has-range}
use Rattle.bp_free.specs.Set.{has}
use Rattle.bp_layout.specs.Free.{numbers_below}
use Rattle.bp_layout.specs.Members.{Has}
use Rattle.bp_layout.specs.Reached.{IsFreeBlock}
use Rattle.bp_layout.specs.Words.{block_count}
use Rattle.bp_changes.specs.Performs.{InBlock, IsOpen, TakesBlocks}
use Rattle.bp_changes.specs.Performs.IsOpen.{in_taken}
use Rattle.bp_cow.specs.Adds.{IsTakenWord, AddsCopyCommit}

-- the numbers of one set that are not in another
abbrev pub gone : (ℕ → Bool) → (ℕ → Bool) → ℕ → Bool
gone start now b = if start b then not (now b) else false

gone_of : (s n : Bool) → s ≡ true → n ≡ false → (if s then not n else false) ≡ true
gone_of true false was none = refl
gone_of true true was none = sym none
gone_of false n was none = was

of_gone : (s n : Bool) → (if s then not n else false) ≡ true → (s ≡ true) × (n ≡ false)
of_gone true false is = (refl, refl)
of_gone true true is = (refl, sym is)
of_gone false n is = (is, let clash : true ≡ false = sym is in absurd (cc))

-- where the second set is part of the first, the first has as many numbers as both the second and the rest
count_gone : (start now : ℕ → Bool) → ((b : ℕ) → now b ≡ true → start b ≡ true) → (xs : List ℕ) → length (filter start xs) ≡ length (filter now xs) + length (filter (gone start now) xs)
count_gone start now fewer [] = refl
count_gone start now fewer (x ∷ xs) = go (start x) (now x) refl refl (count_gone start now fewer xs)
  where
    go : (s n : Bool) → start x ≡ s → now x ≡ n → length (filter start xs) ≡ length (filter now xs) + length (filter (gone start now) xs) →
        length (filter start (x ∷ xs)) ≡ length (filter now (x ∷ xs)) + length (filter (gone start now) (x ∷ xs))
    go true true one two rest = rw (one, two) (omega (arith, rest))
    go true false one two rest = rw (one, two) (omega (arith, rest))
    go false false one two rest = rw (one, two) rest
    go false true one two rest = let clash : true ≡ false = sym (fewer x two) ∙ one in absurd (cc)

module _ {in_snapshot start now : ℕ → Bool} {word most : ℕ} {old new : Memory} (done : AddsCopyCommit start now word most old new) (free : (b : ℕ) → start b ≡ true → IsFreeBlock (current_words old) in_snapshot b) where
  abbrev count : ℕ
  count = block_count (current_words old)

  abbrev numbers : List ℕ
  numbers = range_with_len 0 count

  -- the blocks that were taken
  abbrev pub copies : List ℕ
  copies = numbers_below count (gone start now)

  has_copy : (b : ℕ) → start b ≡ true → now b ≡ false → Has copies b
  has_copy b was none =
      let is : IsFreeBlock (current_words old) in_snapshot b = free b was in
      has-filter (gone start now) numbers b (has-range 0 count b (omega arith) (omega (arith, is.high))) (gone_of (start b) (now b) was none)

  pub of_copy : (b : ℕ) → Has copies b → (start b ≡ true) × (now b ≡ false)
  of_copy b has = of_gone (start b) (now b) (filter-has (gone start now) numbers b has).1

  pub copies_taken : TakesBlocks (current_words old) in_snapshot copies done.commit.prepared
  copies_taken = record {
    once = apart-filter (gone start now) numbers (apart-range 0 count);
    free = each-of (IsFreeBlock (current_words old) in_snapshot) copies (λ b has. free b (of_copy b has).0);
    stored = each-of (λ b. StoresTo (InBlock b) done.commit.prepared) copies (λ b has. done.each b (of_copy b has).0 (of_copy b has).1);
    only = StoresMay-weaker (AnyAt (IsTakenWord start now)) (AnyAt (IsOpen (current_words old) in_snapshot copies)) open_place done.commit.prepared done.only;
  }
    where
      open_place : (place value : ℕ) → IsTakenWord start now place → IsOpen (current_words old) in_snapshot copies place
      open_place place value one = in_taken (has_copy (place / 512) (ap start one.inside ∙ one.was) (ap now one.inside ∙ one.gone))

  -- as many, where both sets are reported up to the number of blocks
  pub copies_counted : {before after taken : ℕ} → before ≡ length (numbers_below count start) → after ≡ length (numbers_below count now) → before ≡ after + taken → length copies ≡ taken
  copies_counted one two sum =
      let parts = count_gone start now done.fewer numbers in
      omega (arith, one, two, sum, parts)
