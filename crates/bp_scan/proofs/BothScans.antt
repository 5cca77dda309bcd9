-- The scans of both trees of an image, one after the other: the sets that they make.
use Rattle.std.proofs.Common.{◌≡◌, ◌≢◌, ◌⊎◌, ℕ, zero, suc, ◌/◌, ◌<◌, ◌≤◌, List, [], ◌∷◌, length, Bool, true, false, not, ◌&&◌, refl, sym, ◌∙◌, ap, subst, arith, inl, inr}
use Rattle.std.proofs.lemmas.Bool.{not-true, cases_lt}
use Rattle.bp_free.specs.Set.{Set, has, members}
use Rattle.bp_free.proofs.Members.{has_past}
use Rattle.bp_free.proofs.Summary.{has_low, none_in}
use Rattle.bp_layout.specs.Free.{AreFreeBlocks}
use Rattle.bp_layout.specs.Reached.{IsFreeBlock, IsLiveBlock}
use Rattle.bp_layout.specs.Thaw.{none_in_snapshot}
use Rattle.bp_layout.specs.Trees.{AreInSnapshot, has_snapshot, snapshot_of}
use Rattle.bp_layout.specs.WellFormed.{IsWellFormed}
use Rattle.bp_layout.specs.Words.{Image, block_count}
use Rattle.bp_layout.proofs.TreeImages.{length-snapshot}
use Rattle.bp_walk.proofs.TakenLaws.{clash, known}
use Rattle.bp_second.specs.Shown.{second_memory}
use Rattle.pm_region.specs.Memory.{Memory, current_words}
use Rattle.bp_scan.specs.Others.{HasOthers, Loses}
use Rattle.bp_scan.specs.Scanned.{AreOthersLive}

-- ---- the words

-- a region with its second tree in the first one's place has these words, and as many blocks
pub snapshot_words : (shown memory : Memory) → shown ≡ second_memory memory 0 → current_words shown ≡ snapshot_of (current_words memory)
snapshot_words shown memory is = ap current_words is

pub second_count : (shown memory : Memory) → shown ≡ second_memory memory 0 → block_count (current_words shown) ≡ block_count (current_words memory)
second_count shown memory is = ap block_count (snapshot_words shown memory is) ∙ ap (λ n. n / 512) (length-snapshot (current_words memory))

-- ---- the numbers that a set loses

-- where the other set is empty
pub loses_none : (lost old : Set) → length (members lost) ≡ 0 → Loses lost old old
loses_none lost old few = record { room = refl; below = λ i low. at i (has old i); above = λ i from. refl }
  where
    no_members : (xs : List ℕ) → length xs ≡ 0 → xs ≡ []
    no_members [] e = refl
    no_members (x ∷ xs) e = absurd (omega (arith, e))

    keeps : (b : Bool) → b ≡ (b && not false)
    keeps true = refl
    keeps false = refl

    at : (i : ℕ) (b : Bool) → b ≡ (b && not (has lost i))
    at i b = keeps b ∙ ap (λ c. b && not c) (sym (none_in lost (no_members (members lost) few) i))

-- the same of any number
loses_at : (lost old new : Set) → Loses lost old new → (i : ℕ) → has new i ≡ (has old i && not (has lost i))
loses_at lost old new is i = go (cases_lt i (length old))
  where
    go : (i < length old) ⊎ (length old ≤ i) → has new i ≡ (has old i && not (has lost i))
    go (inl low) = is.below i low
    go (inr high) = let none : has old i ≡ false = has_past old i high in is.above i high ∙ none ∙ ap (λ b. b && not (has lost i)) (sym none)

-- ---- the blocks

-- the blocks of the second tree are those that its scan does not find free
pub snapshot_others : (image : Image) (free snapshot_blocks : Set) → has_snapshot image ≡ true → IsWellFormed (snapshot_of image) → length free ≡ block_count image → AreFreeBlocks (snapshot_of image) none_in_snapshot (has free) →
    AreOthersLive (snapshot_of image) (has free) → HasOthers free snapshot_blocks → AreInSnapshot image (has snapshot_blocks)
snapshot_others image free snapshot_blocks there wf room are live others = record {
  are = λ b is. record { there = there; live = live b (low b is) (high b is) (lacks b is) };
  all = λ b is. in_others b is.live;
}
  where
    count : block_count (snapshot_of image) ≡ block_count image
    count = ap (λ n. n / 512) (length-snapshot image)

    low : (b : ℕ) → has snapshot_blocks b ≡ true → 1 ≤ b
    low zero is = absurd (clash is others.first)
    low (suc b) is = omega arith

    within : (b : ℕ) → has snapshot_blocks b ≡ true → b < length free
    within b is = let e : length snapshot_blocks ≡ length free = others.room in omega (arith, has_low snapshot_blocks b is, e)

    high : (b : ℕ) → has snapshot_blocks b ≡ true → b < block_count (snapshot_of image)
    high b is = omega (arith, within b is, room, count)

    lacks : (b : ℕ) → has snapshot_blocks b ≡ true → has free b ≡ false
    lacks b is = not-true (has free b) (sym (others.below b (low b is) (within b is)) ∙ is)

    in_others : (b : ℕ) → IsLiveBlock (snapshot_of image) b → has snapshot_blocks b ≡ true
    in_others b held =
        let some : 1 ≤ b = is_some b held.has.not_null in
        let range : b < block_count (snapshot_of image) =
        subst (λ n. n < block_count (snapshot_of image)) held.has.named ((wf.sound held.tree held.reached).in_range held.has.depth held.has.index held.has.pointer) in
        others.below b some (omega (arith, range, room, count)) ∙ ap not (not_free b held (known (has free b)))
      where
        is_some : (b : ℕ) → b ≢ 0 → 1 ≤ b
        is_some zero other = absurd (other refl)
        is_some (suc b) other = omega arith

        not_free : (b : ℕ) → IsLiveBlock (snapshot_of image) b → (has free b ≡ true) ⊎ (has free b ≡ false) → has free b ≡ false
        not_free b held (inl is) = absurd ((are.free b is).free held)
        not_free b held (inr gone) = gone

-- The blocks that the first tree lacks, without those of the second, are free.
pub free_without : (image : Image) (snapshot_blocks old new : Set) → AreFreeBlocks image none_in_snapshot (has old) → Loses snapshot_blocks old new → AreFreeBlocks image (has snapshot_blocks) (has new)
free_without image snapshot_blocks old new are loses = record {
  free = λ b is. at b is (known (has old b)) (known (has snapshot_blocks b));
  all = λ b free.
      let was : has old b ≡ true = are.all b (record { low = free.low; high = free.high; free = free.free; loose = refl }) in
      loses_at snapshot_blocks old new loses b ∙ ap (λ c. c && not (has snapshot_blocks b)) was ∙ ap not free.loose;
}
  where
    at : (b : ℕ) → has new b ≡ true → (has old b ≡ true) ⊎ (has old b ≡ false) → (has snapshot_blocks b ≡ true) ⊎ (has snapshot_blocks b ≡ false) → IsFreeBlock image (has snapshot_blocks) b
    at b is (inr gone) _ = absurd (clash is (loses_at snapshot_blocks old new loses b ∙ ap (λ c. c && not (has snapshot_blocks b)) gone))
    at b is (inl was) (inl kept) = absurd (clash is (loses_at snapshot_blocks old new loses b ∙ ap (λ c. c && not (has snapshot_blocks b)) was ∙ ap not kept))
    at b is (inl was) (inr loose) = record {
      low = (are.free b was).low;
      high = (are.free b was).high;
      free = (are.free b was).free;
      loose = loose;
    }
