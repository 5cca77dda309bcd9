-- How many blocks are free, by a set that has just the free blocks.
use Rattle.std.proofs.Common.{◌≡◌, ◌⊎◌, ℕ, ◌≤◌, [], length, filter, Bool, true, false, sym, ◌∙◌, ap, arith, inl, inr}
use Rattle.std.specs.List.{range_with_len}
use Rattle.std.proofs.lemmas.Bool.{cases_Bool}
use Rattle.std.proofs.lemmas.List.Elements.{filter_agree}
use Rattle.bp_free.specs.Set.{Set, has, members}
use Rattle.bp_free.specs.declared.parts.NoSpace.{NoSpace}
use Rattle.bp_calls.specs.Space.{LacksBlocks}
use Rattle.bp_free.proofs.Members.{filter_none}
use Rattle.bp_free.proofs.Summary.{none_in}
use Rattle.bp_layout.specs.Words.{Image, block_count}
use Rattle.bp_layout.specs.Free.{AreFreeBlocks, HasFree}

-- two sets of just the free blocks are one
same_test : (image : Image) (in_snapshot s t : ℕ → Bool) → AreFreeBlocks image in_snapshot s → AreFreeBlocks image in_snapshot t → (b : ℕ) → s b ≡ t b
same_test image in_snapshot s t one two b = go (cases_Bool (s b)) (cases_Bool (t b))
  where
    go : (s b ≡ true) ⊎ (s b ≡ false) → (t b ≡ true) ⊎ (t b ≡ false) → s b ≡ t b
    go (inl is) also = is ∙ sym (two.all b (one.free b is))
    go (inr not) (inl is) = one.all b (two.free b is) ∙ sym is
    go (inr not) (inr also) = not ∙ sym also

-- so there is one number of free blocks
pub free_once : (image : Image) (in_snapshot : ℕ → Bool) (a b : ℕ) → HasFree image in_snapshot a → HasFree image in_snapshot b → a ≡ b
free_once image in_snapshot a b one two =
    sym one.number ∙ ap length (filter_agree one.set two.set (same_test image in_snapshot one.set two.set one.are two.are) (range_with_len 0 (block_count image))) ∙ two.number

-- the members of a set of just the free blocks, with room for all
pub free_members : (image : Image) (in_snapshot : ℕ → Bool) (blocks : Set) → AreFreeBlocks image in_snapshot (has blocks) → length blocks ≡ block_count image → HasFree image in_snapshot (length (members blocks))
free_members image in_snapshot blocks are room = record { set = has blocks; are = are; number = ap (λ n. length (filter (has blocks) (range_with_len 0 n))) (sym room) }

pub no_free : (image : Image) (in_snapshot : ℕ → Bool) (blocks : Set) → AreFreeBlocks image in_snapshot (has blocks) → members blocks ≡ [] → HasFree image in_snapshot 0
no_free image in_snapshot blocks are none = record {
  set = has blocks;
  are = are;
  number = ap length (filter_none (has blocks) 0 (block_count image) (λ k low high. none_in blocks none k));
}

-- where enough blocks are free none are lacking
pub lacks_nothing : (image : Image) (in_snapshot : ℕ → Bool) (blocks : Set) → AreFreeBlocks image in_snapshot (has blocks) → length blocks ≡ block_count image → (wanted : ℕ) → wanted ≤ length (members blocks) → (lacks : NoSpace) → LacksBlocks image in_snapshot wanted lacks → ⊥
lacks_nothing image in_snapshot blocks are room wanted enough lacks has =
    let number : lacks.free ≡ length (members blocks) = free_once image in_snapshot lacks.free (length (members blocks)) has.free (free_members image in_snapshot blocks are room) in
    absurd (omega (arith, number, enough, has.needed, has.fewer))
