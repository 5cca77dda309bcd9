-- The sets of free numbers stay exact where the inode file gets one more leaf: its blocks are taken, and its inodes are free.
use Rattle.std.proofs.Common.{◌≡◌, ◌⊎◌, ℕ, Bool, ◌+◌, ◌/◌, ◌<◌, ◌≤◌, List, ◌∷◌, ◌++◌, length, true, sym, ◌∙◌, inl, inr, subst, arith}
use Rattle.std.proofs.lemmas.Bool.{cases_lt}
use Rattle.bp_layout.proofs.MemberLaws.{has-after}
use Rattle.bp_append.proofs.FillLaws.{apart_parts}
use Rattle.bp_free.specs.Set.{Set, Fills, has, members}
use Rattle.bp_layout.specs.Words.{Image}
use Rattle.bp_layout.specs.Free.{IsFreeInode}
use Rattle.bp_layout.specs.Inode.{size_of}
use Rattle.bp_layout.specs.Members.{Has, AreApart}
use Rattle.bp_layout.specs.Reached.{IsReached, IsFreeBlock}
use Rattle.bp_layout.specs.WellFormed.{IsWellFormed}
use Rattle.bp_layout.proofs.Reached.{reached-in_file}
use Rattle.bp_limits.specs.Limits.{block_size, inode_size}
use Rattle.bp_changes.specs.Sets.{AreExact}
use Rattle.bp_calls.specs.Growth.{AddsInodes}
use Rattle.bp_calls.proofs.GrowthLaws.{longer_live, longer_stays, longer_taken, longer_reached, shorter_reached}
use Rattle.bp_calls.proofs.TakenBlocks.{has_either, in_members, members_apart, of_members}

module _ {in_snapshot : ℕ → Bool} (old new : Image) (taken : List ℕ) (wf : IsWellFormed old) (adds : AddsInodes old new taken) (blocks after inodes filled : Set) (exact : AreExact old in_snapshot blocks inodes)
    (takes : members blocks ≡ taken ++ members after) (room : length after ≡ length blocks) (fills : Fills (size_of old 0 / inode_size) ((size_of old 0 + block_size) / inode_size) inodes filled) where
  -- ---- blocks

  apart : AreApart (taken ++ members after)
  apart = subst AreApart takes (members_apart blocks)

  free_now : (b : ℕ) → has after b ≡ true → IsFreeBlock new in_snapshot b
  free_now b is =
      let there : Has (members blocks) b = subst (λ bs. Has bs b) (sym takes) (has-after taken (members after) b (in_members after b is)) in
      let free : IsFreeBlock old in_snapshot b = exact.free_blocks.free b (of_members blocks b there) in
      record {
        low = free.low;
        high = rw adds.meaning.trees.whole free.high;
        free = λ live. elim (longer_live old new taken wf adds b live) [ inl was ↦ free.free was | inr early ↦ apart_parts taken (members after) b apart early (in_members after b is) ];
        loose = free.loose;
      }

  all_now : (b : ℕ) → IsFreeBlock new in_snapshot b → has after b ≡ true
  all_now b free =
      let was : has blocks b ≡ true =
      exact.free_blocks.all b (record { low = free.low; high = rw adds.meaning.trees.whole at free.high; free = λ live. free.free (longer_stays old new taken wf adds b live); loose = free.loose }) in
      elim (has_either taken (members after) b (subst (λ bs. Has bs b) takes (in_members blocks b was))) [
        | inl early ↦ absurd (free.free (longer_taken old new taken wf adds b early))
        | inr late ↦ of_members after b late
      ]

  -- ---- inodes

  -- none of the new ones was one
  no_more : (k : ℕ) → IsReached new k → k < size_of old 0 / 64
  no_more k reached = reached-in_file old wf k (shorter_reached old new taken wf adds k reached)

  inode_free : (k : ℕ) → has filled k ≡ true → IsFreeInode new k
  inode_free k is = go (cases_lt k (size_of old 0 / 64)) (cases_lt k ((size_of old 0 + 4096) / 64))
    where
      was : has inodes k ≡ true → IsFreeInode new k
      was there =
          let free : IsFreeInode old k = exact.free_inodes.free k there in
          record { low = free.low; high = omega (arith, free.high, adds.size); free = λ reached. free.free (shorter_reached old new taken wf adds k reached) }

      go : (k < size_of old 0 / 64) ⊎ (size_of old 0 / 64 ≤ k) → (k < (size_of old 0 + 4096) / 64) ⊎ ((size_of old 0 + 4096) / 64 ≤ k) → IsFreeInode new k
      go (inl early) which = was (sym (fills.below k early) ∙ is)
      go (inr late) (inl more) = record {
        low = omega (arith, late, wf.some_inodes);
        high = omega (arith, more, adds.size);
        free = λ reached. let low : k < size_of old 0 / 64 = no_more k reached in omega (arith, low, late);
      }
      go (inr late) (inr past) = was (sym (fills.above k past) ∙ is)

  inode_all : (k : ℕ) → IsFreeInode new k → has filled k ≡ true
  inode_all k free = go (cases_lt k (size_of old 0 / 64))
    where
      go : (k < size_of old 0 / 64) ⊎ (size_of old 0 / 64 ≤ k) → has filled k ≡ true
      go (inl early) = fills.below k early ∙ exact.free_inodes.all k (record { low = free.low; high = early; free = λ reached. free.free (longer_reached old new taken wf adds k reached) })
      go (inr late) = fills.inside k late (omega (arith, free.high, adds.size))

  pub exact_grown : AreExact new in_snapshot after filled
  exact_grown = record {
    block_room = rw adds.meaning.trees.whole (room ∙ exact.block_room);
    inode_room = rw adds.meaning.trees.whole (fills.room ∙ exact.inode_room);
    free_blocks = record { free = free_now; all = all_now };
    free_inodes = record { free = inode_free; all = inode_all };
  }
