-- The sets of free numbers stay exact over a call that takes some of the blocks.
use Rattle.std.proofs.Common.{◌≡◌, ◌⊎◌, ℕ, Bool, ◌<◌, ◌≤◌, List, [], ◌∷◌, ◌++◌, length, true, sym, ◌∙◌, inl, inr, subst, arith}
use Rattle.std.specs.List.{range_with_len}
use Rattle.bp_layout.proofs.MemberLaws.{apart-filter, apart-range, each-of, filter-has, has-after, has-filter, has-range}
use Rattle.bp_free.specs.Set.{Set, has, members}
use Rattle.bp_layout.specs.Words.{Image, block_count}
use Rattle.bp_layout.specs.Free.{AreFreeBlocks}
use Rattle.bp_layout.specs.Members.{Has, Each, AreApart}
use Rattle.bp_layout.specs.Reached.{IsLiveBlock, IsFreeBlock}
use Rattle.bp_layout.specs.Reached.IsReached.{inode_file}
use Rattle.bp_layout.specs.WellFormed.{IsWellFormed}
use Rattle.bp_changes.specs.Effects.{ChangesFile}
use Rattle.bp_changes.proofs.ChangesFile as changed
use Rattle.bp_append.specs.Filled.{IsUsable}
use Rattle.bp_append.proofs.FillLaws.{apart_parts}
use Rattle.bp_changes.specs.Sets.{AreExact}
use Rattle.bp_calls.proofs.SetLaws.{free_inodes_stay, in_room}

-- ---- members

pub of_members : (set : Set) (b : ℕ) → Has (members set) b → has set b ≡ true
of_members set b there = (filter-has (has set) (range_with_len 0 (length set)) b there).1

pub in_members : (set : Set) (b : ℕ) → has set b ≡ true → Has (members set) b
in_members set b is =
    let low : b < length set = in_room set b is in
    has-filter (has set) (range_with_len 0 (length set)) b (has-range 0 (length set) b (omega arith) (omega (arith, low))) is

pub members_apart : (set : Set) → AreApart (members set)
members_apart set = apart-filter (has set) (range_with_len 0 (length set)) (apart-range 0 (length set))

-- a member of two lists in a row is in one of them
pub has_either : (xs ys : List ℕ) (b : ℕ) → Has (xs ++ ys) b → Has xs b ⊎ Has ys b
has_either [] ys b there = inr there
has_either (x ∷ xs) ys b (inl e) = inl (inl e)
has_either (x ∷ xs) ys b (inr later) = elim (has_either xs ys b later) [ inl early ↦ inl (inr early) | inr late ↦ inr late ]

-- ---- free blocks may be taken

module _ {in_snapshot : ℕ → Bool} (image : Image) (blocks inodes : Set) (exact : AreExact image in_snapshot blocks inodes) where
  free_of : (b : ℕ) → Has (members blocks) b → IsFreeBlock image in_snapshot b
  free_of b there = exact.free_blocks.free b (of_members blocks b there)

  pub usable_members : (count : ℕ) → block_count image ≡ count → IsUsable count (members blocks)
  usable_members count e = record {
    low = each-of (λ b. 1 ≤ b) (members blocks) (λ b there. (free_of b there).low);
    high = each-of (λ b. b < count) (members blocks) (λ b there. let high = (free_of b there).high in omega (arith, high, e));
    apart = members_apart blocks;
  }

  pub members_free : Each (IsFreeBlock image in_snapshot) (members blocks)
  members_free = each-of (IsFreeBlock image in_snapshot) (members blocks) free_of

-- ---- a call takes some of them

module _ {in_snapshot : ℕ → Bool} (old new : Image) (whole : length new ≡ length old) (taken : List ℕ) (blocks after inodes : Set) (exact : AreExact old in_snapshot blocks inodes) (takes : members blocks ≡ taken ++ members after)
    (back : (b : ℕ) → IsLiveBlock new b → IsLiveBlock old b ⊎ Has taken b) (stays : (b : ℕ) → IsLiveBlock old b → IsLiveBlock new b) (took : (b : ℕ) → Has taken b → IsLiveBlock new b) where
  apart : AreApart (taken ++ members after)
  apart = subst AreApart takes (members_apart blocks)

  free_now : (b : ℕ) → has after b ≡ true → IsFreeBlock new in_snapshot b
  free_now b is =
      let there : Has (members blocks) b = subst (λ bs. Has bs b) (sym takes) (has-after taken (members after) b (in_members after b is)) in
      let free : IsFreeBlock old in_snapshot b = free_of old blocks inodes exact b there in
      record {
        low = free.low;
        high = rw whole free.high;
        free = λ live. elim (back b live) [ inl was ↦ free.free was | inr early ↦ apart_parts taken (members after) b apart early (in_members after b is) ];
        loose = free.loose;
      }

  all_now : (b : ℕ) → IsFreeBlock new in_snapshot b → has after b ≡ true
  all_now b free =
      let was : has blocks b ≡ true = exact.free_blocks.all b (record { low = free.low; high = rw whole at free.high; free = λ live. free.free (stays b live); loose = free.loose }) in
      elim (has_either taken (members after) b (subst (λ bs. Has bs b) takes (in_members blocks b was))) [ inl early ↦ absurd (free.free (took b early)) | inr late ↦ of_members after b late ]

  pub free_taken : AreFreeBlocks new in_snapshot (has after)
  free_taken = record { free = free_now; all = all_now }

-- so where a file takes them
pub exact_taken : {in_snapshot : ℕ → Bool} (old new : Image) (x : ℕ) → IsWellFormed old → ChangesFile old new x → (taken : List ℕ) (blocks after inodes : Set) → AreExact old in_snapshot blocks inodes → members blocks ≡ taken ++ members after →
    length after ≡ length blocks → ((b : ℕ) → IsLiveBlock new b → IsLiveBlock old b ⊎ Has taken b) → ((b : ℕ) → IsLiveBlock old b → IsLiveBlock new b) → ((b : ℕ) → Has taken b → IsLiveBlock new b) → AreExact new in_snapshot after inodes
exact_taken old new x wf changes taken blocks after inodes exact takes room back stays took = record {
  block_room = rw changes.trees.whole (room ∙ exact.block_room);
  inode_room = rw changes.trees.whole exact.inode_room;
  free_blocks = free_taken old new changes.trees.whole taken blocks after inodes exact takes back stays took;
  free_inodes = free_inodes_stay old new (has inodes) (changes.size 0 inode_file (changed.not_zero old new x wf changes)) (changed.reached-back old new x wf changes) (changed.reached-on old new x wf changes) exact.free_inodes;
}
