-- Going down a tree to its last byte: what is left of a node after the slot that was gone through can be filled.
use Rattle.std.proofs.Common.{◌≡◌, ℕ, suc, ◌+◌, ◌*◌, ◌/◌, ◌≤◌, List, length, sym, ap, subst, arith}
use Rattle.std.proofs.lemmas.List.{length-append}
use Rattle.bp_layout.proofs.MemberLaws.{has-after}
use Rattle.bp_layout.specs.Tree.{span}
use Rattle.bp_layout.specs.Members.{Has}
use Rattle.pm_region.specs.Memory.{Memory, room_in}
use Rattle.pm_region.proofs.MayLaws.{room_after_may}
use Rattle.bp_append.specs.Stores.{stores_past_end, room_past_end}
use Rattle.bp_append.specs.Filled.{CanFill}
use Rattle.bp_append.specs.Visited.{CanVisit, IsLast, VisitsSlot}
use Rattle.bp_append.proofs.StoresLaws.{room_past_end_next}
use Rattle.bp_append.proofs.TallyLaws.{span-suc}
use Rattle.bp_append.proofs.FillLaws.{usable_rest, may_base}
use Rattle.bp_append.proofs.VisitLaws.{slot_views, ends, block_taken, counts}

module _ {old middle : Memory} {free_old free_middle : List ℕ} {root size below start block slot from to : ℕ}
    (can : CanVisit old free_old root size (suc below) start block from to) (last : IsLast size below start slot) {raw : List ℕ} {links : List (ℕ × ℕ)}
    (visits : VisitsSlot old middle free_old free_middle root size below start block slot from to raw links) where
  open (slot_views can last) use {low}

  base : length middle.base ≡ length old.base
  base = may_base _ 0 _ old middle visits.stores.part

  lengths : length free_old ≡ length visits.taken + length free_middle
  lengths = let e = ap length visits.takes in omega (arith, e, length-append visits.taken free_middle)

  -- what is left is filled
  pub rest_can : CanFill middle free_middle block (suc below) start low from to
  rest_can =
      let all = counts can last in
      record {
        flat = can.low;
        index = can.index;
        aligned = can.aligned;
        order = omega arith;
        inside = omega (arith, ends can last, span-suc below);
        leaf = λ e. absurd (omega (arith, e));
        first = slot + 1;
        node = λ other e. let same : below ≡ other = omega (arith, e) in subst (λ l. low ≡ start + (slot + 1) * span l) same (next (span below));
        begun = omega (arith, can.begun, can.order);
        few = can.few;
        few_to = can.few_to;
        some_block = can.some_block;
        in_range = rw base can.in_range;
        outside = λ m. block_taken can last (subst (λ f. Has f block) (sym visits.takes) (has-after visits.taken free_middle block m));
        usable = rw base (usable_rest (length old.base / 512) free_old visits.taken free_middle visits.takes can.usable);
        enough = enough_of _ _ _ _ _ _ _ _ all visits.counted can.enough lengths;
        room = room_of _ _ _ _ _ _ (room_in old) (room_in middle) all visits.counted can.room (room_past_end_next size from to below)
            (room_after_may _ 0 _ old middle visits.stores.part);
      }
    where
      next : (s : ℕ) → start + slot * s + s ≡ start + (slot + 1) * s
      next s = grind arith

      -- what a node needs is what its slot, the rest and itself need, and the slot has had its part
      enough_of : (all slot_sum rest here taken under one two : ℕ) → all ≡ slot_sum + rest + here → taken + under ≡ slot_sum → all ≤ one + (under + here) →
          one ≡ taken + two → rest ≤ two
      enough_of all slot_sum rest here taken under one two a b c d = omega (arith, a, b, c, d)

      rooms : (all slot_sum rest here taken under one two past_end asked : ℕ) → all ≡ slot_sum + rest + here → taken + under ≡ slot_sum →
          512 * all + asked ≤ one + 512 * (under + here) → past_end + 512 ≤ asked → one ≤ two + (0 + (512 * taken + past_end)) → 512 * rest + 512 ≤ two
      rooms all slot_sum rest here taken under one two past_end asked a b c d e = omega (arith, a, b, c, d, e)

      room_of : (all slot_sum rest here taken under one two : ℕ) → all ≡ slot_sum + rest + here → taken + under ≡ slot_sum →
          512 * all + room_past_end size from to (suc below) ≤ one + 512 * (under + here) →
          stores_past_end size from to below + 512 ≤ room_past_end size from to (suc below) →
          one ≤ two + (0 + (512 * taken + stores_past_end size from to below)) → 512 * rest + 512 ≤ two
      room_of all slot_sum rest here taken under one two a b c d e =
          rooms all slot_sum rest here taken under one two (stores_past_end size from to below) (room_past_end size from to (suc below)) a b c d e
