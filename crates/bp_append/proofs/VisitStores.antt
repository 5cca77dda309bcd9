-- What is stored at a node whose last slot was gone through and that is filled after it.
use Rattle.std.proofs.Common.{◌≡◌, ◌⊎◌, ℕ, suc, ◌+◌, ◌-◌, ◌*◌, ◌/◌, ◌%◌, ◌<◌, List, ◌++◌, refl, sym, ◌∙◌, ap, subst, arith, inl, inr}
use Rattle.bp_layout.proofs.MemberLaws.{has-after, has-prefix}
use Rattle.bp_layout.specs.Words.{slot_word}
use Rattle.bp_layout.specs.Tree.{span}
use Rattle.bp_layout.specs.Members.{Has}
use Rattle.pm_region.specs.Memory.{Memory}
use Rattle.bp_append.specs.Built.{InBlocks}
use Rattle.bp_append.specs.Filled.{FillsIn}
use Rattle.bp_append.specs.Visited.{IsPastEndOfPart}
use Rattle.bp_append.proofs.TallyLaws.{span-suc}
use Rattle.bp_append.proofs.FillLaws.{slot_framed, block_row}
use Rattle.bp_append.proofs.VisitLaws.{slot_views, top_block}
use Rattle.bp_append.proofs.GoesOn.{GoesOn, views, Has_kid, Has_old, in_first, apart_taken, block_free, kid_in, same_second}

module _ {old middle new : Memory} {free_old free_middle free_new : List ℕ} {root size below start block slot from to : ℕ} {raw : List ℕ}
    {links : List (ℕ × ℕ)}
    (goes : GoesOn old middle new free_old free_middle free_new root size below start block slot from to raw links) where
  open goes use {can, last}
  open (slot_views can last) use {was, top, begin, low, kid}
  open (views goes) use {halfway, later, down, past_end}

  node_past_end : (place value : ℕ) → FillsIn halfway block (suc below) start low place value → IsPastEndOfPart was root size top (size - start) place value
  node_past_end place value filled =
      let slot_number = 512 * can.index + filled.slot in
      let row : slot_number / 512 ≡ can.index = omega (arith, filled.few) in
      let column : slot_number % 512 ≡ filled.slot = omega (arith, filled.few) in
      let inside : place / 512 ≡ block = omega (arith, filled.at, filled.few) in
      let over = filled.node below refl in
      let aligned : start ≡ can.index * (512 * span below) = can.aligned ∙ ap (λ n. can.index * n) (span-suc below) in
      let number : slot_number * span below ≡ start + filled.slot * span below = numbers can.index filled.slot (span below) aligned in
      record {
        past_end = record {
          depth = can.depth;
          index = slot_number;
          parent = record { level = suc below; height = can.height; live = rw row (omega (arith, can.aligned, can.begun)) };
          present = λ e. omega (arith, sym (rw row at e) ∙ can.named, can.some_block);
          at = rw (row, column, can.named) filled.at;
          no_pointer = λ live.
              let level : live.level ≡ below = omega (arith, live.height, can.height) in
              let less = subst (λ l. slot_number * span l < size) level live.live in
              omega (arith, less, number, over, last.ends);
          ends = λ bottom. absurd (omega (arith, bottom, can.height));
          kept = λ c bottom few below. absurd (omega (arith, bottom, can.height));
        };
        has = subst (Has_old goes) (sym inside) (top_block can last);
      }
    where
      numbers : (index slot s : ℕ) → start ≡ index * (512 * s) → (512 * index + slot) * s ≡ start + slot * s
      numbers index slot s e = grind (arith, e)

  -- what may be stored at the node and below it
  abbrev pub May : ℕ → ℕ → Type 0
  May place value = InBlocks (down ++ past_end) place ⊎ IsPastEndOfPart was root size top (size - start) place value

  pub may_down : (place value : ℕ) → InBlocks down place ⊎ IsPastEndOfPart was root size kid (size - begin) place value → May place value
  may_down place value (inl t) = inl (has-prefix down past_end (place / 512) t)
  may_down place value (inr part) = inr (record { past_end = part.past_end; has = kid_in goes (place / 512) part.has })

  pub may_past_end : (place value : ℕ) → InBlocks past_end place ⊎ FillsIn halfway block (suc below) start low place value → May place value
  may_past_end place value (inl t) = inl (has-after down past_end (place / 512) t)
  may_past_end place value (inr filled) = inr (node_past_end place value filled)

  pub hung_in : (place : ℕ) → Has_kid goes (place / 512) ⊎ (place ≡ 512 * block + slot) → Has_old goes (place / 512)
  hung_in place (inl has) = kid_in goes (place / 512) has
  hung_in place (inr e) = subst (Has_old goes) (sym (ap (λ p. p / 512) e ∙ block_row block slot last.few)) (top_block can last)

  pub still : (x k : ℕ) → Has down x → k < 512 → slot_word later x k ≡ slot_word halfway x k
  still x k t few =
      slot_framed halfway later x k
      (same_second goes x k few (λ n. apart_taken goes x t n) (λ e. absurd (block_free goes (subst (Has free_old) e (in_first goes x t)))))
