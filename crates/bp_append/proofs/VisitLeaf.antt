-- Going down a tree to its last byte: a leaf.
use Rattle.std.proofs.Common.{◌≡◌, ◌≢◌, ◌⊎◌, ℕ, ◌+◌, ◌-◌, ◌*◌, ◌/◌, ◌%◌, ◌<◌, ◌≤◌, min, List, [], ◌∷◌, length, get_or, refl, sym, ◌∙◌, ap, arith, inl, inr}
use Rattle.std.proofs.lemmas.Bool.{cases_lt}
use Rattle.bp_layout.specs.Words.{Image, block_of, height_of, slot_word, byte_of}
use Rattle.bp_layout.specs.Tree.{byte, span, HasBlock, IsFull}
use Rattle.bp_layout.specs.Members.{Has}
use Rattle.bp_layout.proofs.TreeLaws.{slot_word-at}
use Rattle.bp_layout.proofs.SmallTrees.{node-zero, content_word-leaf, one_live}
use Rattle.pm_region.specs.Memory.{Memory, current_words}
use Rattle.pm_region.proofs.MemoryLaws.{length-current_words}
use Rattle.pm_region.proofs.MayLaws.{each_after}
use Rattle.bp_append.specs.Given.{given_at}
use Rattle.bp_append.specs.Built.{InBlocks}
use Rattle.bp_append.specs.Filled.{FillsIn, CanFill, FillsFrom}
use Rattle.bp_append.specs.Visited.{extended, IsPastEndOfPart, CanVisit, Visits}
use Rattle.bp_append.specs.Visited.AreHung.{no_link}
use Rattle.bp_append.proofs.IntoLaws.{into_more}
use Rattle.bp_append.proofs.StoresLaws.{past_end_leaf, room_past_end_leaf}
use Rattle.bp_append.proofs.ChildrenLaws.{built_as, built_leaf}
use Rattle.bp_append.proofs.FillLaws.{may_length}
use Rattle.bp_append.proofs.VisitLaws.{met_here}
use Rattle.bp_append.proofs.VisitDone.{extended_old, extended_new}

pub leaf_can : {memory : Memory} {free : List ℕ} {root size start block from to : ℕ} → CanVisit memory free root size 0 start block from to →
    CanFill memory free block 0 start size from to
leaf_can {memory} {free} {root} {size} {start} {block} {from} {to} can = record {
  flat = omega arith;
  index = can.index;
  aligned = can.aligned;
  order = omega (arith, can.begun);
  inside = can.inside;
  leaf = λ e. can.order;
  first = 0;
  node = λ below e. absurd (omega (arith, e));
  begun = omega (arith, can.begun, can.order);
  few = can.few;
  few_to = can.few_to;
  some_block = can.some_block;
  in_range = can.in_range;
  outside = λ m. can.outside block m (record {
    depth = 0;
    index = 0;
    pointer = record { level = 0; height = omega arith; live = omega (arith, can.begun) };
    named = node-zero (current_words memory) (4096 * block + 0) 0 0 refl ∙ omega arith;
    not_null = λ e. omega (arith, e, can.some_block);
  });
  usable = can.usable;
  enough = omega arith;
  room = room_of _ _ _ _ (met_here can) (room_past_end_leaf size from to) can.room;
}
  where
    room_of : (counted here asked room : ℕ) → counted ≡ here → asked ≡ 512 → 512 * (0 + counted) + asked ≤ room + 512 * (0 + here) → 512 * 0 + 512 ≤ room
    room_of counted here asked room e f h = omega (arith, e, f, h)

module _ {old new : Memory} {free free_new : List ℕ} {root size start block from to : ℕ} (raw : List ℕ)
    (can : CanVisit old free root size 0 start block from to)
    (fills : FillsFrom old new free free_new block 0 start size from to (given_at from raw start)) where
  abbrev was : Image
  was = current_words old

  abbrev later : Image
  later = current_words new

  abbrev leaf : ℕ
  leaf = 4096 * block + 0

  -- the leaf is full, and nothing lies between its end and the given bytes
  abbrev Full : Type 0
  Full = IsFull was leaf (size - start) × (from ≡ size)

  abbrev now_bytes : ℕ → ℕ
  now_bytes = extended was leaf size from raw start

  leaf_present : block ≢ 0
  leaf_present e = omega (arith, e, can.some_block)

  leaf_root : block_of leaf ≡ block
  leaf_root = omega arith

  leaf_fits : size - start ≤ 4096
  leaf_fits = omega (arith, can.inside)

  same_length : length later ≡ length was
  same_length = may_length _ 0 _ old new fills.stores.part

  leaf_has : (x : ℕ) → x ≡ block → HasBlock was leaf (size - start) x
  leaf_has x e = record {
    depth = 0;
    index = 0;
    pointer = record { level = 0; height = omega arith; live = omega (arith, can.begun) };
    named = node-zero was leaf 0 0 refl ∙ leaf_root ∙ sym e;
    not_null = λ z. leaf_present (sym e ∙ z);
  }

  leaf_only : (x : ℕ) → HasBlock was leaf (size - start) x → x ≡ block
  leaf_only x has =
      let top = one_live leaf (size - start) has.depth has.index (omega arith) leaf_fits has.pointer in
      sym has.named ∙ node-zero was leaf has.depth has.index top.0 ∙ leaf_root

  none_taken : (x : ℕ) → Has fills.taken x → ⊥
  none_taken x m = go fills.taken fills.counted m
    where
      go : (xs : List ℕ) → length xs ≡ 0 → Has xs x → ⊥
      go [] e m = m
      go (y ∷ ys) e m = omega (arith, e)

  old_byte : (i : ℕ) → start + i < size → byte was leaf i ≡ byte_of (get_or was (512 * block + i / 8) 0) (i % 8)
  old_byte i low =
      let flat : height_of leaf ≡ 0 = omega arith in
      let column : i / 8 % 512 ≡ i / 8 = omega (arith, low, can.inside) in
      let word = content_word-leaf was leaf (i / 8) flat ∙ rw (leaf_root, column) refl ∙ slot_word-at was block (i / 8) leaf_present in
      ap (λ w. byte_of w (i % 8)) word

  -- a word is as it was, or the filling stored it
  abbrev StoresOnly : ℕ → Type 0
  StoresOnly p = (get_or later p 0 ≡ get_or was p 0) ⊎ (InBlocks fills.taken p ⊎ FillsIn was block 0 start size p (get_or later p 0))

  bytes_now : (i : ℕ) → i < min (to - start) (span 0) → byte_of (slot_word later block (i / 8)) (i % 8) ≡ now_bytes i
  bytes_now i small = go (cases_lt (start + i) size)
    where
      kept : start + i < size → StoresOnly (512 * block + i / 8) →
          byte_of (get_or later (512 * block + i / 8) 0) (i % 8) ≡ byte_of (get_or was (512 * block + i / 8) 0) (i % 8)
      kept low (inl same) = ap (λ w. byte_of w (i % 8)) same
      kept low (inr (inl m)) = absurd (none_taken _ m)
      kept low (inr (inr filled)) =
          let slot : filled.slot ≡ i / 8 = omega (arith, filled.at) in
          filled.kept refl (i % 8) (omega arith) (omega (arith, slot, low))

      go : (start + i < size) ⊎ (size ≤ start + i) → byte_of (slot_word later block (i / 8)) (i % 8) ≡ now_bytes i
      go (inl low) =
          ap (λ w. byte_of w (i % 8)) (slot_word-at later block (i / 8) leaf_present)
          ∙ kept low ((each_after _ 0 _ old new fills.stores.part).each (512 * block + i / 8))
          ∙ sym (old_byte i low)
          ∙ sym (extended_old was leaf size from raw start i low)
      go (inr over) = fills.leaf refl i over small ∙ sym (extended_new was leaf size from raw start i over)

  past_end : (place value : ℕ) → FillsIn was block 0 start size place value → IsPastEndOfPart was root size leaf (size - start) place value
  past_end place value filled =
      let row : (512 * can.index + filled.slot) / 512 ≡ can.index = omega (arith, filled.few) in
      let column : (512 * can.index + filled.slot) % 512 ≡ filled.slot = omega (arith, filled.few) in
      let inside : place / 512 ≡ block = omega (arith, filled.at, filled.few) in
      record {
        past_end = record {
          depth = can.depth;
          index = 512 * can.index + filled.slot;
          parent = record { level = 0; height = can.height; live = rw row (omega (arith, can.aligned, can.begun)) };
          present = λ e. leaf_present (sym can.named ∙ rw row at e);
          at = rw (row, column, can.named) filled.at;
          no_pointer = λ live. omega (arith, live.height, can.height);
          ends = λ bottom. let over = filled.leaf refl in omega (arith, over, can.aligned);
          kept = λ c bottom few low. filled.kept refl c few (omega (arith, low, can.aligned));
        };
        has = leaf_has (place / 512) inside;
      }

  pub visit_leaf : Visits old new free free_new root size 0 start block from to raw []
  visit_leaf = record {
    taken = fills.taken;
    takes = fills.takes;
    counted = sums _ _ _ fills.counted (met_here can);
    stores = into_more fills.taken fills.taken _ _ _ _ old new (λ b m. m) may (most _ _ (past_end_leaf size from to) fills.few) fills.stores;
    hung = no_link refl;
    tree = built_as later leaf (min (to - start) (span 0)) now_bytes now_bytes (λ x. x ≡ block)
        (λ b. HasBlock was leaf (size - start) b ⊎ Has fills.taken b) Full Full
        (λ i low. refl) (λ b e. inl (leaf_has b e)) (λ b m. elim m [ inl has ↦ leaf_only b has | inr t ↦ absurd (none_taken b t) ]) (λ p. p)
        (built_leaf later block (min (to - start) (span 0)) now_bytes Full leaf_present (omega (arith, can.in_range, same_length, length-current_words old))
        (omega (arith, can.begun, can.order)) (omega arith) bytes_now);
  }
    where
      may : (place value : ℕ) → InBlocks fills.taken place ⊎ FillsIn was block 0 start size place value →
          InBlocks fills.taken place ⊎ IsPastEndOfPart was root size leaf (size - start) place value
      may place value (inl t) = inl t
      may place value (inr filled) = inr (past_end place value filled)

      sums : (taken here counted : ℕ) → taken ≡ 0 → counted ≡ here → taken + (0 + here) ≡ 0 + counted
      sums taken here counted p q = omega (arith, p, q)

      most : (own past_end : ℕ) → past_end ≡ 512 → own ≤ 512 → 512 * 0 + own ≤ 512 * length fills.taken + past_end
      most own past_end e few = omega (arith, e, few)
