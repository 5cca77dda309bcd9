-- Going down a tree to its last byte: what is had at each node.
use Rattle.std.proofs.Common.{◌≡◌, ◌≢◌, ◌⊎◌, ℕ, suc, ◌+◌, ◌-◌, ◌*◌, ◌/◌, ◌%◌, ◌<◌, ◌≤◌, min, max, List, [], ◌∷◌, length, get_or, refl, sym, ◌∙◌, ap, subst, arith, inl, inr, get_or-set_same, get_or-set_other, lt-ltb, le-ltb}
use Rattle.std.proofs.lemmas.Bool.{cases_lt}
use Rattle.bp_layout.proofs.MemberLaws.{has-prefix}
use Rattle.bp_layout.specs.Words.{Image, block_of, height_of, slot_word, byte_of}
use Rattle.bp_layout.specs.Tree.{byte, span, HasBlock, IsFull}
use Rattle.bp_layout.specs.Members.{Has}
use Rattle.bp_layout.specs.Stores.{after_stores}
use Rattle.bp_layout.proofs.TreeLaws.{slot_word-at}
use Rattle.bp_changes.proofs.Roots.{null_tree, null_words}
use Rattle.pm_region.specs.Memory.{Memory, current_words}
use Rattle.pm_region.proofs.MemoryLaws.{length-current_words}
use Rattle.pm_region.proofs.MayLaws.{may_frame}
use Rattle.bp_append.specs.Given.{given, given_at}
use Rattle.bp_append.specs.Tally.{tally}
use Rattle.bp_append.specs.Built.{IsBuilt}
use Rattle.bp_append.specs.Filled.{Builds}
use Rattle.bp_append.specs.Visited.{extended, Hangs, AreHung, CanVisit, Visits, IsLast, VisitsSlot}
use Rattle.bp_append.specs.Visited.AreHung.{no_link, one_link}
use Rattle.bp_append.proofs.LaidLaws.{given-before}
use Rattle.bp_append.proofs.IntoLaws.{into_more}
use Rattle.bp_append.proofs.ChildrenLaws.{built_kept, built_as}
use Rattle.bp_append.proofs.FillLaws.{may_length, slot_framed, block_row}
use Rattle.bp_append.proofs.VisitLaws.{slot_views, beside, whole_links, word_bits, kid_own, block_taken, kid_aligned, kid_named, kid_is, null_spine}

pub extended_old : (image : Image) (root size from : ℕ) (raw : List ℕ) (start i : ℕ) → start + i < size → extended image root size from raw start i ≡ byte image root i
extended_old image root size from raw start i low = rw (lt-ltb (start + i) size low) refl

pub extended_new : (image : Image) (root size from : ℕ) (raw : List ℕ) (start i : ℕ) → size ≤ start + i → extended image root size from raw start i ≡ given from raw (start + i)
extended_new image root size from raw start i over = rw (le-ltb (start + i) size over) refl

-- trees for their places stay where the blocks taken for them do
pub hung_kept : {old : Image} (middle new : Image) {root size from to : ℕ} {raw : List ℕ} (taken more : List ℕ) (InPart Part : ℕ → Type 0)
    {links : List (ℕ × ℕ)} → length new ≡ length middle → ((b s : ℕ) → Has taken b → s < 512 → slot_word new b s ≡ slot_word middle b s) →
    ((b : ℕ) → Has taken b → Has more b) → ((place : ℕ) → InPart place → Part place) → AreHung old middle root size from to raw taken InPart links →
    AreHung old new root size from to raw more Part links
hung_kept {old} middle new {root} {size} {from} {to} {raw} taken more InPart Part {links} whole same wider part (no_link e) = no_link e
hung_kept {old} middle new {root} {size} {from} {to} {raw} taken more InPart Part {links} whole same wider part (one_link place pointer e hangs inside) = one_link place pointer e (record {
  depth = hangs.depth;
  index = hangs.index;
  live = hangs.live;
  null = hangs.null;
  present = hangs.present;
  at = hangs.at;
  bits = hangs.bits;
  below = hangs.below;
  inside = λ b m. wider b (hangs.inside b m);
  wanted = hangs.wanted;
  built = built_kept middle new whole (λ b s m few. same b s (hangs.inside b m) few) hangs.built;
}) (part place inside)

module _ {old : Memory} {free_old : List ℕ} {root size below start block slot from to : ℕ}
    (can : CanVisit old free_old root size (suc below) start block from to) (last : IsLast size below start slot) (raw : List ℕ) where
  open (slot_views can last) use {was, begin, low, number, kid}

  place_block : (512 * block + slot) / 512 ≡ block
  place_block = block_row block slot last.few

  -- ---- down through a pointer

  pub slot_of_visit : (new : Memory) (free_new : List ℕ) (links : List (ℕ × ℕ)) → Visits old new free_old free_new root size below begin number from to raw links →
      VisitsSlot old new free_old free_new root size below start block slot from to raw links
  slot_of_visit new free_new links visits = record {
    taken = visits.taken;
    takes = visits.takes;
    counted = visits.counted;
    stores = into_more visits.taken visits.taken _ _ _ _ old new (λ b m. m) (λ w v m. elim m [ inl e ↦ inl e | inr part ↦ inr (record { past_end = part.past_end; has = in_kid (w / 512) part.has }) ]) (omega arith) visits.stores;
    hung = hung_kept (current_words new) (current_words new) visits.taken visits.taken _ _ refl (λ b s m few. refl) (λ b m. m) (λ place has. inl (in_kid (place / 512) has)) visits.hung;
    word = rw same_word (word_bits can last);
    tree = subst (λ r. IsBuilt (after_stores (current_words new) links) r (min (to - begin) (span below)) (extended was kid size from raw begin)
        (λ b. HasBlock was kid (size - begin) b ⊎ Has visits.taken b) (IsFull was kid (size - begin) × (from ≡ size)))
        (e ∙ sym (ap (λ w. w + below) same_word))
        (subst (λ r. IsBuilt (after_stores (current_words new) links) (4096 * number + below) (min (to - begin) (span below)) (extended was r size from raw begin)
        (λ b. HasBlock was r (size - begin) b ⊎ Has visits.taken b) (IsFull was r (size - begin) × (from ≡ size))) e visits.tree);
  }
    where
      e : 4096 * number + below ≡ kid
      e = kid_is can last

      in_kid : (b : ℕ) → HasBlock was (4096 * number + below) (size - begin) b → HasBlock was kid (size - begin) b
      in_kid b has = subst (λ r. HasBlock was r (size - begin) b) e has

      block_free : Has free_old block → ⊥
      block_free = block_taken can last

      not_part : HasBlock was (4096 * number + below) (size - begin) ((512 * block + slot) / 512) → ⊥
      not_part has = kid_own can last (in_kid block (subst (HasBlock was (4096 * number + below) (size - begin)) place_block has))

      same_word : slot_word (after_stores (current_words new) links) block slot ≡ slot_word was block slot
      same_word = slot_framed was (after_stores (current_words new) links) block slot
          (beside visits.hung (current_words new) (512 * block + slot) not_part
          ∙ may_frame _ 0 _ old new visits.stores.part (512 * block + slot)
          (λ v m. elim m [ inl t ↦ block_free (subst (λ f. Has f block) (sym visits.takes) (has-prefix visits.taken free_new block (subst (Has visits.taken) place_block t))) | inr part ↦ not_part part.has ]))

  -- ---- at a null

  -- no pointer is made, or one to given bytes waits
  abbrev Waits : ℕ → List (ℕ × ℕ) → Type 0
  Waits pointer links = ((pointer ≡ 0) × (links ≡ [])) ⊎ ((links ≡ (512 * block + slot, pointer) ∷ []) × (from < low))

  pub slot_of_make : (new : Memory) (free_new : List ℕ) (pointer : ℕ) (links : List (ℕ × ℕ)) → number ≡ 0 →
      Builds old new free_old free_new pointer below (min (to - begin) (span below)) (given_at from raw begin) (from ≤ begin)
      (tally (suc below) (max from begin) (min to low)) →
      Waits pointer links → VisitsSlot old new free_old free_new root size below start block slot from to raw links
  slot_of_make new free_new pointer links null built which = record {
    taken = built.taken;
    takes = built.takes;
    counted = sums _ _ _ built.counted (null_spine can last null);
    stores = into_more built.taken built.taken _ _ _ _ old new (λ b m. m) (λ w v m. inl m) (more _ _ _ built.counted) built.stores;
    hung = hung which;
    word = rw here built.bits;
    tree = subst (λ w. IsBuilt (after_stores (current_words new) links) (w + below) (min (to - begin) (span below)) (extended was kid size from raw begin)
        (λ b. HasBlock was kid (size - begin) b ⊎ Has built.taken b) (IsFull was kid (size - begin) × (from ≡ size))) (sym here)
        (built_as (after_stores (current_words new) links) (pointer + below) (min (to - begin) (span below)) (given_at from raw begin) (extended was kid size from raw begin) (Has built.taken)
        (λ b. HasBlock was kid (size - begin) b ⊎ Has built.taken b) (from ≤ begin) (IsFull was kid (size - begin) × (from ≡ size))
        (λ i low. sym (same_byte i (cases_lt (begin + i) size))) (λ b m. inr m) (λ b m. elim m [ inl has ↦ absurd (no_block b has) | inr t ↦ t ]) (λ full. absurd (not_full full.0))
        (built_kept (current_words new) (after_stores (current_words new) links) (whole_links links (current_words new))
        (λ b s m few. slot_framed (current_words new) (after_stores (current_words new) links) b s (other which (512 * b + s) (λ e. not_block b m (omega (arith, e, few, last.few))))) built.tree));
  }
    where
      sums : (a b c : ℕ) → a ≡ c → b ≡ 0 → a + b ≡ c
      sums a b c p q = omega (arith, p, q)

      more : (a b own : ℕ) → a ≡ b → 512 * b ≤ 512 * a + own
      more a b own e = omega (arith, e)

      not_block : (b : ℕ) → Has built.taken b → b ≢ block
      not_block b m e = block_taken can last (subst (λ f. Has f block) (sym built.takes) (has-prefix built.taken free_new block (subst (Has built.taken) e m)))

      word_null : slot_word was block slot ≡ 0
      word_null = let bits = word_bits can last in omega (arith, bits, null)

      other : Waits pointer links → (p : ℕ) → p ≢ 512 * block + slot → get_or (after_stores (current_words new) links) p 0 ≡ get_or (current_words new) p 0
      other (inl both) p out = rw both.1 refl
      other (inr link) p out = rw link.0 (get_or-set_other (current_words new) (512 * block + slot) p pointer 0 out)

      in_image : 512 * block + slot < length (current_words new)
      in_image =
          let same = may_length _ 0 _ old new built.stores.part in
          let base = length-current_words old in
          omega (arith, same, base, can.in_range, last.few)

      here : slot_word (after_stores (current_words new) links) block slot ≡ pointer
      here = slot_word-at (after_stores (current_words new) links) block slot (λ e. omega (arith, e, can.some_block)) ∙ go which
        where
          go : Waits pointer links → get_or (after_stores (current_words new) links) (512 * block + slot) 0 ≡ pointer
          go (inl both) = rw both.1
              (may_frame _ 0 _ old new built.stores.part (512 * block + slot) (λ v m. not_block block (subst (Has built.taken) place_block m) refl)
              ∙ sym (slot_word-at was block slot (λ e. omega (arith, e, can.some_block))) ∙ word_null ∙ sym both.0)
          go (inr link) = rw link.0 (get_or-set_same (current_words new) (512 * block + slot) pointer 0 in_image)

      kid_null : block_of kid ≡ 0
      kid_null = rw word_null (omega (arith, can.low))

      same_byte : (i : ℕ) → (begin + i < size) ⊎ (size ≤ begin + i) → extended was kid size from raw begin i ≡ given_at from raw begin i
      same_byte i (inl low) = extended_old was kid size from raw begin i low
          ∙ ap (λ w. byte_of w (i % 8)) (null_words was kid kid_null (height_of kid) (i / 8)) ∙ zero_byte (i % 8)
          ∙ sym (given-before from raw (begin + i) (omega (arith, low, can.past_end)))
        where
          zero_byte : (c : ℕ) → byte_of 0 c ≡ 0
          zero_byte c = omega arith
      same_byte i (inr over) = extended_new was kid size from raw begin i over

      no_block : (b : ℕ) → HasBlock was kid (size - begin) b → ⊥
      no_block b has = has.not_null (sym has.named ∙ null_tree was kid kid_null has.depth has.index)

      not_full : IsFull was kid (size - begin) → ⊥
      not_full full = full 0 0 (record { level = height_of kid; height = omega arith; live = omega (arith, last.begun) }) (null_tree was kid kid_null 0 0)

      hangs : from < low → Hangs was (current_words new) root size from to (512 * block + slot) pointer raw built.taken
      hangs wanted =
          let row : (can.index * 512 + slot) / 512 ≡ can.index = omega (arith, last.few) in
          let column : (can.index * 512 + slot) % 512 ≡ slot = omega (arith, last.few) in
          let aligned = kid_aligned can last in
          record {
            depth = can.depth;
            index = can.index * 512 + slot;
            live = record { level = below; height = omega (arith, can.height); live = omega (arith, aligned, last.begun) };
            null = kid_named can last ∙ null;
            present = λ e. omega (arith, sym (rw row at e) ∙ can.named, can.some_block);
            at = rw (row, column, can.named) refl;
            bits = built.bits;
            below = built.taken;
            inside = λ b m. m;
            wanted = omega (arith, wanted, aligned);
            built = subst (λ o. IsBuilt (current_words new) (pointer + below) (min (to - o) (span below)) (given_at from raw o) (Has built.taken) (from ≤ o)) aligned built.tree;
          }

      hung : Waits pointer links → AreHung was (current_words new) root size from to raw built.taken
          (λ place. HasBlock was kid (size - begin) (place / 512) ⊎ (place ≡ 512 * block + slot)) links
      hung (inl both) = no_link both.1
      hung (inr link) = one_link (512 * block + slot) pointer link.0 (hangs link.1) (inr refl)
