-- The slots of a node whose last slot was gone through and that is filled after it.
use Rattle.std.proofs.Common.{◌≡◌, ◌≢◌, ◌⊎◌, ℕ, ◌+◌, ◌-◌, ◌*◌, ◌<◌, ◌≤◌, min, List, refl, sym, ◌∙◌, ap, subst, subst₂, arith, inl, inr, mul-le-mul_right, lt_of_mul-lt-mul_right}
use Rattle.std.proofs.lemmas.Bool.{cases_lt}
use Rattle.bp_layout.specs.Words.{Image, slot_word}
use Rattle.bp_layout.specs.Tree.{byte, span, IsFull}
use Rattle.bp_layout.specs.Members.{Has}
use Rattle.bp_layout.specs.Pieces.{piece, child}
use Rattle.bp_layout.specs.Stores.{after_stores}
use Rattle.bp_layout.proofs.Pieces.{joined_byte}
use Rattle.pm_region.specs.Memory.{Memory}
use Rattle.bp_append.specs.Given.{given, given_at}
use Rattle.bp_append.specs.Built.{IsBuilt, InSlot, Children}
use Rattle.bp_append.specs.Visited.{extended}
use Rattle.bp_append.proofs.TallyLaws.{span-suc, span-positive}
use Rattle.bp_append.proofs.ChildrenLaws.{built_kept, built_as, children_one, children_as, children_kept, children_bytes}
use Rattle.bp_append.proofs.FillLaws.{slot_framed}
use Rattle.bp_append.proofs.VisitLaws.{slot_views, top_number, shape, ends, whole_links, alike, inside_slot, piece_is, kid_full, top_block}
use Rattle.bp_append.proofs.VisitDone.{extended_old, extended_new}
use Rattle.bp_append.proofs.GoesOn.{GoesOn, views, Has_kid, early, length_to, now, sound_before, not_free, in_first, in_second, apart_taken, block_free, kid_in, own, past_end_slot, same_second, same_links, whole_second, now_length, from_old}

module _ {old middle new : Memory} {free_old free_middle free_new : List ℕ} {root size below start block slot from to : ℕ} {raw : List ℕ}
    {links : List (ℕ × ℕ)}
    (goes : GoesOn old middle new free_old free_middle free_new root size below start block slot from to raw links) where
  open goes use {can, last, visits, fills}
  open (slot_views can last) use {was, top, begin, low, kid}
  open (views goes) use {halfway, later, down, past_end}

  abbrev linked : Image
  linked = after_stores halfway links

  abbrev new_kid : ℕ
  new_kid = child linked block below slot

  -- the slots that begin before this one, this one, and those that begin after it
  abbrev pub Early_slots : ℕ → Type 0
  Early_slots c = c < slot

  abbrev pub This_slot : ℕ → Type 0
  This_slot c = c ≡ slot

  abbrev pub Late_slots : ℕ → Type 0
  Late_slots c = low ≤ start + c * span below

  -- the node is full, and nothing lies between its end and the given bytes
  abbrev pub Full : Type 0
  Full = IsFull was top (size - start) × (from ≡ size)

  abbrev pub now_bytes : ℕ → ℕ
  now_bytes = extended was top size from raw start

  old_bytes : (i : ℕ) → start + i < size → byte was top i ≡ now_bytes i
  old_bytes i low = sym (extended_old was top size from raw start i low)

  given_bytes : (i : ℕ) → size ≤ start + i → given from raw (start + i) ≡ now_bytes i
  given_bytes i over = sym (extended_new was top size from raw start i over)

  -- ---- the slots before it

  pub children_early : Children (now goes) block below (length_to goes) Early_slots now_bytes (InSlot was block below (size - start) Early_slots) Full
  children_early =
      children_as (now goes) block below (length_to goes) Early_slots Early_slots now_bytes _ _ (IsFull was top (size - start)) Full (λ c in_size at. at)
      (λ c in_size at. at) (λ x m. m) (λ x m. m) (λ full. full.0) kept
    where
      small : (c i : ℕ) → c < slot → i < piece (length_to goes) below c → start + (c * span below + i) < size
      small c i less inside =
          let up : (c + 1) * span below ≤ slot * span below = mul-le-mul_right (span below) (omega (arith, less)) in
          let step : (c + 1) * span below ≡ c * span below + span below = grind arith in
          omega (arith, up, step, inside, last.begun)

      kept : Children (now goes) block below (length_to goes) Early_slots now_bytes (InSlot was block below (size - start) Early_slots)
          (IsFull was top (size - start))
      kept =
          children_kept (now goes)
          (children_bytes (byte was top) now_bytes (λ c i less in_size inside. old_bytes (c * span below + i) (small c i less inside)) (sound_before goes))
          (now_length goes)
          (λ x k m few.
          let e = early goes x m in
          slot_framed was (now goes) x k (from_old goes x k few e.old_block e.not_kid (λ same. absurd (e.not_top same))))
          (λ c less in_size.
          let few : c < 512 = omega (arith, less, last.few) in
          slot_framed was (now goes) block c (from_old goes block c few (top_block can last) (own goes) (λ e. less)))

  -- ---- the slot

  abbrev pub Members : ℕ → Type 0
  Members x = Has_kid goes x ⊎ Has down x

  -- nothing that is filled is in the slot
  pub slot_apart : (x : ℕ) → Members x → Has past_end x → ⊥
  slot_apart x m t = elim m [ inl has ↦ not_free goes x (kid_in goes x has) (in_second goes x t) | inr one ↦ apart_taken goes x one t ]

  pub slot_below : (x : ℕ) → Members x → x ≢ block
  slot_below x m e = elim m [
    | inl has ↦ own goes (subst (Has_kid goes) e has)
    | inr one ↦ block_free goes (subst (Has free_old) e (in_first goes x one))
  ]

  alike_later : (x k : ℕ) → k < 512 → (Has past_end x → ⊥) → (x ≡ block → k ≤ slot) → slot_word (now goes) x k ≡ slot_word linked x k
  alike_later x k few out before =
      slot_framed linked (now goes) x k (alike links later halfway (512 * x + k) (whole_second goes) (same_second goes x k few out before))

  now_slot : slot_word (now goes) block slot ≡ slot_word linked block slot
  now_slot = alike_later block slot last.few (λ t. block_free goes (in_second goes block t)) (λ e. omega arith)

  pub children_slot : Children (now goes) block below (length_to goes) This_slot now_bytes Members Full
  children_slot =
      children_one (now goes) block below (length_to goes) slot now_bytes Members Full (rw now_slot visits.word) inside
      (subst₂ (λ w z. IsBuilt (now goes) (w + below) z (λ i. now_bytes (slot * span below + i)) Members Full) (sym now_slot) sizes built)
    where
      inside : slot * span below < length_to goes
      inside = omega (arith, last.begun, can.order, ends can last, span-suc below, span-positive below)

      sizes : min (to - begin) (span below) ≡ piece (length_to goes) below slot
      sizes = omega (arith, ends can last, span-suc below)

      same_byte : (i : ℕ) → (begin + i < size) ⊎ (size ≤ begin + i) → extended was kid size from raw begin i ≡ now_bytes (slot * span below + i)
      same_byte i (inl low) =
          let joined = joined_byte was top (size - start) below (shape can last) slot i (inside_slot can last) (rw (piece_is can last) (omega (arith, low))) in
          extended_old was kid size from raw begin i low
          ∙ ap (λ b. byte was (child was b below slot) i) (sym (top_number can last))
          ∙ sym joined
          ∙ old_bytes (slot * span below + i) (omega (arith, low))
      same_byte i (inr over) =
          extended_new was kid size from raw begin i over
          ∙ ap (given from raw) (shift start (slot * span below) i)
          ∙ given_bytes (slot * span below + i) (omega (arith, over))
        where
          shift : (a b i : ℕ) → a + b + i ≡ a + (b + i)
          shift a b i = omega arith

      kept : IsBuilt (now goes) new_kid (min (to - begin) (span below)) (extended was kid size from raw begin) Members
          (IsFull was kid (size - begin) × (from ≡ size))
      kept =
          built_kept linked (now goes) (whole_links links later ∙ whole_second goes ∙ sym (whole_links links halfway))
          (λ x k m few. alike_later x k few (slot_apart x m) (λ e. absurd (slot_below x m e))) visits.tree

      built : IsBuilt (now goes) new_kid (min (to - begin) (span below)) (λ i. now_bytes (slot * span below + i)) Members Full
      built =
          built_as (now goes) new_kid (min (to - begin) (span below)) (extended was kid size from raw begin) (λ i. now_bytes (slot * span below + i)) Members
          Members (IsFull was kid (size - begin) × (from ≡ size)) Full (λ i low. same_byte i (cases_lt (begin + i) size)) (λ x m. m) (λ x m. m)
          (λ full. (kid_full can last full.0, full.1)) kept

  -- ---- the slots after it

  pub children_late : Children (now goes) block below (length_to goes) Late_slots now_bytes (Has past_end) Full
  children_late =
      children_as (now goes) block below (length_to goes) Late_slots Late_slots now_bytes (Has past_end) (Has past_end) (from ≤ low) Full (λ c in_size at. at)
      (λ c in_size at. at) (λ x m. m) (λ x m. m) (λ full. omega (arith, full.1, last.ends)) kept
    where
      slot_few : (c : ℕ) → c * span below < length_to goes → c < 512
      slot_few c in_size = let less : c * span below < 512 * span below = omega (arith, in_size, span-suc below) in lt_of_mul-lt-mul_right (span below) less

      no_link : (x k : ℕ) → k < 512 → (Has_kid goes x → ⊥) → (x ≡ block → k ≢ slot) → slot_word (now goes) x k ≡ slot_word later x k
      no_link x k few beyond other = slot_framed later (now goes) x k (same_links goes later x k few beyond other)

      kept : Children (now goes) block below (length_to goes) Late_slots now_bytes (Has past_end) (from ≤ low)
      kept =
          children_kept (now goes)
          (children_bytes (given_at from raw start) now_bytes (λ c i over in_size inside. given_bytes (c * span below + i) (omega (arith, over, last.ends)))
          (fills.slots below refl)) (whole_links links later)
          (λ x k m few.
          no_link x k few (λ has. not_free goes x (kid_in goes x has) (in_second goes x m))
          (λ e. absurd (block_free goes (subst (Has free_old) e (in_second goes x m)))))
          (λ c over in_size. no_link block c (slot_few c in_size) (own goes) (λ e same. let less = past_end_slot goes c over in omega (arith, less, same)))
