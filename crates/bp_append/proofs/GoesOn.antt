-- What going down through the last slot of a node, and filling it after the slot, leaves as it was.
use Rattle.std.proofs.Common.{◌≡◌, ◌≢◌, ℕ, suc, ◌+◌, ◌-◌, ◌*◌, ◌<◌, ◌≤◌, min, List, length, get_or, refl, sym, ◌∙◌, subst, subst₂, arith, inl, inr, mul-le-mul_right}
use Rattle.std.proofs.lemmas.Bool.{cases_lt}
use Rattle.bp_layout.proofs.MemberLaws.{has-after, has-prefix}
use Rattle.bp_layout.specs.Words.{Image, block_of}
use Rattle.bp_layout.specs.Tree.{byte, span, HasBlock, IsFull}
use Rattle.bp_layout.specs.Members.{Has}
use Rattle.bp_layout.specs.Pieces.{piece, child}
use Rattle.bp_layout.specs.Stores.{after_stores}
use Rattle.bp_layout.proofs.Pieces.{child_block}
use Rattle.pm_region.specs.Memory.{Memory, current_words}
use Rattle.pm_region.proofs.MayLaws.{may_frame}
use Rattle.bp_append.specs.Given.{given_at}
use Rattle.bp_append.specs.Built.{InSlot, Children}
use Rattle.bp_append.specs.Filled.{FillsFrom}
use Rattle.bp_append.specs.Visited.{CanVisit, IsLast, VisitsSlot}
use Rattle.bp_append.proofs.TallyLaws.{span-positive}
use Rattle.bp_append.proofs.ChildrenLaws.{children_before}
use Rattle.bp_append.proofs.FillLaws.{may_length, apart_parts, block_row}
use Rattle.bp_append.proofs.VisitLaws.{slot_views, top_number, shape, present, parts, beside, whole_links, inside_slot, piece_is, kid_block, kid_own, block_taken}

-- Going down through the last slot of a node, and filling it after the slot: what each asks for and gives.
pub record GoesOn (old middle new : Memory) (free_old free_middle free_new : List ℕ) (root size below start block slot from to : ℕ) (raw : List ℕ)
    (links : List (ℕ × ℕ)) : Type 0 where
  pub can : CanVisit old free_old root size (suc below) start block from to
  pub last : IsLast size below start slot
  pub visits : VisitsSlot old middle free_old free_middle root size below start block slot from to raw links
  pub fills : FillsFrom middle new free_middle free_new block (suc below) start (start + slot * span below + span below) from to (given_at from raw start)

-- what the lemmas about it speak of
pub record Views : Type 0 where
  -- the words between the two, and after both
  pub halfway : Image
  pub later : Image
  -- the blocks that going down took, and those that the filling took
  pub down : List ℕ
  pub past_end : List ℕ

module _ {old middle new : Memory} {free_old free_middle free_new : List ℕ} {root size below start block slot from to : ℕ} {raw : List ℕ}
    {links : List (ℕ × ℕ)}
    (goes : GoesOn old middle new free_old free_middle free_new root size below start block slot from to raw links) where
  open goes use {can, last, visits, fills}
  open (slot_views can last) use {was, top, begin, low, kid}

  abbrev pub views : Views
  views = record { halfway = current_words middle; later = current_words new; down = visits.taken; past_end = fills.taken }

  open views use {halfway, later, down, past_end}

  -- the blocks of the node before it, and those of the part in the slot
  abbrev pub Has_old : ℕ → Type 0
  Has_old x = HasBlock was top (size - start) x

  abbrev pub Has_kid : ℕ → Type 0
  Has_kid x = HasBlock was kid (size - begin) x

  -- the words once the links are stored
  abbrev pub now : Image
  now = after_stores later links

  abbrev pub length_to : ℕ
  length_to = min (to - start) (span (suc below))

  pub not_free : (x : ℕ) → Has_old x → Has free_old x → ⊥
  not_free x has m = can.outside x m has

  pub in_first : (x : ℕ) → Has down x → Has free_old x
  in_first x m = subst (λ f. Has f x) (sym visits.takes) (has-prefix down free_middle x m)

  in_middle : (x : ℕ) → Has past_end x → Has free_middle x
  in_middle x m = subst (λ f. Has f x) (sym fills.takes) (has-prefix past_end free_new x m)

  pub in_second : (x : ℕ) → Has past_end x → Has free_old x
  in_second x m = subst (λ f. Has f x) (sym visits.takes) (has-after down free_middle x (in_middle x m))

  pub apart_taken : (x : ℕ) → Has down x → Has past_end x → ⊥
  apart_taken x m n = apart_parts down free_middle x (rw visits.takes at can.usable.apart) m (in_middle x n)

  pub block_free : Has free_old block → ⊥
  block_free = block_taken can last

  pub kid_in : (x : ℕ) → Has_kid x → Has_old x
  kid_in = kid_block can last

  pub own : Has_kid block → ⊥
  own = kid_own can last

  -- the slots that are filled lie after the slot
  pub past_end_slot : (c : ℕ) → low ≤ start + c * span below → slot < c
  past_end_slot c over = elim (cases_lt slot c) [
    | inl less ↦ less
    | inr more ↦
        let up : c * span below ≤ slot * span below = mul-le-mul_right (span below) more in
        absurd (omega (arith, up, over, span-positive below))
  ]

  -- words of blocks where the filling stores nothing
  pub same_second : (x k : ℕ) → k < 512 → (Has past_end x → ⊥) → (x ≡ block → k ≤ slot) →
      get_or later (512 * x + k) 0 ≡ get_or halfway (512 * x + k) 0
  same_second x k few out before = may_frame _ 0 _ middle new fills.stores.part (512 * x + k) (λ v m. elim m [
    | inl t ↦ out (subst (Has past_end) (block_row x k few) t)
    | inr filled ↦
        let here : x ≡ block = omega (arith, filled.at, filled.few, few) in
        let at : filled.slot ≡ k = omega (arith, filled.at, filled.few, few, here) in
        let over = past_end_slot filled.slot (filled.node below refl) in
        omega (arith, before here, at, over)
  ])

  -- words of blocks where going down stores nothing
  same_first : (x k : ℕ) → k < 512 → (Has down x → ⊥) → (Has_kid x → ⊥) → get_or halfway (512 * x + k) 0 ≡ get_or was (512 * x + k) 0
  same_first x k few out beyond = may_frame _ 0 _ old middle visits.stores.part (512 * x + k) (λ v m. elim m [
    | inl t ↦ out (subst (Has down) (block_row x k few) t)
    | inr part ↦ beyond (subst Has_kid (block_row x k few) part.has)
  ])

  -- words where no link is stored
  pub same_links : (words : Image) (x k : ℕ) → k < 512 → (Has_kid x → ⊥) → (x ≡ block → k ≢ slot) →
      get_or (after_stores words links) (512 * x + k) 0 ≡ get_or words (512 * x + k) 0
  same_links words x k few beyond other = beside visits.hung words (512 * x + k) (λ part. elim part [
    | inl has ↦ beyond (subst Has_kid (block_row x k few) has)
    | inr e ↦
        let here : x ≡ block = omega (arith, e, few, last.few) in
        other here (omega (arith, e, here))
  ])

  pub whole_second : length later ≡ length halfway
  whole_second = may_length _ 0 _ middle new fills.stores.part

  whole_first : length halfway ≡ length was
  whole_first = may_length _ 0 _ old middle visits.stores.part

  -- ---- the slots before it

  abbrev EarlyChildren : ℕ → Type 0
  EarlyChildren b =
      Children was b below length_to (λ c. c < slot) (byte was top) (InSlot was b below (size - start) (λ c. c < slot)) (IsFull was top (size - start))

  pub sound_before : EarlyChildren block
  sound_before =
      let fits : size - start ≤ length_to = omega (arith, can.order, can.inside) in
      subst EarlyChildren (top_number can last)
      (children_before was top (size - start) below slot length_to can.sound (omega (arith, can.low)) (present can last) (inside_slot can last) fits)

  -- the blocks in a slot
  abbrev In_slot : ℕ → ℕ → Type 0
  In_slot c = HasBlock was (child was (block_of top) below c) (piece (size - start) below c)

  -- a block in an earlier slot is one of the tree, and neither its top nor in the slot gone through
  pub record Early (x : ℕ) : Type 0 where
    pub old_block : Has_old x
    pub not_top : x ≢ block
    pub not_kid : Has_kid x → ⊥

  pub early : (x : ℕ) → InSlot was block below (size - start) (λ c. c < slot) x → Early x
  early x found = record {
    old_block = child_block was top (size - start) below (shape can last) found.slot x found.below has_found;
    not_top = λ e. (parts can last).own found.slot found.below (subst (In_slot found.slot) (e ∙ sym (top_number can last)) has_found);
    not_kid = λ has.
        let in_slot = subst₂ (λ b z. HasBlock was (child was b below slot) z x) (sym (top_number can last)) (sym (piece_is can last)) has in
        let same : found.slot ≡ slot = (parts can last).apart found.slot slot x found.below (inside_slot can last) has_found in_slot in
        omega (arith, same, found.at);
  }
    where
      has_found : In_slot found.slot x
      has_found = rw (← top_number can last) at found.has

  pub now_length : length now ≡ length was
  now_length = whole_links links later ∙ whole_second ∙ whole_first

  pub from_old : (x k : ℕ) → k < 512 → Has_old x → (Has_kid x → ⊥) → (x ≡ block → k < slot) →
      get_or now (512 * x + k) 0 ≡ get_or was (512 * x + k) 0
  from_old x k few has beyond before =
      same_links later x k few beyond (λ e same. let less = before e in omega (arith, less, same))
      ∙ same_second x k few (λ t. not_free x has (in_second x t)) (λ e. let less = before e in omega (arith, less))
      ∙ same_first x k few (λ t. not_free x has (in_first x t)) beyond
