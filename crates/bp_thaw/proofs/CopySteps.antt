-- One more block is taken, one more pointer is turned, and one more copy is filled.
use Rattle.std.proofs.Common.{◌≡◌, ◌≢◌, ◌⊎◌, ℕ, zero, suc, ◌+◌, ◌*◌, ◌/◌, ◌%◌, ◌<◌, ◌≤◌, List, [], ◌∷◌, ◌++◌, map, take, set, get_or, length, Bool, true, false, ◌==◌, None, Some, refl, sym, ◌∙◌, ap, subst, arith, inl, inr, get_or-set_same, get_or-set_other}
use Rattle.std.proofs.lemmas.Bool.{cases_eq, eq-eqb, ne_eqb}
use Rattle.std.proofs.lemmas.List.{length-append, take_more}
use Rattle.pm_epochs.specs.Log.{StoresTo}
use Rattle.pm_epochs.specs.May.{AnyAt}
use Rattle.pm_epochs.proofs.MayLaws.{EachMay-stored, StoresMay-append, StoresMay-weaker}
use Rattle.pm_epochs.proofs.PieceLaws.{IsPiece-append, IsPiece-more, IsPiece-none, StoresTo-after, StoresTo-prefix}
use Rattle.pm_region.specs.Memory.{Memory, current_words, room_in}
use Rattle.pm_region.specs.Safe.{AddsMay}
use Rattle.pm_region.proofs.MayLaws.{room_after_may}
use Rattle.pm_region.proofs.MemoryLaws.{adds_both, adds_none, current_words-adds}
use Rattle.bp_free.specs.Set.{Set, TakesLeast, has}
use Rattle.bp_layout.specs.Members.{AreApart, Each, Has}
use Rattle.bp_layout.specs.Words.{word, block_count, block_of}
use Rattle.bp_layout.proofs.MemberLaws.{apart-append, apart-first, each-append, each-as, has-after, has-either, has-prefix}
use Rattle.bp_changes.specs.Performs.{InBlock}
use Rattle.bp_cow.specs.Copies.{CanFillBlock, FillsBlock, pointing_to}
use Rattle.bp_thaw.specs.Copies.{AreTurned, Copies, blocks_of, copy_at, places_of, source_of, turned_to, turned_word}
use Rattle.bp_thaw.specs.Steps.{CanFillCopies, InBlocks, TakesAll}
use Rattle.bp_thaw.proofs.MarkAll.{has-mapped}

clash : (b : Bool) → b ≡ true → b ≡ false → ⊥
clash b one two = absurd (cc)

pub map-more : {A B : Type 0} (f : A → B) (xs : List A) (x : A) → map f (xs ++ x ∷ []) ≡ map f xs ++ f x ∷ []
map-more f [] x = refl
map-more f (y ∷ xs) x = ap (λ rest. f y ∷ rest) (map-more f xs x)

pub has-last : {A : Type 0} (xs : List A) (x : A) → Has (xs ++ x ∷ []) x
has-last xs x = has-after xs (x ∷ []) x (inl refl)

pub has-item : {A : Type 0} (xs : List A) (i : ℕ) (d : A) → i < length xs → Has xs (get_or xs i d)
has-item [] i d low = absurd (omega (arith, low))
has-item (x ∷ xs) zero d low = inl refl
has-item (x ∷ xs) (suc i) d low = inr (has-item xs i d (omega (arith, low)))

pub item_here : {A : Type 0} (xs : List A) (i : ℕ) (d item : A) → i < length xs → get_or xs i d ≡ item → Has xs item
item_here xs i d item low is = subst (Has xs) is (has-item xs i d low)

pub length-taken : {A : Type 0} (xs : List A) (n : ℕ) → n ≤ length xs → length (take n xs) ≡ n
length-taken [] zero low = refl
length-taken [] (suc n) low = absurd (omega (arith, low))
length-taken (x ∷ xs) zero low = refl
length-taken (x ∷ xs) (suc n) low = ap suc (length-taken xs n (omega (arith, low)))

-- ---- blocks are taken

pub takes_none : (before : Set) → TakesAll before before []
takes_none before = record { once = tt; were = λ b none. absurd none; gone = λ b none. absurd none; others = λ b none. refl; count = omega arith; size = refl }

pub takes_one : (before middle after : Set) (taken : List ℕ) (b : ℕ) → TakesAll before middle taken → TakesLeast middle after b → TakesAll before after (taken ++ b ∷ [])
takes_one before middle after taken b first next = record {
  once = apart-append taken (b ∷ []) first.once (tt, tt) (λ x early late. elim late [ inl e ↦ new x early e | inr none ↦ absurd none ]);
  were = λ x here. were x (has-either taken (b ∷ []) x here);
  gone = λ x here. gone x (has-either taken (b ∷ []) x here);
  others = λ x none. next.taken.others x (λ e. none (subst (Has (taken ++ b ∷ [])) (sym e) (has-last taken b))) ∙ first.others x (λ early. none (has-prefix taken (b ∷ []) x early));
  count = omega (arith, first.count, next.count, length-append taken (b ∷ []));
  size = next.size ∙ first.size;
}
  where
    new : (x : ℕ) → Has taken x → b ≡ x → ⊥
    new x early e = clash (has middle x) (subst (λ y. has middle y ≡ true) e next.taken.was) (first.gone x early)

    was_before : has before b ≡ true
    was_before = sym (first.others b (λ early. new b early refl)) ∙ next.taken.was

    were : (x : ℕ) → Has taken x ⊎ Has (b ∷ []) x → has before x ≡ true
    were x (inl early) = first.were x early
    were x (inr (inl e)) = subst (λ y. has before y ≡ true) e was_before
    were x (inr (inr none)) = absurd none

    gone : (x : ℕ) → Has taken x ⊎ Has (b ∷ []) x → has after x ≡ false
    gone x (inl early) = next.taken.others x (λ e. new x early (sym e)) ∙ first.gone x early
    gone x (inr (inl e)) = subst (λ y. has after y ≡ false) e next.taken.gone
    gone x (inr (inr none)) = absurd none

-- ---- pointers are turned

pub copy_at-none : (copies : Copies) (place : ℕ) → (Has (places_of copies) place → ⊥) → copy_at copies place ≡ None
copy_at-none [] place none = refl
copy_at-none (c ∷ copies) place none = rw (ne_eqb c.0 place (λ e. none (inl e))) (copy_at-none copies place (λ later. none (inr later)))

copy_at-here : (copies : Copies) (c : ℕ × ℕ) → (Has (places_of copies) c.0 → ⊥) → copy_at (copies ++ c ∷ []) c.0 ≡ Some c.1
copy_at-here [] c none = rw (eq-eqb c.0 c.0 refl) refl
copy_at-here (d ∷ copies) c none = rw (ne_eqb d.0 c.0 (λ e. none (inl e))) (copy_at-here copies c (λ later. none (inr later)))

copy_at-other : (copies : Copies) (c : ℕ × ℕ) (place : ℕ) → c.0 ≢ place → copy_at (copies ++ c ∷ []) place ≡ copy_at copies place
copy_at-other [] c place other = rw (ne_eqb c.0 place other) refl
copy_at-other (d ∷ copies) c place other = go (d.0 == place) refl (copy_at-other copies c place other)
  where
    go : (x : Bool) → (d.0 == place) ≡ x → copy_at (copies ++ c ∷ []) place ≡ copy_at copies place → copy_at (d ∷ copies ++ c ∷ []) place ≡ copy_at (d ∷ copies) place
    go true e rest = rw e refl
    go false e rest = rw e rest

-- an item is not among those before it
pub apart-before : {A B : Type 0} (f : A → B) (xs : List A) (x : A) → AreApart (map f (xs ++ x ∷ [])) → Has (map f xs) (f x) → ⊥
apart-before f [] x apart has = absurd has
apart-before f (y ∷ xs) x apart (inl e) = apart-first (f y) (map f (xs ++ x ∷ [])) apart (subst (λ ys. Has ys (f y)) (sym (map-more f xs x)) (subst (λ z. Has (map f xs ++ f x ∷ []) z) (sym e) (has-last (map f xs) (f x))))
apart-before f (y ∷ xs) x apart (inr later) = apart-before f xs x apart.1 later

apart-taken : {A B : Type 0} (f : A → B) (xs : List A) (n : ℕ) → AreApart (map f xs) → AreApart (map f (take n xs))
apart-taken f [] zero apart = tt
apart-taken f [] (suc n) apart = tt
apart-taken f (x ∷ xs) zero apart = tt
apart-taken f (x ∷ xs) (suc n) apart = (first xs n apart.0, apart-taken f xs n apart.1)
  where
    first : (ys : List _) (m : ℕ) → Each (λ y. y ≢ f x) (map f ys) → Each (λ y. y ≢ f x) (map f (take m ys))
    first [] zero all = tt
    first [] (suc m) all = tt
    first (y ∷ ys) zero all = tt
    first (y ∷ ys) (suc m) all = (all.0, first ys m all.1)

module _ (copies : Copies) (c : ℕ × ℕ) (apart : AreApart (places_of (copies ++ c ∷ []))) (block : ℕ) (old words : List ℕ) (so_far : AreTurned copies block old words) where
  beside_slot : (slot : ℕ) → 512 * block + slot ≢ c.0 → turned_to (copy_at copies (512 * block + slot)) (get_or old slot 0) ≡ turned_to (copy_at (copies ++ c ∷ []) (512 * block + slot)) (get_or old slot 0)
  beside_slot slot other = ap (λ x. turned_to x (get_or old slot 0)) (sym (copy_at-other copies c (512 * block + slot) (λ e. other (sym e))))

  pub turn_other : c.0 / 512 ≢ block → AreTurned (copies ++ c ∷ []) block old words
  turn_other other slot low = so_far slot low ∙ beside_slot slot (λ e. other (omega (arith, e, low)))

  pub turn_here : c.0 / 512 ≡ block → length words ≡ 512 → AreTurned (copies ++ c ∷ []) block old (set words (c.0 % 512) (pointing_to (get_or words (c.0 % 512) 0) c.1))
  turn_here here long slot low = go (cases_eq slot (c.0 % 512))
    where
      value : ℕ
      value = pointing_to (get_or words (c.0 % 512) 0) c.1

      at : 512 * block + c.0 % 512 ≡ c.0
      at = omega (arith, here)

      new : Has (places_of copies) c.0 → ⊥
      new has = apart-before (λ (x : ℕ × ℕ). x.0) copies c apart has

      unturned : get_or words (c.0 % 512) 0 ≡ get_or old (c.0 % 512) 0
      unturned = so_far (c.0 % 512) (omega arith) ∙ ap (λ p. turned_to (copy_at copies p) (get_or old (c.0 % 512) 0)) at ∙ ap (λ x. turned_to x (get_or old (c.0 % 512) 0)) (copy_at-none copies c.0 new)

      go : (slot ≡ c.0 % 512) ⊎ (slot ≡ c.0 % 512 → ⊥) → get_or (set words (c.0 % 512) (pointing_to (get_or words (c.0 % 512) 0) c.1)) slot 0 ≡ turned_to (copy_at (copies ++ c ∷ []) (512 * block + slot)) (get_or old slot 0)
      go (inl e) =
          ap (λ s. get_or (set words (c.0 % 512) (pointing_to (get_or words (c.0 % 512) 0) c.1)) s 0) e
          ∙ get_or-set_same words (c.0 % 512) (pointing_to (get_or words (c.0 % 512) 0) c.1) 0 (omega (arith, long))
          ∙ ap (λ w. pointing_to w c.1) unturned
          ∙ ap (λ x. turned_to x (get_or old (c.0 % 512) 0)) (sym (copy_at-here copies c new))
          ∙ ap (λ p. turned_to (copy_at (copies ++ c ∷ []) p) (get_or old (c.0 % 512) 0)) (sym at)
          ∙ ap (λ s. turned_to (copy_at (copies ++ c ∷ []) (512 * block + s)) (get_or old s 0)) (sym e)
      go (inr other) =
          get_or-set_other words (c.0 % 512) slot (pointing_to (get_or words (c.0 % 512) 0) c.1) 0 other
          ∙ so_far slot low ∙ beside_slot slot (λ e. other (omega (arith, e, low)))

pub apart-more_taken : (f : ℕ × ℕ → ℕ) (copies : Copies) (i : ℕ) (item : ℕ × ℕ) → i < length copies → get_or copies i (0, 0) ≡ item → AreApart (map f copies) → AreApart (map f (take i copies ++ item ∷ []))
apart-more_taken f copies i item low is apart = subst (λ cs. AreApart (map f cs)) (take_more copies i (0, 0) low ∙ ap (λ x. take i copies ++ x ∷ []) is) (apart-taken f copies (i + 1) apart)

pub one_more_taken : (P : Copies → Type 0) (copies : Copies) (i : ℕ) (item : ℕ × ℕ) → i < length copies → get_or copies i (0, 0) ≡ item → P (take i copies ++ item ∷ []) → P (take (i + 1) copies)
one_more_taken P copies i item low is holds = subst P (ap (λ x. take i copies ++ x ∷ []) (sym is) ∙ sym (take_more copies i (0, 0) low)) holds

-- ---- copies are filled

-- the first of the copies are
pub record HasFilled (copies done : Copies) (old now : Memory) : Type 0 where
  pub part : AddsMay (AnyAt (InBlocks (blocks_of copies))) 0 (512 * length done) old now
  pub stored : Each (λ b. StoresTo (InBlock b) part.added) (blocks_of done)
  pub words : (copy : ℕ × ℕ) (slot : ℕ) → Has done copy → slot < 512 →
      word (current_words now) (512 * copy.1 + slot) ≡ turned_word (current_words old) copies (512 * source_of (current_words old) copy + slot)

pub filled_none : (copies : Copies) (memory : Memory) → HasFilled copies [] memory memory
filled_none copies memory = record {
  part = record { added = []; adds = adds_none memory; may = tt; piece = IsPiece-none };
  stored = tt;
  words = λ copy slot none low. absurd none;
}

-- a copy that can be filled
pub record CanFillCopy (copies : Copies) (copy : ℕ × ℕ) (memory : Memory) : Type 0 where
  pub place : copy.0 < length (current_words memory)
  pub present : 0 < source_of (current_words memory) copy
  pub block : source_of (current_words memory) copy < block_count (current_words memory)
  pub fills : CanFillBlock copy.1 memory

module _ (copies : Copies) (i : ℕ) (c : ℕ × ℕ) (old now : Memory) (can : CanFillCopies copies old) (so_far : HasFilled copies (take i copies) old now)
    (low : i < length copies) (is : get_or copies i (0, 0) ≡ c) where
  abbrev done : Copies
  done = take i copies

  here : Has copies c
  here = item_here copies i (0, 0) c low is

  has_block : Has (blocks_of copies) c.1
  has_block = has-mapped (λ (x : ℕ × ℕ). x.1) copies c c.1 here refl

  beside_filled : (place : ℕ) → (Has (blocks_of copies) (place / 512) → ⊥) → word (current_words now) place ≡ word (current_words old) place
  beside_filled place none =
      let each = EachMay-stored (AnyAt (InBlocks (blocks_of copies))) (current_words old) so_far.part.added so_far.part.may in
      ap (λ ws. word ws place) (current_words-adds old now so_far.part.added so_far.part.adds)
      ∙ elim (each.each place) [ inl e ↦ e | inr is ↦ absurd (none is) ]

  length_filled : length (current_words now) ≡ length (current_words old)
  length_filled =
      ap length (current_words-adds old now so_far.part.added so_far.part.adds)
      ∙ (EachMay-stored (AnyAt (InBlocks (blocks_of copies))) (current_words old) so_far.part.added so_far.part.may).size

  room_filled : room_in old ≤ room_in now + 512 * length done
  room_filled = omega (arith, room_after_may (AnyAt (InBlocks (blocks_of copies))) 0 (512 * length done) old now so_far.part)

  source_filled : source_of (current_words now) c ≡ source_of (current_words old) c
  source_filled = ap block_of (beside_filled c.0 (can.outside c here))

  pub next_can : CanFillCopy copies c now
  next_can = record {
    place = omega (arith, can.inside c here, length_filled);
    present = omega (arith, can.present c here, source_filled);
    block = omega (arith, can.sources c here, source_filled, length_filled);
    fills = record {
      inside = subst (λ n. c.1 < n / 512) (sym length_filled) (can.in_range c.1 has_block);
      not_null = can.not_null c.1 has_block;
      room = omega (arith, room_filled, can.room, low, length-taken copies i (omega (arith, low)));
    };
  }

  new_block : (d : ℕ × ℕ) → Has done d → d.1 ≢ c.1
  new_block d has same =
      apart-before (λ (x : ℕ × ℕ). x.1) done c (apart-more_taken (λ (x : ℕ × ℕ). x.1) copies i c low is can.blocks)
      (has-mapped (λ (x : ℕ × ℕ). x.1) done d c.1 has same)

  module _ (next : Memory) (fills : FillsBlock c.1 now next)
      (words : (slot : ℕ) → slot < 512 → word (current_words next) (512 * c.1 + slot) ≡ turned_word (current_words now) copies (512 * source_of (current_words now) c + slot)) where
    block_is : (b s : ℕ) → s < 512 → (512 * b + s) / 512 ≡ b
    block_is b s low = omega (arith, low)

    filled_one : HasFilled copies (done ++ c ∷ []) old next
    filled_one = record {
      part = record {
        added = so_far.part.added ++ fills.stores.part.added;
        adds = adds_both old now next so_far.part.added fills.stores.part.added so_far.part.adds fills.stores.part.adds;
        may = StoresMay-append (AnyAt (InBlocks (blocks_of copies))) so_far.part.added fills.stores.part.added so_far.part.may
            (StoresMay-weaker (AnyAt (InBlock c.1)) (AnyAt (InBlocks (blocks_of copies))) (λ place value e. subst (Has (blocks_of copies)) (sym e) has_block) fills.stores.part.added fills.stores.part.may);
        piece = IsPiece-more (0 + 0) (512 * length done + 512) 0 (512 * length (done ++ c ∷ [])) (so_far.part.added ++ fills.stores.part.added) (omega arith) (omega (arith, length-append done (c ∷ [])))
            (IsPiece-append 0 (512 * length done) 0 512 so_far.part.added fills.stores.part.added so_far.part.piece fills.stores.part.piece);
      };
      stored = subst (Each (λ b. StoresTo (InBlock b) (so_far.part.added ++ fills.stores.part.added))) (sym (map-more (λ (x : ℕ × ℕ). x.1) done c))
          (each-append (λ b. StoresTo (InBlock b) (so_far.part.added ++ fills.stores.part.added)) (blocks_of done) (c.1 ∷ [])
          (each-as (λ b. StoresTo (InBlock b) so_far.part.added) (λ b. StoresTo (InBlock b) (so_far.part.added ++ fills.stores.part.added)) (λ b. StoresTo-prefix (InBlock b) so_far.part.added fills.stores.part.added) (blocks_of done) so_far.stored)
          (StoresTo-after (InBlock c.1) so_far.part.added fills.stores.part.added fills.stores.some, tt));
      words = λ copy slot has low. go copy slot low (has-either done (c ∷ []) copy has);
    }
      where
        last : (slot : ℕ) → slot < 512 → word (current_words next) (512 * c.1 + slot) ≡ turned_word (current_words old) copies (512 * source_of (current_words old) c + slot)
        last slot low =
            words slot low
            ∙ ap (λ b. turned_word (current_words now) copies (512 * b + slot)) source_filled
            ∙ ap (turned_to (copy_at copies (512 * source_of (current_words old) c + slot)))
            (beside_filled (512 * source_of (current_words old) c + slot) (λ has. can.apart c here (subst (Has (blocks_of copies)) (block_is (source_of (current_words old) c) slot low) has)))

        go : (copy : ℕ × ℕ) (slot : ℕ) → slot < 512 → Has done copy ⊎ Has (c ∷ []) copy → word (current_words next) (512 * copy.1 + slot) ≡ turned_word (current_words old) copies (512 * source_of (current_words old) copy + slot)
        go copy slot low (inl early) = fills.equal.others (512 * copy.1 + slot) (λ e. new_block copy early (sym (block_is copy.1 slot low) ∙ e)) ∙ so_far.words copy slot early low
        go copy slot low (inr (inl e)) = subst (λ (x : ℕ × ℕ). word (current_words next) (512 * x.1 + slot) ≡ turned_word (current_words old) copies (512 * source_of (current_words old) x + slot)) e (last slot low)
        go copy slot low (inr (inr none)) = absurd none

    pub filled_next : HasFilled copies (take (i + 1) copies) old next
    filled_next = one_more_taken (λ cs. HasFilled copies cs old next) copies i c low is filled_one
