-- A pointer is turned, or a word given again, while the last store is still to come.
use Rattle.std.proofs.Common.{◌≡◌, ◌≢◌, ◌⊎◌, ℕ, ◌+◌, ◌*◌, ◌/◌, ◌<◌, ◌≤◌, set, ◌∷◌, length, Bool, true, false, Option, None, Some, refl, sym, ◌∙◌, ap, subst, arith, inl, inr, get_or-set_other, get_or-set_same}
use Rattle.std.proofs.lemmas.Bool.{cases_eq}
use Rattle.std.proofs.lemmas.List.{length-set, set_comm}
use Rattle.bp_layout.specs.Words.{Image, word, block_count, block_of, slot_word}
use Rattle.bp_layout.proofs.TreeLaws.{slot_word-same}
use Rattle.bp_changes.specs.Trail.{Trail, word_on, block_on, place_on, ArePointers, IsSkeleton, IsPlaced}
use Rattle.bp_changes.specs.Trail.IsPlaced.{at_top, in_block}
use Rattle.bp_changes.specs.Forest.{IsExactSet}
use Rattle.bp_layout.specs.Stores.{EqualBut}
use Rattle.bp_changes.proofs.PathTrails.{word-placed, low-placed}
use Rattle.bp_cow.specs.Stage.{IsBuilding}
use Rattle.bp_free.specs.Set.{TakesNumber}
use Rattle.bp_cow.specs.Copies.{WordPatch, TurnsTo, pointing_to}
use Rattle.bp_changes.proofs.TrailLaws.{word_on-slot, Turns, pointer-turned}
use Rattle.bp_changes.proofs.StoreLaws.{store_turns, copy-kept}
use Rattle.bp_cow.proofs.StageLaws.{stage_start, stage_copy, stage_word}

-- a place in a block at or below a trail is not its own
pub apart-placed : (image : Image) (Pointer : Trail → Type 0) (cover : Trail) → IsSkeleton image Pointer → IsPlaced image Pointer cover →
    (q : Trail) (slot : ℕ) → Pointer q → length cover ≤ length q → block_on image q ≢ 0 → slot < 512 → 512 * block_on image q + slot ≢ place_on image cover
apart-placed image Pointer _ skeleton at_top q slot live long present low same = present (omega (arith, same))
apart-placed image Pointer _ skeleton (in_block s p also there small) q slot live long present low same =
    let blocks : block_on image q ≡ block_on image p = omega (arith, same, low, small) in
    let trails : q ≡ p = skeleton.once q p live also present blocks in
    absurd (omega (arith, long, ap (λ (x : Trail). length x) trails))

-- a word turned at or below the cover leaves the cover in its place
placed-turned : (old new : Image) (Pointer : Trail → Type 0) (pointers : ArePointers Pointer) (here : Trail) (value : ℕ) → Turns old new Pointer here value →
    (cover : Trail) → length cover ≤ length here → IsPlaced old Pointer cover → IsPlaced new Pointer cover × (place_on new cover ≡ place_on old cover)
placed-turned old new Pointer pointers here value turns _ long at_top = (at_top, refl)
placed-turned old new Pointer pointers here value turns _ long (in_block slot p live present low) =
    let other : p ≢ here = λ e. absurd (omega (arith, long, ap (λ (x : Trail). length x) e)) in
    let same : block_on new p ≡ block_on old p = ap block_of (pointer-turned old new Pointer pointers here value turns p live other) in
    (in_block slot p live (λ null. present (sym same ∙ null)) low, ap (λ b. 512 * b + slot) same)

module _ {in_snapshot : ℕ → Bool} {old words : Image} {place pointer : ℕ} {cover : Trail} {Pointer Counts renewed : Trail → Type 0} {value : Trail → Option ℕ} {laid : Trail → ℕ} {free : ℕ → Bool} (pointers : ArePointers Pointer)
    (building : IsBuilding old words place pointer cover Pointer Counts renewed value laid in_snapshot free) where
  -- the image as it would be after the last store
  abbrev seen : Image
  seen = set words place pointer

  some_seen : 0 < block_count seen
  some_seen = rw (ap (λ n. n / 512) building.stage.whole) building.some

  place_low : place < length words
  place_low =
      let low : place_on seen cover < length seen = low-placed seen Pointer cover building.stage.skeleton some_seen building.placed in
      rw (length-set words place pointer) at (rw building.at at low)

  apart : (q : Trail) (slot : ℕ) → Pointer q → length cover ≤ length q → block_on seen q ≢ 0 → slot < 512 → 512 * block_on seen q + slot ≢ place
  apart q slot live long present low same = apart-placed seen Pointer cover building.stage.skeleton building.placed q slot live long present low (same ∙ sym building.at)

  module _ (p : Trail) (slot : ℕ) (live : Pointer p) (made : renewed p) (low : slot < 512) where
    -- where the word stands
    abbrev spot : ℕ
    spot = 512 * block_on seen p + slot

    present : block_on seen p ≢ 0
    present = (building.stage.fresh p live made).0

    other_place : spot ≢ place
    other_place = apart p slot live (building.below p made) present low

    -- the word that code loads there
    pub word-loaded : word words spot ≡ word_on seen (slot ∷ p)
    word-loaded =
        sym (get_or-set_other words place spot pointer 0 other_place)
        ∙ word-placed seen Pointer (slot ∷ p) (in_block slot p live present low)

    module _ {after : Image} {copy count : ℕ} {free_after : ℕ → Bool} {patch : WordPatch} (pointed : Pointer (slot ∷ p)) (first : renewed (slot ∷ p) → ⊥)
        (counts : (s : ℕ) → s < 512 → Pointer (s ∷ slot ∷ p) ⊎ Counts (s ∷ slot ∷ p) → s < count)
        (plain : (s w : ℕ) → Pointer (s ∷ slot ∷ p) → patch s w ≡ w)
        (lays : (s : ℕ) → s < 512 → patch s (word_on old (s ∷ slot ∷ p)) ≡ laid (s ∷ slot ∷ p))
        (turned : TurnsTo patch count words after spot copy) (takes : TakesNumber free free_after copy) where
      -- the pointer to the copy, and what is seen before and after the store of it
      abbrev to_copy : ℕ
      to_copy = pointing_to (word_on seen (slot ∷ p)) copy

      abbrev middle : Image
      middle = set turned.mid place pointer

      abbrev next : Image
      next = set after place pointer

      clash : (b : ℕ) → free b ≡ true → free b ≡ false → ⊥
      clash b one two = absurd (cc)

      not_null : copy ≢ 0
      not_null null = let range : 1 ≤ copy = (building.stage.in_range copy takes.was).0 in omega (arith, range, null)

      unnamed : (q : Trail) → Pointer q → block_on seen q ≢ copy
      unnamed q l same = clash copy takes.was (building.stage.taken copy (inr (record { trail = q; pointer = l; named = same; not_null = not_null })))

      equal : EqualBut copy seen middle
      equal = record {
        whole = length-set turned.mid place pointer ∙ turned.equal.whole ∙ sym (length-set words place pointer);
        others = λ at other. others at other (cases_eq at place);
      }
        where
          others : (at : ℕ) → at / 512 ≢ copy → (at ≡ place) ⊎ (at ≡ place → ⊥) → word middle at ≡ word seen at
          others at other (inl e) = rw e (get_or-set_same turned.mid place pointer 0 (omega (arith, place_low, turned.equal.whole)) ∙ sym (get_or-set_same words place pointer 0 place_low))
          others at other (inr n) = get_or-set_other turned.mid place at pointer 0 n ∙ turned.equal.others at other ∙ sym (get_or-set_other words place at pointer 0 n)

      pointer_now : word words spot ≡ word_on seen (slot ∷ p)
      pointer_now = word-loaded

      after_is : set after place pointer ≡ set middle spot to_copy
      after_is =
          ap (λ ws. set ws place pointer) turned.turned
          ∙ set_comm turned.mid spot place (pointing_to (word words spot) copy) pointer other_place
          ∙ ap (λ w. set middle spot (pointing_to w copy)) pointer_now

      -- the words of the copy
      copy_slot : (s : ℕ) → s < 512 → s < count → slot_word middle copy s ≡ patch s (slot_word seen (block_on seen (slot ∷ p)) s)
      copy_slot s few counted =
          slot_word-same turned.mid middle copy s (λ _. get_or-set_other turned.mid place (512 * copy + s) pointer 0 (λ e. not_here cover building.placed (e ∙ sym building.at)))
          ∙ turned.copied s few counted
          ∙ ap (λ w. patch s (slot_word words (block_of w) s)) pointer_now
          ∙ ap (patch s) (source (cases_eq (block_on seen (slot ∷ p)) 0))
        where
          not_here : (cover : Trail) → IsPlaced seen Pointer cover → 512 * copy + s ≡ place_on seen cover → ⊥
          not_here _ at_top e = not_null (omega (arith, e))
          not_here _ (in_block t q l there small) e = unnamed q l (omega (arith, e, few, small))

          longer : length cover ≤ length (slot ∷ p)
          longer = omega (arith, building.below p made)

          source : (block_on seen (slot ∷ p) ≡ 0) ⊎ (block_on seen (slot ∷ p) ≡ 0 → ⊥) →
              slot_word words (block_on seen (slot ∷ p)) s ≡ slot_word seen (block_on seen (slot ∷ p)) s
          source (inl null) = rw null refl
          source (inr some) =
              sym (slot_word-same words seen (block_on seen (slot ∷ p)) s
              (λ _. get_or-set_other words place (512 * block_on seen (slot ∷ p) + s) pointer 0 (apart (slot ∷ p) s pointed longer some few)))

      leads : block_of to_copy ≡ copy
      leads = omega arith

      stored_slot : (s : ℕ) → s < 512 → s < count →
          slot_word (set middle spot to_copy) copy s
          ≡ patch s (word_on seen (s ∷ slot ∷ p))
      stored_slot s few counted =
          copy-kept seen middle Pointer pointers building.stage.skeleton some_seen copy equal not_null unnamed (slot ∷ p) to_copy s (in_block slot p live present low) few
          ∙ copy_slot s few counted
          ∙ ap (patch s) (sym (word_on-slot seen s (slot ∷ p)))

      turns_after : Turns seen next Pointer (slot ∷ p) to_copy
      turns_after =
          subst (λ ws. Turns seen ws Pointer (slot ∷ p) to_copy) (sym after_is)
          (store_turns seen middle Pointer pointers building.stage.skeleton some_seen copy equal not_null unnamed (slot ∷ p) to_copy
          (in_block slot p live present low)
          (λ _ s l.
          ap (λ b. slot_word (set middle spot to_copy) b s) leads
          ∙ stored_slot s (pointers.slots s (slot ∷ p) l) (counts s (pointers.slots s (slot ∷ p) l) (inl l))
          ∙ plain s (word_on seen (s ∷ slot ∷ p)) l))

      pub building_block : block_on next (slot ∷ p) ≡ copy
      building_block = ap block_of turns_after.turned ∙ leads

      pub building_turn : IsBuilding old after place pointer cover Pointer Counts (λ q. renewed q ⊎ (q ≡ slot ∷ p)) value laid in_snapshot free_after
      building_turn =
          let longer : length cover ≤ length (slot ∷ p) = omega (arith, building.below p made) in
          let still = placed-turned seen next Pointer pointers (slot ∷ p) to_copy turns_after cover longer building.placed in
          record {
            some = building.some;
            stage = stage_copy pointers building.stage pointed first turns_after (omega arith) leads takes.was takes.gone takes.others
                (λ s few unturned counted.
                ap (λ ws. slot_word ws copy s) after_is ∙ stored_slot s few (counts s few (inr counted)) ∙ ap (patch s) (building.stage.still (slot ∷ p) s pointed first few unturned) ∙ lays s few);
            placed = still.0;
            at = still.1 ∙ building.at;
            below = λ q n. below q n;
          }
        where
          below : (q : Trail) → renewed q ⊎ (q ≡ slot ∷ p) → length cover ≤ length q
          below q (inl n) = building.below q n
          below q (inr e) = omega (arith, building.below p made, ap (λ (x : Trail). length x) e)

    module _ (given : ℕ) (value_after : Trail → Option ℕ) (content : Pointer (slot ∷ p) → ⊥) (here : value_after (slot ∷ p) ≡ Some given) (values : (q : Trail) → q ≢ slot ∷ p → value_after q ≡ value q) where
      -- what is seen after the store of the word
      abbrev next_word : Image
      next_word = set (set words spot given) place pointer

      none_past : (q : Trail) → Pointer q → block_on seen q ≢ block_count seen
      none_past q l e = let range : block_on seen q < block_count seen = building.stage.skeleton.in_range q l in absurd (omega (arith, range, e))

      store_is : set (set words spot given) place pointer ≡ set seen spot given
      store_is = set_comm words spot place given pointer other_place

      turns_store : Turns seen next_word Pointer (slot ∷ p) given
      turns_store =
          subst (λ ws. Turns seen ws Pointer (slot ∷ p) given) (sym store_is)
          (store_turns seen seen Pointer pointers building.stage.skeleton some_seen (block_count seen)
          (record { whole = refl; others = λ at other. refl }) (λ e. absurd (omega (arith, some_seen, e))) none_past (slot ∷ p) given (in_block slot p live present low) (λ l. absurd (content l)))

      pub building_store : IsBuilding old (set words spot given) place pointer cover Pointer Counts renewed value_after laid in_snapshot free
      building_store =
          let longer : length cover ≤ length (slot ∷ p) = omega (arith, building.below p made) in
          let still = placed-turned seen next_word Pointer pointers (slot ∷ p) given turns_store cover longer building.placed in
          record {
            some = building.some;
            stage = stage_word pointers building.stage p slot value_after live made low content turns_store here values;
            placed = still.0;
            at = still.1 ∙ building.at;
            below = building.below;
          }

-- ---- the first copy

-- the cover's pointer, and a copy of its block that holds its words
module _ {in_snapshot : ℕ → Bool} (Counts : Trail → Type 0) (old mid : Image) (cover : Trail) (Pointer : Trail → Type 0) (pointers : ArePointers Pointer) (value : Trail → Option ℕ) (laid : Trail → ℕ)
    (free free_after : ℕ → Bool) (copy : ℕ) (patch : WordPatch) (count : ℕ) (counts : (s : ℕ) → s < 512 → Pointer (s ∷ cover) ⊎ Counts (s ∷ cover) → s < count)
    (plain : (s w : ℕ) → Pointer (s ∷ cover) → patch s w ≡ w) (lays : (s : ℕ) → s < 512 → patch s (word_on old (s ∷ cover)) ≡ laid (s ∷ cover))
    (some : 0 < block_count old) (skeleton : IsSkeleton old Pointer) (exact : IsExactSet old Pointer in_snapshot free) (no_value : (p : Trail) → value p ≡ None)
    (pointed : Pointer cover) (placed : IsPlaced old Pointer cover) (takes : TakesNumber free free_after copy) (equal : EqualBut copy old mid)
    (copied : (slot : ℕ) → slot < 512 → slot < count → slot_word mid copy slot ≡ patch slot (slot_word old (block_on old cover) slot)) where
  -- the pointer to the copy, and what is seen with it
  abbrev to_first : ℕ
  to_first = pointing_to (word_on old cover) copy

  abbrev first_next : Image
  first_next = set mid (place_on old cover) to_first

  first_clash : (b : ℕ) → free b ≡ true → free b ≡ false → ⊥
  first_clash b one two = absurd (cc)

  first_not_null : copy ≢ 0
  first_not_null null = let range : 1 ≤ copy = (exact.in_range copy takes.was).0 in omega (arith, range, null)

  first_unnamed : (q : Trail) → Pointer q → block_on old q ≢ copy
  first_unnamed q l same = first_clash copy takes.was (exact.live copy (record { trail = q; pointer = l; named = same; not_null = first_not_null }))

  first_leads : block_of to_first ≡ copy
  first_leads = omega arith

  first_stored_slot : (s : ℕ) → s < 512 → s < count → slot_word first_next copy s ≡ patch s (word_on old (s ∷ cover))
  first_stored_slot s few counted =
      copy-kept old mid Pointer pointers skeleton some copy equal first_not_null first_unnamed cover to_first s placed few
      ∙ copied s few counted
      ∙ ap (patch s) (sym (word_on-slot old s cover))

  turns_first : Turns old first_next Pointer cover to_first
  turns_first =
      store_turns old mid Pointer pointers skeleton some copy equal first_not_null first_unnamed cover to_first placed
      (λ _ s l. ap (λ b. slot_word first_next b s) first_leads ∙ first_stored_slot s (pointers.slots s cover l) (counts s (pointers.slots s cover l) (inl l)) ∙ plain s (word_on old (s ∷ cover)) l)

  pub building_start : IsBuilding old mid (place_on old cover) to_first cover Pointer Counts (λ q. ⊥ ⊎ (q ≡ cover)) value laid in_snapshot free_after
  building_start =
      let still = placed-turned old first_next Pointer pointers cover to_first turns_first cover (omega arith) placed in
      record {
        some = some;
        stage = stage_copy pointers (stage_start old Pointer (λ q. ⊥) value laid free skeleton exact (λ p n. n) no_value) pointed (λ n. n) turns_first (omega arith) first_leads takes.was takes.gone takes.others
            (λ s few unturned counted. first_stored_slot s few (counts s few (inr counted)) ∙ lays s few);
        placed = still.0;
        at = still.1;
        below = λ q n. below q n;
      }
    where
      below : (q : Trail) → ⊥ ⊎ (q ≡ cover) → length cover ≤ length q
      below q (inl n) = absurd n
      below q (inr e) = omega (arith, ap (λ (x : Trail). length x) e)
