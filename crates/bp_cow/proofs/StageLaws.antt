-- The steps of a copy on write: a pointer is turned to a copy, a content word is given again.
use Rattle.std.proofs.Common.{◌≡◌, ◌≢◌, ◌⊎◌, ℕ, ◌/◌, ◌%◌, ◌<◌, ◌≤◌, ◌∷◌, Bool, true, false, Option, None, Some, unwrap_or, refl, sym, ◌∙◌, ap, subst, arith, inl, inr}
use Rattle.std.proofs.lemmas.Bool.{cases_eq}
use Rattle.bp_layout.specs.Words.{Image, block_count, block_of, slot_word}
use Rattle.bp_changes.specs.Forest.{IsExactSet}
use Rattle.bp_changes.specs.Trail.{Trail, word_on, block_on, ArePointers, IsSkeleton, LeadsTo}
use Rattle.bp_cow.specs.Return.{IsGiven}
use Rattle.bp_cow.specs.Stage.{IsStage}
use Rattle.bp_changes.proofs.TrailLaws.{cases_trail, Turns, pointer-turned, word-turned, slot-turned, skeleton-turned}

-- nothing is done
pub stage_start : {in_snapshot : ℕ → Bool} {Counts : Trail → Type 0} (old : Image) (Pointer : Trail → Type 0) (renewed : Trail → Type 0) (value : Trail → Option ℕ) (laid : Trail → ℕ) (free : ℕ → Bool) →
    IsSkeleton old Pointer → IsExactSet old Pointer in_snapshot free → ((p : Trail) → renewed p → ⊥) → ((p : Trail) → value p ≡ None) →
    IsStage old old Pointer Counts renewed value laid in_snapshot free
stage_start old Pointer renewed value laid free skeleton exact none no_value = record {
  whole = refl;
  skeleton = skeleton;
  superblock = λ place low other. refl;
  same = λ p live n. refl;
  words = λ p slot live made low n _. absurd (none p made);
  still = λ p slot live n low m. refl;
  bits = λ p live. refl;
  fresh = λ p live new. absurd (none p new);
  outside_snapshot = λ p live new. absurd (none p new);
  unvalued = λ p live. no_value p;
  early = λ p slot live n. no_value (slot ∷ p);
  taken = λ b any. either b any;
  known = λ b low high full not loose. absurd (other b (exact.dead b low high not loose) full);
  in_range = exact.in_range;
  loose = exact.loose;
}
  where
    either : (b : ℕ) → LeadsTo old Pointer b ⊎ LeadsTo old Pointer b → free b ≡ false
    either b (inl has) = exact.live b has
    either b (inr has) = exact.live b has

    other : (b : ℕ) → free b ≡ true → free b ≡ false → ⊥
    other b one two = absurd (cc)

module _ {in_snapshot : ℕ → Bool} {old now : Image} {Pointer Counts renewed : Trail → Type 0} {value : Trail → Option ℕ} {laid : Trail → ℕ} {free : ℕ → Bool} (pointers : ArePointers Pointer)
    (stage : IsStage old now Pointer Counts renewed value laid in_snapshot free) where
  same_count : block_count now ≡ block_count old
  same_count = ap (λ n. n / 512) stage.whole

  -- A pointer is turned to a copy of its block, whose words are laid.
  pub stage_copy : {next : Image} {pointer copy : ℕ} {here : Trail} {free_after : ℕ → Bool} →
      Pointer here → (renewed here → ⊥) →
      Turns now next Pointer here pointer →
      pointer % 4096 ≡ word_on now here % 4096 →
      block_of pointer ≡ copy →
      free copy ≡ true →
      free_after copy ≡ false →
      ((b : ℕ) → b ≢ copy → free_after b ≡ free b) →
      ((slot : ℕ) → slot < 512 → (renewed (slot ∷ here) → ⊥) → Counts (slot ∷ here) → slot_word next copy slot ≡ laid (slot ∷ here)) →
      IsStage old next Pointer Counts (λ p. renewed p ⊎ (p ≡ here)) value laid in_snapshot free_after
  stage_copy {next} {pointer} {copy} {here} {free_after} live first turns bits leads was_free not_free others slots = record {
    whole = turns.whole ∙ stage.whole;
    skeleton = skeleton-turned now next Pointer pointers here pointer turns stage.skeleton (λ l. (rw leads in_range, unnamed));
    superblock = λ place low other. turns.superblock place low other ∙ stage.superblock place low other;
    same = λ p l none. pointer-turned now next Pointer pointers here pointer turns p l (λ e. none (inr e)) ∙ stage.same p l (λ n. none (inl n));
    words = λ p slot l made low none counts. words p slot l made low none counts (cases_trail p here);
    still = λ p slot l unmade low none.
        word-turned now next Pointer pointers here pointer turns p slot l low (λ e. unmade (inr e)) (λ e. none (inr e))
        ∙ stage.still p slot l (λ n. unmade (inl n)) low (λ n. none (inl n));
    bits = λ p l. low_bits p l (cases_trail p here);
    fresh = λ p l n. fresh p l n (cases_trail p here);
    outside_snapshot = λ p l n. outside_snapshot p l n (cases_trail p here);
    unvalued = stage.unvalued;
    early = λ p slot l unmade. stage.early p slot l (λ n. unmade (inl n));
    taken = taken;
    known = known;
    in_range = λ b is. range b is (cases_eq b copy);
    loose = λ b is. loose b is (cases_eq b copy);
  }
    where
      copy_range : (1 ≤ copy) × (copy < block_count old)
      copy_range = stage.in_range copy was_free

      in_range : copy < block_count now
      in_range = rw same_count copy_range.1

      clash : (b : ℕ) → free b ≡ true → free b ≡ false → ⊥
      clash b one two = absurd (cc)

      unnamed : (p : Trail) → Pointer p → block_on now p ≢ block_of pointer
      unnamed p l same =
          let e : block_on now p ≡ copy = same ∙ leads in
          clash copy was_free (stage.taken copy (inr (record { trail = p; pointer = l; named = e; not_null = λ null. absurd (omega (arith, copy_range.0, null)) })))

      not_old : LeadsTo old Pointer copy → ⊥
      not_old has = clash copy was_free (stage.taken copy (inl has))

      words : (p : Trail) (slot : ℕ) → Pointer p → renewed p ⊎ (p ≡ here) → slot < 512 → (renewed (slot ∷ p) ⊎ (slot ∷ p ≡ here) → ⊥) → Counts (slot ∷ p) → (p ≡ here) ⊎ (p ≢ here) →
          word_on next (slot ∷ p) ≡ unwrap_or (value (slot ∷ p)) (laid (slot ∷ p))
      words p slot l made low none counts (inl e) =
          subst (λ x. word_on next (slot ∷ x) ≡ unwrap_or (value (slot ∷ x)) (laid (slot ∷ x))) (sym e)
          (slot-turned now next Pointer pointers here pointer turns slot
          ∙ ap (λ b. slot_word next b slot) leads
          ∙ slots slot low (λ n. none (inl (subst (λ x. renewed (slot ∷ x)) (sym e) n))) (subst (λ x. Counts (slot ∷ x)) e counts)
          ∙ ap (λ v. unwrap_or v (laid (slot ∷ here))) (sym (stage.early here slot live first)))
      words p slot l (inr e) low none counts (inr apart) = absurd (apart e)
      words p slot l (inl made) low none counts (inr apart) =
          word-turned now next Pointer pointers here pointer turns p slot l low apart (λ e. none (inr e))
          ∙ stage.words p slot l made low (λ n. none (inl n)) counts

      low_bits : (p : Trail) → Pointer p → (p ≡ here) ⊎ (p ≢ here) → word_on next p % 4096 ≡ word_on old p % 4096
      low_bits p l (inl e) = ap (λ x. word_on next x % 4096) e ∙ ap (λ w. w % 4096) turns.turned ∙ bits ∙ stage.bits here live ∙ ap (λ x. word_on old x % 4096) (sym e)
      low_bits p l (inr apart) = ap (λ w. w % 4096) (pointer-turned now next Pointer pointers here pointer turns p l apart) ∙ stage.bits p l

      block_here : block_on next here ≡ copy
      block_here = ap block_of turns.turned ∙ leads

      block_there : (p : Trail) → Pointer p → p ≢ here → block_on next p ≡ block_on now p
      block_there p l apart = ap block_of (pointer-turned now next Pointer pointers here pointer turns p l apart)

      fresh : (p : Trail) → Pointer p → renewed p ⊎ (p ≡ here) → (p ≡ here) ⊎ (p ≢ here) → (block_on next p ≢ 0) × (LeadsTo old Pointer (block_on next p) → ⊥)
      fresh p l n (inl e) =
          let at : block_on next p ≡ copy = ap (block_on next) e ∙ block_here in
          (λ null. absurd (omega (arith, copy_range.0, at, null)), λ has. not_old (subst (LeadsTo old Pointer) at has))
      fresh p l (inr e) (inr apart) = absurd (apart e)
      fresh p l (inl n) (inr apart) =
          let at : block_on next p ≡ block_on now p = block_there p l apart in
          let before = stage.fresh p l n in
          (λ null. before.0 (sym at ∙ null), λ has. before.1 (subst (LeadsTo old Pointer) at has))

      outside_snapshot : (p : Trail) → Pointer p → renewed p ⊎ (p ≡ here) → (p ≡ here) ⊎ (p ≢ here) → in_snapshot (block_on next p) ≡ false
      outside_snapshot p l n (inl e) = ap in_snapshot (ap (block_on next) e ∙ block_here) ∙ stage.loose copy was_free
      outside_snapshot p l (inr e) (inr apart) = absurd (apart e)
      outside_snapshot p l (inl n) (inr apart) = ap in_snapshot (block_there p l apart) ∙ stage.outside_snapshot p l n

      -- where a pointer of the next image led before
      full_before : (b : ℕ) → free b ≡ false → free_after b ≡ false
      full_before b full = go (cases_eq b copy)
        where
          go : (b ≡ copy) ⊎ (b ≡ copy → ⊥) → free_after b ≡ false
          go (inl e) = ap free_after e ∙ not_free
          go (inr apart) = others b apart ∙ full

      led : (b : ℕ) (p : Trail) → Pointer p → block_on next p ≡ b → b ≢ 0 → (p ≡ here) ⊎ (p ≢ here) → free_after b ≡ false
      led b p l named some (inl e) = ap free_after (sym named ∙ ap (block_on next) e ∙ block_here) ∙ not_free
      led b p l named some (inr apart) = full_before b (stage.taken b (inr (record { trail = p; pointer = l; named = sym (block_there p l apart) ∙ named; not_null = some })))

      taken : (b : ℕ) → LeadsTo old Pointer b ⊎ LeadsTo next Pointer b → free_after b ≡ false
      taken b (inl has) = full_before b (stage.taken b (inl has))
      taken b (inr has) = led b has.trail has.pointer has.named has.not_null (cases_trail has.trail here)

      leads_next : (b : ℕ) (p : Trail) → Pointer p → block_on now p ≡ b → b ≢ 0 → (LeadsTo old Pointer b → ⊥) → (p ≡ here) ⊎ (p ≢ here) → LeadsTo next Pointer b
      leads_next b p l named some dead (inr apart) = record { trail = p; pointer = l; named = block_there p l apart ∙ named; not_null = some }
      leads_next b p l named some dead (inl e) = absurd (dead (record { trail = here; pointer = live; named = sym same_block ∙ ap (block_on now) (sym e) ∙ named; not_null = some }))
        where
          same_block : block_on now here ≡ block_on old here
          same_block = ap block_of (stage.same here live first)

      known : (b : ℕ) → 1 ≤ b → b < block_count old → free_after b ≡ false → (LeadsTo old Pointer b → ⊥) → in_snapshot b ≡ false → LeadsTo next Pointer b
      known b low high full dead loose = go (cases_eq b copy)
        where
          go : (b ≡ copy) ⊎ (b ≡ copy → ⊥) → LeadsTo next Pointer b
          go (inl e) = record { trail = here; pointer = live; named = block_here ∙ sym e; not_null = λ null. absurd (omega (arith, low, null)) }
          go (inr apart) =
              let has = stage.known b low high (sym (others b apart) ∙ full) dead loose in
              leads_next b has.trail has.pointer has.named has.not_null dead (cases_trail has.trail here)

      range : (b : ℕ) → free_after b ≡ true → (b ≡ copy) ⊎ (b ≡ copy → ⊥) → (1 ≤ b) × (b < block_count old)
      range b is (inl e) = subst (λ x. (1 ≤ x) × (x < block_count old)) (sym e) copy_range
      range b is (inr apart) = stage.in_range b (sym (others b apart) ∙ is)

      loose : (b : ℕ) → free_after b ≡ true → (b ≡ copy) ⊎ (b ≡ copy → ⊥) → in_snapshot b ≡ false
      loose b is (inl e) = ap in_snapshot e ∙ stage.loose copy was_free
      loose b is (inr apart) = stage.loose b (sym (others b apart) ∙ is)

  -- A word of a copied block that is no pointer is given again.
  pub stage_word : {next : Image} (p : Trail) (slot : ℕ) {given : ℕ} (value_after : Trail → Option ℕ) →
      Pointer p → renewed p → slot < 512 → (Pointer (slot ∷ p) → ⊥) →
      Turns now next Pointer (slot ∷ p) given →
      value_after (slot ∷ p) ≡ Some given →
      ((q : Trail) → q ≢ slot ∷ p → value_after q ≡ value q) →
      IsStage old next Pointer Counts renewed value_after laid in_snapshot free
  stage_word {next} p slot {given} value_after live made low content turns here values = record {
    whole = turns.whole ∙ stage.whole;
    skeleton = skeleton-turned now next Pointer pointers (slot ∷ p) given turns stage.skeleton (λ l. absurd (content l));
    superblock = λ place low other. turns.superblock place low other ∙ stage.superblock place low other;
    same = λ q l none. same q l ∙ stage.same q l none;
    words = λ q s l one small none counts. words q s l one small none counts (cases_trail (s ∷ q) (slot ∷ p));
    still = λ q s l unmade small none.
        word-turned now next Pointer pointers (slot ∷ p) given turns q s l small (λ e. content (subst Pointer e l)) (λ e. unmade (subst renewed (sym (tail_same e)) made))
        ∙ stage.still q s l unmade small none;
    bits = λ q l. ap (λ w. w % 4096) (same q l) ∙ stage.bits q l;
    fresh = λ q l n.
        let before = stage.fresh q l n in
        (λ null. before.0 (sym (block_same q l) ∙ null), λ has. before.1 (subst (LeadsTo old Pointer) (block_same q l) has));
    outside_snapshot = λ q l n. ap in_snapshot (block_same q l) ∙ stage.outside_snapshot q l n;
    unvalued = λ q l. values q (λ e. content (subst Pointer e l)) ∙ stage.unvalued q l;
    early = λ q s l unmade. values (s ∷ q) (λ e. unmade (subst renewed (sym (tail_same e)) made)) ∙ stage.early q s l unmade;
    taken = taken;
    known = λ b small high full dead loose.
        let has = stage.known b small high full dead loose in
        record { trail = has.trail; pointer = has.pointer; named = block_same has.trail has.pointer ∙ has.named; not_null = has.not_null };
    in_range = stage.in_range;
    loose = stage.loose;
  }
    where
      tail_same : {s : ℕ} {q : Trail} → s ∷ q ≡ slot ∷ p → q ≡ p
      tail_same e = cc

      same : (q : Trail) → Pointer q → word_on next q ≡ word_on now q
      same q l = pointer-turned now next Pointer pointers (slot ∷ p) given turns q l (λ e. content (subst Pointer e l))

      block_same : (q : Trail) → Pointer q → block_on next q ≡ block_on now q
      block_same q l = ap block_of (same q l)

      words : (q : Trail) (s : ℕ) → Pointer q → renewed q → s < 512 → (renewed (s ∷ q) → ⊥) → Counts (s ∷ q) → (s ∷ q ≡ slot ∷ p) ⊎ (s ∷ q ≢ slot ∷ p) →
          word_on next (s ∷ q) ≡ unwrap_or (value_after (s ∷ q)) (laid (s ∷ q))
      words q s l one small none counts (inl e) =
          ap (word_on next) e ∙ turns.turned ∙ ap (λ v. unwrap_or v (laid (s ∷ q))) (sym (ap value_after e ∙ here))
      words q s l one small none counts (inr apart) =
          word-turned now next Pointer pointers (slot ∷ p) given turns q s l small (λ e. content (subst Pointer e l)) apart
          ∙ stage.words q s l one small none counts
          ∙ ap (λ v. unwrap_or v (laid (s ∷ q))) (sym (values (s ∷ q) apart))

      taken : (b : ℕ) → LeadsTo old Pointer b ⊎ LeadsTo next Pointer b → free b ≡ false
      taken b (inl has) = stage.taken b (inl has)
      taken b (inr has) = stage.taken b (inr (record { trail = has.trail; pointer = has.pointer; named = sym (block_same has.trail has.pointer) ∙ has.named; not_null = has.not_null }))

-- ---- at the end

module _ {in_snapshot : ℕ → Bool} {old now : Image} {Pointer Counts renewed : Trail → Type 0} {value : Trail → Option ℕ} {laid : Trail → ℕ} {free : ℕ → Bool} (stage : IsStage old now Pointer Counts renewed value laid in_snapshot free)
    (before : IsSkeleton old Pointer) where
  -- the block to which a pointer led that was turned is not in the new image
  left : (p : Trail) → Pointer p → renewed p → (q : Trail) → Pointer q → (renewed q ⊎ (renewed q → ⊥)) → block_on old p ≢ 0 → block_on now q ≡ block_on old p → ⊥
  left p live new q also (inl made) some same = (stage.fresh q also made).1 (record { trail = p; pointer = live; named = sym same; not_null = λ null. some (sym same ∙ null) })
  left p live new q also (inr still) some same =
      let equal : p ≡ q = before.once p q live also some (sym same ∙ ap block_of (stage.same q also still)) in
      still (subst renewed equal new)

  -- a block to which an old pointer led that was not turned is still there
  stays : (p : Trail) → Pointer p → (renewed p → ⊥) → block_on now p ≡ block_on old p
  stays p live still = ap block_of (stage.same p live still)

  -- once the blocks that were left are given back, the set is exact
  pub exact-end : (free_after : ℕ → Bool) → ((p : Trail) → renewed p ⊎ (renewed p → ⊥)) →
      ((p : Trail) → Pointer p → renewed p → block_on old p ≢ 0 → in_snapshot (block_on old p) ≡ false → free_after (block_on old p) ≡ true) →
      ((b : ℕ) → free b ≡ true → free_after b ≡ true) →
      ((b : ℕ) → free_after b ≡ true → (free b ≡ true) ⊎ IsGiven old Pointer renewed in_snapshot b) →
      IsExactSet now Pointer in_snapshot free_after
  exact-end free_after decide given still from = record {
    live = λ b has. live b has (free_after b) refl;
    dead = λ b low high none loose. dead b low high none loose (free b) refl;
    in_range = λ b is. in_range b (from b is);
    loose = λ b is. loose b (from b is);
  }
    where
      clash : (b : ℕ) → free b ≡ true → free b ≡ false → ⊥
      clash b one two = absurd (cc)

      live : (b : ℕ) → LeadsTo now Pointer b → (x : Bool) → free_after b ≡ x → free_after b ≡ false
      live b has false at = at
      live b has true at = absurd (go (from b at))
        where
          go : (free b ≡ true) ⊎ IsGiven old Pointer renewed in_snapshot b → ⊥
          go (inl is) = clash b is (stage.taken b (inr has))
          go (inr one) = left one.0 one.1 one.2 has.trail has.pointer (decide has.trail) (λ null. one.4 (sym one.3 ∙ null)) (has.named ∙ sym one.3)

      dead : (b : ℕ) → 1 ≤ b → b < block_count now → (LeadsTo now Pointer b → ⊥) → in_snapshot b ≡ false → (x : Bool) → free b ≡ x → free_after b ≡ true
      dead b low high none loose true at = still b at
      dead b low high none loose false at = go (free_after b) refl
        where
          was : (LeadsTo old Pointer b → ⊥) → ⊥
          was not_old = none (stage.known b low (subst (λ n. b < n / 512) stage.whole high) at not_old loose)

          go : (x : Bool) → free_after b ≡ x → free_after b ≡ true
          go true is = is
          go false is = absurd (was (λ has. at_old has (decide has.trail)))
            where
              at_old : (has : LeadsTo old Pointer b) → renewed has.trail ⊎ (renewed has.trail → ⊥) → ⊥
              at_old has (inl made) =
                  let yes_free : free_after b ≡ true = ap free_after (sym has.named) ∙ given has.trail has.pointer made (λ null. has.not_null (sym has.named ∙ null)) (ap in_snapshot has.named ∙ loose) in
                  absurd (cc)
              at_old has (inr unturned) = none (record { trail = has.trail; pointer = has.pointer; named = stays has.trail has.pointer unturned ∙ has.named; not_null = has.not_null })

      in_range : (b : ℕ) → (free b ≡ true) ⊎ IsGiven old Pointer renewed in_snapshot b → (1 ≤ b) × (b < block_count now)
      in_range b (inl is) = rw (ap (λ n. n / 512) stage.whole) (stage.in_range b is)
      in_range b (inr one) =
          let some : b ≢ 0 = one.4 in
          let low : block_on old one.0 < block_count old = before.in_range one.0 one.1 in
          rw (ap (λ n. n / 512) stage.whole) (omega (arith, some), subst (λ x. x < block_count old) one.3 low)

      loose : (b : ℕ) → (free b ≡ true) ⊎ IsGiven old Pointer renewed in_snapshot b → in_snapshot b ≡ false
      loose b (inl is) = stage.loose b is
      loose b (inr one) = one.5
