-- To which slots the hashes of an index lead after a change.
use Rattle.std.proofs.Common.{◌≡◌, ◌≢◌, ◌⊎◌, ℕ, ◌+◌, ◌<◌, ◌≤◌, min, max, nat_eq, length, Option, None, Some, is_some, if◌then◌else◌, Result, Ok, Err, IfOk, OnOk, OnErr, refl, sym, ◌∙◌, ap, subst, inl, inr, arith}
use Rattle.std.specs.HashMap.{HashMap, get, hash_map_len, Updates}
use Rattle.std.proofs.lemmas.Bool.{cases_eq, cases_order, ne_eqb}
use Rattle.bp_cache.specs.Collisions.{AddsCollision, Collides, RemovesCollision}
use Rattle.bp_cache.specs.declared.index.Index.{Index}
use Rattle.bp_cache.specs.Index.{GainsSlot, Leads, LosesSlot, name_count}

-- the table has one slot for a hash
pub one_first : (index : Index) (hash slot first : ℕ) → get nat_eq index.slots hash ≡ Some first → (leads : Leads index hash slot) → leads.first ≡ first
one_first index hash slot first table leads = let same : Some leads.first ≡ Some first = sym leads.table ∙ table in cc

pub never_none : (index : Index) (hash slot : ℕ) → get nat_eq index.slots hash ≡ None → Leads index hash slot → ⊥
never_none index hash slot none leads = let clash : ◌≡◌ {A = Option ℕ} None (Some leads.first) = sym none ∙ leads.table in cc

-- a value that is put at a key with a value
pub replaced : {S E : Type 0} (before after : HashMap ℕ ℕ S) (hash was value : ℕ) (result : Result (Option ℕ) E) → get nat_eq before hash ≡ Some was →
    IfOk result (λ old. old ≡ get nat_eq before hash) → OnOk result (Updates nat_eq before after hash (Some value)) → OnErr result (get nat_eq before hash ≡ None) →
    IfOk result (λ old. hash_map_len after ≡ hash_map_len before + (if is_some old then 0 else 1)) →
    Updates nat_eq before after hash (Some value) × (hash_map_len after ≡ hash_map_len before)
replaced before after hash was value (Ok old) has is updates none count =
    let some : old ≡ Some was = is ∙ has in
    let sum : hash_map_len after ≡ hash_map_len before + (if is_some (Some was) then 0 else 1) = rw some at count in
    (updates, omega (arith, sum))
replaced before after hash was value (Err e) has is updates none count = let clash : ◌≡◌ {A = Option ℕ} None (Some was) = sym none ∙ has in absurd (cc)

module _ (before after : Index) (hash : ℕ) where
  -- ---- one slot more

  -- the hash had another one: the table keeps the lesser one of both
  module _ (first slot : ℕ) (table : get nat_eq before.slots hash ≡ Some first) (differs : first ≢ slot) (later : get nat_eq after.slots hash ≡ Some (min first slot))
      (others : (other_hash : ℕ) → hash ≢ other_hash → get nat_eq after.slots other_hash ≡ get nat_eq before.slots other_hash)
      (adds : AddsCollision before.collisions after.collisions hash (max first slot)) where
    gains_new : Leads after hash slot
    gains_new = elim (cases_order first slot) [
      | inl same ↦ absurd (differs same)
      | inr (inl below) ↦
          let least : min first slot ≡ first = omega (arith, below) in
          let most : max first slot ≡ slot = omega (arith, below) in
          record { first = first; table = later ∙ ap Some least; here = inr (below, subst (Collides after.collisions hash) most adds.added) }
      | inr (inr above) ↦
          let least : min first slot ≡ slot = omega (arith, above) in
          record { first = slot; table = later ∙ ap Some least; here = inl refl }
    ]

    gains_old : (other : ℕ) → (other ≡ first) ⊎ ((first < other) × Collides before.collisions hash other) → Leads after hash other
    gains_old other (inr (above, recorded)) = record { first = min first slot; table = later; here = inr (omega (arith, above), adds.kept hash other recorded) }
    gains_old other (inl here) = elim (cases_order first slot) [
      | inl same ↦ absurd (differs same)
      | inr (inl below) ↦ record { first = min first slot; table = later; here = inl (omega (arith, below, here)) }
      | inr (inr above) ↦
          let most : max first slot ≡ other = omega (arith, above, here) in
          record { first = min first slot; table = later; here = inr (omega (arith, above, here), subst (Collides after.collisions hash) most adds.added) }
    ]

    gains_kept : (other_hash other : ℕ) → Leads before other_hash other → Leads after other_hash other
    gains_kept other_hash other leads = elim (cases_eq hash other_hash) [
      | inl meets ↦
          let led : Leads before hash other = subst (λ h. Leads before h other) (sym meets) leads in
          subst (λ h. Leads after h other) meets (gains_old other (subst (λ f. (other ≡ f) ⊎ ((f < other) × Collides before.collisions hash other)) (one_first before hash other first table led) led.here))
      | inr apart ↦ record {
        first = leads.first;
        table = others other_hash apart ∙ leads.table;
        here = elim leads.here [
          | inl same ↦ inl same
          | inr (above, recorded) ↦ inr (above, adds.kept other_hash other recorded)
        ];
      }
    ]

    pub gains_both : hash_map_len after.slots ≡ hash_map_len before.slots → GainsSlot before after hash slot
    gains_both as_many = record { leads = gains_new; kept = gains_kept; count = omega (arith, as_many, adds.count) }

  -- ---- one slot less

  module _ (slot : ℕ) where
    -- the hash has no other
    module _ (table : get nat_eq before.slots hash ≡ Some slot) (alone : (other : ℕ) → Collides before.collisions hash other → ⊥)
        (updates : Updates nat_eq before.slots after.slots hash None) (same : after.collisions ≡ before.collisions) (one_less : hash_map_len after.slots + 1 ≡ hash_map_len before.slots) where
      here_alone : (other first : ℕ) → slot ≡ first → (other ≡ first) ⊎ ((first < other) × Collides before.collisions hash other) → other ≡ slot
      here_alone other first is (inl here) = here ∙ sym is
      here_alone other first is (inr (above, recorded)) = absurd (alone other recorded)

      pub loses_only : LosesSlot before after hash slot
      loses_only = record {
        kept = λ led other_hash other differs leads. elim (cases_eq hash other_hash) [
          | inl meets ↦
              let there : Leads before hash other = subst (λ h. Leads before h other) (sym meets) leads in
              absurd (differs (sym meets) (here_alone other there.first (sym (one_first before hash other slot table there)) there.here))
          | inr apart ↦ record {
            first = leads.first;
            table = updates.2 _ (ne_eqb _ _ apart) ∙ leads.table;
            here = subst (λ (cs : _). (other ≡ leads.first) ⊎ ((leads.first < other) × Collides cs other_hash other)) (sym same) leads.here;
          }
        ];
        count = λ led. omega (arith, one_less, ap (λ (cs : _). length cs.slots.items) same);
      }

    -- the least of the others takes its place
    module _ (next : ℕ) (table : get nat_eq before.slots hash ≡ Some slot) (recorded : Collides before.collisions hash next)
        (least : (other : ℕ) → Collides before.collisions hash other → next ≤ other) (updates : Updates nat_eq before.slots after.slots hash (Some next))
        (removes : RemovesCollision before.collisions after.collisions hash next) (as_many : hash_map_len after.slots ≡ hash_map_len before.slots) where
      next_or_after : (other first : ℕ) → slot ≡ first → other ≢ slot → (other ≡ first) ⊎ ((first < other) × Collides before.collisions hash other) → Leads after hash other
      next_or_after other first is differs (inl here) = absurd (differs (here ∙ sym is))
      next_or_after other first is differs (inr (above, was)) = elim (cases_eq other next) [
        | inl here ↦ record { first = next; table = updates.1; here = inl here }
        | inr apart ↦
            let bound : next ≤ other = least other was in
            record { first = next; table = updates.1; here = inr (omega (arith, bound, apart), removes.kept hash other (λ _. apart) was) }
      ]

      pub loses_first : LosesSlot before after hash slot
      loses_first = record {
        kept = λ led other_hash other differs leads. elim (cases_eq hash other_hash) [
          | inl meets ↦
              let there : Leads before hash other = subst (λ h. Leads before h other) (sym meets) leads in
              subst (λ h. Leads after h other) meets (next_or_after other there.first (sym (one_first before hash other slot table there)) (differs (sym meets)) there.here)
          | inr apart ↦ record {
            first = leads.first;
            table = updates.2 _ (ne_eqb _ _ apart) ∙ leads.table;
            here = elim leads.here [
              | inl same ↦ inl same
              | inr (above, was) ↦ inr (above, removes.kept other_hash other (λ meets. absurd (apart (sym meets))) was)
            ];
          }
        ];
        count = λ led. let one_less = removes.count recorded in omega (arith, as_many, one_less);
      }
