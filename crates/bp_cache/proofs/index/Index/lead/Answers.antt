use Rattle.std.proofs.Common.{◌≡◌, min, nat_eq, Some, IsSome, refl, sym, ◌∙◌, subst, arith}
use Rattle.std.specs.HashMap.{get, hash_map_len, Updates}
use Rattle.std.proofs.lemmas.Bool.{OnTrue_at, OnTrue_from, ne_eqb}
use Rattle.bp_cache.specs.Index.{GainsSlot}
use Rattle.bp_cache.proofs.LeadLaws.{gains_both}
use Rattle.bp_cache.proofs.index.Index.lead.Goals as goal

pub returns-else-first-slot-clause-gains : goal.returns-else-first-slot-clause-gains
returns-else-first-slot-clause-gains c =
    let before = c.args.self.now in
    let after = c.collide.new.self in
    let first = c.in-Ok-Some.first in
    let put : Updates nat_eq before.slots c.insert.new.self c.args.hash (Some c.args.slot) = c.in-Ok-Some.ensures.updates in
    let was : get nat_eq before.slots c.args.hash ≡ Some first = sym c.in-Ok-Some.ensures.old ∙ c.in-Ok-Some.field-0-is in
    let some : hash_map_len c.insert.new.self ≡ hash_map_len before.slots = let sum = rw c.in-Ok-Some.field-0-is at c.in-Ok-Some.ensures.len in omega (arith, sum) in
    OnTrue_from c.collide.result (GainsSlot before after c.args.hash c.args.slot)
    (λ reported.
    let again : Updates nat_eq c.insert.new.self after.slots c.args.hash (Some (min first c.args.slot)) = OnTrue_at reported c.collide.ensures.table in
    gains_both before after c.args.hash first c.args.slot was c.if-first-slot.false again.1
    (λ other_hash differs. again.2 other_hash (ne_eqb _ _ differs) ∙ put.2 other_hash (ne_eqb _ _ differs))
    (OnTrue_at reported c.collide.ensures.collision) (c.collide.ensures.count (subst IsSome (sym put.1) refl) ∙ some))
