use Rattle.std.proofs.Common.{◌≡◌, ℕ, zero, suc, ◌+◌, ◌-◌, ◌*◌, ◌<◌, ◌≤◌, ◌⊎◌, inl, inr, subst, arith}
use Rattle.std.proofs.lemmas.Bool.{cases_lt}
use Rattle.bp_layout.specs.Tree.{span}
use Rattle.bp_append.specs.Slots.{AreBegun}
use Rattle.bp_append.specs.Visited.{IsLast}
use Rattle.bp_append.proofs.SlotLaws.{span_up}
use Rattle.bp_append.proofs.visit.last_slot.Goals as goal

some_slot : (level start size count : ℕ) → start < size → AreBegun level start size count → 0 < count
some_slot level start size count begun are = are.all 0 (omega arith) (omega (arith, begun))

last_of : (level start size count : ℕ) → start < size → size ≤ start + 512 * span level → AreBegun level start size count → IsLast size level start (count - 1)
last_of level start size count begun inside are =
    let some = some_slot level start size count begun are in
    record {
      few = omega (arith, are.few, some);
      begun = are.begun (count - 1) (omega (arith, some));
      ends = ends (cases_lt count 512) (cases_lt (start + count * span level) size) some;
    }
  where
    next : (count s : ℕ) → 0 < count → start + count * s ≡ start + (count - 1) * s + s
    next zero s some = absurd (omega (arith, some))
    next (suc n) s some = let e : suc n - 1 ≡ n = omega arith in rw e (grind arith)

    ends : (count < 512) ⊎ (512 ≤ count) → (start + count * span level < size) ⊎ (size ≤ start + count * span level) → 0 < count → size ≤ start + (count - 1) * span level + span level
    ends _ (inr over) some = let e = next count (span level) some in omega (arith, e, over)
    ends (inl few) (inl low) some = let less = are.all count few low in omega (arith, less)
    ends (inr all) (inl low) some =
        let e : count ≡ 512 = omega (arith, all, are.few) in
        let low_all : start + 512 * span level < size = subst (λ n. start + n * span level < size) e low in
        omega (arith, low_all, inside)

pub overflow_sub-result : goal.overflow_sub-result
overflow_sub-result c = some_slot _ _ _ _ c.requires.begun c.begun_slots.ensures

pub returns : goal.returns
returns c = last_of _ _ _ _ c.requires.begun (let wide = span_up c.args.node.level c.requires.some in omega (arith, c.requires.inside, wide)) c.begun_slots.ensures
