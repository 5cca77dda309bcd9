use Rattle.std.proofs.Common.{◌∙◌, ◌+◌, ◌<◌, length, replicate, refl, arith, inl, inr, get_or-set_same, get_or-set_other}
use Rattle.std.proofs.lemmas.Bool.{cases_eq, cases_lt}
use Rattle.std.proofs.lemmas.List.{get_or-replicate, get_or_past, length-set}
use Rattle.bp_limits.specs.CallLimits.{max_name}
use Rattle.bp_rename.proofs.within.respelled.Goals as goal

pub loop-at-init : goal.loop-at-init
loop-at-init c = record {
  whole = refl;
  done = λ k low. absurd (omega (arith, low));
  zeros = λ k high. elim (cases_lt k (max_name + 8)) [
    | inl inside ↦ get_or-replicate (max_name + 8) k 0 0 inside
    | inr past ↦ get_or_past (replicate (max_name + 8) 0) k 0 past
  ];
}

pub loop-at-preserved : goal.loop-at-preserved
loop-at-preserved c =
    let inside : c.loop-at.at < length c.loop-at.bytes = omega (arith, c.loop-at.invariant.whole, c.loop-at-test.true) in
    record {
      whole = length-set c.loop-at.bytes c.loop-at.at c.respelled_byte.result ∙ c.loop-at.invariant.whole;
      done = λ k low. elim (cases_eq k c.loop-at.at) [
        | inl same ↦ rw (same, get_or-set_same c.loop-at.bytes c.loop-at.at c.respelled_byte.result 0 inside) c.respelled_byte.ensures
        | inr other ↦ get_or-set_other c.loop-at.bytes c.loop-at.at k c.respelled_byte.result 0 other ∙ c.loop-at.invariant.done k (omega (arith, low, other))
      ];
      zeros = λ k high. get_or-set_other c.loop-at.bytes c.loop-at.at k c.respelled_byte.result 0 (λ same. omega (arith, high, same)) ∙ c.loop-at.invariant.zeros k (omega (arith, high));
    }
