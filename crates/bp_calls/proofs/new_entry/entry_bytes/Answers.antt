use Rattle.std.proofs.Common.{◌∙◌, ◌<◌, length, arith, inl, inr, get_or-set_same, get_or-set_other}
use Rattle.std.proofs.lemmas.Bool.{cases_eq}
use Rattle.std.proofs.lemmas.List.{length-set}
use Rattle.bp_calls.proofs.new_entry.entry_bytes.Goals as goal

pub loop-at-preserved : goal.loop-at-preserved
loop-at-preserved c =
    let inside : c.loop-at.at < length c.loop-at.bytes = omega (arith, c.loop-at.invariant.whole, c.loop-at-test.true) in
    record {
      whole = length-set c.loop-at.bytes c.loop-at.at c.entry_byte.result ∙ c.loop-at.invariant.whole;
      done = λ k low. elim (cases_eq k c.loop-at.at) [
        | inl same ↦ rw (same, get_or-set_same c.loop-at.bytes c.loop-at.at c.entry_byte.result 0 inside) c.entry_byte.ensures
        | inr other ↦ get_or-set_other c.loop-at.bytes c.loop-at.at k c.entry_byte.result 0 other ∙ c.loop-at.invariant.done k (omega (arith, low, other))
      ];
    }
