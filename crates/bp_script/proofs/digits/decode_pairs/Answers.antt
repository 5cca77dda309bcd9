use Rattle.std.proofs.Common.{◌≤◌, ◌⊎◌, arith, ap, ◌∙◌, inl, inr}
use Rattle.std.specs.Result.{result_ok}
use Rattle.std.proofs.lemmas.Bool.{cases_lt, le-ltb, lt-ltb}
use Rattle.hex.proofs.HexLemmas.{decode_of-even}
use Rattle.hex.proofs.Pairs.{decode_done}
use Rattle.bp_script.proofs.DigitPairs.{foreign_seen, more_decoded}
use Rattle.bp_script.proofs.digits.decode_pairs.Goals as goal

pub loop-i-preserved : goal.loop-i-preserved
loop-i-preserved c =
    let s = c.args.digits.now in
    let out = c.loop-i.into in
    let high = c.value_of-high.result in
    let low = c.value_of-low.result in record {
      digits = λ small. more_decoded s out c.loop-i.i high low (omega arith) (omega arith) c.value_of-high.ensures c.value_of-low.ensures (omega arith) (omega arith) (c.loop-i.invariant.digits (omega arith));
      foreign = λ large.
          elim (cases_lt c.loop-i.most 16) [
            | inl small ↦
                let which : (16 ≤ high) ⊎ (16 ≤ low) = elim (cases_lt high 16) [ inl below ↦ inr (omega arith) | inr above ↦ inl (omega arith) ] in
                foreign_seen s out c.loop-i.i high low (omega arith) c.value_of-high.ensures c.value_of-low.ensures which (c.loop-i.invariant.digits small)
            | inr seen ↦ c.loop-i.invariant.foreign (omega arith)
          ];
    }

pub returns : goal.returns
returns c =
    let even = decode_of-even c.args.digits.now (omega arith) in
    elim (cases_lt c.loop-i.most 16) [
      | inl small ↦
          let test = lt-ltb c.loop-i.most 16 small in
          rw test (ap result_ok (even ∙ decode_done c.args.digits.now c.loop-i.into c.loop-i.i (omega arith) (omega arith) (c.loop-i.invariant.digits small)))
      | inr large ↦
          let test = le-ltb c.loop-i.most 16 (omega arith) in
          rw test (ap result_ok even ∙ c.loop-i.invariant.foreign (omega arith))
    ]
