use Rattle.std.proofs.Common.{take, arith, w8}
use Rattle.std.proofs.lemmas.List.{length-take}
use Rattle.std.proofs.lemmas.Simd.{chunk-fits}
use Rattle.bp_script.proofs.EncodedRuns.{highs_low, lows_low, run_encoded}
use Rattle.bp_script.proofs.digits.encode_run.Goals as goal

pub digits_of-high-requires : goal.digits_of-high-requires
digits_of-high-requires c = highs_low 16 (take 16 c.args.content.now) (chunk-fits w8 0 16 c.args.content.now c.type_inv.content)

pub digits_of-low-requires : goal.digits_of-low-requires
digits_of-low-requires c = lows_low 16 (take 16 c.args.content.now)

pub returns-clause-digits : goal.returns-clause-digits
returns-clause-digits c =
    run_encoded (take 16 c.args.content.now) c.digits_of-high.result c.digits_of-low.result (omega (arith, length-take 16 c.args.content.now))
    c.digits_of-high.ensures c.digits_of-low.ensures
