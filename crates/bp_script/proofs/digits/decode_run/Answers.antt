use Rattle.std.proofs.Common.{◌++◌, take, drop, ap, ◌∙◌, arith}
use Rattle.std.specs.Result.{result_ok}
use Rattle.std.proofs.Math.Seq.{take-add}
use Rattle.std.proofs.lemmas.List.{length-append, length-drop, length-take}
use Rattle.hex.specs.Hex.{decode_of}
use Rattle.bp_script.proofs.DigitRuns.{run_decoded}
use Rattle.bp_script.proofs.digits.decode_run.Goals as goal

pub returns-clause-bytes : goal.returns-clause-bytes
returns-clause-bytes c =
    let s = c.args.digits.now in
    let w = take 16 s ++ take 16 (drop 16 s) in
    ap (λ t. result_ok (decode_of t)) (take-add 16 16 s)
    ∙ run_decoded w c.values_of-high.result c.values_of-low.result (omega (arith, length-append (take 16 s) (take 16 (drop 16 s)), length-take 16 s, length-take 16 (drop 16 s), length-drop 16 s)) c.values_of-high.ensures c.values_of-low.ensures
