use Rattle.std.proofs.Common.{◌++◌, take, drop, ap, ◌∙◌, sym, arith}
use Rattle.std.specs.Result.{result_ok}
use Rattle.std.proofs.Math.Seq.{take-add}
use Rattle.std.proofs.lemmas.List.{length-append, length-drop, length-take, take_all}
use Rattle.hex.specs.Hex.{decode_of}
use Rattle.bp_script.proofs.DigitRuns.{few_stored}
use Rattle.bp_script.proofs.digits.decode_short_run.Goals as goal

pub returns : goal.returns
returns c =
    let s = c.args.digits.now in
    let w = take 8 s ++ take 8 (drop 8 s) in
    ap (λ t. result_ok (decode_of t)) (sym (take_all 16 s (omega arith)) ∙ take-add 8 8 s)
    ∙ few_stored w c.values_of-high.result c.values_of-low.result c.args.into.now
    (omega (arith, length-append (take 8 s) (take 8 (drop 8 s)), length-take 8 s, length-take 8 (drop 8 s), length-drop 8 s)) c.requires.into c.values_of-high.ensures c.values_of-low.ensures
