use Rattle.std.proofs.Common.{take, arith}
use Rattle.bp_script.proofs.DigitRuns.{rest_decoded, run_refused}
use Rattle.bp_script.proofs.digits.decode_digits.Goals as goal

pub returns-then-prefix-into : goal.returns-then-prefix-into
returns-then-prefix-into c =
    let n = c.decode_prefix-prefix.result in
    run_refused n c.args.digits.now (take n c.decode_prefix-prefix.new.into) (omega arith) (omega arith) c.decode_prefix-prefix.ensures.prefix (c.decode_prefix-prefix.ensures.last (omega arith))

pub returns : goal.returns
returns c =
    rest_decoded c.decode_prefix-prefix.result c.args.digits.now c.decode_prefix-prefix.new.into c.decode_few.new.into c.decode_few.result (omega arith) (omega arith)
    c.decode_prefix-prefix.ensures.prefix c.decode_few.ensures
