use Rattle.std.proofs.Common.{arith}
use Rattle.bp_script.proofs.DigitRuns.{prefix_decoded, prefix_refused}
use Rattle.bp_script.proofs.digits.decode_few.Goals as goal

pub returns-then-decode_short_run : goal.returns-then-decode_short_run
returns-then-decode_short_run c =
    prefix_decoded 8 c.args.digits.now _ _ _ _ _ (omega arith) (omega arith) c.split_at.ensures.front c.split_at.ensures.back
    (rw c.if-decode_short_run.true at c.decode_short_run.ensures) c.decode_pairs-then-decode_short_run.ensures

pub returns-else-decode_short_run : goal.returns-else-decode_short_run
returns-else-decode_short_run c =
    rw c.if-decode_short_run.false
    (prefix_refused 8 c.args.digits.now _ (omega arith) (omega arith) c.split_at.ensures.front
    (rw c.if-decode_short_run.false at c.decode_short_run.ensures))
