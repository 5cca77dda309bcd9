use Rattle.std.proofs.Common.{◌+◌, ◌*◌, arith}
use Rattle.bp_append.proofs.GivenWords.{early-word}
use Rattle.bp_append.proofs.lay.early_run.Goals as goal

pub returns-then-end-layer : goal.returns-then-end-layer
returns-then-end-layer c = λ k i low few.
    early-word k i (c.args.start + 8 * k + i) c.args.layer.now.from c.args.layer.now.bytes.now low (omega (arith, c.if-end-layer.true, low, few))
