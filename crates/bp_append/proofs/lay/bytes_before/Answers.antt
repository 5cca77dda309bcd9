use Rattle.std.proofs.Common.{arith}
use Rattle.bp_append.proofs.LaidLaws.{given_prefix, given_past}
use Rattle.bp_append.proofs.lay.bytes_before.Goals as goal

pub returns-clause-before : goal.returns-clause-before
returns-clause-before c = λ offset low. given_prefix c.args.high c.args.from c.min-count.result c.args.bytes.now (omega arith) offset low

pub returns-clause-past_end : goal.returns-clause-past_end
returns-clause-past_end c = λ offset past. given_past c.args.high c.args.from c.min-count.result c.args.bytes.now (omega arith) offset past
