use Rattle.std.proofs.Common.{rules}
use Rattle.bp_plain.specs.Calls.Call.{write}
use Rattle.bpfs_c.proofs.calls.bpfs_write.Goals as goal

pub returns : goal.returns
returns c = c.change.ensures (write c.args.path.now c.args.offset c.args.bytes.now) (λ old new ending gave. search rules)
