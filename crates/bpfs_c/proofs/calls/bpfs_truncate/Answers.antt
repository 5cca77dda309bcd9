use Rattle.std.proofs.Common.{rules}
use Rattle.bp_plain.specs.Calls.Call.{truncate}
use Rattle.bpfs_c.proofs.calls.bpfs_truncate.Goals as goal

pub returns : goal.returns
returns c = c.change.ensures (truncate c.args.path.now c.args.size) (λ old new ending gave. search rules)
