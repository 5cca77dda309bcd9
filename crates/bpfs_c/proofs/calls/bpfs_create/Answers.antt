use Rattle.std.proofs.Common.{rules}
use Rattle.bp_plain.specs.Calls.Call.{create}
use Rattle.bpfs_c.proofs.calls.bpfs_create.Goals as goal

pub returns : goal.returns
returns c = c.change.ensures (create c.args.path.now) (λ old new ending gave. search rules)
