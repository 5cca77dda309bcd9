use Rattle.std.proofs.Common.{rules}
use Rattle.bp_plain.specs.Calls.Call.{unlink}
use Rattle.bpfs_c.proofs.calls.bpfs_unlink.Goals as goal

pub returns : goal.returns
returns c = c.change.ensures (unlink c.args.path.now) (λ old new ending gave. search rules)
