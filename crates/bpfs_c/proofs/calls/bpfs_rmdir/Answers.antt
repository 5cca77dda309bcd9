use Rattle.std.proofs.Common.{rules}
use Rattle.bp_plain.specs.Calls.Call.{rmdir}
use Rattle.bpfs_c.proofs.calls.bpfs_rmdir.Goals as goal

pub returns : goal.returns
returns c = c.change.ensures (rmdir c.args.path.now) (λ old new ending gave. search rules)
