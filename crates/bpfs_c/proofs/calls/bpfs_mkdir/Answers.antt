use Rattle.std.proofs.Common.{rules}
use Rattle.bp_plain.specs.Calls.Call.{mkdir}
use Rattle.bpfs_c.proofs.calls.bpfs_mkdir.Goals as goal

pub returns : goal.returns
returns c = c.change.ensures (mkdir c.args.path.now) (λ old new ending gave. search rules)
