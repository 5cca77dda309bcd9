use Rattle.std.proofs.Common.{rules}
use Rattle.bp_plain.specs.Calls.Call.{link}
use Rattle.bpfs_c.proofs.calls.bpfs_link.Goals as goal

pub returns : goal.returns
returns c = c.change.ensures (link c.args.from.now c.args.to.now) (λ old new ending gave. search rules)
