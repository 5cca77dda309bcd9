use Rattle.std.proofs.Common.{rules}
use Rattle.bp_plain.specs.Calls.Call.{rename}
use Rattle.bpfs_c.proofs.calls.bpfs_rename.Goals as goal

pub returns : goal.returns
returns c = c.change.ensures (rename c.args.from.now c.args.to.now) (λ old new ending gave. search rules)
