use Rattle.std.proofs.Common.{◌∙◌, ap, set, arith}
use Rattle.bp_free.proofs.Prefixes.{padded_set}
use Rattle.bp_free.proofs.padded.Padded.set_stored.Goals as goal

pub returns-then-i-len : goal.returns-then-i-len
returns-then-i-len g c =
    padded_set _ c.args.entry _ c.self.inside.room c.args.i (omega (arith, c.if-i-len.true, c.len.ensures))
    ∙ ap (λ entries. set entries c.args.i c.args.entry) c.self.view_is
