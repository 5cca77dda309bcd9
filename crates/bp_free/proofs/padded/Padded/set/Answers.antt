use Rattle.std.proofs.Common.{◌∙◌, ap, set, arith}
use Rattle.bp_free.proofs.Prefixes.{padded_set}
use Rattle.bp_free.proofs.padded.Padded.set.Goals as goal

pub returns : goal.returns
returns g c =
    padded_set _ c.args.entry _ c.self.inside.room c.args.i (omega (arith, c.cover.ensures.wanted))
    ∙ ap (λ entries. set entries c.args.i c.args.entry) (c.cover.ensures.same ∙ c.self.view_is)
