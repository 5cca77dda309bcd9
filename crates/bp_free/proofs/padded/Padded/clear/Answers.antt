use Rattle.std.proofs.Common.{◌∙◌, ap, length, replicate}
use Rattle.bp_free.proofs.Prefixes.{padded_blank}
use Rattle.bp_free.proofs.padded.Padded.clear.Goals as goal

pub returns : goal.returns
returns g c =
    padded_blank g.T.Blank.blank c.self.inside.stored c.deref_mut.result.now c.make_blank.new.list c.self.inside.room
    c.deref_mut.ensures.value c.make_blank.ensures c.self.invariant.within
    ∙ ap (λ list. replicate (length list) g.T.Blank.blank) c.self.view_is
