use Rattle.std.proofs.Common.{◌∙◌, ap}
use Rattle.bp_layout.specs.Trees.{has_snapshot}
use Rattle.bp_layout.specs.Words.{Image}
use Rattle.bp_volume.proofs.ViewLaws.{served_is}
use Rattle.bp_volume.proofs.volume.Volume.has_snapshot.Goals as goal

pub returns : goal.returns
returns g c = c.has_second.ensures ∙ ap (λ (image : Image). has_snapshot image) (served_is c.self.inside.parts.region _ c.self.invariant.roles c.self.view_is)
