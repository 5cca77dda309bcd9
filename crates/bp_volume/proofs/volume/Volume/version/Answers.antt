use Rattle.std.proofs.Common.{◌∙◌, ap}
use Rattle.bp_layout.specs.Formatted.{version_of}
use Rattle.bp_layout.specs.Words.{Image}
use Rattle.bp_volume.proofs.ViewLaws.{served_is}
use Rattle.bp_volume.proofs.volume.Volume.version.Goals as goal

pub returns : goal.returns
returns g c = c.version.ensures ∙ ap (λ (image : Image). version_of image) (served_is c.self.inside.parts.region _ c.self.invariant.roles c.self.view_is)
