use Rattle.bp_plain.proofs.Exportable.{image_exportable}
use Rattle.bp_plain.proofs.laws.images_are_exportable.Goals as goal

pub returns : goal.returns
returns c = λ tree stands short. image_exportable c.args._image.now tree stands short
