use Rattle.bp_plain.proofs.FormatStands.{format_stands}
use Rattle.bp_plain.proofs.laws.format_is_empty.Goals as goal

pub returns : goal.returns
returns c = format_stands c.args._image.now c.args._version c.args._blocks c.requires.whole c.requires.least c.requires.most
