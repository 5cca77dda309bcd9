use Rattle.bp_script.proofs.DigitRuns.{lanes_are}
use Rattle.bp_script.proofs.digits.values_of.Goals as goal

pub returns : goal.returns
returns g c = lanes_are g.row.N _ c.fits-digits.0 c.fits-digits.1
