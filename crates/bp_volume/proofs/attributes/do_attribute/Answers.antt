use Rattle.std.proofs.lemmas.Result.{err_from_is_err_and}
use Rattle.bp_volume.proofs.AskingLaws.{at_low, at_reached}
use Rattle.bp_volume.proofs.AttributeLaws.{attribute_reports, attribute_stops}
use Rattle.bp_volume.proofs.attributes.do_attribute.Goals as goal

pub attribute-requires-clause-reached : goal.attribute-requires-clause-reached
attribute-requires-clause-reached g c = at_reached _ c.requires.well_formed c.args.text.now _ c.in_ok-ino.ensures.found.found

pub attribute-requires-clause-some : goal.attribute-requires-clause-some
attribute-requires-clause-some g c = at_low _ c.requires.well_formed c.args.text.now _ c.in_ok-ino.ensures.found.found

pub attribute-requires-clause-version : goal.attribute-requires-clause-version
attribute-requires-clause-version g c = c.in_ok-ino.ensures.found.version

pub returns-clause-reported : goal.returns-clause-reported
returns-clause-reported g c =
    let here = c.in_ok-ino.ensures.found in
    attribute_reports _ c.args.text.now _ here.found here.version c.args.number _ c.requires.number c.attribute.ensures

pub returns-in_err-ino-clause-reported : goal.returns-in_err-ino-clause-reported
returns-in_err-ino-clause-reported g c =
    let p = err_from_is_err_and c.from_residual.result c.from_residual.ensures.1 in
    rw (p.1, p.2) (attribute_stops _ c.args.text.now c.args.number _ c.in_err-ino.ensures.refused)
