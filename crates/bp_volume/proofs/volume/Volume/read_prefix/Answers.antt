use Rattle.std.proofs.Common.{◌∙◌, sym}
use Rattle.std.proofs.lemmas.List.{length-take-le}
use Rattle.bp_volume.proofs.ReplyLaws.{read_answer_of-prefix, fits-prefix}
use Rattle.bp_volume.proofs.volume.Volume.read_prefix.Goals as goal

pub returns-clause-called : goal.returns-clause-called
returns-clause-called g c =
    rw (read_answer_of-prefix c.read.result c.read.new.into _ c.read.ensures.fits, sym (length-take-le c.args.len c.args.buffer.now c.requires)) c.read.ensures.called

pub returns-clause-fits : goal.returns-clause-fits
returns-clause-fits g c = fits-prefix c.read.result c.args.len c.read.new.into (c.read.auto.into ∙ length-take-le c.args.len c.args.buffer.now c.requires) c.read.ensures.fits
