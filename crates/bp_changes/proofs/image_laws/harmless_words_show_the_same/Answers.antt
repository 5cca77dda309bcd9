use Rattle.bp_changes.proofs.Frame.{same-by_agreement}
use Rattle.bp_changes.proofs.image_laws.harmless_words_show_the_same.Goals as goal

pub returns : goal.returns
returns c = same-by_agreement c.args.old.now c.args.new.now c.requires.well_formed c.requires.agrees
