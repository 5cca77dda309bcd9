use Rattle.bp_rename.proofs.RenameThawed.{renamed_after}
use Rattle.bp_rename.proofs.laws.renamed_names_move.Goals as goal

pub returns : goal.returns
returns c = renamed_after c.args.old.now c.args.new.now c.args.to_move.now c.requires
