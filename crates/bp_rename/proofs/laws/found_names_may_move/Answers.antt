use Rattle.bp_rename.proofs.RenamedStands.{found_can_rename}
use Rattle.bp_rename.proofs.laws.found_names_may_move.Goals as goal

pub returns : goal.returns
returns c = λ found.
    found_can_rename c.args.image.now c.requires c.args.to_move.now found.from found.to found.name found.inode found.source found.target
