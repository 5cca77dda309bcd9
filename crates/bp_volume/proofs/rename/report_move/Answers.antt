use Rattle.std.proofs.Common.{subst}
use Rattle.bp_volume.specs.Renaming.{MovesName}
use Rattle.bp_volume.proofs.rename.report_move.Goals as goal

pub returns-in-Some : goal.returns-in-Some
returns-in-Some c = λ old new right moves.
    c.drop_directory.ensures new (c.replace.ensures old new right (subst (MovesName old new c.args.from c.args.to) c.in-Some.is moves))
