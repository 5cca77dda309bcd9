use Rattle.std.proofs.Common.{refl}
use Rattle.bp_session.proofs.OthersLaws.{others_same}
use Rattle.bp_session.proofs.SavingLaws.{still_attached}
use Rattle.bp_shell.proofs.ProgramLaws.{run_memory}
use Rattle.bp_shell.proofs.OpeningLaws.{stays_equal}
use Rattle.bp_shell.proofs.programs.run_over.Goals as goal

pub returns-in-Err-clause-outcome : goal.returns-in-Err-clause-outcome
returns-in-Err-clause-outcome g c = λ before name image mounted.
    run_memory _ _ (record { left = refl; file = stays_equal _ _ (mounted.kept name) }) mounted.flushed refl refl refl mounted.calm

pub returns-in-Err-clause-attached : goal.returns-in-Err-clause-attached
returns-in-Err-clause-attached g c = still_attached _

pub returns-in-Err-clause-others : goal.returns-in-Err-clause-others
returns-in-Err-clause-others g c = others_same (g.F.Files.view c.args.files.now)
