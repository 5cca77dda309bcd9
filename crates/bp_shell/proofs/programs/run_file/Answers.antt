use Rattle.std.proofs.Common.{refl}
use Rattle.bp_shell.proofs.ProgramLaws.{run_stopped}
use Rattle.bp_shell.proofs.FilesLaws.{only_opened, only_written}
use Rattle.bp_shell.proofs.OpeningLaws.{stays_equal}
use Rattle.bp_shell.proofs.programs.run_file.Goals as goal

pub returns-in-Err-clause-outcome : goal.returns-in-Err-clause-outcome
returns-in-Err-clause-outcome g c =
    run_stopped _ _ (record { left = refl; file = stays_equal _ _ (c.open.ensures.kept c.args.name.now) }) c.open.ensures.flushed refl _ _ c.in-Err.ensures.reason c.in-Err.ensures.cause.failed c.in-Err.ensures.cause.others c.report_stop.ensures

pub returns-in-Ok-clause-outcome : goal.returns-in-Ok-clause-outcome
returns-in-Ok-clause-outcome g c =
    let opened = c.in-Ok.ensures.opened in
    c.run_over.ensures.outcome (g.F.Files.view c.args.files.now) c.args.name.now opened.0
    (record { found = opened.1; starts = opened.2; holds = opened.3; flushed = c.open.ensures.flushed; calm = c.in-Ok.ensures.cause.same; kept = c.open.ensures.kept })

-- ---- what is left of the files

pub returns-in-Err-clause-files : goal.returns-in-Err-clause-files
returns-in-Err-clause-files g c = only_opened c.args.name.now (g.F.Files.view c.args.files.now) (g.F.Files.view c.open.new.files) c.open.ensures.attached c.open.ensures.kept

pub returns-in-Ok-clause-files : goal.returns-in-Ok-clause-files
returns-in-Ok-clause-files g c =
    only_written c.args.name.now (g.F.Files.view c.args.files.now) (g.F.Files.view c.open.new.files) (g.F.Files.view c.run_over.new.files) c.open.ensures.kept c.in-Ok.ensures.opened.3.attached c.in-Ok.ensures.ready.may_write
    c.run_over.ensures.attached c.run_over.ensures.others
