use Rattle.bp_shell.proofs.ProgramLaws.{format_asked, read_asked}
use Rattle.bp_shell.proofs.ExportingLaws.{export_asked}
use Rattle.bp_shell.proofs.programs.run_program.Goals as goal

pub returns-in-Format-clause-outcome : goal.returns-in-Format-clause-outcome
returns-in-Format-clause-outcome g c = rw c.in-Format.is (c.format_file.ensures.outcome (g.S.Source.view c.args.source.now))

pub returns-in-Run-clause-outcome : goal.returns-in-Run-clause-outcome
returns-in-Run-clause-outcome g c = rw c.in-Run.is c.run_file.ensures.outcome

pub returns-in-Run-clause-unread : goal.returns-in-Run-clause-unread
returns-in-Run-clause-unread g c = c.run_file.ensures.unread

pub returns-in-Check-clause-outcome : goal.returns-in-Check-clause-outcome
returns-in-Check-clause-outcome g c = rw c.in-Check.is (c.check_file.ensures.outcome (g.S.Source.view c.args.source.now))

pub play_file-requires : goal.play_file-requires
play_file-requires g c = let range = rw c.in-Play.is at c.requires in range.1

pub returns-in-Play-clause-outcome : goal.returns-in-Play-clause-outcome
returns-in-Play-clause-outcome g c = rw c.in-Play.is (c.play_file.ensures.outcome (g.S.Source.view c.args.source.now))

pub returns-in-Format-clause-asked : goal.returns-in-Format-clause-asked
returns-in-Format-clause-asked g c = format_asked _ (c.format_file.ensures.outcome (g.S.Source.view c.args.source.now)).one_of

pub returns-in-Check-clause-asked : goal.returns-in-Check-clause-asked
returns-in-Check-clause-asked g c = read_asked _ (c.check_file.ensures.outcome (g.S.Source.view c.args.source.now)).one_of

pub returns-in-Play-clause-asked : goal.returns-in-Play-clause-asked
returns-in-Play-clause-asked g c = read_asked _ (c.play_file.ensures.outcome (g.S.Source.view c.args.source.now)).one_of

pub returns-in-Export-clause-outcome : goal.returns-in-Export-clause-outcome
returns-in-Export-clause-outcome g c = rw c.in-Export.is (c.export_file.ensures.outcome (g.S.Source.view c.args.source.now))

pub returns-in-Export-clause-asked : goal.returns-in-Export-clause-asked
returns-in-Export-clause-asked g c = export_asked _ (c.export_file.ensures.outcome (g.S.Source.view c.args.source.now)).one_of
