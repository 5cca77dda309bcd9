use Rattle.std.proofs.Common.{refl}
use Rattle.bp_shell.proofs.EndingLaws.{read_broken, read_done, read_stopped}
use Rattle.bp_shell.proofs.OpeningLaws.{stays_equal}
use Rattle.bp_shell.proofs.check.check_file.Goals as goal

pub returns-in-Err-clause-outcome : goal.returns-in-Err-clause-outcome
returns-in-Err-clause-outcome g c = λ source.
    read_stopped _ _ _ (record { left = refl; file = stays_equal _ _ (c.examine.ensures.reads.kept c.args.name.now) }) c.examine.ensures.flushed refl _ _ c.in-Err.ensures.reason c.in-Err.ensures.cause.failed c.in-Err.ensures.cause.others c.report_stop.ensures

pub returns-in-Ok-print-clause-outcome : goal.returns-in-Ok-print-clause-outcome
returns-in-Ok-print-clause-outcome g c = λ source.
    read_done _ _ _ (record { left = refl; file = stays_equal _ _ (c.examine.ensures.reads.kept c.args.name.now) }) c.examine.ensures.flushed refl _ (record { notice = _; checks = c.in-Ok.ensures.checks; reported = refl }) c.in-Ok-print.ensures.all c.in-Ok-print.ensures.cause.same c.in-Ok.ensures.cause.same

pub returns-in-Err-print-clause-outcome : goal.returns-in-Err-print-clause-outcome
returns-in-Err-print-clause-outcome g c = λ source.
    read_broken _ _ _ (record { left = refl; file = stays_equal _ _ (c.examine.ensures.reads.kept c.args.name.now) }) c.examine.ensures.flushed refl _ (record { notice = _; checks = c.in-Ok.ensures.checks; reported = refl }) c.in-Err-print.ensures.some c.in-Err-print.ensures.cause.failed c.in-Ok.ensures.cause.same
