use Rattle.std.proofs.Common.{refl}
use Rattle.bp_shell.proofs.EndingLaws.{read_broken, read_done, read_stopped}
use Rattle.bp_shell.proofs.OpeningLaws.{stays_equal}
use Rattle.bp_shell.proofs.play.play_file.Goals as goal

pub returns-in-Err-clause-outcome : goal.returns-in-Err-clause-outcome
returns-in-Err-clause-outcome g c = λ source.
    read_stopped _ _ _ (record { left = refl; file = stays_equal _ _ (c.perform.ensures.reads.kept c.args.name.now) }) c.perform.ensures.flushed refl _ _ c.in-Err.ensures.reason c.in-Err.ensures.cause.failed c.in-Err.ensures.cause.others c.report_stop.ensures

pub returns-in-Ok-send-clause-outcome : goal.returns-in-Ok-send-clause-outcome
returns-in-Ok-send-clause-outcome g c = λ source.
    read_done _ _ _ (record { left = refl; file = stays_equal _ _ (c.perform.ensures.reads.kept c.args.name.now) }) c.perform.ensures.flushed refl _ c.in-Ok.ensures.plays (rw c.as_bytes.ensures.value at c.in-Ok-send.ensures.all) c.in-Ok-send.ensures.cause.same c.in-Ok.ensures.cause.same

pub returns-clause-outcome : goal.returns-clause-outcome
returns-clause-outcome g c = λ source.
    read_broken _ _ _ (record { left = refl; file = stays_equal _ _ (c.perform.ensures.reads.kept c.args.name.now) }) c.perform.ensures.flushed refl _ c.in-Ok.ensures.plays (rw c.as_bytes.ensures.value at c.in-Err-send.ensures.some) c.in-Err-send.ensures.cause.failed c.in-Ok.ensures.cause.same
