use Rattle.std.proofs.Common.{refl}
use Rattle.bp_shell.proofs.ProgramLaws.{format_broken, format_done, format_failed, format_memory}
use Rattle.bp_shell.proofs.format.format_file.Goals as goal

pub returns-in-Err-clause-outcome : goal.returns-in-Err-clause-outcome
returns-in-Err-clause-outcome g c = λ source. format_memory _ _ _ _ refl refl refl refl refl refl

pub returns-in-Err-write_image-clause-outcome : goal.returns-in-Err-write_image-clause-outcome
returns-in-Err-write_image-clause-outcome g c = λ source.
    format_failed _ _ _ _ refl refl (rw (c.deref.ensures.value, c.in-Ok.ensures.image) at c.in-Err-write_image.ensures.partly) refl refl c.in-Err-write_image.ensures.cause.failed

pub returns-in-Ok-print-clause-outcome : goal.returns-in-Ok-print-clause-outcome
returns-in-Ok-print-clause-outcome g c = λ source.
    format_done _ _ _ _ refl refl (rw (c.deref.ensures.value, c.in-Ok.ensures.image) at c.in-Ok-write_image.ensures.written) c.in-Ok-print.ensures.all c.in-Ok-write_image.ensures.flushed
    c.in-Ok-print.ensures.cause.same c.in-Ok-write_image.ensures.cause.same

pub returns-clause-outcome : goal.returns-clause-outcome
returns-clause-outcome g c = λ source.
    format_broken _ _ _ _ refl refl (rw (c.deref.ensures.value, c.in-Ok.ensures.image) at c.in-Ok-write_image.ensures.written) c.in-Err-print.ensures.some c.in-Ok-write_image.ensures.flushed
    c.in-Err-print.ensures.cause.failed c.in-Ok-write_image.ensures.cause.same
