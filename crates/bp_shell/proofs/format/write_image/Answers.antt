use Rattle.std.proofs.Common.{◌∙◌, ◌*◌}
use Rattle.std.proofs.lemmas.Result.{err_from_is_err_and}
use Rattle.bp_io.specs.Files.{resized_file}
use Rattle.bp_shell.proofs.FormattingLaws.{partly_attached, partly_flushed, partly_replaced, whole_replaced}
use Rattle.bp_shell.proofs.format.write_image.Goals as goal

pub returns-in_err-attach-clause-partly : goal.returns-in_err-attach-clause-partly
returns-in_err-attach-clause-partly g c =
    let p = err_from_is_err_and c.from_residual.result c.from_residual.ensures.1 in
    rw p.1 (partly_attached _ _ _ (c.attach.ensures.kept c.args.name.now) (c.attach.ensures.made c.args.name.now))

pub returns-in_err-replace-clause-partly : goal.returns-in_err-replace-clause-partly
returns-in_err-replace-clause-partly g c =
    let is = rw c.in-Some.is at c.in_ok-attach.ensures.attached in
    let contents = rw c.in-Some.is at c.in_ok-attach.ensures.contents in
    let p = err_from_is_err_and c.from_residual-in_err-replace.result c.from_residual-in_err-replace.ensures.1 in
    rw p.1 (partly_replaced _ _ _ _ _ contents (c.in_err-replace.ensures.failed.bytes c.args.name.now is.attached))

pub flush-requires : goal.flush-requires
flush-requires g c =
    let is = rw c.in-Some.is at c.in_ok-attach.ensures.attached in record {
      attached = (c.args.name.now, c.replace.ensures.attached c.args.name.now ∙ is.attached);
      may_write = c.replace.ensures.may_write ∙ is.may_write;
    }

pub returns-clause-written : goal.returns-clause-written
returns-clause-written g c =
    let is = rw c.in-Some.is at c.in_ok-attach.ensures.attached in
    let contents = rw c.in-Some.is at c.in_ok-attach.ensures.contents in
    whole_replaced _ _ _ _ _ (resized_file (4096 * c.args.blocks) c.args.prefix.now) contents (c.in_ok-replace.ensures.replaced.bytes c.args.name.now is.attached) (c.flush.ensures.contents c.args.name.now)

pub returns-in_err-flush-clause-partly : goal.returns-in_err-flush-clause-partly
returns-in_err-flush-clause-partly g c =
    let is = rw c.in-Some.is at c.in_ok-attach.ensures.attached in
    let contents = rw c.in-Some.is at c.in_ok-attach.ensures.contents in
    let p = err_from_is_err_and c.from_residual-in_err-flush.result c.from_residual-in_err-flush.ensures.1 in
    rw p.1 (partly_flushed _ _ _ _ _ (resized_file (4096 * c.args.blocks) c.args.prefix.now) contents (c.in_ok-replace.ensures.replaced.bytes c.args.name.now is.attached) (c.flush.ensures.contents c.args.name.now))
