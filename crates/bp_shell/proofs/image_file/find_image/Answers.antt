use Rattle.std.proofs.Common.{arith, ◌∙◌, sym}
use Rattle.bp_shell.proofs.OpeningLaws.{has_length, stop_refused_length, never_missing}
use Rattle.bp_shell.proofs.image_file.find_image.Goals as goal

pub returns-in-Err-image_length-clause-reason : goal.returns-in-Err-image_length-clause-reason
returns-in-Err-image_length-clause-reason g c = record {
  missing = λ e. absurd (never_missing _ (sym c.stop_of.ensures ∙ e));
  refused = λ notice e.
      let answers = rw c.in-Ok-Some.field-0-is at c.in-Ok-Some.ensures.answers in
      stop_refused_length _ _ _ notice (has_length _ _ (rw c.requires at answers)) c.in-Err-image_length.ensures.refused (sym c.stop_of.ensures ∙ e);
}

pub returns-in-Ok-clause-found : goal.returns-in-Ok-clause-found
returns-in-Ok-clause-found g c =
    let is = rw c.in-Ok-Some.field-0-is at c.in-Ok-Some.ensures.attached in
    let answers = rw c.in-Ok-Some.field-0-is at c.in-Ok-Some.ensures.answers in
    let sizes = c.in-Ok.ensures.blocks in
    record {
      attached = is.attached;
      blocks = omega (arith, is.blocks, sizes.0);
      has = rw sizes.0 at (has_length _ _ (rw c.requires at answers));
      at_least = sizes.1;
      at_most = sizes.2;
    }
