use Rattle.std.proofs.Common.{◌∙◌}
use Rattle.bp_layout.specs.Bytes.{image_bytes}
use Rattle.pm_region.specs.Memory.{current_words}
use Rattle.bp_session.proofs.SavingLaws.{known_mixed, known_stays, on_err, on_ok, stays_attached, stays_known}
use Rattle.bp_session.proofs.OthersLaws.{others_then}
use Rattle.bp_session.proofs.save.save.Goals as goal

pub flush-requires : goal.flush-requires
flush-requires g c = record {
  attached = (c.requires.attached.0, c.write_changed.ensures.attached.attached c.requires.attached.0 ∙ c.requires.attached.1);
  may_write = c.write_changed.ensures.attached.may_write ∙ c.requires.may_write;
}

pub returns-clause-attached : goal.returns-clause-attached
returns-clause-attached g c = stays_attached _ _ _ c.write_changed.ensures.attached c.flush.ensures.attached

pub returns-clause-saved : goal.returns-clause-saved
returns-clause-saved g c = on_ok c.flush.result (λ name was file.
    let saved = c.in_ok-write_changed.ensures.saved name was file in
    record {
      attached = c.flush.ensures.attached.attached name ∙ saved.attached;
      size = rw c.flush.ensures.attached.blocks saved.size;
      has = rw c.flush.ensures.attached.blocks (known_stays c.args.flags.now was (image_bytes (current_words (g.R.Region.memory c.args.region.now))) _ _ _ saved.has (c.flush.ensures.contents name));
    })

pub returns-clause-partly : goal.returns-clause-partly
returns-clause-partly g c = on_err c.flush.result (λ name was file.
    let saved = c.in_ok-write_changed.ensures.saved name was file in
    known_mixed c.args.flags.now was (image_bytes (current_words (g.R.Region.memory c.args.region.now))) _ _ (known_stays c.args.flags.now was (image_bytes (current_words (g.R.Region.memory c.args.region.now))) _ _ _ saved.has (c.flush.ensures.contents name)))

pub returns-clause-reported : goal.returns-clause-reported
returns-clause-reported g c = λ name was file. stays_known _ _ (c.flush.ensures.contents name) ∙ c.write_changed.ensures.reported name was file

pub returns-clause-others : goal.returns-clause-others
returns-clause-others g c = others_then (g.F.Files.view c.args.files.now) (g.F.Files.view c.write_changed.new.files) (g.F.Files.view c.flush.new.files) c.write_changed.ensures.attached c.write_changed.ensures.others (λ name is. c.flush.ensures.contents name)
