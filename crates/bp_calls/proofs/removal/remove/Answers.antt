use Rattle.bp_changes.specs.Effects.{RemovesEntry}
use Rattle.bp_layout.specs.Need.Change.{leaves}
use Rattle.bp_layout.specs.Words.{Image}
use Rattle.pm_region.specs.Memory.{current_words}
use Rattle.bp_calls.proofs.CommitLaws.{committed_thawed, lacking_space}
use Rattle.bp_calls.proofs.LeavingThawed.{leaving_on}
use Rattle.bp_calls.proofs.ThawedParts.{mounted_thawed, thawed_clear}
use Rattle.bp_calls.proofs.removal.remove.Goals as goal

pub take_out-requires-clause-mounted : goal.take_out-requires-clause-mounted
take_out-requires-clause-mounted g c =
    mounted_thawed g.R.Region.memory (leaves c.args.dir c.args.slot) c.args.parts.now c.thaw_entry.new.parts c.requires.mounted c.requires.can.reached c.in-Ok.ensures.thaws

pub take_out-requires-clause-can : goal.take_out-requires-clause-can
take_out-requires-clause-can g c =
    let memory = g.R.Region.memory in
    leaving_on (current_words (memory c.args.parts.now.region)) (current_words (memory c.thaw_entry.new.parts.region)) c.requires.mounted.well_formed c.in-Ok.ensures.thaws.thaws.shape.meaning c.args.dir c.args.slot c.requires.can

pub take_out-requires-clause-clear : goal.take_out-requires-clause-clear
take_out-requires-clause-clear g c =
    thawed_clear g.R.Region.memory (leaves c.args.dir c.args.slot) c.args.parts.now c.thaw_entry.new.parts c.requires.mounted c.requires.can.reached c.in-Ok.ensures.thaws

pub returns-in-Ok : goal.returns-in-Ok
returns-in-Ok g c =
    committed_thawed g.R.Region.memory (leaves c.args.dir c.args.slot) (λ (image after : Image). RemovesEntry image after c.args.dir c.args.slot) c.args.parts.now c.thaw_entry.new.parts c.take_out.new.parts
    c.requires.mounted c.requires.can.reached c.in-Ok.ensures.thaws _ c.take_out.ensures

pub returns-in-Err : goal.returns-in-Err
returns-in-Err g c = lacking_space g.R.Region.memory c.args.parts.now c.thaw_entry.new.parts c.requires.mounted.exact c.in-Err.ensures.refused c.in-Err.ensures.same
