use Rattle.std.proofs.Common.{◌∙◌, ap}
use Rattle.bp_changes.specs.Effects.{SetsAttribute}
use Rattle.bp_changes.proofs.Formatted.{version_stays}
use Rattle.bp_changes.proofs.ReachedOn.{reached_on}
use Rattle.bp_layout.specs.Need.Change.{sets}
use Rattle.bp_layout.specs.Words.{Image}
use Rattle.bp_limits.specs.CallLimits.{allows_attributes}
use Rattle.pm_region.specs.Memory.{current_words}
use Rattle.bp_calls.proofs.CommitLaws.{committed_thawed, lacking_space}
use Rattle.bp_calls.proofs.ThawedParts.{mounted_thawed, thawed_clear}
use Rattle.bp_calls.proofs.attributes.set_attribute.Goals as goal

pub put_attribute-requires-clause-mounted : goal.put_attribute-requires-clause-mounted
put_attribute-requires-clause-mounted g c =
    mounted_thawed g.R.Region.memory (sets c.args.ino c.args.attribute) c.args.parts.now c.thaw_attribute.new.parts c.requires.mounted c.requires.reached c.in-Ok.ensures.thaws

pub put_attribute-requires-clause-clear : goal.put_attribute-requires-clause-clear
put_attribute-requires-clause-clear g c =
    thawed_clear g.R.Region.memory (sets c.args.ino c.args.attribute) c.args.parts.now c.thaw_attribute.new.parts c.requires.mounted c.requires.reached c.in-Ok.ensures.thaws

pub put_attribute-requires-clause-reached : goal.put_attribute-requires-clause-reached
put_attribute-requires-clause-reached g c =
    let memory = g.R.Region.memory in
    reached_on (current_words (memory c.args.parts.now.region)) (current_words (memory c.thaw_attribute.new.parts.region)) c.in-Ok.ensures.thaws.thaws.shape.meaning c.args.ino c.requires.reached

pub put_attribute-requires-clause-version : goal.put_attribute-requires-clause-version
put_attribute-requires-clause-version g c =
    let memory = g.R.Region.memory in
    ap allows_attributes (version_stays (current_words (memory c.args.parts.now.region)) (current_words (memory c.thaw_attribute.new.parts.region)) c.in-Ok.ensures.thaws.thaws.shape.meaning.trees.has_magic)
    ∙ c.requires.version

pub returns-in-Ok : goal.returns-in-Ok
returns-in-Ok g c =
    committed_thawed g.R.Region.memory (sets c.args.ino c.args.attribute) (λ (image after : Image). SetsAttribute image after c.args.ino c.args.attribute c.args.value) c.args.parts.now c.thaw_attribute.new.parts
    c.put_attribute.new.parts c.requires.mounted c.requires.reached c.in-Ok.ensures.thaws _ c.put_attribute.ensures

pub returns-in-Err : goal.returns-in-Err
returns-in-Err g c = lacking_space g.R.Region.memory c.args.parts.now c.thaw_attribute.new.parts c.requires.mounted.exact c.in-Err.ensures.refused c.in-Err.ensures.same
