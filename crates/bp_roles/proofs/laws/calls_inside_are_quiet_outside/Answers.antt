use Rattle.bp_roles.proofs.Durable.{quiet_outside}
use Rattle.bp_roles.proofs.laws.calls_inside_are_quiet_outside.Goals as goal

pub returns : goal.returns
returns c is_b image events calls =
    let begun = calls.transaction in
    quiet_outside is_b image events calls.in_snapshot begun.version.wide begun.version.magic begun.is calls.are begun.there begun.alone calls.avoids
