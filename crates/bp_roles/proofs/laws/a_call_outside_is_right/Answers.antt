use Rattle.bp_roles.proofs.Ordinary.{seen_right}
use Rattle.bp_roles.proofs.laws.a_call_outside_is_right.Goals as goal

pub returns : goal.returns
returns c is_b image events right =
    seen_right is_b image events right.version.wide right.version.magic right.keeps_magic right.right
