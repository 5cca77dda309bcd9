use Rattle.bp_roles.specs.Mounted.{SameDurable}
use Rattle.pm_steps.proofs.Cuts.{run_right_log}
use Rattle.bp_volume.proofs.laws.memory_is_as_after_a_call.Goals as goal

pub returns : goal.returns
returns c = λ memory steps state safe runs. run_right_log SameDurable memory.base memory.events steps state safe.right runs
