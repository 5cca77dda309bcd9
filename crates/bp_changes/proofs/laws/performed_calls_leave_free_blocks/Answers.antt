use Rattle.bp_changes.proofs.PerformsLaws.{no_free_block_between}
use Rattle.bp_changes.proofs.laws.performed_calls_leave_free_blocks.Goals as goal

pub returns : goal.returns
returns g in_snapshot old new change done b none free found = no_free_block_between in_snapshot old new change _ done none b free found
