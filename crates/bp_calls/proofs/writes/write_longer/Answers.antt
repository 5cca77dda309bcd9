use Rattle.std.proofs.Common.{subst}
use Rattle.bp_calls.specs.Space.{LacksBlocks}
use Rattle.bp_calls.proofs.CommitLaws.{committed, lacking_blocks}
use Rattle.bp_changes.specs.Sets.{in_snapshot_of}
use Rattle.pm_region.specs.Memory.{current_words}
use Rattle.bp_calls.proofs.writes.write_longer.Goals as goal

pub returns-in-Ok : goal.returns-in-Ok
returns-in-Ok g c = committed c.write_past_end.ensures

pub returns-in-Err : goal.returns-in-Err
returns-in-Err g c =
    lacking_blocks g.R.Region.memory c.args.parts.now c.requires.exact
    (subst (λ n. LacksBlocks (current_words (g.R.Region.memory c.args.parts.now.region)) (in_snapshot_of c.args.parts.now) n c.in-Err.lacks) c.need_past_end-need.ensures.need c.in-Err.ensures.refused)
    c.in-Err.ensures.free
