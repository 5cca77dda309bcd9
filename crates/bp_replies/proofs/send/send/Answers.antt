use Rattle.std.proofs.Common.{rules}
use Rattle.bp_replies.proofs.Pieces.{more_taken}
use Rattle.bp_replies.proofs.send.send.Goals as goal

pub loop-at-preserved : goal.loop-at-preserved
loop-at-preserved g c = record {
  within = search rules;
  taken = more_taken _ _ _ _ _ _ c.loop-at.invariant.taken c.in_ok-at.ensures.bytes;
  faults = search rules;
}
