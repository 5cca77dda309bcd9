use Rattle.std.proofs.Common.{arith, rules}
use Rattle.std.proofs.lemmas.Grind.{common_steps}
use Rattle.bp_disk.proofs.CopyLaws.{changes_then, copied_then, copied_to, copied_up_to}
use Rattle.bp_disk.proofs.temp_file.copy_bytes.Goals as goal

pub returns-in_err-copy_piece-clause-changes : goal.returns-in_err-copy_piece-clause-changes
returns-in_err-copy_piece-clause-changes g c =
    changes_then _ _ _ _ c.loop-at.invariant.changes c.copy_piece.ensures.changes

pub loop-at-preserved : goal.loop-at-preserved
loop-at-preserved g c = record {
  end = search rules;
  low = omega arith;
  high = omega arith;
  changes = changes_then _ _ _ _ c.loop-at.invariant.changes c.copy_piece.ensures.changes;
  named = search rules;
  copied = copied_then _ _ _ _ c.loop-at.at _ _ _ _ (omega arith) (omega arith) c.loop-at.invariant.changes
      c.copy_piece.ensures.changes c.loop-at.invariant.copied (copied_up_to _ _ _ _ _ _ _ _ (grind (arith, common_steps)) c.in_ok-copy_piece.ensures.copied);
}

pub returns-clause-copied : goal.returns-clause-copied
returns-clause-copied g c = copied_to _ _ _ _ c.loop-at.at _ _ _ c.loop-at.invariant.low (omega arith) c.loop-at.invariant.high
    c.loop-at.invariant.copied
