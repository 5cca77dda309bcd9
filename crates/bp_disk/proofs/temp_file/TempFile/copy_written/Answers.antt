use Rattle.std.proofs.Common.{rules}
use Rattle.bp_disk.proofs.CopyLaws.{changes_then}
use Rattle.bp_disk.proofs.temp_file.TempFile.copy_written.Goals as goal

pub returns-in_err-copy_bytes : goal.returns-in_err-copy_bytes
returns-in_err-copy_bytes g c = changes_then _ _ _ _ c.loop-run.invariant.changes c.copy_bytes.ensures.changes

pub loop-run-preserved : goal.loop-run-preserved
loop-run-preserved g c = record {
  high = search rules;
  changes = changes_then _ _ _ _ c.loop-run.invariant.changes c.copy_bytes.ensures.changes;
}

pub returns : goal.returns
returns g c = changes_then _ _ _ _ c.loop-run.invariant.changes c.copy_bytes-2.ensures.changes
