use Rattle.std.proofs.Common.{rules}
use Rattle.bp_disk.proofs.CopyLaws.{changes_then}
use Rattle.bp_disk.proofs.temp_file.TempFile.copy_zeros.Goals as goal

pub returns-in_err-write_zeros : goal.returns-in_err-write_zeros
returns-in_err-write_zeros g c = changes_then _ _ _ _ c.loop-run.invariant.changes c.write_zeros.ensures

pub loop-run-preserved : goal.loop-run-preserved
loop-run-preserved g c = record {
  high = search rules;
  changes = changes_then _ _ _ _ c.loop-run.invariant.changes c.write_zeros.ensures;
}

pub returns : goal.returns
returns g c = c.loop-run.invariant.changes
