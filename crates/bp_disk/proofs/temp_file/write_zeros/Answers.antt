use Rattle.std.proofs.Common.{rules}
use Rattle.bp_disk.proofs.CopyLaws.{changes_then}
use Rattle.bp_disk.proofs.temp_file.write_zeros.Goals as goal

pub returns-in_err-write : goal.returns-in_err-write
returns-in_err-write g c = changes_then _ _ _ _ c.loop-at.invariant.changes (search rules)

pub loop-at-preserved : goal.loop-at-preserved
loop-at-preserved g c = record {
  end = search rules;
  changes = changes_then _ _ _ _ c.loop-at.invariant.changes (search rules);
}

pub returns : goal.returns
returns g c = c.loop-at.invariant.changes
