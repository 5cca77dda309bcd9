use Rattle.std.proofs.Common.{◌≡◌}
use Rattle.bp_changes.specs.Trail.{trail_of}
use Rattle.bp_cow.specs.Cover.{end_path}
use Rattle.bp_cow.proofs.touched.Touched.alike_at.Given as goal

abbrev pub invariant-loop-depth : goal.invariant-loop-depth
invariant-loop-depth l = trail_of (end_path l.self l.i) l.depth ≡ trail_of (end_path l.self 0) l.depth
