-- The writes so far failed, and appended nothing.
use Rattle.std.specs.Io.KnownBytes.{Keeps}
use Rattle.bp_disk.proofs.std_streams.write_retrying.Given as goal

abbrev pub invariant-loop-tries : goal.invariant-loop-tries
invariant-loop-tries g l = Keeps (g.W.Write.contents l.fn.writer) (g.W.Write.contents l.writer)
