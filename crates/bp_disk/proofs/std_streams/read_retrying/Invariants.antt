-- The reads so far failed, and consumed nothing.
use Rattle.std.specs.Io.KnownBytes.{Keeps}
use Rattle.bp_disk.proofs.std_streams.read_retrying.Given as goal

abbrev pub invariant-loop-tries : goal.invariant-loop-tries
invariant-loop-tries g l = Keeps (g.R.Read.remaining l.fn.reader) (g.R.Read.remaining l.reader)
