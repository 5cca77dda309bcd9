use Rattle.std.proofs.Common.{length, lt-ltb}
use Rattle.bp_layout.proofs.WordBytes.{to_le-byte}
use Rattle.bp_rename.proofs.within.respelled_byte.Goals as goal

pub returns-then-at-lt-LENGTH_SIZE : goal.returns-then-at-lt-LENGTH_SIZE
returns-then-at-lt-LENGTH_SIZE c = rw (lt-ltb c.args.at 8 c.if-at-lt-LENGTH_SIZE.true, c.to_le_bytes.ensures) (to_le-byte (length c.args.name.now) c.args.at c.if-at-lt-LENGTH_SIZE.true)
