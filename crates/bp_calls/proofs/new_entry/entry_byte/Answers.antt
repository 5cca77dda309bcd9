use Rattle.std.proofs.Common.{◌-◌, length, arith, le-ltb, lt-ltb}
use Rattle.bp_layout.proofs.WordBytes.{to_le-byte}
use Rattle.bp_calls.proofs.new_entry.entry_byte.Goals as goal

pub returns-then-at-lt-LENGTH_AT : goal.returns-then-at-lt-LENGTH_AT
returns-then-at-lt-LENGTH_AT c = rw (lt-ltb c.args.at 8 c.if-at-lt-LENGTH_AT.true, c.to_le_bytes.ensures, ← c.from.ensures) (to_le-byte _ c.args.at c.if-at-lt-LENGTH_AT.true)

pub returns-then-at-lt-NAME_AT : goal.returns-then-at-lt-NAME_AT
returns-then-at-lt-NAME_AT c =
    rw (le-ltb c.args.at 8 c.if-at-lt-LENGTH_AT.false, lt-ltb c.args.at 16 c.if-at-lt-NAME_AT.true, c.to_le_bytes-then-at-lt-NAME_AT.ensures)
    (to_le-byte (length c.args.name.now) (c.args.at - 8) (omega (arith, c.if-at-lt-NAME_AT.true)))
