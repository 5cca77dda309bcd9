use Rattle.std.proofs.Common.{sym, ◌∙◌, arith}
use Rattle.bp_walk.specs.Pointed.RefusesPointed.{too_high, is_null, has_left}
use Rattle.bp_walk.proofs.walk.claim_pointed.Goals as goal

pub returns-then-block-room-clause-err : goal.returns-then-block-room-clause-err
returns-then-block-room-clause-err c = too_high (omega (arith, c.room.ensures, c.if-block-room.true))

pub returns-else-holes-clause-err : goal.returns-else-holes-clause-err
returns-else-holes-clause-err c = is_null c.if-block-eq0.true c.if-holes.false

pub returns-then-not-is_free-clause-err : goal.returns-then-not-is_free-clause-err
returns-then-not-is_free-clause-err c =
    has_left c.if-block-eq0.false (omega (arith, c.room.ensures, c.if-block-room.false)) (sym c.is_free.ensures ∙ c.if-not-is_free.true)
