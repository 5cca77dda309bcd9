use Rattle.std.proofs.Common.{◌≡◌, ◌+◌, ◌*◌, inl, inr, refl, arith}
use Rattle.bp_append.proofs.visit.hang.Goals as goal

pub make-pointer-requires : goal.make-pointer-requires
make-pointer-requires g c = record { can = rw c.slot_start.ensures c.requires.can }

pub returns-then-pointer-eq0-clause-builds : goal.returns-then-pointer-eq0-clause-builds
returns-then-pointer-eq0-clause-builds g c = record { pointer = c.make-pointer.result; built = rw c.slot_start.ensures at c.make-pointer.ensures.made; which = inl (c.if-pointer-eq0.true, refl) }

pub returns-clause-builds : goal.returns-clause-builds
returns-clause-builds g c =
    let at : c.args.node.block * 512 + c.args.slot ≡ 512 * c.args.node.block + c.args.slot = omega arith in
    record { pointer = c.make-pointer.result; built = rw c.slot_start.ensures at c.make-pointer.ensures.made; which = inr (rw at refl, rw c.slot_start.ensures at c.make-pointer.ensures.met (omega (arith, c.if-pointer-eq0.false))) }
