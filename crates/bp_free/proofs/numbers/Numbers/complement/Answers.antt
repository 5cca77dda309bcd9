use Rattle.std.proofs.Common.{◌-◌, sym, subst, arith}
use Rattle.bp_free.specs.Words.{IsCountedBelow}
use Rattle.bp_free.proofs.Members.{count_most}
use Rattle.bp_free.proofs.Complement.{counted_below_complement}
use Rattle.bp_free.proofs.numbers.Numbers.complement.Goals as goal

pub overflow_sub-self : goal.overflow_sub-self
overflow_sub-self g c =
    let most = count_most c.other.inside.free in
    omega (arith, most, c.other.invariant.counted.number, c.room.ensures)

pub invariant_of-self : goal.invariant_of-self
invariant_of-self g c =
    subst (λ n. IsCountedBelow _ c.complement.new.numbers c.complement.new.self.words (n - c.other.inside.count)) (sym c.room.ensures)
    (counted_below_complement _ c.other.inside.free c.other.inside.summary.words c.complement.new.numbers c.complement.new.self.words c.other.inside.count
    c.other.invariant c.complement.ensures.numbers c.complement.ensures.summary)
