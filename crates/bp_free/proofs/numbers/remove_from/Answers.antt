use Rattle.std.proofs.Common.{true, false, subst}
use Rattle.bp_free.specs.Words.{ReportsAlone}
use Rattle.bp_free.proofs.Summary.{counted_without, counted_without_last, one_there}
use Rattle.bp_free.proofs.numbers.remove_from.Goals as goal

pub overflow_sub-count : goal.overflow_sub-count
overflow_sub-count c = one_there _ _ _ c.args.member.number c.requires.counted c.requires.in_range c.requires.free

pub returns-then-member-clause-counted : goal.returns-then-member-clause-counted
returns-then-member-clause-counted c =
    let alone : ReportsAlone c.args.free.now c.args.member.number true =
    subst (λ b. ReportsAlone c.args.free.now c.args.member.number b) c.if-member.true c.requires.alone in
    counted_without_last _ _ _ _ _ c.args.member.number c.requires.counted c.remove.ensures c.remove-then-member.ensures.words c.requires.in_range c.requires.free alone

pub returns-else-member-clause-counted : goal.returns-else-member-clause-counted
returns-else-member-clause-counted c =
    let alone : ReportsAlone c.args.free.now c.args.member.number false =
    subst (λ b. ReportsAlone c.args.free.now c.args.member.number b) c.if-member.false c.requires.alone in
    counted_without _ _ _ _ c.args.member.number c.requires.counted c.remove.ensures c.requires.in_range c.requires.free alone
