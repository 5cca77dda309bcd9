use Rattle.std.proofs.Common.{Some, sym, ◌∙◌, ap}
use Rattle.bp_cache.proofs.index.Index.lose_among.Goals as goal

pub returns-in-Some-clause-loses : goal.returns-in-Some-clause-loses
returns-in-Some-clause-loses c = c.lose_first.ensures.loses c.args.slot (sym c.in-Some.ensures.value ∙ ap Some c.if-first-slot.true)
