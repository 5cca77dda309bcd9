use Rattle.std.proofs.Common.{sym}
use Rattle.std.specs.FinMap.{get-empty}
use Rattle.bp_layout.specs.Hints.{name_in_cmp}
use Rattle.bp_layout.proofs.hints.NoHintsHints.hint.Goals as goal

pub returns-clause-hint : goal.returns-clause-hint
returns-clause-hint c = sym (get-empty name_in_cmp (c.args._dir, c.args._name.now))
