use Rattle.std.proofs.Common.{sym, ◌∙◌}
use Rattle.bp_rename.proofs.rename_cases.rename.Goals as goal

pub rename_into-requires-clause-empty : goal.rename_into-requires-clause-empty
rename_into-requires-clause-empty g c = sym (c.requires.empty c.in-None-2.is c.if-to_move.false) ∙ c.in-Some-empty.is

pub rename_past_end-requires-clause-none : goal.rename_past_end-requires-clause-none
rename_past_end-requires-clause-none g c = sym (c.requires.empty c.in-None-2.is c.if-to_move.false) ∙ c.in-None-empty.is
