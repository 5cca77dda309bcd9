use Rattle.bp_export.proofs.RowLaws.{null_leaf}
use Rattle.bp_export.proofs.rows.entry_row.Goals as goal

pub returns-in-None-clause-none : goal.returns-in-None-clause-none
returns-in-None-clause-none g c slot low high = null_leaf _ c.args.tree.root c.args.leaf c.in-None.ensures.none slot low high
