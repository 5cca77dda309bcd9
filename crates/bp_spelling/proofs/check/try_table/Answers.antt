use Rattle.bp_spelling.specs.Tables.IsTableError.{unreported}
use Rattle.bp_spelling.proofs.check.try_table.Goals as goal

pub returns-then-table-le-REACH-clause-err : goal.returns-then-table-le-REACH-clause-err
returns-then-table-le-REACH-clause-err g c = unreported
