use Rattle.std.proofs.Common.{◌==◌, sym}
use Rattle.bp_script.proofs.Splitting.{slice_split-none, slice_split-some}
use Rattle.bp_script.proofs.fields.split_once.Goals as goal

pub returns-in-Some-clause-split : goal.returns-in-Some-clause-split
returns-in-Some-clause-split c = slice_split-some (λ b. b == c.args.at) c.args.text.now c.in-Some.i (sym c.in-Some.ensures)

pub returns-in-None-clause-split : goal.returns-in-None-clause-split
returns-in-None-clause-split c = slice_split-none (λ b. b == c.args.at) c.args.text.now (sym c.in-None.ensures)
