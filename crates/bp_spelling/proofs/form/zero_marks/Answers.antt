use Rattle.std.proofs.Common.{arith}
use Rattle.std.proofs.lemmas.Nat.{and_le_r}
use Rattle.bp_spelling.proofs.ByteWise.{mark-some, some-mark}
use Rattle.bp_spelling.proofs.form.zero_marks.Goals as goal

pub overflow_add-sums : goal.overflow_add-sums
overflow_add-sums c = omega (arith, and_le_r c.args.word 9187201950435737471)

pub returns : goal.returns
returns c o low = (some-mark c.args.word o low, mark-some c.args.word o low)
