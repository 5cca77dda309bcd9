use Rattle.bp_spelling.proofs.ByteWise.{or-none, turned-other, other-turned}
use Rattle.bp_spelling.proofs.form.forbidden_marks.Goals as goal

pub returns : goal.returns
returns c o low = (
  λ none.
      let both = (or-none c.zero_marks.result c.zero_marks-2.result o).0 none in
      ((c.zero_marks.ensures o low).0 both.0, other-turned c.args.word o low ((c.zero_marks-2.ensures o low).0 both.1)),
  λ plain. (or-none c.zero_marks.result c.zero_marks-2.result o).1 ((c.zero_marks.ensures o low).1 plain.0, (c.zero_marks-2.ensures o low).1 (turned-other c.args.word o low plain.1)),
)
