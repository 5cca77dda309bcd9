use Rattle.std.proofs.Common.{sym, ◌∙◌, arith, eq-eqb}
use Rattle.std.proofs.lemmas.Bool.{eqb-true}
use Rattle.bp_spelling.proofs.ByteWise.{low-none}
use Rattle.bp_spelling.proofs.form.is_plain.Goals as goal

pub returns : goal.returns
returns c = (
  λ none o low. (c.forbidden_marks.ensures o (omega (arith, low))).0 ((low-none c.forbidden_marks.result c.args.count).0 (sym c.low_bytes.ensures ∙ eqb-true _ _ none) o low),
  λ plain. eq-eqb _ _ (c.low_bytes.ensures ∙ (low-none c.forbidden_marks.result c.args.count).1 (λ o low. (c.forbidden_marks.ensures o (omega (arith, low))).1 (plain o low))),
)
