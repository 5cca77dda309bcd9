use Rattle.std.proofs.Common.{ℕ, slice_index, sym, subst, arith, eq-eqb, inl, inr}
use Rattle.std.proofs.lemmas.Bool.{eqb-true, cases_eq}
use Rattle.bp_layout.specs.Words.{byte_of}
use Rattle.bp_spelling.specs.Places.{IsPlain}
use Rattle.bp_spelling.proofs.ByteWise.{none, or-none, byte-zero}
use Rattle.bp_spelling.proofs.form.are_plain_words.Goals as goal

pub loop-word-init : goal.loop-word-init
loop-word-init c o low = (λ zero i never. absurd (omega (arith, never)), λ all. byte-zero o)

pub loop-word-preserved : goal.loop-word-preserved
loop-word-preserved c o low =
    let words = c.args.words.now in
    let last = c.loop-word.word-index in (
      λ unmarked i before.
          let both = (or-none c.loop-word.found c.forbidden_marks-found.result o).0 unmarked in
          elim (cases_eq i last) [
            | inl here ↦ subst (λ (k : ℕ). IsPlain (byte_of (slice_index words k) o)) (sym here) ((c.forbidden_marks-found.ensures o low).0 both.1)
            | inr apart ↦ (c.loop-word.invariant o low).0 both.0 i (omega (arith, before, apart))
          ],
      λ all. (or-none c.loop-word.found c.forbidden_marks-found.result o).1 ((c.loop-word.invariant o low).1 (λ i before. all i (omega (arith, before))), (c.forbidden_marks-found.ensures o low).1 (all last (omega arith))),
    )

pub returns : goal.returns
returns c = (
  λ is i inside o low. (c.loop-word.invariant o low).0 ((none c.loop-word.found (omega (arith, c.loop-word.auto.found-fits))).0 (eqb-true _ _ is) o low) i (omega (arith, inside, c.loop-word.auto.word-index-end, c.loop-word-test.false)),
  λ all. eq-eqb _ _ ((none c.loop-word.found (omega (arith, c.loop-word.auto.found-fits))).1 (λ o low. (c.loop-word.invariant o low).1 (λ i before. all i (omega (arith, before, c.loop-word.auto.word-index-end, c.loop-word-test.false)) o low))),
)
