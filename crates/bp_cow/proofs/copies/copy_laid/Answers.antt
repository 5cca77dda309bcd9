use Rattle.std.proofs.Common.{◌+◌, ◌<◌, sym, ◌∙◌, ap, arith, inl, inr}
use Rattle.bp_layout.specs.Words.{slot_word}
use Rattle.pm_region.specs.Memory.{current_words}
use Rattle.bp_cow.specs.Touched.{laid_word}
use Rattle.bp_cow.proofs.RunsLaws.{laid-covered, laid-one, one-run}
use Rattle.bp_cow.proofs.SlotLaws.{run_word-covered}
use Rattle.bp_cow.proofs.copies.copy_laid.Goals as goal

pub returns-then-covers-clause-copied : goal.returns-then-covers-clause-copied
returns-then-covers-clause-copied g c slot low =
    let run = c.args.run.now in
    let old = slot_word (current_words (g.R.Region.memory c.args.region.now)) c.args.from slot in
    c.store_covered.ensures.words slot old (omega (arith, low, c.requires.few))
    ∙ sym (laid-one run (c.args.first + slot) old)
    ∙ ap (λ runs. laid_word runs run.root.items (c.args.first + slot) old) (sym (one-run c.args.touched.now.runs.now run c.if-touched-eq1.true c.requires.run))

pub returns-clause-copied : goal.returns-clause-copied
returns-clause-copied g c slot low =
    let run = c.args.run.now in
    let runs = c.args.touched.now.runs.now in
    let small : slot < 512 = omega (arith, low, c.requires.few) in
    c.store_block.ensures.words slot low ∙ c.lay_leaf.ensures slot small
    ∙ elim c.read_leaf.ensures [
      | inl covered ↦ laid-covered runs run (c.args.first + slot) _ _ c.requires.run (λ one other. run_word-covered run (c.args.first + slot) one other (omega (arith, covered.0)) (omega (arith, covered.1, small)))
      | inr same ↦ ap (laid_word runs run.root.items (c.args.first + slot)) (same slot small)
    ]
