use Rattle.std.proofs.Common.{◌+◌, drop, sym, ◌∙◌, ap}
use Rattle.bp_cow.specs.Touched.{laid_word}
use Rattle.bp_cow.proofs.RunsLaws.{has-item, item-here, laid-beside, laid-under}
use Rattle.bp_cow.proofs.touched.Touched.lay.Goals.{then-is_under, else-is_under}
use Rattle.bp_cow.proofs.touched.Touched.lay.Goals as goal

pub lay-word-requires-clause-run : goal.lay-word-requires-clause-run
lay-word-requires-clause-run c = c.requires.touched.runs c.run-item.result (has-item c.args.self.now.runs.now c.loop-run.run-index c.run-item.result c.loop-run-test.true c.run-item.is)

pub loop-run-preserved : goal.loop-run-preserved
loop-run-preserved c =
    let runs = c.args.self.now.runs.now in
    let root = c.args.root.now.items in
    let rest = drop (c.loop-run.run-index + 1) runs in
    let here = item-here runs c.loop-run.run-index c.run-item.result c.loop-run-test.true c.run-item.is in
    elim c.if-is_under.branch [
      | then-is_under w ↦
          ap (laid_word rest root c.args.index) (w.word-is ∙ w.lay-word.ensures)
          ∙ sym (laid-under c.run-item.result rest root c.args.index c.loop-run.word (sym c.is_under.ensures ∙ w.if-is_under.true))
          ∙ ap (λ rs. laid_word rs root c.args.index c.loop-run.word) (sym here) ∙ c.loop-run.invariant
      | else-is_under w ↦
          ap (laid_word rest root c.args.index) w.word-is
          ∙ sym (laid-beside c.run-item.result rest root c.args.index c.loop-run.word (sym c.is_under.ensures ∙ w.if-is_under.false))
          ∙ ap (λ rs. laid_word rs root c.args.index c.loop-run.word) (sym here) ∙ c.loop-run.invariant
    ]
