use Rattle.std.proofs.Common.{◌≡◌, ◌⊎◌, ℕ, ◌+◌, ◌*◌, ◌<◌, ◌≤◌, List, drop, sym, ◌∙◌, ap, arith, inl, inr}
use Rattle.std.specs.List.{slice_index}
use Rattle.bp_cow.specs.declared.touched.Run.{Run}
use Rattle.bp_cow.specs.Touched.{laid_word, run_end, run_word}
use Rattle.bp_cow.proofs.RunLaws.{run_word-outside}
use Rattle.bp_cow.proofs.RunsLaws.{has-item, item-here, laid-beside, laid-past, laid-under}
use Rattle.bp_cow.proofs.touched.Touched.lay_leaf.Goals.{then-meets+then-is_under, else-meets, else-meets-via-then-meets+else-is_under, else-meets-via-else-meets}
use Rattle.bp_cow.proofs.touched.Touched.lay_leaf.Goals as goal

pub lay_run-requires-clause-run : goal.lay_run-requires-clause-run
lay_run-requires-clause-run c = c.requires.touched.runs c.run-item.result (has-item c.args.self.now.runs.now c.loop-run.run-index c.run-item.result c.loop-run-test.true c.run-item.is)

pub meets-requires-clause-run : goal.meets-requires-clause-run
meets-requires-clause-run c = c.requires.touched.runs c.run-item.result (has-item c.args.self.now.runs.now c.loop-run.run-index c.run-item.result c.loop-run-test.true c.run-item.is)

-- a run that has no bytes in the leaf leaves its words
past : (run : Run) (first slot old : ℕ) → slot < 512 → (run_end run ≤ 8 * first) ⊎ (8 * first + 4096 ≤ run.offset) → run_word run (first + slot) old ≡ old
past run first slot old low (inl before) = run_word-outside run (first + slot) old (inr (omega (arith, before)))
past run first slot old low (inr beyond) = run_word-outside run (first + slot) old (inl (omega (arith, beyond, low)))

pub loop-run-preserved : goal.loop-run-preserved
loop-run-preserved c slot low =
    let runs = c.args.self.now.runs.now in
    let root = c.args.root.now.items in
    let rest = drop (c.loop-run.run-index + 1) runs in
    let old = slice_index c.loop-run.words slot in
    let here = item-here runs c.loop-run.run-index c.run-item.result c.loop-run-test.true c.run-item.is in
    let before = ap (λ rs. laid_word rs root (c.args.first + slot) old) (sym here) ∙ c.loop-run.invariant slot low in
    elim c.if-meets.branch [
      | then-meets+then-is_under w ↦
          ap (laid_word rest root (c.args.first + slot)) (ap (λ (ws : List ℕ). slice_index ws slot) w.words-is ∙ w.lay_run.ensures slot low)
          ∙ sym (laid-under c.run-item.result rest root (c.args.first + slot) old (sym w.is_under.ensures ∙ w.if-is_under.true))
          ∙ before
      | else-meets w ↦
          ap (λ (ws : List ℕ). laid_word rest root (c.args.first + slot) (slice_index ws slot)) w.words-is
          ∙ elim w.else-meets.branch [
            | else-meets-via-then-meets+else-is_under v ↦ sym (laid-beside c.run-item.result rest root (c.args.first + slot) old (sym v.is_under.ensures ∙ v.if-is_under.false)) ∙ before
            | else-meets-via-else-meets v ↦ sym (laid-past c.run-item.result rest root (c.args.first + slot) old (past c.run-item.result c.args.first slot old low (c.meets.ensures v.if-meets.false))) ∙ before
          ]
    ]
