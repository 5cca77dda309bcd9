use Rattle.std.proofs.Common.{sym, ◌∙◌, arith}
use Rattle.std.proofs.lemmas.Bool.{eqb-false, eqb-true}
use Rattle.bp_layout.specs.Reached.IsReached.{inode_file}
use Rattle.pm_region.specs.Memory.{current_words}
use Rattle.pm_region.proofs.MemoryLaws.{length-current_words}
use Rattle.bp_calls.proofs.ClearedImages.{loaded_clear, loaded_set, words_inside}
use Rattle.bp_calls.proofs.clear.is_clear.Goals as goal
use Rattle.bp_calls.proofs.clear.is_clear.Goals.{then-words-eq0, else-words-eq0}

pub place-at-requires-clause-sound : goal.place-at-requires-clause-sound
place-at-requires-clause-sound g c = c.requires.well_formed.sound 0 inode_file

pub load_words-words-requires-clause-in_range : goal.load_words-words-requires-clause-in_range
load_words-words-requires-clause-in_range g c =
    let image = current_words (g.R.Region.memory c.args.region.now) in
    omega (arith, words_inside image c.requires.well_formed c.args.ino c.place-at.result c.requires.there c.place-at.ensures.place, length-current_words (g.R.Region.memory c.args.region.now))

pub returns-then-words-eq0-2-clause-clear : goal.returns-then-words-eq0-2-clause-clear
returns-then-words-eq0-2-clause-clear g c three =
    let image = current_words (g.R.Region.memory c.args.region.now) in
    elim c.if-words-eq0.branch [
      | then-words-eq0 w ↦
          loaded_clear image c.load_words-words.result.now c.args.ino c.place-at.result c.place-at.ensures.place c.load_words-words.ensures
          w.if-words-eq0.true (eqb-true _ _ (sym w.value-is ∙ c.if-words-eq0-2.true)) (eqb-true _ _ three)
      | else-words-eq0 w ↦ absurd (w.if-words-eq0.false (eqb-true _ _ (sym w.value-is ∙ c.if-words-eq0-2.true)))
    ]

pub returns-then-words-eq0-2-clause-set : goal.returns-then-words-eq0-2-clause-set
returns-then-words-eq0-2-clause-set g c three =
    let image = current_words (g.R.Region.memory c.args.region.now) in
    loaded_set image c.load_words-words.result.now c.args.ino c.place-at.result c.place-at.ensures.place c.load_words-words.ensures 2 (omega arith) (eqb-false _ _ three)

pub returns-else-words-eq0-2-clause-set : goal.returns-else-words-eq0-2-clause-set
returns-else-words-eq0-2-clause-set g c two =
    let image = current_words (g.R.Region.memory c.args.region.now) in
    elim c.if-words-eq0.branch [
      | then-words-eq0 w ↦
          loaded_set image c.load_words-words.result.now c.args.ino c.place-at.result c.place-at.ensures.place c.load_words-words.ensures 1 (omega arith)
          (eqb-false _ _ (sym w.value-is ∙ two))
      | else-words-eq0 w ↦
          loaded_set image c.load_words-words.result.now c.args.ino c.place-at.result c.place-at.ensures.place c.load_words-words.ensures 0 (omega arith) w.if-words-eq0.false
    ]
