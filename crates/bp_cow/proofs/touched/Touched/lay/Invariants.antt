use Rattle.std.proofs.Common.{◌≡◌, drop}
use Rattle.bp_cow.specs.Touched.{laid_word}
use Rattle.bp_cow.proofs.touched.Touched.lay.Given as goal

abbrev pub invariant-loop-run : goal.invariant-loop-run
invariant-loop-run l =
    laid_word (drop l.run-index l.self.runs.now) l.root.items l.index l.word ≡ laid_word l.self.runs.now l.root.items l.index l.old
