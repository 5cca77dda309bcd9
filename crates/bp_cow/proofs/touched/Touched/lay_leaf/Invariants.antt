use Rattle.std.proofs.Common.{◌≡◌, ℕ, ◌+◌, ◌<◌, drop}
use Rattle.std.specs.List.{slice_index}
use Rattle.bp_cow.specs.Touched.{laid_word}
use Rattle.bp_cow.proofs.touched.Touched.lay_leaf.Given as goal

abbrev pub invariant-loop-run : goal.invariant-loop-run
invariant-loop-run l =
    (slot : ℕ) → slot < 512 → laid_word (drop l.run-index l.self.runs.now) l.root.items (l.first + slot) (slice_index l.words slot)
    ≡ laid_word l.self.runs.now l.root.items (l.first + slot) (slice_index l.fn.words slot)
