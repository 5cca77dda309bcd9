use Rattle.std.proofs.Common.{ℕ, ◌<◌}
use Rattle.std.specs.Prelude.{◌↔◌}
use Rattle.bp_cow.specs.Touched.{above, path_of, word_paths}
use Rattle.bp_cow.specs.Ways.{IsShared}
use Rattle.bp_cow.proofs.touched.Touched.shared_by_words.Given as goal

abbrev pub invariant-loop-k : goal.invariant-loop-k
invariant-loop-k l = (d : ℕ) → (d < l.shared) ↔ IsShared (λ k. above (path_of (word_paths l.self) k)) l.k l.slots.items d
