use Rattle.std.proofs.Common.{◌≡◌, ℕ, ◌<◌, ◌≤◌, ◌%◌, length, get_or}
use Rattle.pm_steps.specs.WordSet.{IsLastWord}
use Rattle.pm_steps.proofs.word_set.is_among.Given as goal

abbrev pub invariant-entries : goal.invariant-entries
invariant-entries l = record {
  few : l.bound ≤ length l.words;
  last : IsLastWord l.words (length l.heads) (l.word % length l.heads) l.bound l.entry;
  none : (k : ℕ) → l.bound ≤ k → k < length l.words → get_or l.words k 0 ≡ l.word → ⊥;
}

abbrev pub decreases-entries : goal.decreases-entries
decreases-entries l = l.bound
