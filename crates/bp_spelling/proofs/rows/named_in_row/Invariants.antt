use Rattle.std.proofs.Common.{◌≡◌, ℕ, ◌+◌, ◌*◌, ◌<◌, length, slice_index}
use Rattle.pm_region.specs.Memory.{current_words}
use Rattle.bp_layout.specs.Words.{word}
use Rattle.bp_spelling.proofs.rows.named_in_row.Given as goal

abbrev pub invariant-loop-k : goal.invariant-loop-k
invariant-loop-k g l = record {
  long : length l.named ≡ 16;
  read : (i : ℕ) → i < l.k → slice_index l.named i ≡ word (current_words (g.R.Region.memory l.region)) (l.place + 32 * i);
}
