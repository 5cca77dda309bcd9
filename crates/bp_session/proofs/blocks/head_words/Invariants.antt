use Rattle.std.proofs.Common.{◌≡◌, take, length}
use Rattle.pm_region.specs.Memory.{current_words}
use Rattle.bp_session.proofs.blocks.head_words.Given as goal

-- the first words are there
abbrev pub invariant-loop-k : goal.invariant-loop-k
invariant-loop-k g l = record {
  size : length l.words ≡ 8;
  prefix : take l.k l.words ≡ take l.k (current_words (g.R.Region.memory l.region));
}
