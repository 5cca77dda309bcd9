use Rattle.std.proofs.Common.{◌≡◌, drop, length, take}
use Rattle.pm_region.specs.Memory.{current_words}
use Rattle.bpfs_c.proofs.log.copy_by_word.Given as goal

-- the first words are there
abbrev pub invariant-loop-i : goal.invariant-loop-i
invariant-loop-i l = record {
  long : length l.into ≡ length l.fn.into;
  prefix : take l.i l.into ≡ take l.i (drop l.first (current_words l.region));
}
