-- What a word past the end of a region reads as.
use Rattle.std.proofs.Common.{◌≡◌, ℕ, ◌≤◌, length, sym, arith}
use Rattle.std.proofs.lemmas.List.{get_or_past}
use Rattle.pm_region.specs.Memory.{Memory, current_words}
use Rattle.bp_read.proofs.RegionWords.{length_now}
use Rattle.bp_layout.specs.Words.{word}

pub past_end : (memory : Memory) (place : ℕ) → length memory.base ≤ place → 0 ≡ word (current_words memory) place
past_end memory place late = sym (get_or_past (current_words memory) place 0 (omega (arith, late, length_now memory)))
