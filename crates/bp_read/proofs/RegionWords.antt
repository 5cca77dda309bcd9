-- A region has as many words now as at the last drain.
use Rattle.std.proofs.Common.{◌≡◌, length}
use Rattle.pm_epochs.proofs.CrashLaws.{length-words_after}
use Rattle.pm_region.specs.Memory.{Memory, current_words}

pub length_now : (memory : Memory) → length (current_words memory) ≡ length memory.base
length_now memory = length-words_after memory.base memory.events
