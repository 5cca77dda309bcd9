-- What a region and its second tree's view have alike: the number of words, and each run of words after the head.
use Rattle.std.proofs.Common.{◌≡◌, ℕ, ◌+◌, ◌-◌, ◌≤◌, length, set, take, ◌∙◌, ap, arith}
use Rattle.std.proofs.lemmas.List.{drop-set-lt}
use Rattle.std.specs.Prelude.{slice_range}
use Rattle.pm_region.specs.Memory.{Memory, current_words}
use Rattle.pm_region.proofs.MemoryLaws.{length-current_words}
use Rattle.bp_layout.specs.Trees.{snapshot_of}
use Rattle.bp_layout.specs.Words.{Image, word}
use Rattle.bp_layout.proofs.TreeImages.{length-snapshot}

pub length-second : (memory : Memory) → length (snapshot_of (current_words memory)) ≡ length memory.base
length-second memory = length-snapshot (current_words memory) ∙ length-current_words memory

pub second-run : (image : Image) (first count : ℕ) → 8 ≤ first → slice_range (snapshot_of image) first (first + count) ≡ slice_range image first (first + count)
second-run image first count beyond =
    ap (take ((first + count) - first))
    (drop-set-lt first (set image 2 (word image 4)) 3 (word image 5) (omega (arith, beyond)) ∙ drop-set-lt first image 2 (word image 4) (omega (arith, beyond)))
