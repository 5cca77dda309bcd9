use Rattle.std.proofs.Common.{◌≡◌, ◌≤◌, ◌+◌, ◌-◌, ◌∙◌, ap, arith, drop, length, sym}
use Rattle.std.proofs.lemmas.List.{length-drop, length-take-le}
use Rattle.pm_region.specs.Memory.{current_words}
use Rattle.pm_region.proofs.MemoryLaws.{length-current_words}
use Rattle.bpfs_c.proofs.log.copy_run.Goals as goal

pub copy_from_slice-requires : goal.copy_from_slice-requires
copy_from_slice-requires c =
    let words = current_words c.args.region.now in
    let first = c.args.first in
    let count = length c.args.into.now in
    let exact : (first + count) - first ≡ count = omega arith in
    let room : (first + count) - first ≤ length (drop first words) = omega (arith, length-drop first words, length-current_words c.args.region.now, c.requires.in_range) in
    sym (ap length c.load_words.ensures ∙ length-take-le ((first + count) - first) (drop first words) room ∙ exact)
