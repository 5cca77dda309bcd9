use Rattle.std.proofs.Common.{length, ◌/◌, ◌∙◌, ap, sym}
use Rattle.pm_region.specs.Memory.{Memory, current_words}
use Rattle.pm_region.proofs.MemoryLaws.{length-current_words}
use Rattle.bp_limits.specs.Limits.{block_words, super_magic}
use Rattle.bp_roles.specs.Mounted.{roles_of}
use Rattle.bp_layout.specs.Words.{word}
use Rattle.bp_roles.proofs.SeenLaws.{length-seen}
use Rattle.bpfs_c.proofs.info.blocks_of.Goals as goal

pub returns : goal.returns
returns c =
    ap (λ n. n / block_words) (c.words.ensures.count ∙ ap (λ (memory : Memory). length memory.base) c.region.ensures.memory
    ∙ sym (length-seen (roles_of (word (current_words c.args.volume.now) super_magic)) (current_words c.args.volume.now) ∙ length-current_words c.args.volume.now))
