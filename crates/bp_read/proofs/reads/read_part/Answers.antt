use Rattle.std.proofs.Common.{◌∙◌, length, arith}
use Rattle.pm_region.specs.Memory.{current_words}
use Rattle.bp_read.proofs.RegionWords.{length_now}
use Rattle.bp_layout.proofs.StoredBytes.{word_part}
use Rattle.bp_read.proofs.reads.read_part.Goals as goal

pub load_past_head-requires-clause-in_range : goal.load_past_head-requires-clause-in_range
load_past_head-requires-clause-in_range g c = omega (arith, length_now (g.R.Region.memory c.args.region.now))

pub returns : goal.returns
returns g c =
    c.copy_from_slice.ensures.after ∙ rw c.to_le_bytes-bytes.ensures
    (word_part (current_words (g.R.Region.memory c.args.region.now)) c.args.word c.args.first (length c.args.into.now) c.load_past_head.result c.requires.within c.load_past_head.ensures)
