use Rattle.std.proofs.Common.{◌∙◌, length, arith}
use Rattle.pm_region.specs.Memory.{current_words}
use Rattle.bp_layout.proofs.LoadedWords.{length-loaded}
use Rattle.bp_read.proofs.RegionWords.{length_now}
use Rattle.bp_layout.proofs.StoredBytes.{run_part}
use Rattle.bp_read.proofs.reads.read_words.Goals as goal

pub load_words-requires-clause-in_range : goal.load_words-requires-clause-in_range
load_words-requires-clause-in_range g c = omega (arith, length_now (g.R.Region.memory c.args.region.now), c.requires.in_range, c.div_ceil.ensures)

pub unpack-requires : goal.unpack-requires
unpack-requires g c =
    let image = current_words (g.R.Region.memory c.args.region.now) in
    let all = length-loaded image c.load_words.result.now c.args.word c.div_ceil.result c.load_words.ensures (omega (arith, c.requires.in_range, c.div_ceil.ensures)) in
    omega (arith, c.div_ceil.ensures, all)

pub returns : goal.returns
returns g c =
    c.unpack.ensures ∙ run_part (current_words (g.R.Region.memory c.args.region.now)) c.load_words.result.now c.args.word c.div_ceil.result (length c.args.into.now) c.load_words.ensures (omega (arith, c.div_ceil.ensures))
