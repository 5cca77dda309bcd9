use Rattle.std.proofs.Common.{◌*◌, arith}
use Rattle.pm_region.specs.Memory.{current_words}
use Rattle.bp_layout.proofs.LoadedWords.{length-loaded, loaded_word}
use Rattle.bp_read.proofs.RegionWords.{length_now}
use Rattle.bp_cow.proofs.copies.words_of.Goals as goal

pub load_words-requires-clause-in_range : goal.load_words-requires-clause-in_range
load_words-requires-clause-in_range g c = omega (arith, c.requires.inside, length_now (g.R.Region.memory c.args.region.now))

pub returns-clause-size : goal.returns-clause-size
returns-clause-size g c =
    length-loaded (current_words (g.R.Region.memory c.args.region.now)) c.load_words.result.now (512 * c.args.block) 512 c.load_words.ensures (omega (arith, c.requires.inside))

pub returns-clause-words : goal.returns-clause-words
returns-clause-words g c slot low = loaded_word (current_words (g.R.Region.memory c.args.region.now)) c.load_words.result.now (512 * c.args.block) 512 c.load_words.ensures slot low
