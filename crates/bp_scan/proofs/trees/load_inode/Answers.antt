use Rattle.std.proofs.Common.{◌≡◌, ◌+◌, ◌<◌, ◌∙◌, length, slice_index, arith, ap}
use Rattle.bp_layout.specs.Words.{block_count, word}
use Rattle.bp_layout.proofs.LoadedWords.{loaded_word}
use Rattle.pm_region.specs.Memory.{current_words}
use Rattle.bp_read.proofs.RegionWords.{length_now}
use Rattle.bp_scan.proofs.InodePlaces.{in_bounds, words_of}
use Rattle.bp_scan.proofs.trees.load_inode.Goals as goal

pub load_words-words-requires-clause-after_head : goal.load_words-words-requires-clause-after_head
load_words-words-requires-clause-after_head g c = omega (arith, c.place-place.ensures.place.present, c.place-place.ensures.place.at)

pub load_words-words-requires-clause-in_range : goal.load_words-words-requires-clause-in_range
load_words-words-requires-clause-in_range g c =
    let image = current_words (g.R.Region.memory c.args.region.now) in
    let low : c.place-place.result + 2 < length image =
    in_bounds _ c.args.ino c.place-place.result (block_count image) (length image) c.place-place.ensures.place.at c.place-place.ensures.in_range c.requires.formatted.sized.whole in
    omega (arith, low, length_now (g.R.Region.memory c.args.region.now))

pub returns : goal.returns
returns g c =
    let image = current_words (g.R.Region.memory c.args.region.now) in
    let place = c.place-place.result in
    let words = c.load_words-words.result.now in
    let first : slice_index words 0 ≡ word image place =
    loaded_word image words place 3 c.load_words-words.ensures 0 (omega arith) ∙ ap (word image) (omega arith) in
    words_of image c.args.ino _ c.requires.some c.place-place.ensures.place c.place-place.ensures.in_range c.requires.formatted.sized.whole
    first (loaded_word image words place 3 c.load_words-words.ensures 1 (omega arith)) (loaded_word image words place 3 c.load_words-words.ensures 2 (omega arith))
