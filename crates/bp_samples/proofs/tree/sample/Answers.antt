use Rattle.std.proofs.Common.{arith}
use Rattle.bp_samples.proofs.TwoLeaves.{two_leaves_sound, two_leaves_word}
use Rattle.bp_samples.proofs.tree.sample.Goals as goal

pub returns-clause-sound : goal.returns-clause-sound
returns-clause-sound c = rw (c.in_ok-region.ensures, c.in_ok-words.ensures.words) two_leaves_sound

pub returns-clause-root : goal.returns-clause-root
returns-clause-root c = rw (c.in_ok-region.ensures, c.in_ok-words.ensures.words) (two_leaves_word 2 (omega arith))

pub returns-clause-third : goal.returns-clause-third
returns-clause-third c = rw (c.in_ok-region.ensures, c.in_ok-words.ensures.words) (two_leaves_word 1538 (omega arith))
