use Rattle.std.proofs.Common.{refl, arith, lit≤}
use Rattle.bp_layout.proofs.SmallTrees.{leaf_sound, leaf_full}
use Rattle.bp_samples.proofs.LaidLaws.{length-laid}
use Rattle.bp_samples.proofs.spelling.sample.Goals as goal

pub returns-clause-sound : goal.returns-clause-sound
returns-clause-sound c = rw (c.in_ok-region.ensures, c.in_ok-words.ensures.words) (leaf_sound _ 12288 512 refl (omega (arith, length-laid)) (lit≤ tt))

pub returns-clause-full : goal.returns-clause-full
returns-clause-full c = leaf_full _ 12288 512 refl (omega arith) (lit≤ tt)

pub returns-clause-most : goal.returns-clause-most
returns-clause-most c = rw (c.in_ok-region.ensures, c.in_ok-words.ensures.words) (omega (arith, length-laid))
