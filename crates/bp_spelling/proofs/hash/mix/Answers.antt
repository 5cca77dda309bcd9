use Rattle.std.proofs.Common.{refl}
use Rattle.bp_spelling.specs.Hashes.{mixed}
use Rattle.bp_spelling.proofs.hash.mix.Goals as goal

pub returns : goal.returns
unfolding mixed
returns c = refl
