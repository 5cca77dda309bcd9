use Rattle.bp_cache.proofs.HeldLaws.{held_enters}
use Rattle.bp_cache.proofs.NameLaws.{names_kept}
use Rattle.bp_cache.proofs.cache.DirectoryCache.enter.Goals as goal

pub returns : goal.returns
returns c old new right enters = record {
  names = rw c.enter_held.ensures.names (names_kept old new _ right.names enters.slots);
  directories = held_enters old new _ _ right.directories c.args.at c.enter_held.ensures.held enters;
}
