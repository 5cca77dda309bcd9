use Rattle.bp_cache.proofs.HeldLaws.{held_leaves}
use Rattle.bp_cache.proofs.NameLaws.{names_forgotten}
use Rattle.bp_cache.specs.Changes.{name_in_directory}
use Rattle.bp_cache.proofs.cache.DirectoryCache.leave.Goals as goal

pub returns : goal.returns
returns c old new right leaves = record {
  names = rw c.leave_held.ensures.names (names_forgotten old new _ right.names _ (name_in_directory c.args.at) c.forget.ensures.known leaves.slots);
  directories = held_leaves old new _ _ right.directories c.args.at c.leave_held.ensures.held leaves;
}
