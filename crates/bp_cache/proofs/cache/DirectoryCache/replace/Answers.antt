use Rattle.bp_cache.proofs.HeldLaws.{held_replaces}
use Rattle.bp_cache.proofs.NameLaws.{both_forgotten}
use Rattle.bp_cache.specs.Changes.{name_in_directory}
use Rattle.bp_cache.proofs.cache.DirectoryCache.replace.Goals as goal

pub returns : goal.returns
returns c old new right replaces = record {
  names =
      rw c.leave_held.ensures.names
      (both_forgotten old new _ right.names _ (name_in_directory c.args.from) (name_in_directory c.args.to) c.forget_both.ensures.names replaces.slots);
  directories =
      held_replaces old new _ _ (rw c.forget_both.ensures.directories right.directories) c.args.from c.args.to c.leave_held.ensures.held replaces;
}
