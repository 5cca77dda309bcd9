use Rattle.bp_cache.proofs.HeldLaws.{held_moves}
use Rattle.bp_cache.proofs.NameLaws.{both_forgotten}
use Rattle.bp_cache.specs.Changes.{name_in_directory}
use Rattle.bp_cache.proofs.cache.DirectoryCache.rename.Goals as goal

pub returns : goal.returns
returns c old new right moves = record {
  names =
      rw (c.enter_held.ensures.names, c.leave_held.ensures.names)
      (both_forgotten old new _ right.names _ (name_in_directory c.args.from) (name_in_directory c.args.to) c.forget_both.ensures.names moves.slots);
  directories =
      held_moves old new _ _ (rw c.forget_both.ensures.directories right.directories) c.args.from c.args.to _ c.leave_held.ensures.held
      c.enter_held.ensures.held moves;
}
