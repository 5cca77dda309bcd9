use Rattle.std.proofs.Common.{arith}
use Rattle.bp_roles.proofs.RegionLaws.{size-is, added-is, run-past}
use Rattle.bp_roles.proofs.HeadLaws.{head-kept, run-are_past}
use Rattle.bp_roles.proofs.SeenLaws.{wide-adds}
use Rattle.bp_roles.proofs.region.RegionByRolesRegion.store_words.Goals as goal

pub store_words-requires-clause-in_range : goal.store_words-requires-clause-in_range
store_words-requires-clause-in_range g c =
    omega (arith, c.requires.in_range, size-is (record { roles = c.self.inside.places; memory = g.R.Region.memory c.self.inside.region }) c.args.self.now c.self.view_is)

pub returns : goal.returns
returns g c =
    added-is (record { roles = c.self.inside.places; memory = g.R.Region.memory c.self.inside.region }) c.args.self.now c.self.view_is (g.R.Region.memory c.store_words.new.self) _ _ c.store_words.ensures
    (run-past c.self.inside.places c.args.first c.args.values.now c.requires.after_head)

pub invariant_of-self : goal.invariant_of-self
invariant_of-self g c = (
  wide-adds (g.R.Region.memory c.self.inside.region) (g.R.Region.memory c.store_words.new.self) _ c.store_words.ensures c.self.invariant.0,
  head-kept c.self.inside.places (g.R.Region.memory c.self.inside.region) (g.R.Region.memory c.store_words.new.self) _ _ c.self.inside.head c.store_words.ensures
      (run-past c.self.inside.places c.args.first c.args.values.now c.requires.after_head) (run-are_past c.args.first c.args.values.now c.requires.after_head) c.self.invariant.1,
)
