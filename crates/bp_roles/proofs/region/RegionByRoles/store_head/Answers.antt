use Rattle.bp_roles.proofs.RegionLaws.{stored_at-in, store-is}
use Rattle.bp_roles.proofs.HeadLaws.{head-stored}
use Rattle.bp_roles.proofs.SeenLaws.{wide-adds}
use Rattle.bp_roles.proofs.region.RegionByRoles.store_head.Goals as goal

pub store-requires-clause-in_range : goal.store-requires-clause-in_range
store-requires-clause-in_range g c = stored_at-in (record { roles = c.self.inside.places; memory = g.R.Region.memory c.self.inside.region }) c.args.self.now c.self.view_is c.self.invariant.0 c.args.word c.stored_at.result c.stored_at.ensures c.requires.in_range

pub returns : goal.returns
returns g c =
    store-is (record { roles = c.self.inside.places; memory = g.R.Region.memory c.self.inside.region }) c.args.self.now c.self.view_is (g.R.Region.memory c.store.new.self) c.args.word c.stored_at.result c.args.value c.swapped.result c.stored_at.ensures c.swapped.ensures c.store.ensures

pub invariant_of-self : goal.invariant_of-self
invariant_of-self g c = (
  wide-adds (g.R.Region.memory c.self.inside.region) (g.R.Region.memory c.store.new.self) _ c.store.ensures c.self.invariant.0,
  head-stored c.self.inside.places (g.R.Region.memory c.self.inside.region) (g.R.Region.memory c.store.new.self) c.args.word c.stored_at.result c.args.value c.swapped.result c.self.inside.head
      c.requires.of_head c.stored_at.ensures c.swapped.ensures c.store.ensures c.self.invariant.1,
)
