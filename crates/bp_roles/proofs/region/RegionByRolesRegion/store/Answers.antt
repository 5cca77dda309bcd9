use Rattle.std.proofs.Common.{arith, ◌≤◌}
use Rattle.bp_roles.proofs.RegionLaws.{size-is, added-is, store-past}
use Rattle.bp_roles.proofs.HeadLaws.{head-kept}
use Rattle.bp_roles.proofs.SeenLaws.{wide-adds}
use Rattle.bp_roles.proofs.region.RegionByRolesRegion.store.Goals as goal

pub store-requires-clause-in_range : goal.store-requires-clause-in_range
store-requires-clause-in_range g c = omega (arith, c.requires.in_range, size-is (record { roles = c.self.inside.places; memory = g.R.Region.memory c.self.inside.region }) c.args.self.now c.self.view_is)

pub returns-else-word-lt-HEAD_WORDS : goal.returns-else-word-lt-HEAD_WORDS
returns-else-word-lt-HEAD_WORDS g c =
    let past : 8 ≤ c.args.word = omega arith in
    added-is (record { roles = c.self.inside.places; memory = g.R.Region.memory c.self.inside.region }) c.args.self.now c.self.view_is (g.R.Region.memory c.store.new.self) _ _ c.store.ensures (store-past c.self.inside.places c.args.word c.args.value past)

pub invariant_of-self : goal.invariant_of-self
invariant_of-self g c =
    let past : 8 ≤ c.args.word = omega arith in (
      wide-adds (g.R.Region.memory c.self.inside.region) (g.R.Region.memory c.store.new.self) _ c.store.ensures c.self.invariant.0,
      head-kept c.self.inside.places (g.R.Region.memory c.self.inside.region) (g.R.Region.memory c.store.new.self) _ _ c.self.inside.head c.store.ensures (store-past c.self.inside.places c.args.word c.args.value past)
          (past, tt) c.self.invariant.1,
    )
