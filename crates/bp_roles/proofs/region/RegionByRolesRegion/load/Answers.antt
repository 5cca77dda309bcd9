use Rattle.std.proofs.Common.{arith, ◌≤◌}
use Rattle.bp_roles.proofs.RegionLaws.{size-is, load-past}
use Rattle.bp_roles.proofs.HeadLaws.{head-word}
use Rattle.bp_roles.proofs.region.RegionByRolesRegion.load.Goals as goal

pub load_past_head-requires-clause-in_range : goal.load_past_head-requires-clause-in_range
load_past_head-requires-clause-in_range g c = omega (arith, c.requires, size-is (record { roles = c.self.inside.places; memory = g.R.Region.memory c.self.inside.region }) c.args.self.now c.self.view_is)

pub returns-then-word-lt-HEAD_WORDS : goal.returns-then-word-lt-HEAD_WORDS
returns-then-word-lt-HEAD_WORDS g c =
    head-word (record { roles = c.self.inside.places; memory = g.R.Region.memory c.self.inside.region }) c.args.self.now c.self.view_is c.self.inside.head c.args.word c.if-word-lt-HEAD_WORDS.true c.self.invariant.1

pub returns-else-word-lt-HEAD_WORDS : goal.returns-else-word-lt-HEAD_WORDS
returns-else-word-lt-HEAD_WORDS g c =
    let past : 8 ≤ c.args.word = omega arith in
    load-past (record { roles = c.self.inside.places; memory = g.R.Region.memory c.self.inside.region }) c.args.self.now c.self.view_is c.self.invariant.0 c.args.word c.load_past_head.result past c.load_past_head.ensures
