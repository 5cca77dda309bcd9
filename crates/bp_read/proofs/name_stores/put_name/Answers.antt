use Rattle.std.proofs.Common.{arith}
use Rattle.bp_read.proofs.NameStores.{name_begun, name_more, name_taken, name_within, room_so_far}
use Rattle.bp_read.proofs.name_stores.put_name.Goals as goal

pub loop-i-init : goal.loop-i-init
loop-i-init g c = name_begun _ _ c.args.place c.args.name.now c.requires.in_range c.store_past_head.ensures

pub store_past_head-requires-in-loop-i-clause-room : goal.store_past_head-requires-in-loop-i-clause-room
store_past_head-requires-in-loop-i-clause-room g c =
    omega (arith, c.requires.room, c.requires.short, room_so_far (g.R.Region.memory c.args.region.now) (g.R.Region.memory c.loop-i.region) c.args.place c.loop-i.i c.args.name.now c.loop-i.invariant)

pub loop-i-preserved : goal.loop-i-preserved
loop-i-preserved g c =
    name_more (g.R.Region.memory c.args.region.now) (g.R.Region.memory c.loop-i.region) c.args.place c.loop-i.i c.args.name.now c.loop-i.invariant (g.R.Region.memory c.store_past_head-in-loop-i.new.self) _
    c.requires.in_range (omega (arith, c.requires.short)) (omega (arith, c.loop-i-test.true, c.div_ceil-i-end.ensures)) c.store_past_head-in-loop-i.ensures c.name_word.ensures

pub returns-clause-stores : goal.returns-clause-stores
returns-clause-stores g c =
    name_within (g.R.Region.memory c.args.region.now) (g.R.Region.memory c.loop-i.region) c.args.place c.loop-i.i c.args.name.now c.loop-i.invariant
    (omega (arith, c.loop-i.auto.i-end, c.div_ceil-i-end.ensures)) (omega (arith, c.requires.short))

pub returns-clause-taken : goal.returns-clause-taken
returns-clause-taken g c =
    name_taken (g.R.Region.memory c.args.region.now) (g.R.Region.memory c.loop-i.region) c.args.place c.loop-i.i c.args.name.now c.loop-i.invariant
    (omega (arith, c.loop-i.auto.i-end, c.div_ceil-i-end.ensures))
