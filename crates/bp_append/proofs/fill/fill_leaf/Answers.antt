use Rattle.std.proofs.Common.{arith}
use Rattle.bp_append.proofs.BuildLaws.{leaf_fills}
use Rattle.bp_append.proofs.fill.fill_leaf.Goals as goal

pub overflow_add-node : goal.overflow_add-node
overflow_add-node g c = omega (arith, c.requires.can.few)

pub lay-requires-clause-order : goal.lay-requires-clause-order
lay-requires-clause-order g c = c.requires.can.order

pub lay-requires-clause-some : goal.lay-requires-clause-some
lay-requires-clause-some g c = omega (arith, c.min-end.ensures, c.requires.can.inside, c.requires.can.leaf)

pub lay-requires-clause-in_leaf : goal.lay-requires-clause-in_leaf
lay-requires-clause-in_leaf g c = omega (arith, c.min-end.ensures)

pub lay-requires-clause-few : goal.lay-requires-clause-few
lay-requires-clause-few g c = omega (arith, c.requires.can.few)

pub lay-requires-clause-some_block : goal.lay-requires-clause-some_block
lay-requires-clause-some_block g c = c.requires.can.some_block

pub lay-requires-clause-in_range : goal.lay-requires-clause-in_range
lay-requires-clause-in_range g c = c.requires.can.in_range

pub lay-requires-clause-room : goal.lay-requires-clause-room
lay-requires-clause-room g c = c.requires.can.room

pub returns : goal.returns
returns g c = λ free. leaf_fills _ _ free c.args.bytes.now c.args.node.block c.args.node.start c.args.low c.args.wanted.from c.args.wanted.to c.min-end.result c.requires.can
    (omega (arith, c.min-end.ensures)) c.lay.ensures.lays
