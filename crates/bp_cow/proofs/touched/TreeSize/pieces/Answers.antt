use Rattle.std.proofs.Common.{◌≡◌, ◌+◌, ◌-◌, ◌<◌, length, sym, ◌∙◌, ap, subst, arith}
use Rattle.bp_cow.specs.Touched.{level_live, slots_number}
use Rattle.bp_cow.proofs.WordLive.{number-low}
use Rattle.bp_cow.proofs.touched.TreeSize.pieces.Goals as goal

pub block_pieces-requires-clause-block : goal.block_pieces-requires-clause-block
block_pieces-requires-clause-block c =
    let low = number-low c.slots_number-block.result (c.args.depth - c.len-above.result) c.slots_number-block.ensures.low (omega (arith, c.requires.below, c.requires.height, c.len-above.ensures.value)) in
    omega (arith, low)

pub returns-clause-live : goal.returns-clause-live
returns-clause-live c slot small counted =
    let tree = c.args.self.now in
    let root = length tree.root.items in
    let path = c.args.path.now in
    let above = c.len-above.ensures.value in
    let block : c.slots_number-block.result ≡ slots_number path root (c.args.depth - root) =
    c.slots_number-block.ensures.number ∙ ap (λ n. slots_number path n (c.args.depth - n)) above in
    let level = tree.height - (c.args.depth - c.len-above.result) in
    let level_is : root + tree.height - c.args.depth ≡ level = omega (arith, above, c.requires.above, c.requires.below) in
    let at_level : slot < level_live tree.size level (slots_number path root (c.args.depth - root)) =
    subst (λ l. slot < level_live tree.size l (slots_number path root (c.args.depth - root))) level_is counted in
    c.block_pieces.ensures.live slot small (subst (λ n. slot < level_live tree.size level n) (sym block) at_level)
