use Rattle.std.proofs.Common.{◌≡◌, sym, ◌∙◌, ap, length, map, arith}
use Rattle.std.specs.FinMap.{entries}
use Rattle.bp_plain.specs.Numbered.{paths_numbered}
use Rattle.bp_plain.specs.SeenTree.{entry_kept}
use Rattle.bp_plain.proofs.Kept.{all_entries}
use Rattle.bp_plain.proofs.LinkCounts.{count_step}
use Rattle.bp_plain.proofs.trees.entries.Files.count.Goals as goal

pub loop-node-preserved : goal.loop-node-preserved
loop-node-preserved c =
    count_step c.args.id _ c.next.new.self c.loop-node.node-iterator c.loop-node.count c.in_ok-more.more _ c.has_number.result
    c.in-Some.ensures.steps c.has_number.ensures c.in_ok-more.ensures c.loop-node.invariant

pub returns : goal.returns
returns c =
    let none : length (paths_numbered c.args.id (map entry_kept c.loop-node.node-iterator)) ≡ 0 =
    ap (λ es. length (paths_numbered c.args.id (map entry_kept es))) c.in-None.ensures.steps.0 in
    let whole = ap (λ es. length (paths_numbered c.args.id (map entry_kept es))) (c.into_iter-node-iterator.ensures.into_iter_gives ∙ c.iter-node-items.ensures.rest)
    ∙ ap (λ es. length (paths_numbered c.args.id es)) (sym (all_entries c.self.inside.nodes.entries c.self.invariant) ∙ ap entries c.self.view_is) in
    omega (arith, none, whole, c.loop-node.invariant)
