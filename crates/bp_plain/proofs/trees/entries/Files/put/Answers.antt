use Rattle.std.proofs.Common.{◌∙◌, ap}
use Rattle.std.specs.FinMap.{insert}
use Rattle.bp_plain.specs.SeenTree.{names_of, numbered}
use Rattle.bp_plain.proofs.Kept.{sorted_after, tree_after_put}
use Rattle.bp_plain.proofs.trees.entries.Files.put.Goals as goal

pub invariant_of-self-2 : goal.invariant_of-self-2
invariant_of-self-2 c = sorted_after c.self.inside.nodes.entries c.self.invariant c.args.path c.args.node _ c.in_ok-insert.ensures.entries

pub returns-clause-put : goal.returns-clause-put
returns-clause-put c =
    tree_after_put c.self.inside.nodes.entries c.self.invariant c.args.path c.args.node _ c.in_ok-insert.ensures.entries
    ∙ ap (λ files. insert files (names_of c.args.path.items) (numbered c.args.node)) c.self.view_is
