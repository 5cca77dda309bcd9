use Rattle.std.proofs.Common.{◌∙◌, ap}
use Rattle.std.specs.FinMap.{remove}
use Rattle.bp_plain.specs.SeenTree.{names_of}
use Rattle.bp_plain.proofs.Kept.{sorted_without, tree_without}
use Rattle.bp_plain.proofs.trees.entries.Files.take.Goals as goal

pub invariant_of-self : goal.invariant_of-self
invariant_of-self c = sorted_without c.self.inside.nodes.entries c.self.invariant c.args.path.now _ c.remove.ensures.entries

pub returns : goal.returns
returns c =
    tree_without c.self.inside.nodes.entries c.self.invariant c.args.path.now _ c.remove.ensures.entries
    ∙ ap (λ files. remove files (names_of c.args.path.now)) c.self.view_is
