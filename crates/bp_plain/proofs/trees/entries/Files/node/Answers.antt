use Rattle.std.proofs.Common.{sym, ◌∙◌, ap}
use Rattle.std.specs.Option.{option_map}
use Rattle.std.specs.FinMap.{get}
use Rattle.bp_plain.specs.SeenTree.{names_of, numbered}
use Rattle.bp_plain.proofs.Kept.{get_seen, node_of_reference}
use Rattle.bp_plain.proofs.trees.entries.Files.node.Goals as goal

pub returns : goal.returns
returns c =
    node_of_reference c.get.result ∙ ap (option_map numbered) c.get.ensures.value ∙ sym (get_seen c.args.path.now c.self.inside.nodes.entries c.self.invariant)
    ∙ ap (λ tree. get tree (names_of c.args.path.now)) c.self.view_is
