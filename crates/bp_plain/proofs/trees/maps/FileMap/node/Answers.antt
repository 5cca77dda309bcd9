use Rattle.std.proofs.Common.{sym, ◌∙◌, ap}
use Rattle.std.specs.FinMap.{get}
use Rattle.std.specs.Option.{option_map}
use Rattle.bp_plain.specs.Numbered.{plain_node}
use Rattle.bp_plain.specs.PlainTree.{PathMap}
use Rattle.bp_plain.specs.SeenTree.{names_of}
use Rattle.bp_plain.proofs.Kept.{plain_of_reference}
use Rattle.bp_plain.proofs.Numbers.{get-plain}
use Rattle.bp_plain.proofs.trees.maps.FileMap.node.Goals as goal

pub returns : goal.returns
returns c =
    plain_of_reference c.node.result ∙ ap (option_map plain_node) c.node.ensures
    ∙ sym (get-plain c.self.inside.files (names_of c.args.path.now))
    ∙ ap (λ (m : PathMap). get m.nodes (names_of c.args.path.now)) c.self.view_is
