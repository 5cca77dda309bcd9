use Rattle.std.proofs.Common.{◌≡◌, IfOk, subst}
use Rattle.bp_layout.specs.Listing.{listed}
use Rattle.bp_plain.specs.Plain.{listing}
use Rattle.bp_plain.specs.PlainTree.{PathMap}
use Rattle.bp_plain.specs.SeenTree.{names_of}
use Rattle.bp_plain.proofs.trees.maps.FileMap.names.Goals as goal

pub returns : goal.returns
returns c =
    subst (λ (m : PathMap). IfOk c.names.result (λ names. listed names.items ≡ listing m.nodes (names_of c.args.dir.now)))
    c.self.view_is c.names.ensures
