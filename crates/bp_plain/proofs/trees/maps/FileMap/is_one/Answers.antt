use Rattle.std.proofs.Common.{sym, ◌∙◌, ap, ap₂}
use Rattle.bp_layout.specs.Lookup.{are_one}
use Rattle.bp_plain.specs.PlainTree.{PathMap, is_one}
use Rattle.bp_plain.specs.SeenTree.{names_of}
use Rattle.bp_plain.proofs.Numbers.{pairs_of}
use Rattle.bp_plain.proofs.trees.maps.FileMap.is_one.Goals as goal

pub returns : goal.returns
returns c =
    c.are_one.ensures ∙ ap₂ are_one c.id.ensures c.id-2.ensures
    ∙ sym ((pairs_of c.self.inside.files).each (names_of c.args.path.now) (names_of c.args.other.now))
    ∙ ap (λ (m : PathMap). is_one m.one (names_of c.args.path.now) (names_of c.args.other.now)) c.self.view_is
