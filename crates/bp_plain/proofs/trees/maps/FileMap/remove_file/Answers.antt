use Rattle.std.proofs.Common.{◌≡◌, None, sym, ◌∙◌, ap, subst}
use Rattle.bp_plain.specs.Numbered.{NumberedFiles, map_of}
use Rattle.bp_plain.specs.Plain.{file_refusal, with_nothing}
use Rattle.bp_plain.specs.PlainTree.{PathMap}
use Rattle.bp_plain.specs.SeenTree.{names_of}
use Rattle.bp_plain.proofs.KeptMaps.{AreKept, keeps, takes_file}
use Rattle.bp_plain.proofs.trees.maps.FileMap.remove_file.Goals as goal

pub invariant_of-self : goal.invariant_of-self
invariant_of-self c =
    let taken = takes_file c.self.inside c.self.invariant (names_of c.args.path.now) (subst (λ (m : PathMap). file_refusal m.nodes (names_of c.args.path.now) ≡ None) (sym c.self.view_is) c.requires) in
    keeps _ (subst (λ (files : NumberedFiles). AreKept files c.self.inside.next) (sym c.take.ensures) taken.kept)

pub returns : goal.returns
returns c =
    let taken = takes_file c.self.inside c.self.invariant (names_of c.args.path.now) (subst (λ (m : PathMap). file_refusal m.nodes (names_of c.args.path.now) ≡ None) (sym c.self.view_is) c.requires) in
    ap map_of c.take.ensures ∙ taken.view ∙ ap (λ (m : PathMap). with_nothing m (names_of c.args.path.now)) c.self.view_is
