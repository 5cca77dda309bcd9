use Rattle.std.proofs.Common.{◌≡◌, true, sym, ◌∙◌, ap, subst}
use Rattle.bp_plain.specs.Numbered.{NumberedFiles, map_of}
use Rattle.bp_plain.specs.Plain.{is_empty_dir, with_nothing}
use Rattle.bp_plain.specs.PlainTree.{PathMap}
use Rattle.bp_plain.specs.SeenTree.{names_of}
use Rattle.bp_plain.proofs.KeptMaps.{AreKept, keeps, takes_dir}
use Rattle.bp_plain.proofs.trees.maps.FileMap.remove_dir.Goals as goal

pub invariant_of-self : goal.invariant_of-self
invariant_of-self c =
    let taken = takes_dir c.self.inside c.self.invariant (names_of c.args.path.now) c.requires.other (subst (λ (m : PathMap). is_empty_dir m.nodes (names_of c.args.path.now) ≡ true) (sym c.self.view_is) c.requires.empty) in
    keeps _ (subst (λ (files : NumberedFiles). AreKept files c.self.inside.next) (sym c.take.ensures) taken.kept)

pub returns : goal.returns
returns c =
    let taken = takes_dir c.self.inside c.self.invariant (names_of c.args.path.now) c.requires.other (subst (λ (m : PathMap). is_empty_dir m.nodes (names_of c.args.path.now) ≡ true) (sym c.self.view_is) c.requires.empty) in
    ap map_of c.take.ensures ∙ taken.view ∙ ap (λ (m : PathMap). with_nothing m (names_of c.args.path.now)) c.self.view_is
