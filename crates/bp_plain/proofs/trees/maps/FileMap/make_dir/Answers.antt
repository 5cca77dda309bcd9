use Rattle.std.proofs.Common.{◌≡◌, None, sym, ◌∙◌, ap, subst}
use Rattle.bp_plain.specs.Numbered.{NumberedFiles, map_of}
use Rattle.bp_plain.specs.Plain.{new_refusal, with_dir}
use Rattle.bp_plain.specs.PlainTree.{PathMap}
use Rattle.bp_plain.specs.SeenTree.{names_of}
use Rattle.bp_plain.proofs.KeptMaps.{AreKept, keeps, makes_dir}
use Rattle.bp_plain.proofs.trees.maps.FileMap.make_dir.Goals as goal

pub invariant_of-self-2 : goal.invariant_of-self-2
invariant_of-self-2 c =
    let made = makes_dir c.self.inside c.self.invariant (names_of c.args.path.items) (subst (λ (m : PathMap). new_refusal m.nodes (names_of c.args.path.items) ≡ None) (sym c.self.view_is) c.requires) in
    keeps _ (subst (λ (files : NumberedFiles). AreKept files c.self.inside.next) (sym c.in_ok-put.ensures.put) made.kept)

pub returns-clause-made : goal.returns-clause-made
returns-clause-made c =
    let made = makes_dir c.self.inside c.self.invariant (names_of c.args.path.items) (subst (λ (m : PathMap). new_refusal m.nodes (names_of c.args.path.items) ≡ None) (sym c.self.view_is) c.requires) in
    ap map_of c.in_ok-put.ensures.put ∙ made.view ∙ ap (λ (m : PathMap). with_dir m (names_of c.args.path.items)) c.self.view_is
