use Rattle.std.proofs.Common.{◌≡◌, None, sym, ◌∙◌, ap, subst}
use Rattle.bp_plain.specs.Numbered.{NumberedFiles, map_of}
use Rattle.bp_plain.specs.Plain.{move_refusal, with_moved}
use Rattle.bp_plain.specs.PlainTree.{PathMap}
use Rattle.bp_plain.specs.SeenTree.{names_of}
use Rattle.bp_plain.proofs.KeptMaps.{AreKept, keeps, moves_paths}
use Rattle.bp_plain.proofs.trees.maps.FileMap.move_to.Goals as goal

pub invariant_of-self : goal.invariant_of-self
invariant_of-self c =
    let made = moves_paths c.self.inside c.self.invariant (names_of c.args.from.now) (names_of c.args.to.now)
    (subst (λ (m : PathMap). move_refusal m.nodes (names_of c.args.from.now) (names_of c.args.to.now) ≡ None) (sym c.self.view_is) c.requires.can) c.requires.apart in
    keeps _ (subst (λ (x : NumberedFiles). AreKept x c.self.inside.next) (sym c.in_ok-files.ensures) made.kept)

pub returns-clause-moved : goal.returns-clause-moved
returns-clause-moved c =
    let made = moves_paths c.self.inside c.self.invariant (names_of c.args.from.now) (names_of c.args.to.now)
    (subst (λ (m : PathMap). move_refusal m.nodes (names_of c.args.from.now) (names_of c.args.to.now) ≡ None) (sym c.self.view_is) c.requires.can) c.requires.apart in
    ap map_of c.in_ok-files.ensures ∙ made.view ∙ ap (λ (m : PathMap). with_moved m (names_of c.args.from.now) (names_of c.args.to.now)) c.self.view_is
