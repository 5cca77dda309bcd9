use Rattle.std.proofs.Common.{refl, sym, ◌∙◌, ap, subst}
use Rattle.bp_plain.specs.declared.trees.entries.Change.TheVariants.{Content}
use Rattle.bp_plain.specs.Numbered.{NumberedFiles, map_of}
use Rattle.bp_plain.specs.Plain.{attributes_at, with_content}
use Rattle.bp_plain.specs.PlainTree.{PathMap}
use Rattle.bp_plain.specs.SeenTree.{names_of}
use Rattle.bp_plain.proofs.KeptMaps.{AreKept, keeps, sets_content}
use Rattle.bp_plain.proofs.MapLaws.{no_content_set}
use Rattle.bp_plain.proofs.trees.maps.FileMap.set_content.Goals as goal

pub invariant_of-self : goal.invariant_of-self
invariant_of-self c =
    let made = sets_content c.self.inside c.self.invariant (names_of c.args.path.now) (Content c.in-Some.id c.attributes-attributes.result c.args.bytes) c.in-Some.id c.attributes-attributes.result c.args.bytes.now (λ e. refl) (sym c.in-Some.ensures)
    (c.attributes-attributes.ensures ∙ ap (λ (m : PathMap). attributes_at m.nodes (names_of c.args.path.now)) (sym c.self.view_is)) in
    keeps _ (subst (λ (x : NumberedFiles). AreKept x c.self.inside.next) (sym c.in_ok-files-in-Some.ensures) made.kept)

pub returns-in_ok-files-in-Some-clause-set : goal.returns-in_ok-files-in-Some-clause-set
returns-in_ok-files-in-Some-clause-set c =
    let made = sets_content c.self.inside c.self.invariant (names_of c.args.path.now) (Content c.in-Some.id c.attributes-attributes.result c.args.bytes) c.in-Some.id c.attributes-attributes.result c.args.bytes.now (λ e. refl) (sym c.in-Some.ensures)
    (c.attributes-attributes.ensures ∙ ap (λ (m : PathMap). attributes_at m.nodes (names_of c.args.path.now)) (sym c.self.view_is)) in
    ap map_of c.in_ok-files-in-Some.ensures ∙ made.view ∙ ap (λ (m : PathMap). with_content m (names_of c.args.path.now) c.args.bytes.now) c.self.view_is

pub returns-in-None-clause-set : goal.returns-in-None-clause-set
returns-in-None-clause-set c =
    sym c.self.view_is ∙ sym (no_content_set c.self.inside.files (names_of c.args.path.now) c.args.bytes.now (sym c.in-None.ensures))
    ∙ ap (λ (m : PathMap). with_content m (names_of c.args.path.now) c.args.bytes.now) c.self.view_is
