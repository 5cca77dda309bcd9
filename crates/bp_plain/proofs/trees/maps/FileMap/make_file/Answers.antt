use Rattle.std.proofs.Common.{◌≡◌, ℕ, None, [], sym, ◌∙◌, ap, subst}
use Rattle.std.specs.FinMap.{insert}
use Rattle.bp_layout.specs.Paths.{no_attributes}
use Rattle.bp_plain.specs.Numbered.{NumberedFiles, map_of}
use Rattle.bp_plain.specs.Numbered.Numbered.{numbered_file}
use Rattle.bp_plain.specs.Plain.{new_refusal, with_file}
use Rattle.bp_plain.specs.PlainTree.{PathMap}
use Rattle.bp_plain.specs.SeenTree.{names_of}
use Rattle.bp_plain.proofs.KeptMaps.{AreKept, keeps, makes_file}
use Rattle.bp_plain.proofs.trees.maps.FileMap.make_file.Goals as goal

pub invariant_of-self-2 : goal.invariant_of-self-2
invariant_of-self-2 c =
    let made = makes_file c.self.inside c.self.invariant (names_of c.args.path.items) (subst (λ (m : PathMap). new_refusal m.nodes (names_of c.args.path.items) ≡ None) (sym c.self.view_is) c.requires) in
    let files : c.put.new.self ≡ insert c.self.inside.files (names_of c.args.path.items) (numbered_file c.self.inside.next no_attributes []) =
    c.in_ok-put.ensures.put ∙ ap (λ items. insert c.self.inside.files (names_of c.args.path.items) (numbered_file c.self.inside.next no_attributes items)) c.new-content.ensures.items in
    keeps _ (subst (λ (x : NumberedFiles). AreKept x c.in_ok-next.next) (sym files) (subst (λ (n : ℕ). AreKept (insert c.self.inside.files (names_of c.args.path.items) (numbered_file c.self.inside.next no_attributes [])) n) (sym c.in_ok-next.ensures) made.kept))

pub returns-clause-made : goal.returns-clause-made
returns-clause-made c =
    let made = makes_file c.self.inside c.self.invariant (names_of c.args.path.items) (subst (λ (m : PathMap). new_refusal m.nodes (names_of c.args.path.items) ≡ None) (sym c.self.view_is) c.requires) in
    let files : c.put.new.self ≡ insert c.self.inside.files (names_of c.args.path.items) (numbered_file c.self.inside.next no_attributes []) =
    c.in_ok-put.ensures.put ∙ ap (λ items. insert c.self.inside.files (names_of c.args.path.items) (numbered_file c.self.inside.next no_attributes items)) c.new-content.ensures.items in
    ap map_of files ∙ made.view ∙ ap (λ (m : PathMap). with_file m (names_of c.args.path.items)) c.self.view_is
