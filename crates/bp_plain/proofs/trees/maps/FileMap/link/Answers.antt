use Rattle.std.proofs.Common.{◌≡◌, None, sym, ◌∙◌, ap, subst}
use Rattle.std.specs.FinMap.{insert}
use Rattle.bp_plain.specs.Numbered.{NumberedFiles, map_of}
use Rattle.bp_plain.specs.Plain.{file_refusal, new_refusal, with_name}
use Rattle.bp_plain.specs.PlainTree.{PathMap}
use Rattle.bp_plain.specs.SeenTree.{names_of, numbered}
use Rattle.bp_plain.proofs.KeptMaps.{AreKept, keeps, links_node, something_there}
use Rattle.bp_plain.proofs.trees.maps.FileMap.link.Goals as goal

pub invariant_of-self-in-Some : goal.invariant_of-self-in-Some
invariant_of-self-in-Some c =
    let made = links_node c.self.inside c.self.invariant (names_of c.args.path.now) (names_of c.args.new.items) (numbered c.in-Some.node.now) (sym c.in-Some.ensures)
    (subst (λ (m : PathMap). file_refusal m.nodes (names_of c.args.path.now) ≡ None) (sym c.self.view_is) c.requires.file)
    (subst (λ (m : PathMap). new_refusal m.nodes (names_of c.args.new.items) ≡ None) (sym c.self.view_is) c.requires.new) in
    let files : c.put.new.self ≡ insert c.self.inside.files (names_of c.args.new.items) (numbered c.in-Some.node.now) =
    c.in_ok-put-in-Some.ensures.put ∙ ap (insert c.self.inside.files (names_of c.args.new.items)) c.in_ok-copied-in-Some.ensures in
    keeps _ (subst (λ (x : NumberedFiles). AreKept x c.self.inside.next) (sym files) made.kept)

pub returns-clause-linked : goal.returns-clause-linked
returns-clause-linked c =
    let made = links_node c.self.inside c.self.invariant (names_of c.args.path.now) (names_of c.args.new.items) (numbered c.in-Some.node.now) (sym c.in-Some.ensures)
    (subst (λ (m : PathMap). file_refusal m.nodes (names_of c.args.path.now) ≡ None) (sym c.self.view_is) c.requires.file)
    (subst (λ (m : PathMap). new_refusal m.nodes (names_of c.args.new.items) ≡ None) (sym c.self.view_is) c.requires.new) in
    let files : c.put.new.self ≡ insert c.self.inside.files (names_of c.args.new.items) (numbered c.in-Some.node.now) =
    c.in_ok-put-in-Some.ensures.put ∙ ap (insert c.self.inside.files (names_of c.args.new.items)) c.in_ok-copied-in-Some.ensures in
    ap map_of files ∙ made.view ∙ ap (λ (m : PathMap). with_name m (names_of c.args.path.now) (names_of c.args.new.items)) c.self.view_is

pub unreachable-requires : goal.unreachable-requires
unreachable-requires c =
    something_there c.self.inside c.self.invariant (names_of c.args.path.now)
    (subst (λ (m : PathMap). file_refusal m.nodes (names_of c.args.path.now) ≡ None) (sym c.self.view_is) c.requires.file) (sym c.in-None.ensures)
