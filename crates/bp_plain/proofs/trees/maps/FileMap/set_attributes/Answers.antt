use Rattle.std.proofs.Common.{◌≡◌, refl, sym, ◌∙◌, ap, subst}
use Rattle.std.specs.FinMap.{insert}
use Rattle.bp_plain.specs.declared.trees.entries.Change.TheVariants.{Content}
use Rattle.bp_plain.specs.Numbered.{NumberedFiles, map_of}
use Rattle.bp_plain.specs.Numbered.Numbered.{directory}
use Rattle.bp_plain.specs.Plain.{bytes_at, is_dir_at, with_attributes}
use Rattle.bp_plain.specs.PlainTree.{PathMap}
use Rattle.bp_plain.specs.SeenTree.{names_of}
use Rattle.bp_plain.proofs.KeptMaps.{AreKept, keeps, sets_attributes, sets_dir}
use Rattle.bp_plain.proofs.MapLaws.{no_attributes_set}
use Rattle.bp_plain.proofs.trees.maps.FileMap.set_attributes.Goals as goal

pub invariant_of-self-then-is_dir : goal.invariant_of-self-then-is_dir
invariant_of-self-then-is_dir c =
    let made = sets_dir c.self.inside c.self.invariant (names_of c.args.path.now) c.args.attributes
    (ap (λ (m : PathMap). is_dir_at m.nodes (names_of c.args.path.now)) c.self.view_is ∙ sym c.is_dir.ensures ∙ c.if-is_dir.true) in
    let files : c.put.new.self ≡ insert c.self.inside.files (names_of c.args.path.now) (directory c.args.attributes) =
    c.in_ok-put.ensures.put ∙ ap (λ path. insert c.self.inside.files path (directory c.args.attributes)) c.in_ok-same.ensures in
    keeps _ (subst (λ (x : NumberedFiles). AreKept x c.self.inside.next) (sym files) made.kept)

pub returns-then-is_dir-clause-set : goal.returns-then-is_dir-clause-set
returns-then-is_dir-clause-set c =
    let made = sets_dir c.self.inside c.self.invariant (names_of c.args.path.now) c.args.attributes
    (ap (λ (m : PathMap). is_dir_at m.nodes (names_of c.args.path.now)) c.self.view_is ∙ sym c.is_dir.ensures ∙ c.if-is_dir.true) in
    let files : c.put.new.self ≡ insert c.self.inside.files (names_of c.args.path.now) (directory c.args.attributes) =
    c.in_ok-put.ensures.put ∙ ap (λ path. insert c.self.inside.files path (directory c.args.attributes)) c.in_ok-same.ensures in
    ap map_of files ∙ made.view ∙ ap (λ (m : PathMap). with_attributes m (names_of c.args.path.now) c.args.attributes) c.self.view_is

pub invariant_of-self-in-Some : goal.invariant_of-self-in-Some
invariant_of-self-in-Some c =
    let made = sets_attributes c.self.inside c.self.invariant (names_of c.args.path.now) (Content c.in-Some.id c.args.attributes c.bytes-bytes.result) c.in-Some.id c.args.attributes c.bytes-bytes.result.now (λ e. refl) (sym c.in-Some.ensures)
    (c.bytes-bytes.ensures ∙ ap (λ (m : PathMap). bytes_at m.nodes (names_of c.args.path.now)) (sym c.self.view_is)) in
    keeps _ (subst (λ (x : NumberedFiles). AreKept x c.self.inside.next) (sym c.in_ok-files-in-Some.ensures) made.kept)

pub returns-in_ok-files-in-Some-clause-set : goal.returns-in_ok-files-in-Some-clause-set
returns-in_ok-files-in-Some-clause-set c =
    let made = sets_attributes c.self.inside c.self.invariant (names_of c.args.path.now) (Content c.in-Some.id c.args.attributes c.bytes-bytes.result) c.in-Some.id c.args.attributes c.bytes-bytes.result.now (λ e. refl) (sym c.in-Some.ensures)
    (c.bytes-bytes.ensures ∙ ap (λ (m : PathMap). bytes_at m.nodes (names_of c.args.path.now)) (sym c.self.view_is)) in
    ap map_of c.in_ok-files-in-Some.ensures ∙ made.view ∙ ap (λ (m : PathMap). with_attributes m (names_of c.args.path.now) c.args.attributes) c.self.view_is

pub returns-in-None-clause-set : goal.returns-in-None-clause-set
returns-in-None-clause-set c =
    sym c.self.view_is
    ∙ sym (no_attributes_set c.self.inside.files (names_of c.args.path.now) c.args.attributes
    (ap (λ (m : PathMap). is_dir_at m.nodes (names_of c.args.path.now)) c.self.view_is ∙ sym c.is_dir.ensures ∙ c.if-is_dir.false) (sym c.in-None.ensures))
    ∙ ap (λ (m : PathMap). with_attributes m (names_of c.args.path.now) c.args.attributes) c.self.view_is
