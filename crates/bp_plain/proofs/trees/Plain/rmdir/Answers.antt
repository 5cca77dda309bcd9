use Rattle.std.proofs.Common.{◌≡◌, None, false, true, sym, ◌∙◌, ap, subst}
use Rattle.bp_plain.specs.Calls.Call.{rmdir}
use Rattle.bp_plain.specs.Plain.{is_empty_dir, is_root_path, path_named, refusal}
use Rattle.bp_plain.specs.PlainTree.{FileTree}
use Rattle.bp_plain.specs.SeenTree.{names_of}
use Rattle.bp_plain.proofs.Carried.{dir_passes, on_named}
use Rattle.bp_plain.proofs.trees.Plain.rmdir.Goals as goal

pub remove_dir-requires-clause-other : goal.remove_dir-requires-clause-other
remove_dir-requires-clause-other c =
    let passes = dir_passes c.self.inside.current.nodes (path_named c.args.text.now)
    (on_named c.args.text.now _ (subst (λ (tree : FileTree). refusal tree (rmdir c.args.text.now) ≡ None) (sym c.self.view_is) c.requires)) in
    subst (λ p. is_root_path p ≡ false) (sym (ap names_of c.deref.ensures.value ∙ c.in_ok-path.ensures)) passes.0

pub remove_dir-requires-clause-empty : goal.remove_dir-requires-clause-empty
remove_dir-requires-clause-empty c =
    let passes = dir_passes c.self.inside.current.nodes (path_named c.args.text.now)
    (on_named c.args.text.now _ (subst (λ (tree : FileTree). refusal tree (rmdir c.args.text.now) ≡ None) (sym c.self.view_is) c.requires)) in
    subst (λ p. is_empty_dir c.self.inside.current.nodes p ≡ true) (sym (ap names_of c.deref.ensures.value ∙ c.in_ok-path.ensures)) passes.1
