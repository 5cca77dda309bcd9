use Rattle.std.proofs.Common.{◌≡◌, None, sym, ◌∙◌, ap, subst}
use Rattle.bp_plain.specs.Calls.Call.{unlink}
use Rattle.bp_plain.specs.Plain.{file_refusal, path_named, refusal}
use Rattle.bp_plain.specs.PlainTree.{FileTree}
use Rattle.bp_plain.specs.SeenTree.{names_of}
use Rattle.bp_plain.proofs.Carried.{file_passes, on_named}
use Rattle.bp_plain.proofs.trees.Plain.unlink.Goals as goal

pub remove_file-requires : goal.remove_file-requires
remove_file-requires c =
    subst (λ p. file_refusal c.self.inside.current.nodes p ≡ None) (sym (ap names_of c.deref.ensures.value ∙ c.in_ok-path.ensures))
    (file_passes c.self.inside.current.nodes (path_named c.args.text.now)
    (on_named c.args.text.now _ (subst (λ (tree : FileTree). refusal tree (unlink c.args.text.now) ≡ None) (sym c.self.view_is) c.requires)))
