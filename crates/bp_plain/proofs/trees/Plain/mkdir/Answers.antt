use Rattle.std.proofs.Common.{◌≡◌, None, sym, subst}
use Rattle.bp_plain.specs.Calls.Call.{mkdir}
use Rattle.bp_plain.specs.Plain.{new_refusal, refusal}
use Rattle.bp_plain.specs.PlainTree.{FileTree}
use Rattle.bp_plain.proofs.Carried.{on_named}
use Rattle.bp_plain.proofs.trees.Plain.mkdir.Goals as goal

pub make_dir-requires : goal.make_dir-requires
make_dir-requires c =
    subst (λ p. new_refusal c.self.inside.current.nodes p ≡ None) (sym c.in_ok-path.ensures)
    (on_named c.args.text.now (new_refusal c.self.inside.current.nodes) (subst (λ (tree : FileTree). refusal tree (mkdir c.args.text.now) ≡ None) (sym c.self.view_is) c.requires))
