use Rattle.std.proofs.Common.{◌≡◌, None, sym, ◌∙◌, ap, subst}
use Rattle.bp_plain.specs.Calls.Call.{link}
use Rattle.bp_plain.specs.Plain.{file_refusal, new_refusal, refusal}
use Rattle.bp_plain.specs.PlainTree.{FileTree}
use Rattle.bp_plain.specs.SeenTree.{names_of}
use Rattle.bp_plain.proofs.Carried.{link_passes}
use Rattle.bp_plain.proofs.trees.Plain.link.Goals as goal

pub link-requires-clause-file : goal.link-requires-clause-file
link-requires-clause-file c =
    let passes = link_passes c.self.inside.current.nodes c.args.from.now c.args.to.now
    (subst (λ (tree : FileTree). refusal tree (link c.args.from.now c.args.to.now) ≡ None) (sym c.self.view_is) c.requires) in
    subst (λ p. file_refusal c.self.inside.current.nodes p ≡ None) (sym (ap names_of c.deref.ensures.value ∙ c.in_ok-from.ensures)) passes.0

pub link-requires-clause-new : goal.link-requires-clause-new
link-requires-clause-new c =
    let passes = link_passes c.self.inside.current.nodes c.args.from.now c.args.to.now
    (subst (λ (tree : FileTree). refusal tree (link c.args.from.now c.args.to.now) ≡ None) (sym c.self.view_is) c.requires) in
    subst (λ p. new_refusal c.self.inside.current.nodes p ≡ None) (sym c.in_ok-to.ensures) passes.1
