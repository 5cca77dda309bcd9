use Rattle.std.proofs.Common.{◌∙◌, ◌∷◌, ◌++◌, [], refl, ap, ap₂, rules}
use Rattle.std.proofs.lemmas.Result.{err_from_is_err_and}
use Rattle.bp_layout.specs.Listed.{listed_names}
use Rattle.bp_layout.proofs.ListedLaws.{names_kept, names_pushed}
use Rattle.bp_layout.proofs.listing.Listing.push.Goals as goal

pub returns-in_err-push-clause-kept : goal.returns-in_err-push-clause-kept
returns-in_err-push-clause-kept c =
    let p = err_from_is_err_and c.from_residual-in_err-push.result c.from_residual-in_err-push.ensures.1 in
    rw p.1 (ap₂ listed_names c.in_ok-extend_from_slice.ensures.items c.in_err-push.ensures.items ∙ names_kept _ _ _ c.self.invariant ∙ c.self.view_is)

pub returns-clause-pushed : goal.returns-clause-pushed
returns-clause-pushed c =
    ap₂ listed_names c.in_ok-extend_from_slice.ensures.items c.in_ok-push.ensures.items
    ∙ names_pushed _ _ _ _ c.self.invariant (search (rules, c.len-first.ensures)) refl
    ∙ ap (λ xs. xs ++ (c.args.kind, c.args.name.now) ∷ []) c.self.view_is
