use Rattle.std.proofs.Common.{◌∙◌, ◌∷◌, ◌++◌, [], refl, ap, ap₂, rules}
use Rattle.bp_export.specs.Named.{named_rows}
use Rattle.bp_export.proofs.NamedLaws.{rows_pushed}
use Rattle.bp_export.proofs.entries.Entries.push.Goals as goal

pub returns : goal.returns
returns c =
    ap₂ named_rows c.in_ok-extend_from_slice.ensures.items c.in_ok-push.ensures.items
    ∙ rows_pushed _ _ _ _ c.self.invariant (search (rules, c.len-first.ensures)) refl
    ∙ ap (λ xs. xs ++ (c.args.ino, c.args.name.now) ∷ []) c.self.view_is
