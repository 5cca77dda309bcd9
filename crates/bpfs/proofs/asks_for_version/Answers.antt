use Rattle.std.proofs.Common.{ℕ, List, [], ◌∷◌, get_or, inl, inr, subst}
use Rattle.bp_command.specs.Commands.{IsTaken}
use Rattle.bpfs.proofs.TextLaws.{two_texts}
use Rattle.bpfs.proofs.asks_for_version.Goals as goal

pub returns-in-len2-clause-other : goal.returns-in-len2-clause-other
returns-in-len2-clause-other c = λ asked taken.
    let first = (get_or c.args.texts.now 0 record { ref_ptr = (0, 0); now = [] }).now in
    let are =
    two_texts c.args.texts.now record { ref_ptr = (0, 0); now = [] } c.in-len2.len_at_least c.in-len2.len_below in
    let both = subst IsTaken are taken in
    let takes = λ (flag : List ℕ). IsTaken (first ∷ flag ∷ []) in
    elim (c.is_version_flag.ensures.0 asked) [
      | inl flag ↦ c.version_flags_are_no_command.ensures.long first (subst takes flag both)
      | inr flag ↦ c.version_flags_are_no_command.ensures.short first (subst takes flag both)
    ]
