use Rattle.std.proofs.Common.{◌%◌, ◌∙◌, ap, sym, arith, get_or, length}
use Rattle.pm_steps.proofs.Links.{none_left}
use Rattle.pm_steps.proofs.word_set.is_among.Goals as goal

pub returns-else-remainder_of-remainder : goal.returns-else-remainder_of-remainder
returns-else-remainder_of-remainder c =
    let found = c.entries.invariant in
    let sized = c.requires.sized in
    let word = c.args.word in
    let other = get_or c.args.words.now c.entries.entry 0 in
    sym (none_left c.args.words.now (length c.args.heads.now) c.entries.bound c.entries.entry c.args.word found.last (λ low leaves. c.if-remainder_of-remainder.false (
    c.remainder_of.ensures ∙ ap (λ n. other % n) (sym sized) ∙ leaves ∙ ap (λ n. word % n) sized ∙ sym c.remainder_of-remainder.ensures
    )) found.none)

pub returns-after-entries : goal.returns-after-entries
returns-after-entries c =
    let found = c.entries.invariant in
    sym (none_left c.args.words.now (length c.args.heads.now) c.entries.bound c.entries.entry c.args.word found.last (λ low leaves. absurd (omega (arith, low))) found.none)
