use Rattle.std.proofs.Common.{◌≡◌, ◌+◌, ◌-◌, ◌++◌, ◌∙◌, ap, arith, drop, length, take}
use Rattle.std.proofs.lemmas.List.{drop-drop}
use Rattle.pm_raw.proofs.region.overwrite.Goals as goal

pub returns : goal.returns
returns c =
    let words = c.args.words.now in
    let first = c.args.first in
    let values = c.args.values.now in
    let many = (first + length values) - first in
    let same : many ≡ length values = omega arith in
    ap (λ new. take first words ++ (new ++ drop many (drop first words))) c.copy_from_slice.ensures.after
    ∙ ap (λ rest. take first words ++ (values ++ rest)) (drop-drop many first words ∙ ap (λ n. drop (first + n) words) same)
