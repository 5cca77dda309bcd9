use Rattle.std.proofs.Common.{◌∙◌, ◌≤◌, ap, arith, rules}
use Rattle.arrayvec.specs.ArrayVec.{array_vec_len}
use Rattle.bp_layout.specs.Fields.{name_byte}
use Rattle.bp_layout.proofs.NameBytes.{map-equal}
use Rattle.bp_layout.proofs.laws.entry_read.Goals as goal

pub returns-clause-name : goal.returns-clause-name
returns-clause-name c =
    let short : array_vec_len c.args.entry.name ≤ 240 = search rules in
    let reports = map-equal (name_byte c.words.result) c.args.entry.name.items (λ i low. c.words.ensures.name i (omega (arith, low, short))) in
    ap (λ xs. record { items = xs }) (c.read.ensures.name ∙ rw c.words.ensures.length reports)
