use Rattle.std.proofs.Common.{ap, ◌∙◌, sym, arith, eq-eqb, bit_and}
use Rattle.std.proofs.lemmas.Bool.{eqb-true}
use Rattle.bp_free.proofs.Words.{word_seen, none_seen}
use Rattle.bp_free.proofs.bits.Bits.has_none.Goals as goal

pub get-requires : goal.get-requires
get-requires g c =
    let low = word_seen _ _ _ c.args.first c.self.invariant c.self.view_is (omega (arith, c.requires.some, c.requires.in_range)) in
    omega (arith, low)

pub returns-clause-none : goal.returns-clause-none
returns-clause-none g c =
    let reported = none_seen _ _ _ c.args.first c.args.count _ c.self.invariant c.self.view_is c.requires.some c.requires.in_range c.requires.one_word c.get.ensures in
    let common = ap (bit_and c.get.result) c.ones.ensures in
    (λ test. reported.0 (sym common ∙ eqb-true _ _ test), λ none. eq-eqb _ _ (common ∙ reported.1 none))
