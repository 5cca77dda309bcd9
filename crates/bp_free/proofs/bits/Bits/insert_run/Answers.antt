use Rattle.std.proofs.Common.{◌+◌, ◌/◌, ℕ, set, sym, subst, ap, ◌∙◌, arith}
use Rattle.std.specs.Int.Bits.{bit_or}
use Rattle.bp_free.specs.Set.{Fills}
use Rattle.bp_free.specs.Words.{HoldRoom, set_in}
use Rattle.bp_free.proofs.Words.{word_seen, run_holds, run_seen}
use Rattle.bp_free.proofs.bits.Bits.insert_run.Goals as goal

pub get-requires : goal.get-requires
get-requires c =
    word_seen _ _ _ c.args.first c.self.invariant c.self.view_is (omega (arith, c.requires.some, c.requires.in_range))

pub set-requires : goal.set-requires
set-requires c =
    word_seen _ _ _ c.args.first c.self.invariant c.self.view_is (omega (arith, c.requires.some, c.requires.in_range))

pub invariant_of-self : goal.invariant_of-self
invariant_of-self c =
    let bits = ap (λ (bits : ℕ). set c.self.inside.words (c.args.first / 64) (bit_or c.get.result bits)) c.ones.ensures in
    subst (λ words. HoldRoom words c.self.inside.room) (sym (c.set.ensures ∙ bits))
    (run_holds _ _ _ c.args.first c.args.count _ c.self.invariant c.self.view_is c.requires.some c.requires.in_range c.requires.one_word c.get.ensures)

pub returns : goal.returns
returns c =
    let bits = ap (λ (bits : ℕ). set c.self.inside.words (c.args.first / 64) (bit_or c.get.result bits)) c.ones.ensures in
    subst (λ words. Fills c.args.first (c.args.first + c.args.count) c.args.self.now (set_in words c.self.inside.room)) (sym (c.set.ensures ∙ bits))
    (run_seen _ _ _ c.args.first c.args.count _ c.self.invariant c.self.view_is c.requires.some c.requires.in_range c.requires.one_word c.get.ensures)
