use Rattle.std.proofs.Common.{◌≡◌, suc, ◌+◌, ◌-◌, ◌/◌, ◌^◌, ◌<◌, ◌≤◌, sym, subst, arith}
use Rattle.std.specs.Prelude.{◌↔◌}
use Rattle.bp_cow.specs.Cover.{BothBegin}
use Rattle.bp_cow.specs.Touched.{run_end, run_path}
use Rattle.bp_cow.proofs.AlikeEnds.{ends-low}
use Rattle.bp_cow.proofs.touched.Run.alike.Goals as goal

pub alike_words-requires-clause-first : goal.alike_words-requires-clause-first
alike_words-requires-clause-first c =
    let run = c.args.self.now in
    let up : suc run.height ≡ run.height + 1 = omega arith in
    subst (λ h. c.end_word-first.result < 512 ^ h) up (subst (λ k. k < 512 ^ suc run.height) (sym c.end_word-first.ensures) (ends-low run c.requires).0)

pub alike_words-requires-clause-last : goal.alike_words-requires-clause-last
alike_words-requires-clause-last c =
    let run = c.args.self.now in
    let up : suc run.height ≡ run.height + 1 = omega arith in
    subst (λ h. c.end_word-last.result < 512 ^ h) up (subst (λ k. k < 512 ^ suc run.height) (sym c.end_word-last.ensures) (ends-low run c.requires).1)

pub returns : goal.returns
returns c n =
    let run = c.args.self.now in
    subst (λ a. (n ≤ c.alike_words.result) ↔ BothBegin (run_path run a) (run_path run ((run_end run - 1) / 8)) n) c.end_word-first.ensures
    (subst (λ b. (n ≤ c.alike_words.result) ↔ BothBegin (run_path run c.end_word-first.result) (run_path run b) n) c.end_word-last.ensures (c.alike_words.ensures n))
