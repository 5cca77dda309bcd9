use Rattle.std.proofs.Common.{◌≡◌, ◌≢◌, ◌⊎◌, ℕ, suc, ◌+◌, ◌-◌, ◌/◌, ◌^◌, ◌<◌, ◌≤◌, length, sym, subst, arith, inl, inr}
use Rattle.std.specs.Prelude.{◌↔◌}
use Rattle.std.proofs.lemmas.Bool.{cases_eq}
use Rattle.pm_words.proofs.Digits.{power_of_two}
use Rattle.bp_cow.specs.Cover.{BothBegin}
use Rattle.bp_cow.specs.Touched.{run_path}
use Rattle.bp_cow.specs.declared.touched.Run.{Run}
use Rattle.bp_cow.proofs.AlikeEnds.{level-top, level-upto}
use Rattle.bp_cow.proofs.touched.Run.alike_words.Goals as goal

-- the number of a word that the tree covers
covered : (run : Run) (word : ℕ) → word < 512 ^ (run.height + 1) → word < 512 ^ suc run.height
covered run word low = let up : run.height + 1 ≡ suc run.height = omega arith in subst (λ h. word < 512 ^ h) up low

pub returns-then-first-level : goal.returns-then-first-level
returns-then-first-level c n =
    let run = c.args.self.now in
    let l = c.loop-level.level in
    let same : c.args.first / 512 ^ l ≡ c.args.last / 512 ^ l = subst (λ p. c.args.first / p ≡ c.args.last / p) (power_of_two l) c.if-first-level.true in
    let below : l ≤ suc run.height = omega (arith, c.loop-level-test.true) in
    let size : length run.root.items + (suc run.height - l) ≡ c.len.result + (run.height + 1 - l) = omega (arith, c.len.ensures.value) in
    subst (λ m. (n ≤ m) ↔ BothBegin (run_path run c.args.first) (run_path run c.args.last) n) size
    (level-upto run c.args.first c.args.last (covered run c.args.first c.requires.first) (covered run c.args.last c.requires.last) l below same c.loop-level.invariant n)

pub loop-level-preserved : goal.loop-level-preserved
loop-level-preserved c k low same = go (cases_eq k c.loop-level.level)
  where
    go : (k ≡ c.loop-level.level) ⊎ (k ≡ c.loop-level.level → ⊥) → ⊥
    go (inl e) =
        c.if-first-level.false
        (subst (λ p. c.args.first / p ≡ c.args.last / p) (sym (power_of_two c.loop-level.level)) (subst (λ l. c.args.first / 512 ^ l ≡ c.args.last / 512 ^ l) e same))
    go (inr other) = c.loop-level.invariant k (omega (arith, low, other)) same

pub returns : goal.returns
returns c n =
    let run = c.args.self.now in
    let end : c.loop-level.level ≡ suc run.height = omega (arith, c.loop-level-test.false, c.loop-level.auto.level-end) in
    let lower : (k : ℕ) → k < suc run.height → c.args.first / 512 ^ k ≢ c.args.last / 512 ^ k = λ k low. c.loop-level.invariant k (omega (arith, low, end)) in
    let size : length run.root.items + (suc run.height - suc run.height) ≡ c.len-2.result = omega (arith, c.len-2.ensures.value) in
    let first = covered run c.args.first c.requires.first in
    let last = covered run c.args.last c.requires.last in
    subst (λ m. (n ≤ m) ↔ BothBegin (run_path run c.args.first) (run_path run c.args.last) n) size
    (level-upto run c.args.first c.args.last first last (suc run.height) (omega arith) (level-top run c.args.first c.args.last first last) lower n)
