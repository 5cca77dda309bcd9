use Rattle.std.proofs.Common.{◌≡◌, ℕ, suc, ◌+◌, ◌/◌, ◌^◌, ◌<◌, ◌≤◌, ◌++◌, List, sym, ◌∙◌, ap, subst, arith}
use Rattle.std.specs.Prelude.{◌↔◌}
use Rattle.std.proofs.lemmas.Slice.Eq.{bytes_eq-Decides}
use Rattle.bp_layout.specs.WordPaths.{WordPath, digits}
use Rattle.bp_cow.specs.Cover.{BothBegin}
use Rattle.bp_cow.specs.Touched.{run_path}
use Rattle.bp_cow.proofs.AlikeEnds.{ends-low}
use Rattle.bp_cow.proofs.touched.Run.alike_with.Goals as goal

pub alike_words-requires-clause-first : goal.alike_words-requires-clause-first
alike_words-requires-clause-first c =
    let run = c.args.self.now in
    let up : suc run.height ≡ run.height + 1 = omega arith in
    subst (λ h. c.end_word-first.result < 512 ^ h) up (subst (λ k. k < 512 ^ suc run.height) (sym c.end_word-first.ensures) (ends-low run c.requires.run).0)

pub alike_words-requires-clause-last : goal.alike_words-requires-clause-last
alike_words-requires-clause-last c =
    let run = c.args.self.now in
    let other = c.args.other.now in
    let up : suc other.height ≡ run.height + 1 = omega arith in
    subst (λ h. c.end_word-last.result < 512 ^ h) up (subst (λ k. k < 512 ^ suc other.height) (sym c.end_word-last.ensures) (ends-low other c.requires.other).0)

pub returns-then-is_under : goal.returns-then-is_under
returns-then-is_under c n =
    let run = c.args.self.now in
    let other = c.args.other.now in
    let k : ℕ = other.offset / 8 in
    let high : run.height ≡ other.height = omega arith in
    let root : run.root.items ≡ other.root.items = (bytes_eq-Decides run.root.items other.root.items).0 (sym c.is_under.ensures ∙ c.if-is_under.true) in
    let path : run_path run k ≡ run_path other k = ap (λ (r : List ℕ). r ++ digits (suc run.height) k) root ∙ ap (λ h. other.root.items ++ digits (suc h) k) high in
    subst (λ (p : WordPath). (n ≤ c.alike_words.result) ↔ BothBegin (run_path run (run.offset / 8)) p n) path
    (subst (λ a. (n ≤ c.alike_words.result) ↔ BothBegin (run_path run a) (run_path run k) n) c.end_word-first.ensures
    (subst (λ b. (n ≤ c.alike_words.result) ↔ BothBegin (run_path run c.end_word-first.result) (run_path run b) n) c.end_word-last.ensures (c.alike_words.ensures n)))
