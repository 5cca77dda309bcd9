use Rattle.std.proofs.Common.{◌≡◌, ℕ, ◌⊎◌, ◌+◌, ◌-◌, ◌<◌, ◌≤◌, [], ◌∷◌, drop, length, min, max, subst, arith, inl, inr}
use Rattle.std.specs.Prelude.{◌↔◌}
use Rattle.std.proofs.lemmas.List.{drop_all}
use Rattle.bp_layout.specs.WordPaths.{WordPath}
use Rattle.bp_cow.specs.Touched.{leaves_of, run_leaves, run_way, way_of, word_paths}
use Rattle.bp_cow.specs.Ways.{IsShared}
use Rattle.bp_cow.proofs.RunsLaws.{has-item, item-here}
use Rattle.bp_cow.proofs.SharedLaws.{shared-either, shared-run}
use Rattle.bp_cow.proofs.touched.Touched.shared.Goals as goal

pub loop-run-init : goal.loop-run-init
loop-run-init c = record {
  all = λ d. (λ any. any_of d any, λ s. inr s);
  few = c.requires.count;
}
  where
    any_of : (d : ℕ) → (d < 0) ⊎ IsShared (way_of c.args.self.now.runs.now (word_paths c.args.self.now)) c.args.count c.args.slots.now.items d →
        IsShared (way_of c.args.self.now.runs.now (word_paths c.args.self.now)) c.args.count c.args.slots.now.items d
    any_of d (inl none) = absurd (omega (arith, none))
    any_of d (inr s) = s

-- no way is left
pub returns-then-rest-eq0 : goal.returns-then-rest-eq0
returns-then-rest-eq0 c d =
    let before = c.loop-run.invariant.all d in
    (λ low. before.0 (inl low), λ s. found (before.1 s))
  where
    found : (d < c.loop-run.shared) ⊎ IsShared (way_of (drop c.loop-run.run-index c.args.self.now.runs.now) (word_paths c.args.self.now)) c.loop-run.rest c.args.slots.now.items d → d < c.loop-run.shared
    found (inl low) = low
    found (inr s) = absurd (omega (arith, s.early, c.if-rest-eq0.true))

pub leaves-requires : goal.leaves-requires
leaves-requires c = c.requires.touched.runs c.run-item.result (has-item c.args.self.now.runs.now c.loop-run.run-index c.run-item.result c.loop-run-test.true c.run-item.is)

pub prefixes_of_run-requires-clause-run : goal.prefixes_of_run-requires-clause-run
prefixes_of_run-requires-clause-run c = c.requires.touched.runs c.run-item.result (has-item c.args.self.now.runs.now c.loop-run.run-index c.run-item.result c.loop-run-test.true c.run-item.is)

pub loop-run-preserved : goal.loop-run-preserved
loop-run-preserved c =
    let runs = c.args.self.now.runs.now in
    let paths = word_paths c.args.self.now in
    let path = c.args.slots.now.items in
    let run = c.run-item.result in
    let beyond = drop (c.loop-run.run-index + 1) runs in
    let rest = c.loop-run.rest in
    let here = item-here runs c.loop-run.run-index run c.loop-run-test.true c.run-item.is in
    let leaves : c.min-leaves.result ≡ min (run_leaves run) rest = omega (arith, c.min-leaves.ensures, c.leaves.ensures) in
    let most : max c.loop-run.shared c.prefixes_of_run.result ≡ c.max-shared.result = omega (arith, c.max-shared.ensures) in
    record {
      all = λ d.
          let All = IsShared (way_of runs paths) c.args.count path d in
          let before = subst (λ rs. ((d < c.loop-run.shared) ⊎ IsShared (way_of rs paths) rest path d) ↔ All) here (c.loop-run.invariant.all d) in
          let one = subst (λ (p : WordPath). (d < c.prefixes_of_run.result) ↔ IsShared (run_way run) c.min-leaves.result p d) c.as_slice.ensures.value (c.prefixes_of_run.ensures d) in
          subst (λ m. ((d < m) ⊎ IsShared (way_of beyond paths) (rest - c.min-leaves.result) path d) ↔ All) most
          (shared-run run beyond paths path rest c.min-leaves.result d leaves c.loop-run.shared c.prefixes_of_run.result All before one);
      few =
          let few : rest ≤ leaves_of (run ∷ beyond) + length c.args.self.now.words.now = subst (λ rs. rest ≤ leaves_of rs + length c.args.self.now.words.now) here c.loop-run.invariant.few in
          omega (arith, few, leaves);
    }

pub returns : goal.returns
returns c d =
    let runs = c.args.self.now.runs.now in
    let paths = word_paths c.args.self.now in
    let path = c.args.slots.now.items in
    let rest = c.loop-run.rest in
    let All = IsShared (way_of runs paths) c.args.count path d in
    let none = drop_all c.loop-run.run-index runs c.loop-run-test.false in
    let before = subst (λ rs. ((d < c.loop-run.shared) ⊎ IsShared (way_of rs paths) rest path d) ↔ All) none (c.loop-run.invariant.all d) in
    let most : max c.loop-run.shared c.shared_by_words.result ≡ c.max.result = omega (arith, c.max.ensures) in
    subst (λ m. (d < m) ↔ All) most (shared-either c.loop-run.shared c.shared_by_words.result d (IsShared (way_of [] paths) rest path d) All before (c.shared_by_words.ensures d))
