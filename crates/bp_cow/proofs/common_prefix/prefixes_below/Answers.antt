use Rattle.std.proofs.Common.{◌≡◌, ◌+◌, ◌<◌, ◌≤◌, ◌⊎◌, length, true, sym, ◌∙◌, ap, subst, arith, inl, inr}
use Rattle.std.specs.List.{slice_index}
use Rattle.std.specs.Prelude.{◌↔◌}
use Rattle.std.proofs.lemmas.Bool.{cases_lt}
use Rattle.bp_cow.specs.Touched.{run_way}
use Rattle.bp_cow.specs.Ways.{IsShared}
use Rattle.bp_cow.proofs.SharedLaws.{inside-end, inside-most, inside-next, inside-start}
use Rattle.bp_cow.proofs.common_prefix.prefixes_below.Goals as goal

pub loop-level-init : goal.loop-level-init
loop-level-init c = inside-start c.args.run.now c.args.leaves c.args.slots.now c.requires.some c.requires.run c.requires.leaves c.requires.long c.requires.root

pub returns-then-not-lies_below : goal.returns-then-not-lies_below
returns-then-not-lies_below c d =
    let run = c.args.run.now in
    let path = c.args.slots.now in
    let e = c.loop-level.level in
    let first = c.first_leaf-first.ensures in
    let above = c.len-above.ensures.value in
    let at = c.loop-level.invariant in
    let slot : slice_index path (length run.root.items + e) ≡ c.from.result = sym (c.from.ensures ∙ ap (λ n. slice_index path (n + e)) above) in
    let inside : length run.root.items + e < length path = omega (arith, c.loop-level-test.true, c.min-end.ensures, above) in
    let few : c.from.result < 512 = subst (λ n. n < 512) slot (c.requires.slots (length run.root.items + e) inside) in
    let more : e < run.height = omega (arith, c.loop-level-test.true, c.min-end.ensures) in
    let all = inside-most run c.args.leaves path c.requires.some c.requires.run c.requires.leaves e c.loop-level.number c.from.result at more slot few
    (λ both. let is : c.lies_below.result ≡ true = c.lies_below.ensures.1 (rw first both) in absurd (cc)) d in
    subst (λ n. (d < n + e + 1) ↔ IsShared (run_way run) c.args.leaves path d) (sym above) all

pub loop-level-preserved : goal.loop-level-preserved
loop-level-preserved c =
    let run = c.args.run.now in
    let path = c.args.slots.now in
    let e = c.loop-level.level in
    let first = c.first_leaf-first.ensures in
    let above = c.len-above.ensures.value in
    let slot : slice_index path (length run.root.items + e) ≡ c.from.result = sym (c.from.ensures ∙ ap (λ n. slice_index path (n + e)) above) in
    let inside : length run.root.items + e < length path = omega (arith, c.loop-level-test.true, c.min-end.ensures, above) in
    let few : c.from.result < 512 = subst (λ n. n < 512) slot (c.requires.slots (length run.root.items + e) inside) in
    let more : e < run.height = omega (arith, c.loop-level-test.true, c.min-end.ensures) in
    let both = rw first at c.lies_below.ensures.0 c.if-not-lies_below.false in
    inside-next run c.args.leaves path c.requires.some c.requires.run c.requires.leaves e c.loop-level.number c.from.result c.loop-level.invariant more inside slot few both.0 both.1

pub returns : goal.returns
returns c d =
    let run = c.args.run.now in
    let path = c.args.slots.now in
    let e = c.loop-level.level in
    let above = c.len-above.ensures.value in
    let end : e ≡ c.min-end.result = omega (arith, c.loop-level-test.false, c.loop-level.auto.level-end) in
    let ends : (length path ≤ length run.root.items + e) ⊎ (run.height ≤ e) = elim (cases_lt e run.height) [
      | inl more ↦ inl (omega (arith, more, end, c.min-end.ensures, above, c.requires.long))
      | inr past ↦ inr past
    ] in
    let all = inside-end run c.args.leaves path c.requires.some c.requires.run c.requires.leaves e c.loop-level.number c.loop-level.invariant ends d in
    subst (λ n. (d < c.len-above.result + n + 1) ↔ IsShared (run_way run) c.args.leaves path d) end
    (subst (λ n. (d < n + e + 1) ↔ IsShared (run_way run) c.args.leaves path d) (sym above) all)
