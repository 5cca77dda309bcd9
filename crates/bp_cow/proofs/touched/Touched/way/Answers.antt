use Rattle.std.proofs.Common.{◌≡◌, ℕ, ◌+◌, ◌-◌, ◌<◌, List, length, sym, ◌∙◌, ap, subst, arith}
use Rattle.std.specs.Prelude.{◌↔◌}
use Rattle.std.specs.List.{slice_index}
use Rattle.bp_cow.specs.Touched.{job_of}
use Rattle.bp_cow.specs.Ways.{IsShared}
use Rattle.bp_cow.proofs.touched.Touched.way.Goals.{then-i-len, else-i-len}
use Rattle.bp_cow.proofs.RunsLaws.{way-short}
use Rattle.bp_cow.proofs.touched.Touched.way.Goals as goal

pub overflow_add-shared : goal.overflow_add-shared
overflow_add-shared c = omega (arith, c.len_of-len.ensures, way-short c.args.self.now c.requires.touched c.args.i c.requires.i)

pub overflow_sub-shared : goal.overflow_sub-shared
overflow_sub-shared c =
    let own : c.from.result ≡ slice_index c.args.shared.now.fresh.items c.args.i = c.from.ensures ∙ ap (λ (items : List ℕ). slice_index items c.args.i) c.deref.ensures.0 in
    omega (arith, own, c.len_of-len.ensures, c.requires.shared.fresh.few c.args.i (omega (arith, c.if-i-len.true, c.len.ensures.value)))

pub returns-clause-way : goal.returns-clause-way
returns-clause-way c =
    let job = job_of c.args.self.now in
    let right : (d : ℕ) → (d < c.if-i-len.shared) ↔ IsShared job.way c.args.i (job.way c.args.i) d = elim c.if-i-len.branch [
      | then-i-len w ↦
          λ d.
          let own : w.from.result ≡ slice_index c.args.shared.now.fresh.items c.args.i = w.from.ensures ∙ ap (λ (items : List ℕ). slice_index items c.args.i) w.deref.ensures.0 in
          let rest : length (job.way c.args.i) + 1 - slice_index c.args.shared.now.fresh.items c.args.i ≡ c.if-i-len.shared = omega (arith, w.shared-is, own, c.len_of-len.ensures) in
          subst (λ n. (d < n) ↔ IsShared job.way c.args.i (job.way c.args.i) d) rest (c.requires.shared.fresh.right c.args.i d (omega (arith, w.if-i-len.true, c.len.ensures.value)))
      | else-i-len w ↦ λ d. subst (λ n. (d < n) ↔ IsShared job.way c.args.i (job.way c.args.i) d) (sym w.shared-is) (w.shared_before-shared.ensures d)
    ] in
    record { here = c.requires.i; len = c.len_of-len.ensures; leaf = c.leaf-leaf.ensures.leaf; none = c.leaf-leaf.ensures.none; word = c.saturating_sub-word.ensures ∙ ap (λ n. c.args.i - n) c.requires.shared.ends.leaves; shared = right }
