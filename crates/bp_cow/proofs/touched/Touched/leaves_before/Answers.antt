use Rattle.std.proofs.Common.{◌≡◌, ℕ, ◌+◌, ◌-◌, ◌<◌, List, length, take, refl, ◌∙◌, ap, arith}
use Rattle.std.specs.List.{slice_index}
use Rattle.bp_cow.specs.Touched.{leaves_of}
use Rattle.bp_cow.proofs.touched.Touched.leaves_before.Goals as goal

pub returns-then-number-eq0 : goal.returns-then-number-eq0
returns-then-number-eq0 c = rw c.if-number-eq0.true refl

pub returns-else-number-eq0 : goal.returns-else-number-eq0
returns-else-number-eq0 c =
    let k = c.args.number - 1 in
    let some : k + 1 ≡ c.args.number = omega (arith, c.if-number-eq0.false) in
    let low : k < length c.args.ends.now.inner.items = omega (arith, c.requires.ends.each, c.requires.number, some) in
    c.from.ensures ∙ ap (λ (items : List ℕ). slice_index items k) c.deref.ensures.0 ∙ c.requires.ends.right k low ∙ ap (λ n. leaves_of (take n c.args.self.now.runs.now)) some
