use Rattle.std.proofs.Common.{◌≡◌, ℕ, ◌-◌, ◌<◌, ◌≤◌, List, length, sym, ◌∙◌, ap, subst, arith}
use Rattle.std.specs.List.{slice_index}
use Rattle.std.specs.Prelude.{◌↔◌, IfSome, Option, Some}
use Rattle.bp_cow.specs.declared.touched.Touched.{Touched}
use Rattle.bp_cow.specs.declared.ways.Leaf.{Leaf}
use Rattle.bp_cow.specs.Leaves.{IsLeaf}
use Rattle.bp_cow.specs.Touched.{job_of, word_paths}
use Rattle.bp_cow.specs.Ways.{IsShared}
use Rattle.bp_changes.specs.Trail.{trail_of}
use Rattle.bp_cow.proofs.RunsLaws.{way-short}
use Rattle.bp_cow.proofs.SharedLaws.{shared-none, way-slots}
use Rattle.bp_cow.proofs.touched.Touched.shared_before.Goals as goal

-- the leaf that is given is the one to which a way leads
is_leaf : (touched : Touched) (i : ℕ) (given : Option Leaf) (leaf : Leaf) → given ≡ Some leaf
    → IfSome given (λ l. IsLeaf touched.runs.now touched.runs.now (word_paths touched) i l.run.now l.index) → IsLeaf touched.runs.now touched.runs.now (word_paths touched) i leaf.run.now leaf.index
is_leaf touched i given leaf is reported =
    subst (λ (o : Option Leaf). IfSome o (λ l. IsLeaf touched.runs.now touched.runs.now (word_paths touched) i l.run.now l.index)) is reported

pub returns-then-i-eq0 : goal.returns-then-i-eq0
returns-then-i-eq0 c d = rw c.if-i-eq0.true (shared-none (job_of c.args.self.now).way ((job_of c.args.self.now).way 0) d)

pub shared-requires-clause-slots : goal.shared-requires-clause-slots
shared-requires-clause-slots c =
    subst (λ (p : List ℕ). (d : ℕ) → d < length p → slice_index p d < 512) (sym c.way_slots.ensures)
    (λ d low. way-slots c.args.self.now c.requires.touched c.args.i d c.requires.i low)

pub overflow_add-result : goal.overflow_add-result
overflow_add-result c =
    let here = is_leaf c.args.self.now c.args.i c.args.leaf c.in-Some.here c.in-Some.is c.requires.leaf in
    omega (arith, c.way_len.ensures, ap (λ (p : List ℕ). length p) here.way, way-short c.args.self.now c.requires.touched c.args.i c.requires.i)

pub returns : goal.returns
returns c d =
    let way = (job_of c.args.self.now).way in
    let here = is_leaf c.args.self.now c.args.i c.args.leaf c.in-Some.here c.in-Some.is c.requires.leaf in
    let before = is_leaf c.args.self.now (c.args.i - 1) c.args.before c.in-Some-before.before c.in-Some-before.is c.requires.before in
    let same : way c.args.i ≡ way (c.args.i - 1) = here.way ∙ c.is_same.ensures c.if-is_same.true ∙ sym before.way in
    let long : length (way c.args.i) ≡ c.way_len.result = ap (λ (p : List ℕ). length p) here.way ∙ sym c.way_len.ensures in (
      λ low. record {
        which = c.args.i - 1;
        early = omega (arith, c.if-i-eq0.false);
        here = omega (arith, low, long);
        there = subst (λ (p : List ℕ). d ≤ length p) same (omega (arith, low, long));
        same = ap (λ p. trail_of p d) same;
      },
      λ s. omega (arith, s.here, long),
    )

pub returns-2 : goal.returns-2
returns-2 c d = subst (λ (p : List ℕ). (d < c.shared.result) ↔ IsShared (job_of c.args.self.now).way c.args.i p d) c.way_slots.ensures (c.shared.ensures d)
