use Rattle.std.proofs.Common.{◌≡◌, ℕ, ◌+◌, ◌*◌, ◌/◌, min, subst, arith}
use Rattle.pm_region.specs.Memory.{current_words}
use Rattle.bp_scan.specs.Reading.{IsInside}
use Rattle.bp_scan.proofs.directories.read_entries.Goals as goal

pub read_leaf-requires-clause-inside : goal.read_leaf-requires-clause-inside
read_leaf-requires-clause-inside g c =
    let at : min (16 * c.loop-leaf.leaf) (c.args.directory.tree.size / 256) ≡ 16 * c.loop-leaf.leaf = omega (arith, c.loop-leaf-test.true, c.div_ceil-leaf-end.ensures) in
    subst (λ (n : ℕ). IsInside (current_words (g.R.Region.memory c.args.region.now)) c.loop-leaf.work c.args.directory n) at c.loop-leaf.invariant.inside

pub loop-leaf-preserved : goal.loop-leaf-preserved
loop-leaf-preserved g c =
    let slots = c.args.directory.tree.size / 256 in
    let next : min (16 * c.loop-leaf.leaf + 16) slots ≡ min (16 * (c.loop-leaf.leaf + 1)) slots = omega arith in
    record {
      inside = subst (λ (n : ℕ). IsInside (current_words (g.R.Region.memory c.args.region.now)) c.read_leaf.new.work c.args.directory n) next c.in_ok-read_leaf.ensures.inside;
      less = omega (arith, c.in_ok-read_leaf.ensures.steps, c.loop-leaf.invariant.less);
    }

pub returns-clause-inside : goal.returns-clause-inside
returns-clause-inside g c =
    let slots = c.args.directory.tree.size / 256 in
    let end : min (16 * c.loop-leaf.leaf) slots ≡ slots = omega (arith, c.loop-leaf-test.false, c.loop-leaf.auto.leaf-end, c.div_ceil-leaf-end.ensures) in
    subst (λ (n : ℕ). IsInside (current_words (g.R.Region.memory c.args.region.now)) c.loop-leaf.work c.args.directory n) end c.loop-leaf.invariant.inside
