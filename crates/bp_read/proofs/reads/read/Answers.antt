use Rattle.std.proofs.Common.{◌+◌, ◌-◌, ◌≡◌, ◌≤◌, length, refl, arith}
use Rattle.bp_layout.specs.Tree.{byte}
use Rattle.pm_region.specs.Memory.{current_words}
use Rattle.bp_layout.proofs.Ranges.{counted, grown, rest_stays}
use Rattle.bp_read.proofs.reads.read.Goals as goal

pub loop-done-preserved : goal.loop-done-preserved
loop-done-preserved g c =
    let image = current_words (g.R.Region.memory c.args.region.now) in
    let count : c.min-count.result ≤ length c.args.into.now = omega arith in
    let len : length c.read_leaf.new.into ≡ c.loop-done.done + c.min.result - c.loop-done.done = omega arith in
    let part = counted (byte image c.args.tree.root) (c.args.offset + c.loop-done.done) (c.args.offset + c.loop-done.done) _ (c.loop-done.done + c.min.result - c.loop-done.done) _ c.read_leaf.ensures len (λ some. refl) in
    record {
      within = omega arith;
      bytes = grown (byte image c.args.tree.root) c.args.offset (c.args.offset + c.loop-done.done) c.loop-done.done (c.loop-done.done + c.min.result) c.loop-done.into c.read_leaf.new.into
          (omega arith) (omega arith) c.loop-done.invariant.bytes (omega arith) part;
      rest = rest_stays (byte image c.args.tree.root) (c.args.offset + c.loop-done.done) c.loop-done.done (c.loop-done.done + c.min.result) c.loop-done.into c.args.into.now c.read_leaf.new.into
          (omega arith) (omega arith) c.loop-done.invariant.rest part;
    }
