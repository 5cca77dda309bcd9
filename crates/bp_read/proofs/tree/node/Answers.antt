use Rattle.std.proofs.Common.{◌≡◌, ◌<◌, ◌-◌, ◌∙◌, ap, arith}
use Rattle.bp_layout.specs.Words.{block_count, height_of}
use Rattle.bp_layout.specs.Tree.{node, tree_word}
use Rattle.pm_region.specs.Memory.{current_words}
use Rattle.bp_read.proofs.RegionWords.{length_now}
use Rattle.bp_read.proofs.StepDown.{pointer_at}
use Rattle.bp_read.proofs.tree.node.Goals as goal

pub overflow_cast-result : goal.overflow_cast-result
overflow_cast-result g c =
    let memory = g.R.Region.memory c.args.region.now in
    let image = current_words memory in
    let below : node image c.args.tree.root (height_of c.args.tree.root - c.args.level) c.args.index < block_count image =
    c.requires.sound.in_range _ _ (pointer_at c.args.tree.root c.args.tree.size c.args.level c.args.index c.requires.level c.requires.live) in
    let reached : c.descend.result ≡ tree_word image c.args.tree.root (height_of c.args.tree.root - c.args.level) c.args.index =
    c.descend.ensures ∙ ap (λ h. tree_word image c.args.tree.root (h - c.args.level) c.args.index) c.height.ensures in
    omega (arith, below, length_now memory, reached)
