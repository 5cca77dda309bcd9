use Rattle.std.proofs.Common.{◌≡◌, ◌+◌, ◌-◌, ◌*◌, ◌<◌, min, ◌∙◌, sym, ap, ap₂, subst, arith}
use Rattle.bp_layout.specs.Words.{block_count, block_of, height_of, slot_word}
use Rattle.bp_layout.specs.Tree.{span}
use Rattle.bp_layout.specs.Pieces.{piece, child}
use Rattle.bp_layout.proofs.TreeLaws.{tree_word-zero, span-is}
use Rattle.pm_region.specs.Memory.{current_words}
use Rattle.bp_read.proofs.Below.{below}
use Rattle.bp_read.proofs.subtrees.child.Goals as goal

pub load_slot-word-requires-clause-block : goal.load_slot-word-requires-clause-block
load_slot-word-requires-clause-block g c =
    let image = current_words (g.R.Region.memory c.args.region.now) in
    let top = c.requires.sound.in_range 0 0 (record { level = height_of c.args.tree.root; height = omega arith; live = omega arith }) in
    subst (λ b. b < block_count image) (ap block_of (tree_word-zero image c.args.tree.root 0) ∙ sym c.block.ensures) top

pub overflow_add-result : goal.overflow_add-result
overflow_add-result g c =
    let has = below (current_words (g.R.Region.memory c.args.region.now)) c.args.tree.root c.args.tree.size (height_of c.args.tree.root - 1) c.args.slot
    c.requires.sound (omega arith) c.requires.present c.requires.live in
    let word : c.load_slot-word.result ≡ slot_word (current_words (g.R.Region.memory c.args.region.now)) (block_of c.args.tree.root) c.args.slot =
    c.load_slot-word.ensures ∙ ap (λ b. slot_word (current_words (g.R.Region.memory c.args.region.now)) b c.args.slot) c.block.ensures in
    omega (arith, has.bits, c.height-level.ensures, word)

pub returns-clause-sound : goal.returns-clause-sound
returns-clause-sound g c =
    let image = current_words (g.R.Region.memory c.args.region.now) in
    let has = below (current_words (g.R.Region.memory c.args.region.now)) c.args.tree.root c.args.tree.size (height_of c.args.tree.root - 1) c.args.slot
    c.requires.sound (omega arith) c.requires.present c.requires.live in
    let level : c.height-level.result - 1 ≡ height_of c.args.tree.root - 1 = ap (λ h. h - 1) c.height-level.ensures in
    let root : c.load_slot-word.result + (c.height-level.result - 1) ≡ child image (block_of c.args.tree.root) (height_of c.args.tree.root - 1) c.args.slot =
    ap₂ (λ w l. w + l) (c.load_slot-word.ensures ∙ ap (λ b. slot_word image b c.args.slot) c.block.ensures) level in
    let step = sym (span-is (c.height-level.result - 1)) ∙ ap span level in
    let size : c.min.result ≡ piece c.args.tree.size (height_of c.args.tree.root - 1) c.args.slot =
    c.min.ensures ∙ ap₂ (λ s t. min (c.args.tree.size - c.args.slot * s) t) (c.span.ensures ∙ step) (c.span-2.ensures ∙ step) in
    rw (root, size) has.sound

pub returns-clause-lower : goal.returns-clause-lower
returns-clause-lower g c =
    let has = below (current_words (g.R.Region.memory c.args.region.now)) c.args.tree.root c.args.tree.size (height_of c.args.tree.root - 1) c.args.slot
    c.requires.sound (omega arith) c.requires.present c.requires.live in
    let word : c.load_slot-word.result ≡ slot_word (current_words (g.R.Region.memory c.args.region.now)) (block_of c.args.tree.root) c.args.slot =
    c.load_slot-word.ensures ∙ ap (λ b. slot_word (current_words (g.R.Region.memory c.args.region.now)) b c.args.slot) c.block.ensures in
    omega (arith, has.bits, has.shape.low, c.height-level.ensures, word)
