use Rattle.std.proofs.Common.{◌≡◌, suc, ◌+◌, ◌*◌, ℕ, ◌/◌, Bool, true, false, List, length, ◌∙◌, ap, arith}
use Rattle.bp_layout.specs.Inode.{root_of}
use Rattle.bp_layout.specs.Words.{height_of}
use Rattle.bp_read.proofs.Digits.{length-digits}
use Rattle.pm_region.specs.Memory.{current_words}
use Rattle.bp_calls.proofs.TargetPaths.{content_fits}
use Rattle.bp_calls.proofs.targets.content_path.Goals as goal

pub unreachable-requires : goal.unreachable-requires
unreachable-requires g c =
    let image = current_words (g.R.Region.memory c.args.region.now) in
    let fits = content_fits image c.requires.well_formed c.args.ino c.args.offset c.requires.reached c.requires.below in
    let root = ap (λ (p : List ℕ). length p) c.root_path-path.ensures ∙ length-digits (suc (height_of (root_of image 0))) (8 * c.args.ino + 1) in
    let below = ap (λ (p : List ℕ). length p) (c.as_slice.ensures.value ∙ c.word_path-within.ensures) ∙ length-digits (suc (height_of c.args.tree.root)) (c.args.offset / 8) in
    let height = ap height_of c.requires.root in
    let never : ◌≡◌ {A = Bool} false true = c.in-Err.ensures.variant.1 (omega (arith, fits, root, below, height)) in
    absurd (cc)
