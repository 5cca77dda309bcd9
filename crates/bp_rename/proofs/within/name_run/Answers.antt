use Rattle.std.proofs.Common.{◌≡◌, ◌+◌, ◌*◌, take, ◌∙◌, ap, arith}
use Rattle.bp_layout.specs.Words.{height_of}
use Rattle.pm_region.specs.Memory.{current_words}
use Rattle.bp_rename.specs.Respelled.{respelled_length}
use Rattle.bp_rename.proofs.TouchedNames.{is_name_run}
use Rattle.bp_rename.proofs.within.name_run.Goals as goal

pub returns : goal.returns
returns g c =
    let count : 8 + 8 * c.div_ceil.result ≡ respelled_length c.args.to_move.now.name.now = omega (arith, c.div_ceil.ensures) in
    is_name_run (current_words (g.R.Region.memory c.args.region.now)) c.args.to_move.now.from_dir c.args.to_move.now.from_slot c.args.to_move.now.name.now c.args.bytes.now
    c.root_path.ensures (c.height.ensures ∙ ap height_of c.tree_of-tree.ensures.root) c.tree_of-tree.ensures.size (omega arith)
    (ap (λ n. take n c.args.bytes.now) count) (omega (arith, c.told-bytes)) c.requires.can.name.short c.requires.bytes c.fits-bytes
