use Rattle.std.proofs.Common.{ℕ, List, [], ◌∷◌, ◌++◌, length, map, sym, ◌∙◌, ap, rules}
use Rattle.arrayvec.specs.ArrayVec.{ArrayVec}
use Rattle.bp_layout.specs.WordPaths.{WordPath}
use Rattle.bp_calls.proofs.SameWrites.{WritesIn, writes_in}
use Rattle.bp_calls.proofs.WriteBelow.{write_can, write_cover, write_inside}
use Rattle.bp_calls.proofs.WriteTargets.{below_at, file_some}
use Rattle.pm_region.specs.Memory.{current_words}
use Rattle.bp_calls.proofs.targets.covering.Given.{Over}
use Rattle.bp_calls.proofs.targets.covering.Goals.{After-touched_by}
use Rattle.bp_calls.proofs.targets.covering.Goals as goal

-- the run of the bytes is all that is touched
write : (g : Over) (c : After-touched_by g) → WritesIn g.R.Region.memory c.args.parts.now c.args.ino c.args.offset c.args.bytes.now c.touched_by.result
write g c =
    let is = c.touched_by.ensures in
    writes_in g.R.Region.memory c.args.parts.now c.args.ino c.args.offset c.args.bytes.now c.touched_by.result c.run_for.result c.requires.mounted c.requires.can
    c.requires.below is.runs is.words is.trees c.run_for.ensures

pub cover-requires : goal.cover-requires
cover-requires g c =
    let here = write g (goal.at.cover-requires g c).After-touched_by in
    record { touched = (write_can here).shape; some = search rules; in_range = write_inside here }

pub returns : goal.returns
returns g c =
    let image = current_words (g.R.Region.memory c.args.parts.now.region) in
    let can = c.requires.can in
    let is = write_cover (write g (goal.at.returns g c).After-touched_by) in
    ap (λ (xs : List (ArrayVec ℕ)). map (λ path. path.items) xs)
    (c.push.ensures.items ∙ ap (λ (xs : List (ArrayVec ℕ)). xs ++ c.cover.result ∷ []) c.new-targets.ensures)
    ∙ ap (λ (p : WordPath). p ∷ []) (c.cover.ensures ∙ is)
    ∙ sym (below_at image c.requires.mounted.well_formed c.args.ino c.args.offset (length c.args.bytes.now) (file_some image c.args.ino can.file) can.reached
    c.requires.below)
