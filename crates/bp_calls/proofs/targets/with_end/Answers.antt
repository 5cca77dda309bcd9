use Rattle.std.proofs.Common.{suc, ◌+◌, ◌*◌, ◌≤◌, length, arith, ℕ, List, [], ◌∷◌, ◌++◌, map, ◌∙◌, ap}
use Rattle.arrayvec.specs.ArrayVec.{ArrayVec}
use Rattle.bp_layout.specs.Thaw.{end_path_now, heights_now, root_path_now}
use Rattle.bp_layout.specs.Reached.IsReached.{inode_file}
use Rattle.bp_limits.specs.Limits.{max_height}
use Rattle.bp_read.proofs.Digits.{length-digits}
use Rattle.bp_layout.specs.WordPaths.{WordPath}
use Rattle.pm_region.specs.Memory.{current_words}
use Rattle.bp_calls.proofs.WriteTargets.{root_path_is}
use Rattle.bp_calls.proofs.targets.with_end.Goals as goal

pub returns : goal.returns
returns g c =
    let image = current_words (g.R.Region.memory c.args.region.now) in
    c.push_end.ensures image c.args.ino (c.root_path.ensures ∙ root_path_is image c.args.ino c.requires.some) c.tree_of.ensures.root c.tree_of.ensures.size
    ∙ ap (λ (paths : List WordPath). paths ++ root_path_now image c.args.ino ∷ end_path_now image c.args.ino ∷ [])
    (ap (λ (xs : List (ArrayVec ℕ)). map (λ path. path.items) xs) (c.push.ensures.items ∙ ap (λ (xs : List (ArrayVec ℕ)). xs ++ c.args.word ∷ []) c.new-targets.ensures))

pub push_end-requires-clause-short : goal.push_end-requires-clause-short
push_end-requires-clause-short g c =
    let image = current_words (g.R.Region.memory c.args.region.now) in
    let low : heights_now image 0 ≤ max_height = (c.requires.well_formed.sound 0 inode_file).low (omega (arith, c.requires.well_formed.some_inodes)) in
    let long = ap (λ (p : List ℕ). length p) c.root_path.ensures ∙ length-digits (suc (heights_now image 0)) (8 * c.args.ino + 1) in
    omega (arith, low, long)
