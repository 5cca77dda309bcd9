use Rattle.std.proofs.Common.{ℕ, List, [], ◌∷◌, ◌++◌, map, sym, ◌∙◌, ap}
use Rattle.arrayvec.specs.ArrayVec.{ArrayVec}
use Rattle.pm_region.specs.Memory.{current_words}
use Rattle.bp_calls.proofs.TargetPaths.{shrinking_targets}
use Rattle.bp_calls.proofs.targets.shrinking.Goals as goal

pub returns : goal.returns
returns g c =
    let image = current_words (g.R.Region.memory c.args.region.now) in
    λ size smaller.
    ap (λ (xs : List (ArrayVec ℕ)). map (λ path. path.items) xs) (c.push.ensures.items ∙ ap (λ (xs : List (ArrayVec ℕ)). xs ++ c.size_path.result ∷ []) c.new-targets.ensures)
    ∙ ap (λ (p : List ℕ). p ∷ []) c.size_path.ensures ∙ sym (shrinking_targets image c.requires.well_formed c.args.ino size c.requires.reached smaller)
