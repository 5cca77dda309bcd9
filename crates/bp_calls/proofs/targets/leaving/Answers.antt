use Rattle.std.proofs.Common.{ℕ, List, [], ◌∷◌, ◌++◌, map, sym, ◌∙◌, ap}
use Rattle.arrayvec.specs.ArrayVec.{ArrayVec}
use Rattle.bp_layout.specs.Directory.{ino_at}
use Rattle.pm_region.specs.Memory.{current_words}
use Rattle.bp_calls.proofs.TargetPaths.{leaving_cover}
use Rattle.bp_calls.proofs.targets.leaving.Goals as goal

pub returns : goal.returns
returns g c =
    let image = current_words (g.R.Region.memory c.args.region.now) in
    ap (λ (xs : List (ArrayVec ℕ)). map (λ path. path.items) xs) (c.push.ensures.items ∙ ap (λ (xs : List (ArrayVec ℕ)). xs ++ c.entry_path.result ∷ []) c.new-targets.ensures)
    ∙ ap (λ (p : List ℕ). p ∷ []) (c.entry_path.ensures ∙ sym (leaving_cover image c.requires.well_formed c.args.dir c.args.slot (ino_at image c.args.dir c.args.slot) c.requires.can))
