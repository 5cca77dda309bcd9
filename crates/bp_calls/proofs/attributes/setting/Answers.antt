use Rattle.std.proofs.Common.{ℕ, List, [], ◌∷◌, ◌++◌, map, sym, ◌∙◌, ap}
use Rattle.arrayvec.specs.ArrayVec.{ArrayVec}
use Rattle.pm_region.specs.Memory.{current_words}
use Rattle.bp_calls.proofs.AttributeWords.{setting_targets}
use Rattle.bp_calls.proofs.attributes.setting.Goals as goal

pub returns : goal.returns
returns g c =
    let image = current_words (g.R.Region.memory c.args.region.now) in
    ap (λ (xs : List (ArrayVec ℕ)). map (λ path. path.items) xs) (c.push.ensures.items ∙ ap (λ (xs : List (ArrayVec ℕ)). xs ++ c.attribute_path.result ∷ []) c.new-targets.ensures)
    ∙ ap (λ (p : List ℕ). p ∷ []) c.attribute_path.ensures ∙ sym (setting_targets image c.requires.well_formed c.args.ino c.args.number c.requires.reached c.requires.number)
