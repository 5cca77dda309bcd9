-- Words that are not the same.
use Rattle.std.proofs.Common.{◌≡◌, ◌∙◌, sym, false, true≢false}
use Rattle.std.specs.Str.{bytes_eq}
use Rattle.std.proofs.lemmas.Slice.Eq.{bytes_eq-Decides}
use Rattle.clap.specs.Words.{Text}

-- a comparison reports them apart
pub apart : (first second : Text) → bytes_eq first second ≡ false → first ≡ second → ⊥
apart first second differ same = true≢false (sym ((bytes_eq-Decides first second).1 same) ∙ differ)
