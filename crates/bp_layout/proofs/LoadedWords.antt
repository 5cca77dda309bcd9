-- Words that are loaded in one go.
use Rattle.std.proofs.Common.{◌≡◌, ℕ, ◌+◌, ◌<◌, ◌≤◌, length, slice_index, slice_range, ◌∙◌, ap, arith}
use Rattle.std.proofs.lemmas.List.Edits.{get_or-between, length-between}
use Rattle.bp_layout.specs.Words.{Image, word}

module _ (image words : Image) (first count : ℕ) (run : words ≡ slice_range image first (first + count)) where
  -- each of them stands as far after the first
  pub loaded_word : (i : ℕ) → i < count → slice_index words i ≡ word image (first + i)
  loaded_word i low = ap (λ ws. slice_index ws i) run ∙ get_or-between image first (first + count) i 0 (omega (arith, low))

  -- where they all lie in the region none is missing
  pub length-loaded : first + count ≤ length image → length words ≡ count
  length-loaded inside = ap length run ∙ length-between image first (first + count) inside ∙ omega arith
