-- The words of the images that the samples lay out.
use Rattle.std.proofs.Common.{◌≡◌, ℕ, ◌<◌, List, length, sym, subst, ◌∙◌, ap}
use Rattle.std.proofs.Math.ListN.{replicate}
use Rattle.std.proofs.lemmas.List.{length-replicate, get_or-replicate}
use Rattle.bp_layout.specs.Words.{word}
use Rattle.bp_layout.specs.Stores.{after_stores}
use Rattle.bp_layout.proofs.LastValue.{AllWithinImage, last_value, length-after_stores, word-after_stores}
use Rattle.bp_samples.specs.Laid.{laid_image}

pub length-laid : (stores : List (ℕ × ℕ)) → length (laid_image stores) ≡ 4096
unfolding laid_image
length-laid stores = length-after_stores _ stores ∙ length-replicate {A = ℕ} 4096 0

word-over_zeros : (n : ℕ) (stores : List (ℕ × ℕ)) (place : ℕ) → place < n → AllWithinImage n stores → word (after_stores (replicate n 0) stores) place ≡ last_value stores place 0
word-over_zeros n stores place low within =
    word-after_stores (replicate n 0) stores place (subst (λ m. AllWithinImage m stores) (sym (length-replicate {A = ℕ} n 0)) within)
    ∙ ap (last_value stores place) (get_or-replicate n place 0 0 low)

pub word-laid : (stores : List (ℕ × ℕ)) (place : ℕ) → place < 4096 → AllWithinImage 4096 stores → word (laid_image stores) place ≡ last_value stores place 0
unfolding laid_image
word-laid stores place low within = word-over_zeros 4096 stores place low within
