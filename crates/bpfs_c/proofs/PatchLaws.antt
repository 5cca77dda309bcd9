-- Patches whose parts lie in a text.
use Rattle.std.proofs.Common.{◌≡◌, ◌<◌, ◌+◌, ◌∙◌, ℕ, List, [], ◌∷◌, ◌++◌, length, map, take, get_or, sym, ap, subst, arith}
use Rattle.std.specs.List.{All}
use Rattle.std.proofs.lemmas.List.{get_or-map, length-map, map-append, take_more}
use Rattle.std.proofs.lemmas.List.Elements.{All-push}
use Rattle.bp_plain.specs.Seen.{LiesIn}
use Rattle.bp_plain.specs.declared.calls.Piece.{Piece}
use Rattle.bpfs_c.specs.Patches.{AreFit, piece_of}
use Rattle.bpfs_c.specs.declared.batch.Patch.{Patch}

module _ (text : List ℕ) (patches : List Patch) (i : ℕ) (patch : Patch) (low : i < length patches) where
  -- one that does not lie there is not fit
  pub not_fit : (piece : Piece) → piece ≡ piece_of (get_or patches i patch) → ¬ LiesIn text piece → AreFit text patches → ⊥
  not_fit piece is none fit =
      none (subst (LiesIn text) (get_or-map piece_of patches i patch piece low ∙ sym is) (fit.lie i piece (omega (arith, length-map patches piece_of))))

  prefix_more : (piece : Piece) → piece ≡ piece_of (get_or patches i patch)
      → map piece_of (take (i + 1) patches) ≡ map piece_of (take i patches) ++ piece ∷ []
  prefix_more piece is =
      ap (map piece_of) (take_more patches i patch low) ∙ map-append piece_of (take i patches) (get_or patches i patch ∷ [])
      ∙ ap (λ p. map piece_of (take i patches) ++ p ∷ []) (sym is)

  -- the pieces up to one more
  pub pieces_more : (pieces new : List Piece) (piece : Piece) → piece ≡ piece_of (get_or patches i patch) → pieces ≡ map piece_of (take i patches)
      → new ≡ pieces ++ piece ∷ [] → new ≡ map piece_of (take (i + 1) patches)
  pieces_more pieces new piece is are pushed = pushed ∙ ap (λ ps. ps ++ piece ∷ []) are ∙ sym (prefix_more piece is)

  pub lie_more : (piece : Piece) → piece ≡ piece_of (get_or patches i patch) → All (LiesIn text) (map piece_of (take i patches)) → LiesIn text piece
      → All (LiesIn text) (map piece_of (take (i + 1) patches))
  lie_more piece is lie lies =
      subst (All (LiesIn text)) (sym (prefix_more piece is)) (All-push (LiesIn text) (map piece_of (take i patches)) piece lie lies)
