-- The pieces of a batch, one after the other.
use Rattle.std.proofs.Common.{◌≡◌, ℕ, ◌+◌, ◌<◌, List, [], ◌∷◌, ◌++◌, drop, get_or, length, map, take, Bool, true, false, refl, sym, ◌∙◌, ap, subst, true≢false}
use Rattle.std.specs.Prelude.{◌||◌, bytes_eq, is_err, is_none, not, Err, IfOk, Ok, Option, Result}
use Rattle.std.specs.List.{list_any}
use Rattle.std.proofs.lemmas.Bool.{not-false}
use Rattle.std.proofs.lemmas.List.{drop_more, map-append, take_more}
use Rattle.std.proofs.lemmas.Slice.Eq.{bytes_eq-Decides}
use Rattle.bp_calls.specs.Overwritten.{patch_seen, patches_seen}
use Rattle.bp_calls.specs.declared.batches.Patch.{Patch as GivenPatch}
use Rattle.bp_changes.specs.Overwrites.{Patch}
use Rattle.bp_layout.specs.Paths.{parse}
use Rattle.bp_layout.specs.Words.{Image}
use Rattle.bp_plain.specs.Calls.{Piece, Refusal}
use Rattle.bp_plain.specs.Plain.{first, piece_refusal}
use Rattle.bp_plain.specs.PlainTree.{FileTree}
use Rattle.bp_plain.specs.Seen.{piece_in}
use Rattle.bp_plain.specs.Stands.{Stands}
use Rattle.bp_plain.specs.declared.calls.Piece.{Piece as GivenPiece}
use Rattle.bp_stands.specs.Pieces.{ArePatches, PieceFinds, patch_of}
use Rattle.bp_stands.specs.Pieces.ArePatches.{none as no_patch, more as more_patches}
use Rattle.bp_volume.specs.Queries.{RefusesPiece, RefusesPieces}
use Rattle.bp_volume.proofs.BatchLaws.{found_at, piece_goes}

-- one more patch, after those that there are
patches_more : (image : Image) (pieces : List Piece) (patches : List Patch) (piece : Piece) (i : ℕ) → ArePatches image pieces patches → PieceFinds image piece i →
    ArePatches image (pieces ++ piece ∷ []) (patches ++ patch_of piece i ∷ [])
patches_more image _ _ piece i no_patch finds = more_patches finds no_patch
patches_more image _ _ piece i (more_patches {piece = before} {pieces} {patches} {i = k} was rest) finds = more_patches was (patches_more image pieces patches piece i rest finds)

-- a text that was parsed is a path, and so is one that equals a path
pub parsed_good : {T E A : Type 0} {P : T → Type 0} (r : Result T E) (o : Option A) → IfOk r P → ((path : T) → P path → is_none o ≡ false) → is_err r ≡ false → is_none o ≡ false
parsed_good (Ok path) o is some fine = some path is
parsed_good (Err e) o is some fine = absurd (true≢false fine)

pub same_good : (path good : List ℕ) → not (bytes_eq path good) ≡ false → is_none (parse good) ≡ false → is_none (parse path) ≡ false
same_good path good same is = subst (λ text. is_none (parse text) ≡ false) (sym ((bytes_eq-Decides path good).0 (not-false _ same))) is

-- the piece at this place, between those before it and those after it
pub record IsPieceAt (pieces : List GivenPiece) (i : ℕ) (piece : GivenPiece) : Type 0 where
  pub next : drop i pieces ≡ piece ∷ drop (i + 1) pieces
  pub more : take (i + 1) pieces ≡ take i pieces ++ piece ∷ []

pub piece_at : (pieces : List GivenPiece) (i : ℕ) (other : GivenPiece) → i < length pieces → IsPieceAt pieces i (get_or pieces i other)
piece_at pieces i other low = record { next = drop_more pieces i other low; more = take_more pieces i other low }

-- its path is one, so those after it show whether a path is not
pub bad_after : (text : List ℕ) (pieces : List GivenPiece) (i : ℕ) (piece : GivenPiece) → IsPieceAt pieces i piece → is_none (parse (piece_in text piece).path) ≡ false →
    list_any (λ piece. is_none (parse piece.path)) (map (piece_in text) (drop (i + 1) pieces)) ≡ list_any (λ piece. is_none (parse piece.path)) (map (piece_in text) (drop i pieces))
bad_after text pieces i piece at good =
    sym (ap (λ (ps : List GivenPiece). list_any (λ (p : Piece). is_none (parse p.path)) (map (piece_in text) ps)) at.next
    ∙ ap (λ b. b || list_any (λ (p : Piece). is_none (parse p.path)) (map (piece_in text) (drop (i + 1) pieces))) good)

module _ (image : Image) (text : List ℕ) (pieces : List GivenPiece) (i : ℕ) (piece : GivenPiece) (at : IsPieceAt pieces i piece) where
  -- it is refused, and so is the batch, where none before it is
  pub piece_refused : (why : Refusal) → RefusesPiece image (piece_in text piece) why →
      ((tree : FileTree) → Stands image tree → first (map (piece_refusal tree.now.nodes) (map (piece_in text) (drop i pieces))) ≡ first (map (piece_refusal tree.now.nodes) (map (piece_in text) pieces))) →
      RefusesPieces image (map (piece_in text) pieces) why
  piece_refused why stops left tree stands =
      sym (left tree stands) ∙ ap (λ (ps : List GivenPiece). first (map (piece_refusal tree.now.nodes) (map (piece_in text) ps))) at.next
      ∙ ap (λ o. first (o ∷ map (piece_refusal tree.now.nodes) (map (piece_in text) (drop (i + 1) pieces)))) (stops tree stands)

  -- it is not refused, so those after it report
  pub piece_passes : (k : ℕ) → PieceFinds image (piece_in text piece) k → (tree : FileTree) → Stands image tree →
      first (map (piece_refusal tree.now.nodes) (map (piece_in text) (drop (i + 1) pieces))) ≡ first (map (piece_refusal tree.now.nodes) (map (piece_in text) (drop i pieces)))
  piece_passes k finds tree stands =
      sym (ap (λ (ps : List GivenPiece). first (map (piece_refusal tree.now.nodes) (map (piece_in text) ps))) at.next
      ∙ ap (λ o. first (o ∷ map (piece_refusal tree.now.nodes) (map (piece_in text) (drop (i + 1) pieces))))
      (piece_goes image (piece_in text piece) k (found_at image (piece_in text piece) k finds) finds.is_file finds.within tree stands))

  abbrev bad : Piece → Bool
  bad p = is_none (parse p.path)

  paths_split : list_any bad (map (piece_in text) (drop i pieces)) ≡ false → (bad (piece_in text piece) ≡ false) × (list_any bad (map (piece_in text) (drop (i + 1) pieces)) ≡ false)
  paths_split none = go (bad (piece_in text piece)) refl (sym (ap (λ (ps : List GivenPiece). list_any bad (map (piece_in text) ps)) at.next) ∙ none)
    where
      go : (b : Bool) → bad (piece_in text piece) ≡ b → list_any bad (map (piece_in text) (piece ∷ drop (i + 1) pieces)) ≡ false →
          (bad (piece_in text piece) ≡ false) × (list_any bad (map (piece_in text) (drop (i + 1) pieces)) ≡ false)
      go true e both = absurd (true≢false (rw e at both))
      go false e both = (e, rw e at both)

  pub paths_after : list_any (λ piece. is_none (parse piece.path)) (map (piece_in text) (drop i pieces)) ≡ false → list_any (λ piece. is_none (parse piece.path)) (map (piece_in text) (drop (i + 1) pieces)) ≡ false
  paths_after none = (paths_split none).1

  -- its patch comes after the others
  pub patch_pushed : (patches after : List GivenPatch) (patch : GivenPatch) → after ≡ patches ++ patch ∷ [] → ArePatches image (map (piece_in text) (take i pieces)) (patches_seen patches) →
      PieceFinds image (piece_in text piece) patch.inode → patch_seen patch ≡ patch_of (piece_in text piece) patch.inode → ArePatches image (map (piece_in text) (take (i + 1) pieces)) (patches_seen after)
  patch_pushed patches after patch pushed are finds is =
      let pieces_are : map (piece_in text) (take (i + 1) pieces) ≡ map (piece_in text) (take i pieces) ++ piece_in text piece ∷ [] =
      ap (map (piece_in text)) at.more ∙ map-append (piece_in text) (take i pieces) (piece ∷ []) in
      let patches_are : patches_seen after ≡ patches_seen patches ++ patch_of (piece_in text piece) patch.inode ∷ [] =
      ap patches_seen pushed ∙ map-append patch_seen patches (patch ∷ []) ∙ ap (λ p. patches_seen patches ++ p ∷ []) is in
      subst (λ ps. ArePatches image ps (patches_seen after)) (sym pieces_are)
      (subst (ArePatches image (map (piece_in text) (take i pieces) ++ piece_in text piece ∷ [])) (sym patches_are)
      (patches_more image (map (piece_in text) (take i pieces)) (patches_seen patches) (piece_in text piece) patch.inode are finds))
