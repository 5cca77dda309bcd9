-- Calls that write bytes into several files at once: why they are refused, and what they make of the plain tree.
use Rattle.std.proofs.Common.{◌≡◌, ◌⊎◌, ℕ, ◌+◌, ◌≤◌, ◌<◌, ◌==◌, List, [], ◌∷◌, length, map, true, false, refl, sym, ◌∙◌, ap, ap₂, Option, None, Some, inl, inr, arith, true≢false}
use Rattle.std.specs.Prelude.{nat_lt, is_none, unwrap_or}
use Rattle.std.specs.List.{fold, list_any, sum_by}
use Rattle.std.proofs.lemmas.Bool.{cases_lt, lt-ltb, le-ltb}
use Rattle.bp_layout.specs.Inode.{kind_of, size_of}
use Rattle.bp_layout.specs.Paths.{Path, parse}
use Rattle.bp_layout.specs.Members.{Each}
use Rattle.bp_layout.specs.Need.{Change, Stretch}
use Rattle.bp_layout.specs.Need.Change.{overwrites}
use Rattle.bp_layout.specs.WellFormed.{IsWellFormed}
use Rattle.bp_layout.specs.Words.{Image}
use Rattle.bp_changes.specs.Overwrites.{Patch}
use Rattle.bp_stands.specs.Pieces.{ArePatches, PieceFinds}
use Rattle.bp_stands.specs.Pieces.ArePatches.{none as no_patch, more as more_patches}
use Rattle.bp_calls.specs.Overwritten.{IsPatchIn, byte_count, stretches_of}
use Rattle.bp_limits.specs.CallLimits.{max_batch}
use Rattle.bp_plain.specs.Calls.{Piece, Refusal}
use Rattle.bp_plain.specs.Calls.Answer.{done}
use Rattle.bp_plain.specs.Calls.Call.{batch}
use Rattle.bp_plain.specs.Calls.Refusal.{bad_path, is_dir, past_end, too_long}
use Rattle.bp_plain.specs.Plain.{bytes_at, file_refusal, first, is_dir_at, on_parsed, path_named, piece_refusal, refusal, when}
use Rattle.bp_plain.specs.PlainTree.{FileTree}
use Rattle.bp_plain.specs.Stands.{Stands}
use Rattle.bp_plain.proofs.Carried.{batch_refused}
use Rattle.bp_fs.specs.Step.{AreStretches, IsChange, PathFinds}
use Rattle.bp_fs.specs.Step.AreStretches.{none as no_stretch, more as more_stretches}
use Rattle.bp_fs.specs.Step.IsChange.{by_batch}
use Rattle.bp_volume.specs.Queries.{Refuses, RefusesPiece, RefusesPieces, StopsAtFile, Answers, refusal_of_file}
use Rattle.bp_volume.proofs.AskingLaws.{at_reached}
use Rattle.bp_volume.proofs.ChangeLaws.{MakesChange}
use Rattle.bp_volume.proofs.FileLaws.{has_bytes, same_file}
use Rattle.bp_volume.proofs.StepLaws.{answer_steps}
use Rattle.bp_volume.proofs.WalkLaws.{dir_at, walk-found}

-- ---- how many bytes pieces have

abbrev piece_bytes : List Piece → ℕ
piece_bytes [] = 0
piece_bytes (piece ∷ pieces) = length piece.bytes + piece_bytes pieces

sum_from : (pieces : List Piece) (n : ℕ) → fold (λ a piece. a + length piece.bytes) n pieces ≡ n + piece_bytes pieces
sum_from [] n = omega arith
sum_from (piece ∷ pieces) n = omega (arith, sum_from pieces (n + length piece.bytes))

sum_is : (pieces : List Piece) → sum_by (λ piece. length piece.bytes) pieces ≡ piece_bytes pieces
sum_is pieces = omega (arith, sum_from pieces 0)

some_byte : (pieces : List Piece) → 0 < piece_bytes pieces → list_any (λ piece. nat_lt 0 (length piece.bytes)) pieces ≡ true
some_byte [] some = absurd (omega (arith, some))
some_byte (piece ∷ pieces) some = go (cases_lt 0 (length piece.bytes)) (λ later. some_byte pieces later)
  where
    go : (0 < length piece.bytes) ⊎ (length piece.bytes ≤ 0) → (0 < piece_bytes pieces → list_any (λ piece. nat_lt 0 (length piece.bytes)) pieces ≡ true) → list_any (λ piece. nat_lt 0 (length piece.bytes)) (piece ∷ pieces) ≡ true
    go (inl here) rest = rw (lt-ltb 0 (length piece.bytes) here) refl
    go (inr none) rest = rw (le-ltb 0 (length piece.bytes) none) (rest (omega (arith, some, none)))

no_byte : (pieces : List Piece) → piece_bytes pieces ≡ 0 → list_any (λ piece. nat_lt 0 (length piece.bytes)) pieces ≡ false
no_byte [] none = refl
no_byte (piece ∷ pieces) none = rw (le-ltb 0 (length piece.bytes) (omega (arith, none))) (no_byte pieces (omega (arith, none)))

-- ---- one piece

module _ (image : Image) (piece : Piece) where
  -- its path is one, and no file stands there
  piece_stops : (path : Path) → parse piece.path ≡ Some path → (why : Refusal) → StopsAtFile image piece.path why → RefusesPiece image piece why
  piece_stops path parsed why stops tree stands =
      let here : path_named piece.path ≡ path = ap (λ (o : Option Path). unwrap_or o []) parsed in
      let file : file_refusal tree.now.nodes path ≡ Some why = ap (λ o. on_parsed o (refusal_of_file tree)) (sym parsed) ∙ stops tree stands in
      ap (λ p. first (file_refusal tree.now.nodes p ∷ when (nat_lt (length (bytes_at tree.now.nodes (path_named piece.path))) (piece.offset + length piece.bytes)) past_end ∷ [])) here
      ∙ ap (λ o. first (o ∷ when (nat_lt (length (bytes_at tree.now.nodes (path_named piece.path))) (piece.offset + length piece.bytes)) past_end ∷ [])) file

  pub piece_stopped : is_none (parse piece.path) ≡ false → (why : Refusal) → StopsAtFile image piece.path why → RefusesPiece image piece why
  piece_stopped is why stops = go (parse piece.path) refl
    where
      go : (o : Option Path) → parse piece.path ≡ o → RefusesPiece image piece why
      go None e = absurd (true≢false (sym (ap is_none e) ∙ is))
      go (Some path) e = piece_stops path e why stops

  -- a file does
  module _ (i : ℕ) (at : PathFinds image piece.path i) (kind : kind_of image i ≡ 1) where
    piece_left : (tree : FileTree) → Stands image tree → piece_refusal tree.now.nodes piece ≡ first (when (nat_lt (size_of image i) (piece.offset + length piece.bytes)) past_end ∷ [])
    piece_left tree stands =
        let here : path_named piece.path ≡ at.path = ap (λ (o : Option Path). unwrap_or o []) at.parsed in
        let file : file_refusal tree.now.nodes at.path ≡ None =
        ap (λ o. first (o ∷ when (is_dir_at tree.now.nodes at.path) is_dir ∷ [])) (walk-found image tree stands at.path i at.inode)
        ∙ ap (λ b. first (when b is_dir ∷ [])) (dir_at image tree stands at.path i at.inode ∙ ap (λ k. k == 2) kind) in
        ap (λ p. first (file_refusal tree.now.nodes p ∷ when (nat_lt (length (bytes_at tree.now.nodes (path_named piece.path))) (piece.offset + length piece.bytes)) past_end ∷ [])) here
        ∙ ap (λ o. first (o ∷ when (nat_lt (length (bytes_at tree.now.nodes (path_named piece.path))) (piece.offset + length piece.bytes)) past_end ∷ [])) file
        ∙ ap (λ n. first (when (nat_lt n (piece.offset + length piece.bytes)) past_end ∷ [])) (has_bytes image piece.path i at kind tree stands)

    pub piece_past : size_of image i < piece.offset + length piece.bytes → RefusesPiece image piece past_end
    piece_past past tree stands = piece_left tree stands ∙ ap (λ b. first (when b past_end ∷ [])) (lt-ltb (size_of image i) (piece.offset + length piece.bytes) past)

    pub piece_goes : piece.offset + length piece.bytes ≤ size_of image i → (tree : FileTree) → Stands image tree → piece_refusal tree.now.nodes piece ≡ None
    piece_goes within tree stands = piece_left tree stands ∙ ap (λ b. first (when b past_end ∷ [])) (le-ltb (size_of image i) (piece.offset + length piece.bytes) within)

-- what a piece finds
pub found_at : (image : Image) (piece : Piece) (i : ℕ) → PieceFinds image piece i → PathFinds image piece.path i
found_at image piece i finds = record { path = finds.path; parsed = finds.parsed; inode = finds.inode }

-- ---- all pieces, each of which finds its file

module _ (image : Image) where
  are_stretches : (pieces : List Piece) (patches : List Patch) → ArePatches image pieces patches → AreStretches image pieces (stretches_of patches)
  are_stretches _ _ no_patch = no_stretch
  are_stretches _ _ (more_patches {piece} {pieces} {patches} {i} finds rest) = more_stretches (found_at image piece i finds) (are_stretches pieces patches rest)

  same_stretches : (pieces : List Piece) (stretches : List Stretch) (patches : List Patch) → AreStretches image pieces stretches → ArePatches image pieces patches → stretches ≡ stretches_of patches
  same_stretches _ _ _ no_stretch no_patch = refl
  same_stretches _ _ _ (more_stretches {piece} {pieces} {stretches} {i} at others) (more_patches {patches = patches} {i = k} finds rest) =
      ap₂ (λ j (ss : List Stretch). record { inode = j; offset = piece.offset; len = length piece.bytes } ∷ ss)
      (same_file image piece.path k (found_at image piece k finds) finds.is_file i at) (same_stretches pieces stretches patches others rest)

  count_is : (pieces : List Piece) (patches : List Patch) → ArePatches image pieces patches → byte_count patches ≡ piece_bytes pieces
  count_is _ _ no_patch = refl
  count_is _ _ (more_patches {piece} {pieces} {patches} {i} finds rest) = ap (λ n. length piece.bytes + n) (count_is pieces patches rest)

  pub patches_bytes : (pieces : List Piece) (patches : List Patch) → ArePatches image pieces patches → byte_count patches ≡ sum_by (λ piece. length piece.bytes) pieces
  patches_bytes pieces patches are = count_is pieces patches are ∙ sym (sum_is pieces)

  pub patches_many : (pieces : List Piece) (patches : List Patch) → ArePatches image pieces patches → length patches ≡ length pieces
  patches_many _ _ no_patch = refl
  patches_many _ _ (more_patches {piece} {pieces} {patches} {i} finds rest) = omega (arith, patches_many pieces patches rest)

  pub patches_in : IsWellFormed image → (pieces : List Piece) (patches : List Patch) → ArePatches image pieces patches → Each (IsPatchIn image) patches
  patches_in wf _ _ no_patch = tt
  patches_in wf _ _ (more_patches {piece} {pieces} {patches} {i} finds rest) =
      (record { reached = at_reached image wf piece.path i (found_at image piece i finds); is_file = finds.is_file; within = finds.within }, patches_in wf pieces patches rest)

  -- none of them is refused, so the first refusal stands after them
  passes : (pieces : List Piece) (patches : List Patch) → ArePatches image pieces patches → (tree : FileTree) → Stands image tree → first (map (piece_refusal tree.now.nodes) pieces) ≡ None
  passes _ _ no_patch tree stands = refl
  passes _ _ (more_patches {piece} {pieces} {patches} {i} finds rest) tree stands =
      ap (λ o. first (o ∷ map (piece_refusal tree.now.nodes) pieces)) (piece_goes image piece i (found_at image piece i finds) finds.is_file finds.within tree stands)
      ∙ passes pieces patches rest tree stands

-- ---- the call

module _ (image : Image) (pieces : List Piece) where
  abbrev all_bytes : ℕ
  all_bytes = sum_by (λ piece. length piece.bytes) pieces

  refusals : (tree : FileTree) → refusal tree (batch pieces)
      ≡ first (when (list_any (λ piece. is_none (parse piece.path)) pieces) bad_path ∷ when (nat_lt max_batch (sum_by (λ piece. length piece.bytes) pieces)) too_long ∷ first (map (piece_refusal tree.now.nodes) pieces) ∷ [])
  refusals tree = sym (batch_refused tree pieces _ _ _ refl refl refl)

  pub batch_bad : list_any (λ piece. is_none (parse piece.path)) pieces ≡ true → Refuses image (batch pieces) bad_path
  batch_bad bad tree stands =
      refusals tree ∙ ap (λ b. first (when b bad_path ∷ when (nat_lt max_batch all_bytes) too_long ∷ first (map (piece_refusal tree.now.nodes) pieces) ∷ [])) bad

  module _ (paths : list_any (λ piece. is_none (parse piece.path)) pieces ≡ false) where
    pub batch_long : max_batch < sum_by (λ piece. length piece.bytes) pieces → Refuses image (batch pieces) too_long
    batch_long long tree stands =
        refusals tree
        ∙ ap₂ (λ a b. first (when a bad_path ∷ when b too_long ∷ first (map (piece_refusal tree.now.nodes) pieces) ∷ [])) paths (lt-ltb max_batch all_bytes long)

    module _ (short : sum_by (λ piece. length piece.bytes) pieces ≤ max_batch) where
      batch_left : (tree : FileTree) (found_refusal : Option Refusal) → first (map (piece_refusal tree.now.nodes) pieces) ≡ found_refusal → refusal tree (batch pieces) ≡ first (found_refusal ∷ [])
      batch_left tree found_refusal is =
          refusals tree
          ∙ ap₂ (λ a b. first (when a bad_path ∷ when b too_long ∷ first (map (piece_refusal tree.now.nodes) pieces) ∷ [])) paths (le-ltb max_batch all_bytes short)
          ∙ ap (λ o. first (o ∷ [])) is

      pub batch_stops : (why : Refusal) → RefusesPieces image pieces why → Refuses image (batch pieces) why
      batch_stops why stops tree stands = batch_left tree (Some why) (stops tree stands)

      module _ (patches : List Patch) (are : ArePatches image pieces patches) where
        batch_goes : (tree : FileTree) → Stands image tree → refusal tree (batch pieces) ≡ None
        batch_goes tree stands = batch_left tree None (passes image pieces patches are tree stands)

        -- with no byte it changes nothing
        pub batch_nothing : sum_by (λ piece. length piece.bytes) pieces ≡ 0 → Answers image (batch pieces) done
        batch_nothing none tree stands = answer_steps image tree (batch pieces) done (batch_goes tree stands) (no_byte pieces (sym (sum_is pieces) ∙ none)) refl

        alike : (other : Change) → IsChange image (batch pieces) other → other ≡ overwrites (stretches_of patches)
        alike _ (by_batch {stretches = stretches} others) = ap overwrites (same_stretches image pieces stretches patches others are)

        pub batch_makes : 0 < sum_by (λ piece. length piece.bytes) pieces → MakesChange image (batch pieces) (overwrites (stretches_of patches))
        batch_makes some = record {
          is = by_batch (are_stretches image pieces patches are);
          alike = alike;
          allowed = batch_goes;
          changing = λ tree stands. some_byte pieces (omega (arith, sum_is pieces, some));
          says = λ tree. refl;
          stays = λ tree. refl;
        }
