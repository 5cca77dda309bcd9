-- The plain tree of an image into whose files the pieces of a batch were laid, one after the other.
use Rattle.std.proofs.Common.{◌≡◌, ◌≢◌, ◌⊎◌, ℕ, ◌+◌, ◌-◌, ◌<◌, ◌≤◌, ◌==◌, cond, Bool, true, false, List, length, map, get_or, Option, None, Some, refl, sym, ◌∙◌, ap, ap₂, inl, inr, arith, lt-ltb, le-ltb}
use Rattle.std.specs.Prelude.{slice_index}
use Rattle.std.specs.List.{range_with_len}
use Rattle.std.specs.FinMap.{get}
use Rattle.std.specs.Option.{option_map}
use Rattle.std.proofs.lemmas.Bool.{cases_lt, ne_eqb}
use Rattle.std.proofs.lemmas.List.FromFn.{get_or-map-range_with_len, length-map-range_with_len}
use Rattle.bp_layout.specs.Inode.{attributes_of, kind_of, size_of}
use Rattle.bp_layout.specs.Lookup.{find_one, lookup}
use Rattle.bp_layout.specs.Paths.{Path}
use Rattle.bp_layout.specs.Paths.Node.{dir, file}
use Rattle.bp_layout.specs.WellFormed.{IsWellFormed}
use Rattle.bp_layout.specs.Words.{Image}
use Rattle.bp_layout.proofs.Finding.{map-same}
use Rattle.bp_layout.proofs.NameBytes.{map-equal}
use Rattle.bp_layout.proofs.View.{find_one-same}
use Rattle.bp_changes.specs.Overwrites.{OverwritesFiles, Patch, patched, patched_by}
use Rattle.bp_changes.proofs.KeepsDirectories.{directories-same, well_formed-same}
use Rattle.bp_changes.proofs.Overwrites.{bytes_in, keeps, node_with, shown_patched}
use Rattle.bp_plain.specs.Calls.{Piece}
use Rattle.bp_plain.specs.Plain.{attributes_at, bytes_at, path_named, with_piece, with_pieces, written}
use Rattle.bp_plain.specs.Plain as plain
use Rattle.bp_plain.specs.PlainTree.{PathMap, is_one}
use Rattle.bp_plain.specs.Stands.{Shows}
use Rattle.bp_plain.proofs.Kernels.{are_one-self}
use Rattle.pm_words.specs.Overlay.{byte_over}
use Rattle.pm_words.proofs.OverlayLaws.{over_before, over_past, over_there}
use Rattle.bp_stands.specs.Pieces.{ArePatches, PieceFinds, patch_of}
use Rattle.bp_stands.specs.Pieces.ArePatches.{none, more}
use Rattle.bp_stands.proofs.FileStands.{content_elsewhere, content_here, finds}
use Rattle.bp_stands.proofs.WrittenBytes.{in_bytes, in_prefix_had, in_rest, written_length}

-- ---- one byte

module _ (patch : Patch) (i o had : ℕ) where
  pub byte_inside : patch.inode ≡ i → patch.offset ≤ o → o < patch.offset + length patch.bytes → patched_by patch i o had ≡ slice_index patch.bytes (o - patch.offset)
  byte_inside same low high = rw (same, are_one-self i) (over_there patch.offset patch.bytes o had low high)

  pub byte_elsewhere : patch.inode ≢ i → patched_by patch i o had ≡ had
  byte_elsewhere apart = rw (ne_eqb patch.inode i apart) refl

  either : (b : Bool) → byte_over patch.offset patch.bytes o had ≡ had → cond b (byte_over patch.offset patch.bytes o had) had ≡ had
  either true same = same
  either false same = refl

  pub byte_before : o < patch.offset → patched_by patch i o had ≡ had
  byte_before before = either (patch.inode == i) (over_before patch.offset patch.bytes o had before)

  pub byte_past : patch.offset + length patch.bytes ≤ o → patched_by patch i o had ≡ had
  byte_past past = either (patch.inode == i) (over_past patch.offset patch.bytes o had past)

-- ---- one piece

-- A map has at each path what stands there in an image, but with these bytes in its files; and two paths are one where
-- they find one file.
pub record ShowsWith (image : Image) (bytes : ℕ → ℕ → ℕ) (map : PathMap) : Type 0 where
  pub shows : (path : Path) → get map.nodes path ≡ option_map (node_with image bytes) (lookup image path)
  pub one : (p q : Path) → is_one map.one p q ≡ find_one image p q

module _ (image : Image) (bytes : ℕ → ℕ → ℕ) (patch : Patch) where
  abbrev more_bytes : ℕ → ℕ → ℕ
  more_bytes i o = patched_by patch i o (bytes i o)

  -- a file of which no byte is another
  node_stays : (u : ℕ) → ((o : ℕ) → o < size_of image u → more_bytes u o ≡ bytes u o) → node_with image bytes u ≡ node_with image more_bytes u
  node_stays u same = go (kind_of image u == 1)
    where
      go : (b : Bool) → cond b (file (attributes_of image u) (map (bytes u) (range_with_len 0 (size_of image u)))) (dir (attributes_of image u))
          ≡ cond b (file (attributes_of image u) (map (more_bytes u) (range_with_len 0 (size_of image u)))) (dir (attributes_of image u))
      go true = ap (file (attributes_of image u)) (sym (map-same _ _ 0 (size_of image u) (λ o low high. same o (omega (arith, high)))))
      go false = refl

  -- a piece without a byte changes nothing
  nothing_shows : (map : PathMap) → length patch.bytes ≡ 0 → ShowsWith image bytes map → ShowsWith image more_bytes map
  nothing_shows map empty was = record { shows = λ q. was.shows q ∙ go (lookup image q); one = was.one }
    where
      stays : (u o : ℕ) → more_bytes u o ≡ bytes u o
      stays u o = elim (cases_lt o patch.offset) [ inl before ↦ byte_before patch u o (bytes u o) before | inr from ↦ byte_past patch u o (bytes u o) (omega (arith, empty, from)) ]

      go : (found : Option ℕ) → option_map (node_with image bytes) found ≡ option_map (node_with image more_bytes) found
      go None = refl
      go (Some u) = ap Some (node_stays u (λ o low. stays u o))

  module _ (path : Path) (here : lookup image path ≡ Some patch.inode) (is_file : kind_of image patch.inode ≡ 1) (within : patch.offset + length patch.bytes ≤ size_of image patch.inode) where
    abbrev had : List ℕ
    had = map (bytes patch.inode) (range_with_len 0 (size_of image patch.inode))

    had_length : length had ≡ size_of image patch.inode
    had_length = length-map-range_with_len (bytes patch.inode) 0 (size_of image patch.inode)

    had_byte : (o : ℕ) → o < size_of image patch.inode → get_or had o 0 ≡ bytes patch.inode o
    had_byte o low = get_or-map-range_with_len (bytes patch.inode) 0 (size_of image patch.inode) o o 0 low (omega arith)

    whole : length (written had patch.offset patch.bytes) ≡ size_of image patch.inode
    whole = omega (arith, written_length had patch.offset patch.bytes, had_length, within)

    byte_is : (o : ℕ) → o < size_of image patch.inode → more_bytes patch.inode o ≡ get_or (written had patch.offset patch.bytes) o 0
    byte_is o low = go (cases_lt o patch.offset) (cases_lt o (patch.offset + length patch.bytes))
      where
        go : (o < patch.offset) ⊎ (patch.offset ≤ o) → (o < patch.offset + length patch.bytes) ⊎ (patch.offset + length patch.bytes ≤ o) → more_bytes patch.inode o ≡ get_or (written had patch.offset patch.bytes) o 0
        go (inl before) _ =
            byte_before patch patch.inode o (bytes patch.inode o) before
            ∙ sym (in_prefix_had had patch.offset patch.bytes o before (omega (arith, low, had_length)) ∙ had_byte o low)
        go (inr from) (inl inside) = byte_inside patch patch.inode o (bytes patch.inode o) refl from inside ∙ sym (in_bytes had patch.offset patch.bytes o from inside)
        go (inr from) (inr past) = byte_past patch patch.inode o (bytes patch.inode o) past ∙ sym (in_rest had patch.offset patch.bytes o past ∙ had_byte o low)

    content_is : written had patch.offset patch.bytes ≡ map (more_bytes patch.inode) (range_with_len 0 (size_of image patch.inode))
    content_is =
        sym (ap (λ n. map (more_bytes patch.inode) (range_with_len 0 n)) (sym whole)
        ∙ map-equal (more_bytes patch.inode) (written had patch.offset patch.bytes) (λ o low. byte_is o (omega (arith, low, whole))))

    node_is : node_with image more_bytes patch.inode ≡ file (attributes_of image patch.inode) (written had patch.offset patch.bytes)
    node_is = rw is_file (ap (file (attributes_of image patch.inode)) (sym content_is))

    patch_shows : (map : PathMap) → ShowsWith image bytes map → ShowsWith image more_bytes (plain.with_written map path patch.offset patch.bytes)
    patch_shows map was = record { shows = λ q. by_inode q (finds (lookup image q) patch.inode); one = was.one }
      where
        there : bytes_at map.nodes path ≡ had
        there = ap plain.bytes_in (was.shows path) ∙ rw here (rw is_file refl)

        kept : attributes_at map.nodes path ≡ attributes_of image patch.inode
        kept = ap plain.attributes_in (was.shows path) ∙ rw here (rw is_file refl)

        by_inode : (q : Path) → (lookup image q ≡ Some patch.inode) ⊎ (lookup image q ≡ Some patch.inode → ⊥) →
            get (plain.with_written map path patch.offset patch.bytes).nodes q ≡ option_map (node_with image more_bytes) (lookup image q)
        by_inode q (inl found) =
            content_here image patch.inode is_file path here map was.one (written (bytes_at map.nodes path) patch.offset patch.bytes) q found
            ∙ ap₂ (λ attributes content. Some (file attributes (written content patch.offset patch.bytes))) kept there ∙ sym (rw found (ap Some node_is))
        by_inode q (inr apart) =
            content_elsewhere image patch.inode is_file path here map was.one (written (bytes_at map.nodes path) patch.offset patch.bytes) q apart
            ∙ was.shows q ∙ other (lookup image q) refl
          where
            other : (found : Option ℕ) → lookup image q ≡ found → option_map (node_with image bytes) found ≡ option_map (node_with image more_bytes) found
            other None e = refl
            other (Some u) e = ap Some (node_stays u (λ o low. byte_elsewhere patch u o (bytes u o) (λ same. apart (e ∙ ap Some (sym same)))))

piece_shows : (image : Image) (bytes : ℕ → ℕ → ℕ) (piece : Piece) (i : ℕ) (map : PathMap) → PieceFinds image piece i → ShowsWith image bytes map →
    ShowsWith image (λ u o. patched_by (patch_of piece i) u o (bytes u o)) (with_piece map piece)
piece_shows image bytes piece i map found was = go (cases_lt 0 (length piece.bytes))
  where
    named : path_named piece.path ≡ found.path
    named = rw found.parsed refl

    go : (0 < length piece.bytes) ⊎ (length piece.bytes ≤ 0) → ShowsWith image (λ u o. patched_by (patch_of piece i) u o (bytes u o)) (with_piece map piece)
    go (inl some) =
        rw (lt-ltb 0 (length piece.bytes) some, named) (patch_shows image bytes (patch_of piece i) found.path found.inode found.is_file found.within map was)
    go (inr empty) = rw (le-ltb 0 (length piece.bytes) empty) (nothing_shows image bytes (patch_of piece i) map (omega (arith, empty)) was)

-- ---- all of them

pieces_show : (image : Image) (bytes : ℕ → ℕ → ℕ) (map : PathMap) (pieces : List Piece) (patches : List Patch) → ArePatches image pieces patches → ShowsWith image bytes map →
    ShowsWith image (λ i o. patched patches i o (bytes i o)) (with_pieces map pieces)
pieces_show image bytes map _ _ none was = was
pieces_show image bytes map _ _ (more {piece} {pieces} {patches} {i} found rest) was =
    pieces_show image (λ u o. patched_by (patch_of piece i) u o (bytes u o)) (with_piece map piece) pieces patches rest (piece_shows image bytes piece i map found was)

module _ (old new : Image) (wf : IsWellFormed old) (pieces : List Piece) (patches : List Patch) (are : ArePatches old pieces patches) (over : OverwritesFiles patches old new) where
  pub pieces_shows : (map : PathMap) → Shows old map → Shows new (with_pieces map pieces)
  pieces_shows map shows =
      let before : ShowsWith old (bytes_in old) map = record { shows = shows.shows; one = shows.one } in
      let after = pieces_show old (bytes_in old) map pieces patches are before in
      record {
        well_formed = well_formed-same old new wf (keeps old new patches over);
        shows = λ q. after.shows q ∙ sym (shown_patched old new patches over wf q);
        one = λ p q. after.one p q ∙ sym (find_one-same old new (directories-same old new wf (keeps old new patches over)) p q);
      }
