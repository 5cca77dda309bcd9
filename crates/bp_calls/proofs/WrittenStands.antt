-- The plain tree of an image in which bytes were written into a file.
use Rattle.std.proofs.Common.{◌≡◌, ◌⊎◌, ℕ, ◌+◌, ◌-◌, ◌<◌, ◌≤◌, max, List, length, get_or, Some, refl, sym, ◌∙◌, ap, subst, inl, inr, arith}
use Rattle.std.specs.FinMap.{get}
use Rattle.std.proofs.lemmas.Bool.{cases_lt}
use Rattle.std.proofs.lemmas.List.{get_or-append_right, get_or-replicate}
use Rattle.std.proofs.lemmas.List.FromFn.{get_or-map-range_with_len, length-map-range_with_len}
use Rattle.bp_calls.specs.OnTrees.{GetsBytes}
use Rattle.bp_calls.specs.WritesFile.{WritesFile, written_byte}
use Rattle.bp_layout.specs.Inode.{attributes_of, root_of, size_of}
use Rattle.bp_layout.specs.Lookup.{node_of}
use Rattle.bp_layout.specs.Paths.Node.{file}
use Rattle.bp_layout.specs.Tree.{byte, content}
use Rattle.bp_layout.specs.WellFormed.{IsWellFormed}
use Rattle.bp_layout.specs.Words.{Image}
use Rattle.bp_layout.proofs.NameBytes.{map-equal}
use Rattle.bp_plain.specs.Plain.{bytes_at, bytes_in, with_content, written}
use Rattle.bp_plain.specs.Stands.{Shows}
use Rattle.bp_stands.proofs.FileStands.{content_shows}
use Rattle.bp_stands.proofs.WrittenBytes.{in_bytes, in_prefix, in_prefix_had, in_rest, written_length, zeros}
use Rattle.bp_calls.proofs.WritePastEnd.{written_before, written_between, written_inside, written_past}

-- the list with the new bytes, byte by byte
module _ (had : List ℕ) (offset : ℕ) (bytes : List ℕ) where
  module _ (size : ℕ) (old : ℕ → ℕ) (had_length : length had ≡ size) (had_byte : (o : ℕ) → o < size → get_or had o 0 ≡ old o) where
    pub written_reports : (o : ℕ) → o < max size (offset + length bytes) → written_byte offset bytes size old o ≡ get_or (written had offset bytes) o 0
    written_reports o low = go (cases_lt o offset) (cases_lt o (offset + length bytes)) (cases_lt o size)
      where
        go : (o < offset) ⊎ (offset ≤ o) → (o < offset + length bytes) ⊎ (offset + length bytes ≤ o) → (o < size) ⊎ (size ≤ o) → written_byte offset bytes size old o ≡ get_or (written had offset bytes) o 0
        go (inl before) _ (inl below) =
            written_before offset bytes size old o before below
            ∙ sym (in_prefix_had had offset bytes o before (omega (arith, below, had_length)) ∙ had_byte o below)
        go (inl before) _ (inr above) =
            written_between offset bytes size old o before above
            ∙ sym (in_prefix had offset bytes o before ∙ get_or-append_right had (zeros had offset bytes) size o 0 had_length above ∙ get_or-replicate (offset - length had) (o - size) 0 0 (omega (arith, before, above, had_length)))
        go (inr from_here) (inl inside) _ = written_inside offset bytes size old o from_here inside ∙ sym (in_bytes had offset bytes o from_here inside)
        go (inr from_here) (inr past) (inl below) = written_past offset bytes size old o past below ∙ sym (in_rest had offset bytes o past ∙ had_byte o below)
        go (inr from_here) (inr past) (inr above) = absurd (omega (arith, low, past, above))

module _ (old new : Image) (wf : IsWellFormed old) (i offset : ℕ) (bytes : List ℕ) (is : WritesFile i offset bytes old new) where
  abbrev had : List ℕ
  had = content old (root_of old i) (size_of old i)

  had_length : length had ≡ size_of old i
  had_length = length-map-range_with_len (byte old (root_of old i)) 0 (size_of old i)

  had_byte : (o : ℕ) → o < size_of old i → get_or had o 0 ≡ byte old (root_of old i) o
  had_byte o low = get_or-map-range_with_len (byte old (root_of old i)) 0 (size_of old i) o o 0 low (omega arith)

  whole : length (written had offset bytes) ≡ size_of new i
  whole = written_length had offset bytes ∙ ap (λ n. max n (offset + length bytes)) had_length ∙ sym is.size

  byte_is : (o : ℕ) → o < size_of new i → byte new (root_of new i) o ≡ get_or (written had offset bytes) o 0
  byte_is o low = is.bytes_are o low ∙ written_reports had offset bytes (size_of old i) (byte old (root_of old i)) had_length had_byte o (omega (arith, low, is.size))

  bytes_are : content new (root_of new i) (size_of new i) ≡ written had offset bytes
  bytes_are =
      ap (content new (root_of new i)) (sym whole)
      ∙ map-equal (byte new (root_of new i)) (written had offset bytes) (λ o low. byte_is o (omega (arith, low, whole)))

  node_is : node_of old i ≡ file (attributes_of old i) had
  node_is = rw is.changes.is_file refl

  pub written_gets : GetsBytes i offset bytes old new
  written_gets map here shows at =
      let there : get map.nodes here ≡ Some (file (attributes_of old i) had) = shows.shows here ∙ rw at (ap Some node_is) in
      let same : content new (root_of new i) (size_of new i) ≡ written (bytes_at map.nodes here) offset bytes = bytes_are ∙ ap (λ found. written (bytes_in found) offset bytes) (sym there) in
      subst (λ whole_content. Shows new (with_content map here whole_content)) same (content_shows old new i wf is.changes here at map shows)
