-- The plain tree of an image in which a file has got another size.
use Rattle.std.proofs.Common.{◌≡◌, ◌⊎◌, ℕ, ◌-◌, ◌<◌, ◌≤◌, List, ◌++◌, length, replicate, get_or, Some, refl, sym, ◌∙◌, ap, subst, inl, inr, arith}
use Rattle.std.specs.FinMap.{get}
use Rattle.std.proofs.lemmas.Bool.{cases_lt}
use Rattle.std.proofs.lemmas.List.{get_or-append_right, get_or-replicate, get_or-take, get_or_append_left, length-append, length-replicate, length-take}
use Rattle.std.proofs.lemmas.List.FromFn.{get_or-map-range_with_len, length-map-range_with_len}
use Rattle.bp_calls.specs.OnTrees.{GetsSize}
use Rattle.bp_calls.specs.Resized.{ResizesFile}
use Rattle.bp_layout.specs.Inode.{attributes_of, root_of, size_of}
use Rattle.bp_layout.specs.Lookup.{node_of}
use Rattle.bp_layout.specs.Paths.Node.{file}
use Rattle.bp_layout.specs.Tree.{byte, content}
use Rattle.bp_layout.specs.WellFormed.{IsWellFormed}
use Rattle.bp_layout.specs.Words.{Image}
use Rattle.bp_layout.proofs.NameBytes.{map-equal}
use Rattle.bp_plain.specs.Plain.{bytes_at, bytes_in, resized, with_content}
use Rattle.bp_plain.specs.Stands.{Shows}
use Rattle.bp_stands.proofs.FileStands.{content_shows}

module _ (old new : Image) (wf : IsWellFormed old) (i size : ℕ) (is : ResizesFile i size old new) where
  abbrev had : List ℕ
  had = content old (root_of old i) (size_of old i)

  abbrev zeros : List ℕ
  zeros = replicate (size - length had) 0

  had_length : length had ≡ size_of old i
  had_length = length-map-range_with_len (byte old (root_of old i)) 0 (size_of old i)

  whole : length (resized had size) ≡ size
  whole = omega (arith, length-take size (had ++ zeros), length-append had zeros, length-replicate {A = ℕ} (size - length had) 0)

  byte_is : (o : ℕ) → o < size → byte new (root_of new i) o ≡ get_or (resized had size) o 0
  byte_is o low = go (cases_lt o (size_of old i)) ∙ sym (get_or-take size (had ++ zeros) o 0 low)
    where
      go : (o < size_of old i) ⊎ (size_of old i ≤ o) → byte new (root_of new i) o ≡ get_or (had ++ zeros) o 0
      go (inl was) =
          is.kept o low was
          ∙ sym (get_or-map-range_with_len (byte old (root_of old i)) 0 (size_of old i) o o 0 was (omega arith))
          ∙ sym (get_or_append_left had zeros 0 o (omega (arith, was, had_length)))
      go (inr past) =
          is.zeros o low past
          ∙ sym (get_or-replicate (size - length had) (o - size_of old i) 0 0 (omega (arith, low, past, had_length)))
          ∙ sym (get_or-append_right had zeros (size_of old i) o 0 had_length past)

  bytes_are : content new (root_of new i) (size_of new i) ≡ resized had size
  bytes_are =
      ap (content new (root_of new i)) (is.size_is ∙ sym whole)
      ∙ map-equal (byte new (root_of new i)) (resized had size) (λ o low. byte_is o (omega (arith, low, whole)))

  node_is : node_of old i ≡ file (attributes_of old i) had
  node_is = rw is.changes.is_file refl

  pub resized_gets : GetsSize i size old new
  resized_gets map here shows at =
      let there : get map.nodes here ≡ Some (file (attributes_of old i) had) = shows.shows here ∙ rw at (ap Some node_is) in
      let same : content new (root_of new i) (size_of new i) ≡ resized (bytes_at map.nodes here) size = bytes_are ∙ ap (λ found. resized (bytes_in found) size) (sym there) in
      subst (λ bytes. Shows new (with_content map here bytes)) same (content_shows old new i wf is.changes here at map shows)
