-- Which entries may leave their directories: those of files, and of directories in which no name is counted.
use Rattle.std.proofs.Common.{◌≡◌, ◌≢◌, ◌⊎◌, ℕ, ◌<◌, ◌==◌, not, length, filter, true, bytes_eq, Some, refl, sym, ◌∙◌, ap, arith, inl, inr}
use Rattle.std.specs.List.{range_with_len}
use Rattle.std.specs.Option.{option_and_then}
use Rattle.std.specs.Cmp.Lexicographic.{same_text}
use Rattle.std.proofs.lemmas.Bool.{cases_eq}
use Rattle.bp_calls.specs.Removed.{IsFoundAt}
use Rattle.bp_changes.specs.Effects.{CanUnlink}
use Rattle.bp_read.specs.Names.{name_count}
use Rattle.bp_read.proofs.Counting.{is_none, is_some, none_counted, some_counted}
use Rattle.bp_layout.specs.Directory.{EntryNames, entry_count, ino_at, is_named, lookup_in, name_at}
use Rattle.bp_layout.specs.Paths.{Name, Path}
use Rattle.bp_layout.specs.Inode.{kind_of, root_of, size_of}
use Rattle.bp_layout.specs.Reached.{IsReached}
use Rattle.bp_layout.specs.Reached.IsReached.{root_directory}
use Rattle.bp_layout.specs.Words.{Image}
use Rattle.bp_layout.proofs.Finding.{Finds, find-passes}
use Rattle.bp_layout.proofs.LookupLaws.{lookup_in-shows}
use Rattle.bp_layout.proofs.Paths.{lookup_from-append}
use Rattle.bp_layout.proofs.View.{lookup_from-reached, named_true}

-- ---- no name in a directory, and none that is counted

module _ (image : Image) (j : ℕ) where
  none_named : name_count image (root_of image j) (size_of image j) ≡ 0 → (r k : ℕ) → EntryNames image j r k → ⊥
  none_named none r k names =
      let some : 0 < length (filter (λ slot. not (ino_at image j slot == 0)) (range_with_len 0 (entry_count image j))) =
      some_counted (λ slot. not (ino_at image j slot == 0)) 0 (entry_count image j) r (omega arith) (omega (arith, names.in_size)) (is_some (ino_at image j r) (λ zero. names.not_empty (sym names.ino ∙ zero))) in
      omega (arith, some, none)

  none_there : kind_of image j ≡ 2 → ((r k : ℕ) → EntryNames image j r k → ⊥) → name_count image (root_of image j) (size_of image j) ≡ 0
  none_there kind alone = none_counted (λ slot. not (ino_at image j slot == 0)) 0 (entry_count image j) (λ r low high. is_none (ino_at image j r) (empty r (omega (arith, high)) (cases_eq (ino_at image j r) 0)))
    where
      empty : (r : ℕ) → r < entry_count image j → (ino_at image j r ≡ 0) ⊎ (ino_at image j r ≡ 0 → ⊥) → ino_at image j r ≡ 0
      empty r low (inl none) = none
      empty r low (inr some) = absurd (alone r (ino_at image j r) (record { directory = kind; in_size = low; ino = refl; not_empty = some }))

  pub emptied_counts_none : (i s : ℕ) → CanUnlink image i s j → kind_of image j ≡ 2 → name_count image (root_of image j) (size_of image j) ≡ 0
  emptied_counts_none i s can kind = none_there kind can.alone

-- ---- an entry that a path finds

module _ (image : Image) (parent : Path) (name : Name) (i s j : ℕ) (found : IsFoundAt image parent name i s j) where
  in_directory : lookup_in image i name ≡ Some j
  in_directory = sym (ap (option_and_then (λ k. lookup_in image k name)) found.directory) ∙ sym (lookup_from-append image 1 parent name) ∙ found.inode

  directory : kind_of image i ≡ 2
  directory = (lookup_in-shows image i j name in_directory).entry.directory

  passes : Finds (is_named image i name) 0 (entry_count image i) s
  passes = find-passes (is_named image i name) 0 (entry_count image i) s found.slot

  parts : (ino_at image i s ≢ 0) × (bytes_eq (name_at image i s) name ≡ true)
  parts = named_true (ino_at image i s) (bytes_eq (name_at image i s) name) passes.passes

  pub found_ino : ino_at image i s ≡ j
  found_ino = let same : Some (ino_at image i s) ≡ Some j = rw (directory, found.slot) at in_directory in cc

  pub found_spelled : name_at image i s ≡ name
  found_spelled = same_text (name_at image i s) name (sym parts.1)

  pub found_entry : EntryNames image i s j
  found_entry = record { directory = directory; in_size = omega (arith, passes.high); ino = found_ino; not_empty = λ none. parts.0 (found_ino ∙ none) }

  pub found_reached : IsReached image i
  found_reached = lookup_from-reached image 1 i parent root_directory found.directory

  pub file_may_leave : kind_of image j ≡ 1 → CanUnlink image i s j
  file_may_leave kind = record { reached = found_reached; entry = found_entry; alone = λ r k names. let two : kind_of image j ≡ 2 = names.directory in omega (arith, kind, two) }

  pub directory_may_leave : name_count image (root_of image j) (size_of image j) ≡ 0 → CanUnlink image i s j
  directory_may_leave none = record { reached = found_reached; entry = found_entry; alone = none_named image j none }
