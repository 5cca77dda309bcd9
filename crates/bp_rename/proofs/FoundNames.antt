-- What stands at the slot that has a name.
use Rattle.std.proofs.Common.{◌≡◌, ◌≢◌, ℕ, bytes_eq, true, Some, refl, sym, arith}
use Rattle.std.specs.Cmp.Lexicographic.{same_text}
use Rattle.bp_layout.specs.Directory.{EntryNames, entry_count, ino_at, is_named, name_at, slot_named}
use Rattle.bp_layout.specs.Paths.{Name}
use Rattle.bp_layout.specs.Inode.{kind_of}
use Rattle.bp_layout.specs.Words.{Image}
use Rattle.bp_layout.proofs.Finding.{Finds, find-passes}
use Rattle.bp_layout.proofs.View.{named_true}

module _ (image : Image) (i slot : ℕ) (name : Name) (directory : kind_of image i ≡ 2) (found : slot_named image i name ≡ Some slot) where
  passes : Finds (is_named image i name) 0 (entry_count image i) slot
  passes = find-passes (is_named image i name) 0 (entry_count image i) slot found

  parts : (ino_at image i slot ≢ 0) × (bytes_eq (name_at image i slot) name ≡ true)
  parts = named_true (ino_at image i slot) (bytes_eq (name_at image i slot) name) passes.passes

  pub found_entry : EntryNames image i slot (ino_at image i slot)
  found_entry = record { directory = directory; in_size = omega (arith, passes.high); ino = refl; not_empty = parts.0 }

  pub found_name : name_at image i slot ≡ name
  found_name = same_text (name_at image i slot) name (sym parts.1)
