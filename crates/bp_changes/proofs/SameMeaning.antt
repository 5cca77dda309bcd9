-- Two images with the same meaning: the theorem after every step that a reader of the tree does not see.
use Rattle.std.proofs.Common.{◌≡◌, ℕ, zero, suc, ◌/◌, sym, ap, suc-ne-zero, arith}
use Rattle.bp_layout.specs.Words.{Image}
use Rattle.bp_layout.specs.Inode.{kind_of, size_of}
use Rattle.bp_layout.specs.Directory.{EntryNames, name_at}
use Rattle.bp_layout.specs.Reached.{IsReached}
use Rattle.bp_layout.specs.WellFormed.{IsWellFormed}
use Rattle.bp_layout.specs.Same.{Same}
use Rattle.bp_layout.proofs.Finding.{map-same}
use Rattle.bp_layout.proofs.View.{SameView, find_one-same, shown-same}
use Rattle.bp_changes.specs.SameMeaning.{SameMeaning}
use Rattle.bp_changes.proofs.Formatted.{version_stays}
use Rattle.bp_changes.proofs.SameEntries as entries
use Rattle.bp_changes.proofs.SameEntries.{SameEntries, SameInos}

module _ (old new : Image) (same : SameMeaning old new) where
  -- only the inode file, which is neither a file nor a directory, may have grown
  size-same : (i kind : ℕ) → kind_of old i ≡ suc kind → IsReached old i → size_of new i ≡ size_of old i
  size-same zero kind e reached = absurd (suc-ne-zero kind (sym e))
  size-same (suc i) kind e reached = same.size i reached

  pub same_inos : SameInos old new
  same_inos = record { kind = same.kind; count = λ i reached kind. ap (λ s. s / 256) (size-same i 1 kind reached); ino = same.ino }

  -- all entries are as they were
  same_entries : SameEntries old new
  same_entries = record {
    trees = same.trees;
    inode_blocks = same.inode_blocks;
    inodes = same.inodes;
    size = λ i reached kind. size-same i 1 kind reached;
    inos = same_inos;
    entry = same.entry;
  }

module _ (old new : Image) (wf : IsWellFormed old) (same : SameMeaning old new) where
  -- so what follows from that holds
  pub name-same : (i slot j : ℕ) → IsReached old i → EntryNames old i slot j → name_at new i slot ≡ name_at old i slot
  name-same = entries.name_same old new wf (same_entries old new same)

  pub names-back : (i s j : ℕ) → IsReached old i → EntryNames new i s j → EntryNames old i s j
  names-back = entries.names_back old new (same_inos old new same)

  pub reached-back : (t : ℕ) → IsReached new t → IsReached old t
  reached-back = entries.reached_back old new (same_inos old new same)

  pub well_formed-same : IsWellFormed new
  well_formed-same = entries.well_formed_same old new wf (same_entries old new same)

  -- files read the same too
  pub view-same : SameView old new
  view-same = record {
    directories = entries.directories_same old new wf (same_entries old new same);
    attributes = same.attributes;
    bytes = λ i reached kind.
        rw (size-same old new same i 0 kind reached) (map-same _ _ 0 (size_of old i) (λ o low high. same.bytes i o reached kind (omega (arith, high))));
  }

  -- and so does each path
  pub same-by_meaning : Same old new
  same-by_meaning = record {
    old_well_formed = wf;
    new_well_formed = well_formed-same;
    version = version_stays old new same.trees.has_magic;
    shows = shown-same old new view-same;
    one = find_one-same old new view-same.directories;
  }
