-- Two images that differ in the bytes of files: the theorem after every write, truncate and batch.
use Rattle.std.proofs.Common.{◌≡◌, ℕ, ◌/◌, ap, arith}
use Rattle.bp_layout.specs.Words.{Image}
use Rattle.bp_layout.specs.Directory.{EntryNames, name_at}
use Rattle.bp_layout.specs.Reached.{IsReached}
use Rattle.bp_layout.specs.Reached.IsReached.{root_directory}
use Rattle.bp_layout.specs.WellFormed.{IsWellFormed}
use Rattle.bp_layout.specs.Lookup.{lookup}
use Rattle.bp_layout.specs.Paths.{Path}
use Rattle.bp_layout.proofs.View.{SameDirectories, lookup_from-same}
use Rattle.bp_changes.specs.KeepsDirectories.{KeepsDirectories}
use Rattle.bp_changes.proofs.SameEntries as entries
use Rattle.bp_changes.proofs.SameEntries.{SameEntries, SameInos}

module _ (old new : Image) (wf : IsWellFormed old) (same : KeepsDirectories old new) where
  pub same_inos : SameInos old new
  same_inos = record { kind = same.kind; count = λ i reached kind. ap (λ s. s / 256) (same.size i reached kind); ino = same.ino }

  -- all entries are as they were
  same_entries : SameEntries old new
  same_entries = record {
    trees = same.trees;
    inode_blocks = rw same.inode_bytes wf.inode_blocks;
    inodes = rw same.inode_bytes (omega arith);
    size = same.size;
    inos = same_inos;
    entry = same.entry;
  }

  -- so what follows from that holds
  pub name-same : (i slot j : ℕ) → IsReached old i → EntryNames old i slot j → name_at new i slot ≡ name_at old i slot
  name-same = entries.name_same old new wf same_entries

  pub directories-same : SameDirectories old new
  directories-same = entries.directories_same old new wf same_entries

  pub names-back : (i s j : ℕ) → IsReached old i → EntryNames new i s j → EntryNames old i s j
  names-back = entries.names_back old new same_inos

  pub reached-back : (t : ℕ) → IsReached new t → IsReached old t
  reached-back = entries.reached_back old new same_inos

  pub names-on : (i s j : ℕ) → IsReached old i → EntryNames old i s j → EntryNames new i s j
  names-on = entries.names_on old new same_inos

  pub reached-on : (t : ℕ) → IsReached old t → IsReached new t
  reached-on = entries.reached_on old new same_inos

  pub well_formed-same : IsWellFormed new
  well_formed-same = entries.well_formed_same old new wf same_entries

  -- and each path finds what it did
  pub lookup-same : (path : Path) → lookup new path ≡ lookup old path
  lookup-same path = lookup_from-same old new directories-same 1 path root_directory
