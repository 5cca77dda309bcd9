-- Two images that differ in the bytes of one file: what the second shows.
use Rattle.std.proofs.Common.{◌≡◌, ◌≢◌, Option, None, Some, ℕ, refl, ◌∙◌, ap, arith}
use Rattle.bp_layout.specs.Words.{Image}
use Rattle.bp_layout.specs.Tree.{content}
use Rattle.bp_layout.specs.Inode.{attributes_of, kind_of, root_of, size_of}
use Rattle.bp_layout.specs.Directory.{EntryNames, name_at}
use Rattle.bp_layout.specs.Reached.{IsReached}
use Rattle.bp_layout.specs.Reached.IsReached.{inode_file, root_directory}
use Rattle.bp_layout.specs.WellFormed.{IsWellFormed}
use Rattle.bp_layout.specs.Lookup.{lookup, node_of, shown}
use Rattle.bp_layout.specs.Paths.{Path}
use Rattle.bp_layout.specs.Paths.Node.{file}
use Rattle.std.specs.Option.{option_map}
use Rattle.bp_changes.specs.Effects.{ChangesFile}
use Rattle.bp_changes.specs.KeepsDirectories.{KeepsDirectories}
use Rattle.bp_layout.proofs.View.{SameDirectories, lookup_from-reached}
use Rattle.bp_changes.proofs.KeepsDirectories as directories
use Rattle.bp_changes.proofs.SameShown.{node_by_bytes}

module _ (old new : Image) (x : ℕ) (wf : IsWellFormed old) (same : ChangesFile old new x) where
  pub not_zero : 0 ≢ x
  not_zero e = let one : kind_of old 0 ≡ 1 = (rw (← e) at same.is_file) in absurd (omega (arith, one))

  not_directory : (i : ℕ) → kind_of old i ≡ 2 → i ≢ x
  not_directory i kind e = let two : kind_of old x ≡ 2 = (rw e at kind) in absurd (omega (arith, two, same.is_file))

  pub keeps : KeepsDirectories old new
  keeps = record {
    trees = same.trees;
    kind = same.kind;
    inode_bytes = same.size 0 inode_file not_zero;
    size = λ i reached kind. same.size i reached (not_directory i kind);
    ino = same.ino;
    entry = same.entry;
  }

  pub name-same : (i slot j : ℕ) → IsReached old i → EntryNames old i slot j → name_at new i slot ≡ name_at old i slot
  name-same = directories.name-same old new wf keeps

  pub directories-same : SameDirectories old new
  directories-same = directories.directories-same old new wf keeps

  pub reached-back : (t : ℕ) → IsReached new t → IsReached old t
  reached-back = directories.reached-back old new wf keeps

  pub names-on : (i s j : ℕ) → IsReached old i → EntryNames old i s j → EntryNames new i s j
  names-on = directories.names-on old new wf keeps

  pub reached-on : (t : ℕ) → IsReached old t → IsReached new t
  reached-on = directories.reached-on old new wf keeps

  pub well_formed-same : IsWellFormed new
  well_formed-same = directories.well_formed-same old new wf keeps

  pub lookup-same : (path : Path) → lookup new path ≡ lookup old path
  lookup-same = directories.lookup-same old new wf keeps

  node_of_other : (u : ℕ) → IsReached old u → u ≢ x → node_of new u ≡ node_of old u
  node_of_other u reached other =
      node_by_bytes old new u (same.kind u reached) (same.attributes u reached) (λ kind. same.size u reached other) (λ o kind. same.bytes u o reached other kind)

  pub node_of_file : node_of new x ≡ file (attributes_of old x) (content new (root_of new x) (size_of new x))
  node_of_file = rw (same.kind x same.reached, same.is_file) (ap (λ a. file a (content new (root_of new x) (size_of new x))) (same.attributes x same.reached))

  pub shown_file : (path : Path) → lookup old path ≡ Some x → shown new path ≡ Some (file (attributes_of old x) (content new (root_of new x) (size_of new x)))
  shown_file path at = rw (lookup-same path, at) (ap Some node_of_file)

  pub shown_other : (path : Path) → (lookup old path ≡ Some x → ⊥) → shown new path ≡ shown old path
  shown_other path other = rw (lookup-same path) (go (lookup old path) refl)
    where
      go : (found : Option ℕ) → lookup old path ≡ found → option_map (node_of new) found ≡ option_map (node_of old) found
      go None e = refl
      go (Some u) e = ap Some (node_of_other u (lookup_from-reached old 1 u path root_directory e) (λ same. other (e ∙ ap Some same)))
