-- Two images of which the second has bytes laid into files: what it shows.
use Rattle.std.proofs.Common.{◌≡◌, ◌==◌, Bool, true, false, Option, None, Some, List, ℕ, refl, ap, ap₂, arith}
use Rattle.std.specs.List.{range_with_len}
use Rattle.std.specs.Prelude.{map, if◌then◌else◌}
use Rattle.std.specs.Option.{option_map}
use Rattle.std.proofs.lemmas.Bool.{eqb-true}
use Rattle.bp_layout.specs.Words.{Image}
use Rattle.bp_layout.specs.Tree.{byte}
use Rattle.bp_layout.specs.Inode.{attributes_of, kind_of, root_of, size_of}
use Rattle.bp_layout.specs.Reached.{IsReached}
use Rattle.bp_layout.specs.Reached.IsReached.{inode_file, root_directory}
use Rattle.bp_layout.specs.WellFormed.{IsWellFormed}
use Rattle.bp_layout.specs.Lookup.{lookup, node_of, shown}
use Rattle.bp_layout.specs.Paths.{Node, Path}
use Rattle.bp_layout.specs.Paths.Node.{dir, file}
use Rattle.bp_layout.proofs.Finding.{map-same}
use Rattle.bp_layout.proofs.View.{lookup_from-reached}
use Rattle.bp_changes.specs.KeepsDirectories.{KeepsDirectories}
use Rattle.bp_changes.specs.Overwrites.{OverwritesFiles, Patch, patched}
use Rattle.bp_changes.proofs.KeepsDirectories.{lookup-same}

-- what stands at an inode of an image, where its bytes are stated by inode and number
abbrev pub node_with : Image → (ℕ → ℕ → ℕ) → ℕ → Node
node_with image bytes i =
    if kind_of image i == 1 then file (attributes_of image i) (map (bytes i) (range_with_len 0 (size_of image i))) else dir (attributes_of image i)

-- the bytes of an image, and those with patches laid over them
abbrev pub bytes_in : Image → ℕ → ℕ → ℕ
bytes_in image i o = byte image (root_of image i) o

abbrev pub bytes_patched : Image → List Patch → ℕ → ℕ → ℕ
bytes_patched image patches i o = patched patches i o (bytes_in image i o)

module _ (old new : Image) (patches : List Patch) (over : OverwritesFiles patches old new) where
  pub keeps : KeepsDirectories old new
  keeps = record {
    trees = over.trees;
    kind = over.kind;
    inode_bytes = over.size 0 inode_file;
    size = λ i reached kind. over.size i reached;
    ino = over.ino;
    entry = over.entry;
  }

  pub node_patched : (u : ℕ) → IsReached old u → node_of new u ≡ node_with old (bytes_patched old patches) u
  node_patched u reached = go (kind_of old u == 1) refl
    where
      go : (b : Bool) → (kind_of old u == 1) ≡ b → node_of new u ≡ node_with old (bytes_patched old patches) u
      go true e =
          rw (over.kind u reached, e, over.size u reached)
          (ap₂ file (over.attributes u reached) (map-same _ _ 0 (size_of old u) (λ o low high. over.bytes u o reached (eqb-true _ _ e) (omega (arith, high)))))
      go false e = rw (over.kind u reached, e) (ap dir (over.attributes u reached))

  pub shown_patched : IsWellFormed old → (path : Path) → shown new path ≡ option_map (node_with old (bytes_patched old patches)) (lookup old path)
  shown_patched wf path = rw (lookup-same old new wf keeps path) (go (lookup old path) refl)
    where
      go : (found : Option ℕ) → lookup old path ≡ found → option_map (node_of new) found ≡ option_map (node_with old (bytes_patched old patches)) found
      go None e = refl
      go (Some u) e = ap Some (node_patched u (lookup_from-reached old 1 u path root_directory e))
