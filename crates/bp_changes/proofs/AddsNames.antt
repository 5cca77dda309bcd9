-- One more entry in one directory, for an inode that nobody named: the name shows the inode, all other names stay, and the tree gains one entry.
use Rattle.std.proofs.Common.{◌≡◌, ◌⊎◌, ℕ, ◌/◌, ◌<◌, [], ◌==◌, if◌then◌else◌, refl, sym, subst, arith, inr}
use Rattle.bp_layout.specs.Words.{Image}
use Rattle.bp_layout.specs.Inode.{kind_of, size_of}
use Rattle.bp_layout.specs.Directory.{name_at}
use Rattle.bp_layout.specs.Reached.{IsReached}
use Rattle.bp_layout.specs.Reached.IsReached.{root_directory, named}
use Rattle.bp_layout.specs.WellFormed.{IsWellFormed}
use Rattle.bp_layout.specs.Lookup.{node_of}
use Rattle.bp_layout.specs.Paths.{no_attributes}
use Rattle.bp_layout.specs.Paths.Node.{dir, file}
use Rattle.bp_layout.proofs.Paths.{AddsName}
use Rattle.bp_changes.specs.Effects.{AddsNames}
use Rattle.bp_changes.proofs.EntryAdded as entry
use Rattle.bp_changes.proofs.EntryAdded.{TakesName}
use Rattle.bp_changes.proofs.GainsEntry.{adds_gain}

-- the inode has no bytes, and so no entry
pub adds_takes : (old new : Image) (i s j : ℕ) → AddsNames old new i s j → TakesName old new j
adds_takes old new i s j adds = record {
  inode_bytes = adds.inode_bytes;
  inode_blocks = adds.inode_blocks;
  in_file = adds.in_file;
  not_root = λ one. adds.fresh (subst (IsReached old) (sym one) root_directory);
  new_kind = adds.new_kind;
  before = inr adds.new_size;
  no_entry = λ r k n. let in_size : r < size_of new j / 256 = n.in_size in omega (arith, in_size, adds.new_size);
  first = λ u r from n kind. adds.fresh (named r from n);
}

module _ (old new : Image) (wf : IsWellFormed old) (i s j : ℕ) (adds : AddsNames old new i s j) where
  -- nothing more is reached but the new inode
  pub reached_cases : (t : ℕ) → IsReached new t → (t ≡ j) ⊎ IsReached old t
  reached_cases = entry.reached_cases old new wf i s j (adds_gain old new i s j adds) (adds_takes old new i s j adds)

  -- and nothing less
  pub reached_stays : (t : ℕ) → IsReached old t → IsReached new t
  reached_stays = entry.reached_stays old new wf i s j (adds_gain old new i s j adds) (adds_takes old new i s j adds)

  -- the image stays well formed
  pub linked_well_formed : IsWellFormed new
  linked_well_formed = entry.linked_well_formed old new wf i s j (adds_gain old new i s j adds) (adds_takes old new i s j adds)

  -- the new inode is an empty file or directory without attributes
  pub node_of_new : node_of new j ≡ (if kind_of new j == 1 then file no_attributes [] else dir no_attributes)
  node_of_new = rw (adds.new_attributes, adds.new_size) refl

  -- the tree gains the name
  pub names_added : AddsName old new i (name_at new i s) j
  names_added = entry.names_added old new wf i s j (adds_gain old new i s j adds) (adds_takes old new i s j adds)
