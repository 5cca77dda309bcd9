-- One more entry for a file that has a name: the name shows the file, all other names stay, and no tree is another one.
use Rattle.std.proofs.Common.{◌≡◌, ◌⊎◌, ℕ, sym, ◌∙◌, ap, subst, arith, inl, inr}
use Rattle.bp_layout.specs.Words.{Image}
use Rattle.bp_layout.specs.Inode.{kind_of}
use Rattle.bp_layout.specs.Directory.{name_at}
use Rattle.bp_layout.specs.Reached.{IsReached}
use Rattle.bp_layout.specs.WellFormed.{IsWellFormed}
use Rattle.bp_layout.proofs.Paths.{AddsName}
use Rattle.bp_layout.proofs.Reached.{reached-in_file}
use Rattle.bp_changes.specs.Effects.{LinksName}
use Rattle.bp_changes.proofs.EntryAdded as entry
use Rattle.bp_changes.proofs.EntryAdded.{TakesName}
use Rattle.bp_changes.proofs.GainsEntry.{links_gain}

-- the inode is a file, and so has no entry
pub links_takes : (old new : Image) → IsWellFormed old → (i s j : ℕ) → LinksName old new i s j → TakesName old new j
links_takes old new wf i s j links = record {
  inode_bytes = rw links.inode_bytes (omega arith);
  inode_blocks = rw links.inode_bytes wf.inode_blocks;
  in_file = rw links.inode_bytes (reached-in_file old wf j links.other);
  not_root = λ one. let two : kind_of old j ≡ 2 = ap (kind_of old) one ∙ wf.root_kind in omega (arith, two, links.is_file);
  new_kind = rw is_file (omega arith, omega arith);
  before = inl links.other;
  no_entry = λ r k n. let two : kind_of new j ≡ 2 = n.directory in omega (arith, two, is_file);
  first = λ u r from n kind. omega (arith, kind, is_file);
}
  where
    is_file : kind_of new j ≡ 1
    is_file = links.kind j links.other ∙ links.is_file

module _ (old new : Image) (wf : IsWellFormed old) (i s j : ℕ) (adds : LinksName old new i s j) where
  -- nothing more is reached
  pub reached_back : (t : ℕ) → IsReached new t → IsReached old t
  reached_back t r = go (entry.reached_cases old new wf i s j (links_gain old new i s j adds) (links_takes old new wf i s j adds) t r)
    where
      go : (t ≡ j) ⊎ IsReached old t → IsReached old t
      go (inl e) = subst (IsReached old) (sym e) adds.other
      go (inr was) = was

  -- and nothing less
  pub reached_stays : (t : ℕ) → IsReached old t → IsReached new t
  reached_stays = entry.reached_stays old new wf i s j (links_gain old new i s j adds) (links_takes old new wf i s j adds)

  -- the image stays well formed
  pub linked_well_formed : IsWellFormed new
  linked_well_formed = entry.linked_well_formed old new wf i s j (links_gain old new i s j adds) (links_takes old new wf i s j adds)

  -- the tree gains the name
  pub name_linked : AddsName old new i (name_at new i s) j
  name_linked = entry.names_added old new wf i s j (links_gain old new i s j adds) (links_takes old new wf i s j adds)
