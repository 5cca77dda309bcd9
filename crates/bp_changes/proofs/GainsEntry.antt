-- One more entry in a directory: what is stated of it whichever inode it names, and what more where that inode was free or is
-- a file that has a name.
use Rattle.std.proofs.Common.{◌≡◌, ◌≢◌, ◌⊎◌, ℕ, ◌%◌, ◌<◌, ◌≤◌, ◌∙◌, arith}
use Rattle.bp_limits.specs.Limits.{block_size, entry_size}
use Rattle.bp_layout.specs.Words.{Image}
use Rattle.bp_layout.specs.Tree.{byte}
use Rattle.bp_layout.specs.Inode.{IsDirectory, IsFile, attributes_of, kind_of, root_of, size_of, inode_count}
use Rattle.bp_layout.specs.Directory.{EntryNames, entry_count, name_at}
use Rattle.bp_layout.specs.Paths.{IsName, no_attributes}
use Rattle.bp_layout.specs.Reached.{IsReached}
use Rattle.bp_layout.specs.WellFormed.{IsWellFormed}
use Rattle.bp_changes.specs.Effects.{AddsNames, LinksName, IsNewEntry}
use Rattle.bp_changes.specs.KeepsTrees.{KeepsTrees}

-- an inode that nobody names and that has no bytes and no attributes
pub record CanTake (old : Image) (j : ℕ) : Type 0 where
  pub fresh : IsReached old j → ⊥
  pub in_file : j < inode_count old
  pub kind : (1 ≤ kind_of old j) × (kind_of old j ≤ 2)
  pub nothing : size_of old j ≡ 0
  pub attributes : attributes_of old j ≡ no_attributes

-- Nobody named inode j, and it has no bytes and no attributes in the second image. The inode file may have grown, and
-- the inode may lie in what it got.
pub record TakesInode (old new : Image) (j : ℕ) : Type 0 where
  pub fresh : IsReached old j → ⊥
  pub inode_bytes : size_of old 0 ≤ size_of new 0
  pub inode_blocks : size_of new 0 % block_size ≡ 0
  pub in_file : j < inode_count new
  pub new_kind : (1 ≤ kind_of new j) × (kind_of new j ≤ 2)
  pub new_size : size_of new j ≡ 0
  pub new_attributes : attributes_of new j ≡ no_attributes

-- One more entry, at slot s of directory i, for inode j. The slot was empty, or the directory grew by it. All else is as
-- it was.
pub record GainsEntry (old new : Image) (i s j : ℕ) : Type 0 where
  pub reached : IsReached old i
  pub trees : KeepsTrees old new
  pub kind : (u : ℕ) → IsReached old u → kind_of new u ≡ kind_of old u
  pub attributes : (u : ℕ) → IsReached old u → attributes_of new u ≡ attributes_of old u
  pub file_size : (u : ℕ) → IsReached old u → IsFile old u → size_of new u ≡ size_of old u
  pub directory_size : (u : ℕ) → IsReached old u → IsDirectory old u → size_of new u % entry_size ≡ 0
  pub slots : (u r : ℕ) → IsReached old u → IsDirectory old u → r < entry_count new u → (r < entry_count old u) ⊎ ((u ≡ i) × (r ≡ s))
  pub back : (u r k : ℕ) → IsReached old u → EntryNames new u r k → IsNewEntry i s j u r k ⊎ EntryNames old u r k
  pub stay : (u r k : ℕ) → IsReached old u → EntryNames old u r k → EntryNames new u r k
  pub entry : EntryNames new i s j
  pub same_names : (u r k : ℕ) → IsReached old u → EntryNames old u r k → name_at new u r ≡ name_at old u r
  pub name : IsName (name_at new i s)
  pub new_name : (r k : ℕ) → EntryNames old i r k → name_at old i r ≢ name_at new i s
  pub bytes : (u o : ℕ) → IsReached old u → IsFile old u → o < size_of old u →
      byte new (root_of new u) o ≡ byte old (root_of old u) o

-- an inode where the inode file stays as long as it was
pub takes_inode : (old new : Image) (j : ℕ) → IsWellFormed old → CanTake old j → size_of new 0 ≡ size_of old 0 → kind_of new j ≡ kind_of old j →
    attributes_of new j ≡ attributes_of old j → size_of new j ≡ size_of old j → TakesInode old new j
takes_inode old new j wf can same_file same_kind same_attributes same_size = record {
  fresh = can.fresh;
  inode_bytes = rw same_file (omega arith);
  inode_blocks = rw same_file wf.inode_blocks;
  in_file = rw same_file can.in_file;
  new_kind = rw same_kind can.kind;
  new_size = same_size ∙ can.nothing;
  new_attributes = same_attributes ∙ can.attributes;
}

module _ (old new : Image) (i s j : ℕ) where
  -- ---- what is stated of each entry

  pub adds_gain : AddsNames old new i s j → GainsEntry old new i s j
  adds_gain adds = record {
    reached = adds.reached;
    trees = adds.trees;
    kind = adds.kind;
    attributes = adds.attributes;
    file_size = adds.file_size;
    directory_size = adds.directory_size;
    slots = adds.slots;
    back = adds.back;
    stay = adds.stay;
    entry = adds.entry;
    same_names = adds.same_names;
    name = adds.name;
    new_name = adds.new_name;
    bytes = adds.bytes;
  }

  pub links_gain : LinksName old new i s j → GainsEntry old new i s j
  links_gain links = record {
    reached = links.reached;
    trees = links.trees;
    kind = links.kind;
    attributes = links.attributes;
    file_size = links.file_size;
    directory_size = links.directory_size;
    slots = links.slots;
    back = links.back;
    stay = links.stay;
    entry = links.entry;
    same_names = links.same_names;
    name = links.name;
    new_name = links.new_name;
    bytes = links.bytes;
  }

  -- ---- and of the inode that it names

  pub gains_adds : GainsEntry old new i s j → TakesInode old new j → AddsNames old new i s j
  gains_adds gains takes = record {
    reached = gains.reached;
    fresh = takes.fresh;
    trees = gains.trees;
    inode_bytes = takes.inode_bytes;
    inode_blocks = takes.inode_blocks;
    in_file = takes.in_file;
    kind = gains.kind;
    attributes = gains.attributes;
    new_kind = takes.new_kind;
    new_size = takes.new_size;
    new_attributes = takes.new_attributes;
    file_size = gains.file_size;
    directory_size = gains.directory_size;
    slots = gains.slots;
    back = gains.back;
    stay = gains.stay;
    entry = gains.entry;
    same_names = gains.same_names;
    name = gains.name;
    new_name = gains.new_name;
    bytes = gains.bytes;
  }

  pub gains_links : GainsEntry old new i s j → IsReached old j → IsFile old j → size_of new 0 ≡ size_of old 0 → LinksName old new i s j
  gains_links gains there file same_file = record {
    reached = gains.reached;
    other = there;
    is_file = file;
    trees = gains.trees;
    inode_bytes = same_file;
    kind = gains.kind;
    attributes = gains.attributes;
    file_size = gains.file_size;
    directory_size = gains.directory_size;
    slots = gains.slots;
    back = gains.back;
    stay = gains.stay;
    entry = gains.entry;
    same_names = gains.same_names;
    name = gains.name;
    new_name = gains.new_name;
    bytes = gains.bytes;
  }
