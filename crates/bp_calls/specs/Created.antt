-- The effect on an image of a call that creates a name.
use Rattle.std.specs.Prelude.{◌≡◌, ◌⊎◌, ℕ, ◌+◌, ◌<◌, ◌≤◌, List, length, slice_index, slice_set, unwrap_or}
use Rattle.bp_layout.specs.Directory.{empty_slot, entry_count, name_at}
use Rattle.bp_layout.specs.Paths.{Name}
use Rattle.bp_layout.specs.Free.{IsFreeInode}
use Rattle.bp_layout.specs.Inode.{inode_count, kind_of}
use Rattle.bp_layout.specs.Names.{AreCounts}
use Rattle.bp_layout.specs.Words.{Image}
use Rattle.bp_layout.specs.Fields.{kind_word}
use Rattle.bp_changes.specs.Effects.{AddsNames, LinksName}
use Rattle.bp_layout.specs.declared.fields.Kind.{Kind}

-- Directory `i` gets the name, in its least empty entry, or after its last entry if none is empty. The entry refers to
-- an inode of this kind without bytes, which was free or lay past the end of the inode file. All other entries keep
-- their slots, their names and their inodes.
pub record EntersName (i : ℕ) (name : Name) (kind : Kind) (old new : Image) : Type 0 where
  pub slot : ℕ
  pub inode : ℕ
  pub was_free : IsFreeInode old inode ⊎ (inode_count old ≤ inode)
  pub slot_is : slot ≡ unwrap_or (empty_slot old i) (entry_count old i)
  pub adds : AddsNames old new i slot inode
  pub name_is : name_at new i slot ≡ name
  pub kind_is : kind_of new inode ≡ kind_word kind

-- Directory `i` gets the name as a link of file `j`, in its least empty entry, or after its last entry if none is
-- empty. No inode is taken.
pub record LinksEntry (i : ℕ) (name : Name) (j : ℕ) (old new : Image) : Type 0 where
  pub slot : ℕ
  pub slot_is : slot ≡ unwrap_or (empty_slot old i) (entry_count old i)
  pub adds : LinksName old new i slot j
  pub name_is : name_at new i slot ≡ name

-- Counts that are right for the first image are right for the second once the count of inode `j` is set to 1.
abbrev pub CountsName : Image → Image → ℕ → Type 0
CountsName old new j = (counts : List ℕ) → AreCounts old counts → AreCounts new (slice_set counts j 1)

-- Counts that are right for the first image are right for the second once the count of inode `j` is one greater.
abbrev pub CountsMore : Image → Image → ℕ → Type 0
CountsMore old new j = (counts : List ℕ) → j < length counts → AreCounts old counts →
    AreCounts new (slice_set counts j (slice_index counts j + 1))
