-- The effect of each change on an image, in terms of inodes and slots of the trees reachable before. The trees may be
-- in other blocks afterwards.
use Rattle.std.specs.Prelude.{◌≡◌, ◌≢◌, ◌⊎◌, ℕ, ◌+◌, ◌*◌, ◌%◌, ◌<◌, ◌≤◌, slice_set}
use Rattle.bp_limits.specs.Limits.{block_size, entry_size, entry_words}
use Rattle.bp_layout.specs.Words.{Image}
use Rattle.bp_layout.specs.Tree.{byte, HasBlock}
use Rattle.bp_layout.specs.Inode.{IsDirectory, IsFile, attributes_of, inode_count, kind_of, root_of, size_of}
use Rattle.bp_layout.specs.Directory.{EntryNames, name_at, ino_at, entry_word, entry_count}
use Rattle.bp_layout.specs.Paths.{IsName, no_attributes}
use Rattle.bp_layout.specs.Reached.{IsReached}
use Rattle.bp_changes.specs.KeepsTrees.{KeepsTrees}

-- each tree has the same blocks as before
pub record KeepsBlocks (old new : Image) : Type 0 where
  pub back : (t b : ℕ) → IsReached old t →
      HasBlock new (root_of new t) (size_of new t) b → HasBlock old (root_of old t) (size_of old t) b
  pub stay : (t b : ℕ) → IsReached old t →
      HasBlock old (root_of old t) (size_of old t) b → HasBlock new (root_of new t) (size_of new t) b

-- ---- the bytes of one file

-- the bytes and the size of file x may change; nothing else does
pub record ChangesFile (old new : Image) (x : ℕ) : Type 0 where
  pub reached : IsReached old x
  pub is_file : IsFile old x
  pub trees : KeepsTrees old new
  pub kind : (t : ℕ) → IsReached old t → kind_of new t ≡ kind_of old t
  pub attributes : (t : ℕ) → IsReached old t → attributes_of new t ≡ attributes_of old t
  pub size : (t : ℕ) → IsReached old t → t ≢ x → size_of new t ≡ size_of old t
  pub ino : (i s : ℕ) → IsReached old i → IsDirectory old i → s < entry_count old i →
      ino_at new i s ≡ ino_at old i s
  pub entry : (i s j f : ℕ) → IsReached old i → EntryNames old i s j → f < entry_words →
      entry_word new i s f ≡ entry_word old i s f
  pub bytes : (i o : ℕ) → IsReached old i → i ≢ x → IsFile old i → o < size_of old i →
      byte new (root_of new i) o ≡ byte old (root_of old i) o

-- ---- an attribute

-- attribute k of inode i gets this value, and nothing else changes
pub record SetsAttribute (old new : Image) (i k value : ℕ) : Type 0 where
  pub reached : IsReached old i
  pub trees : KeepsTrees old new
  pub kind : (t : ℕ) → IsReached old t → kind_of new t ≡ kind_of old t
  pub attributes : (t : ℕ) → IsReached old t → t ≢ i → attributes_of new t ≡ attributes_of old t
  pub set : attributes_of new i ≡ slice_set (attributes_of old i) k value
  pub size : (t : ℕ) → IsReached old t → size_of new t ≡ size_of old t
  pub ino : (u s : ℕ) → IsReached old u → IsDirectory old u → s < entry_count old u →
      ino_at new u s ≡ ino_at old u s
  pub entry : (u s j f : ℕ) → IsReached old u → EntryNames old u s j → f < entry_words →
      entry_word new u s f ≡ entry_word old u s f
  pub bytes : (u o : ℕ) → IsReached old u → IsFile old u → o < size_of old u →
      byte new (root_of new u) o ≡ byte old (root_of old u) o

-- ---- an inode number

-- slot s of directory i gets this inode number, and nothing else changes
pub record SetsIno (old new : Image) (i s value : ℕ) : Type 0 where
  pub trees : KeepsTrees old new
  pub kind : (u : ℕ) → u < inode_count old → kind_of new u ≡ kind_of old u
  pub attributes : (u : ℕ) → u < inode_count old → attributes_of new u ≡ attributes_of old u
  pub size : (u : ℕ) → u < inode_count old → size_of new u ≡ size_of old u
  pub ino : ino_at new i s ≡ value
  pub entry : (u r f : ℕ) → IsReached old u → IsDirectory old u → r < entry_count old u → f < entry_words →
      ((i ≡ u) → (entry_words * s + 0 ≡ entry_words * r + f) → ⊥) → entry_word new u r f ≡ entry_word old u r f
  pub bytes : (u o : ℕ) → IsReached old u → IsFile old u → o < size_of old u →
      byte new (root_of new u) o ≡ byte old (root_of old u) o

-- ---- a new name

-- the entry that only the second image has
pub record IsNewEntry (i s j u r k : ℕ) : Type 0 where
  pub directory : u ≡ i
  pub slot : r ≡ s
  pub inode : k ≡ j

-- A new entry, at slot s of directory i, for an inode without bytes that no entry named. The slot was empty, or the
-- directory grew by it. The inode file may have grown too, and the inode may be in its new part.
pub record AddsNames (old new : Image) (i s j : ℕ) : Type 0 where
  pub reached : IsReached old i
  pub fresh : IsReached old j → ⊥
  pub trees : KeepsTrees old new
  pub inode_bytes : size_of old 0 ≤ size_of new 0
  pub inode_blocks : size_of new 0 % block_size ≡ 0
  pub in_file : j < inode_count new
  pub kind : (u : ℕ) → IsReached old u → kind_of new u ≡ kind_of old u
  pub attributes : (u : ℕ) → IsReached old u → attributes_of new u ≡ attributes_of old u
  pub new_kind : (1 ≤ kind_of new j) × (kind_of new j ≤ 2)
  pub new_size : size_of new j ≡ 0
  pub new_attributes : attributes_of new j ≡ no_attributes
  pub file_size : (u : ℕ) → IsReached old u → IsFile old u → size_of new u ≡ size_of old u
  pub directory_size : (u : ℕ) → IsReached old u → IsDirectory old u → size_of new u % entry_size ≡ 0
  pub slots : (u r : ℕ) → IsReached old u → IsDirectory old u → r < entry_count new u →
      (r < entry_count old u) ⊎ ((u ≡ i) × (r ≡ s))
  pub back : (u r k : ℕ) → IsReached old u → EntryNames new u r k → IsNewEntry i s j u r k ⊎ EntryNames old u r k
  pub stay : (u r k : ℕ) → IsReached old u → EntryNames old u r k → EntryNames new u r k
  pub entry : EntryNames new i s j
  pub same_names : (u r k : ℕ) → IsReached old u → EntryNames old u r k → name_at new u r ≡ name_at old u r
  pub name : IsName (name_at new i s)
  pub new_name : (r k : ℕ) → EntryNames old i r k → name_at old i r ≢ name_at new i s
  pub bytes : (u o : ℕ) → IsReached old u → IsFile old u → o < size_of old u →
      byte new (root_of new u) o ≡ byte old (root_of old u) o

-- A new entry, at slot s of directory i, for file j, which has a name already. The slot was empty, or the directory
-- grew by it. Nothing else changes.
pub record LinksName (old new : Image) (i s j : ℕ) : Type 0 where
  pub reached : IsReached old i
  pub other : IsReached old j
  pub is_file : IsFile old j
  pub trees : KeepsTrees old new
  pub inode_bytes : size_of new 0 ≡ size_of old 0
  pub kind : (u : ℕ) → IsReached old u → kind_of new u ≡ kind_of old u
  pub attributes : (u : ℕ) → IsReached old u → attributes_of new u ≡ attributes_of old u
  pub file_size : (u : ℕ) → IsReached old u → IsFile old u → size_of new u ≡ size_of old u
  pub directory_size : (u : ℕ) → IsReached old u → IsDirectory old u → size_of new u % entry_size ≡ 0
  pub slots : (u r : ℕ) → IsReached old u → IsDirectory old u → r < entry_count new u →
      (r < entry_count old u) ⊎ ((u ≡ i) × (r ≡ s))
  pub back : (u r k : ℕ) → IsReached old u → EntryNames new u r k → IsNewEntry i s j u r k ⊎ EntryNames old u r k
  pub stay : (u r k : ℕ) → IsReached old u → EntryNames old u r k → EntryNames new u r k
  pub entry : EntryNames new i s j
  pub same_names : (u r k : ℕ) → IsReached old u → EntryNames old u r k → name_at new u r ≡ name_at old u r
  pub name : IsName (name_at new i s)
  pub new_name : (r k : ℕ) → EntryNames old i r k → name_at old i r ≢ name_at new i s
  pub bytes : (u o : ℕ) → IsReached old u → IsFile old u → o < size_of old u →
      byte new (root_of new u) o ≡ byte old (root_of old u) o

-- ---- a removed name

-- no other entry names the inode of this one
abbrev pub IsLastName : Image → ℕ → ℕ → ℕ → Type 0
IsLastName old i s j = (u r : ℕ) → IsReached old u → EntryNames old u r j → (u ≡ i) × (r ≡ s)

-- another entry names the inode of this one
pub record HasOtherName (old : Image) (i s j : ℕ) : Type 0 where
  pub directory : ℕ
  pub slot : ℕ
  pub reached : IsReached old directory
  pub names : EntryNames old directory slot j
  pub other : (directory ≡ i) → (slot ≡ s) → ⊥

-- an entry that names a file or an empty directory
pub record CanUnlink (old : Image) (i s j : ℕ) : Type 0 where
  pub reached : IsReached old i
  pub entry : EntryNames old i s j
  pub alone : (r k : ℕ) → EntryNames old j r k → ⊥

-- the entry becomes empty, and nothing else changes
abbrev pub RemovesEntry : Image → Image → ℕ → ℕ → Type 0
RemovesEntry old new i s = SetsIno old new i s 0

-- ---- a name moved within the existing entries

-- The condition of a move: the source entry (i, s) names j. The target entry (k, r) is empty or names a file or an
-- empty directory.
pub record CanMoveEntry (old : Image) (i s k r j : ℕ) : Type 0 where
  pub reached : IsReached old i
  pub entry : EntryNames old i s j
  pub target : IsReached old k
  pub directory : IsDirectory old k
  pub in_size : r < entry_count old k
  pub apart : (i ≡ k) → (s ≡ r) → ⊥
  pub alone : (x l : ℕ) → ino_at old k r ≢ 0 → EntryNames old (ino_at old k r) x l → ⊥
  pub name : IsName (name_at old k r)
  pub new_name : (x l : ℕ) → EntryNames old k x l → name_at old k x ≡ name_at old k r → x ≡ r

-- the target entry gets the inode number, the source entry becomes empty, and nothing else changes
pub record MovesEntry (old new : Image) (i s k r j : ℕ) : Type 0 where
  pub trees : KeepsTrees old new
  pub kind : (u : ℕ) → u < inode_count old → kind_of new u ≡ kind_of old u
  pub attributes : (u : ℕ) → u < inode_count old → attributes_of new u ≡ attributes_of old u
  pub size : (u : ℕ) → u < inode_count old → size_of new u ≡ size_of old u
  pub emptied : ino_at new i s ≡ 0
  pub entered : ino_at new k r ≡ j
  pub entry : (u x f : ℕ) → IsReached old u → IsDirectory old u → x < entry_count old u → f < entry_words →
      ((i ≡ u) → (entry_words * s + 0 ≡ entry_words * x + f) → ⊥) →
      ((k ≡ u) → (entry_words * r + 0 ≡ entry_words * x + f) → ⊥) →
      entry_word new u x f ≡ entry_word old u x f
  pub bytes : (u o : ℕ) → IsReached old u → IsFile old u → o < size_of old u →
      byte new (root_of new u) o ≡ byte old (root_of old u) o

-- entry s of directory i gets another name, which is new to that directory, and nothing else changes
pub record RespellsEntry (old new : Image) (i s j : ℕ) : Type 0 where
  pub reached : IsReached old i
  pub names : EntryNames old i s j
  pub trees : KeepsTrees old new
  pub kind : (u : ℕ) → u < inode_count old → kind_of new u ≡ kind_of old u
  pub attributes : (u : ℕ) → u < inode_count old → attributes_of new u ≡ attributes_of old u
  pub size : (u : ℕ) → u < inode_count old → size_of new u ≡ size_of old u
  pub ino : (u x : ℕ) → IsReached old u → IsDirectory old u → x < entry_count old u →
      ino_at new u x ≡ ino_at old u x
  pub entry : (u x l f : ℕ) → IsReached old u → EntryNames old u x l → f < entry_words → ((u ≡ i) → (x ≡ s) → ⊥) →
      entry_word new u x f ≡ entry_word old u x f
  pub name : IsName (name_at new i s)
  pub changed : name_at old i s ≢ name_at new i s
  pub new_name : (x l : ℕ) → EntryNames old i x l → x ≢ s → name_at old i x ≢ name_at new i s
  pub bytes : (u o : ℕ) → IsReached old u → IsFile old u → o < size_of old u →
      byte new (root_of new u) o ≡ byte old (root_of old u) o

-- ---- a name moved to a new entry of another directory

-- inode j, and each inode to which a path from it leads
pub data IsAtOrBelow (image : Image) (j : ℕ) : ℕ → Type 0 where
  itself : {k : ℕ} → k ≡ j → IsAtOrBelow image j k
  named : {i k : ℕ} → (slot : ℕ) → IsAtOrBelow image j i → EntryNames image i slot k → IsAtOrBelow image j k

-- an entry of the first image other than the one at slot s of directory i
pub record IsOldEntry (old : Image) (i s u x l : ℕ) : Type 0 where
  pub before : EntryNames old u x l
  pub other : (u ≡ i) → (x ≡ s) → ⊥

-- Entry (k, r) names j, which entry (i, s) named before, under a name that is new to directory k. The target entry was
-- empty, or the directory grew by it. The source entry becomes empty. All other entries keep their slots, names and
-- inodes.
pub record CarriesEntry (old new : Image) (i s k r j : ℕ) : Type 0 where
  pub reached : IsReached old i
  pub names : EntryNames old i s j
  pub target : IsReached old k
  pub trees : KeepsTrees old new
  pub kind : (u : ℕ) → IsReached old u → kind_of new u ≡ kind_of old u
  pub attributes : (u : ℕ) → IsReached old u → attributes_of new u ≡ attributes_of old u
  pub size : (u : ℕ) → IsReached old u → u ≢ k → size_of new u ≡ size_of old u
  pub directory_size : size_of new k % entry_size ≡ 0
  pub slots : (x : ℕ) → x < entry_count new k → (x < entry_count old k) ⊎ (x ≡ r)
  pub emptied : ino_at new i s ≡ 0
  pub entry : EntryNames new k r j
  pub back : (u x l : ℕ) → IsReached old u → EntryNames new u x l → IsNewEntry k r j u x l ⊎ IsOldEntry old i s u x l
  pub stay : (u x l : ℕ) → IsReached old u → EntryNames old u x l → ((u ≡ i) → (x ≡ s) → ⊥) → EntryNames new u x l
  pub same_names : (u x l : ℕ) → IsReached old u → EntryNames old u x l → ((u ≡ i) → (x ≡ s) → ⊥) →
      name_at new u x ≡ name_at old u x
  pub name : IsName (name_at new k r)
  pub new_name : (x l : ℕ) → EntryNames old k x l → name_at old k x ≢ name_at new k r
  pub bytes : (u o : ℕ) → IsReached old u → IsFile old u → o < size_of old u →
      byte new (root_of new u) o ≡ byte old (root_of old u) o
