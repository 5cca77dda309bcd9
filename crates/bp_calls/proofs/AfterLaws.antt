-- What a preparation keeps: inodes, entries, blocks, and what is free.
use Rattle.std.proofs.Common.{◌≡◌, ℕ, zero, suc, ◌<◌, Bool, true, false, ◌==◌, refl, ◌∙◌, ap, arith}
use Rattle.std.proofs.lemmas.Bool.{eqb-false}
use Rattle.bp_layout.specs.Words.{Image}
use Rattle.bp_layout.specs.Inode.{kind_of, size_of}
use Rattle.bp_layout.specs.Directory.{EntryNames, ino_at, entry_count, is_named, slot_named, empty_slot}
use Rattle.bp_layout.specs.Paths.{Name}
use Rattle.bp_layout.specs.Reached.{IsReached, IsLiveBlock}
use Rattle.bp_layout.specs.Reached.IsReached.{inode_file, root_directory, named}
use Rattle.bp_layout.specs.WellFormed.{IsWellFormed}
use Rattle.bp_layout.specs.Free.{IsFreeInode}
use Rattle.bp_changes.specs.Harmless.{Agrees}
use Rattle.bp_layout.specs.Same.{Same}
use Rattle.bp_changes.specs.Effects.{KeepsBlocks}
use Rattle.bp_changes.specs.SameMeaning.{SameMeaning}
use Rattle.bp_layout.proofs.Finding.{find-same}
use Rattle.bp_layout.proofs.View.{SameDirectories}
use Rattle.bp_changes.proofs.SameMeaning.{view-same, reached-back, well_formed-same, same-by_meaning}
use Rattle.bp_changes.proofs.Frame as frame

-- The second image means the same, with the same blocks and as many inodes. Words that nobody reads may be others.
pub record IsPrepared (old new : Image) : Type 0 where
  pub meaning : SameMeaning old new
  pub blocks : KeepsBlocks old new
  pub inode_bytes : size_of new 0 ≡ size_of old 0

-- ---- when an image is prepared

pub agrees_prepared : (old new : Image) → IsWellFormed old → Agrees old new → IsPrepared old new
agrees_prepared old new wf agrees = record {
  meaning = frame.meaning-same old new wf agrees;
  blocks = record {
    back = λ t b reached has. frame.has_block-back old new wf agrees t b reached has;
    stay = λ t b reached has. frame.has_block-on old new wf agrees t b reached has;
  };
  inode_bytes = frame.size-same old new wf agrees 0 inode_file;
}

-- ---- what a same meaning keeps

module _ (old new : Image) (wf : IsWellFormed old) (same : SameMeaning old new) where
  pub directories_over : SameDirectories old new
  directories_over = (view-same old new wf same).directories

  is_named_over : (i slot : ℕ) (name : Name) → IsReached old i → kind_of old i ≡ 2 → slot < entry_count old i → is_named new i name slot ≡ is_named old i name slot
  is_named_over i slot name reached kind in_size = go (ino_at old i slot == 0) refl
    where
      go : (b : Bool) → (ino_at old i slot == 0) ≡ b → is_named new i name slot ≡ is_named old i name slot
      go true at = rw (directories_over.ino i slot reached kind in_size, at) refl
      go false at =
          let entry : EntryNames old i slot (ino_at old i slot) = record { directory = kind; in_size = in_size; ino = refl; not_empty = eqb-false _ _ at } in
          rw (directories_over.ino i slot reached kind in_size, at, directories_over.name i slot (ino_at old i slot) reached entry) refl

  pub slot_named_over : (i : ℕ) (name : Name) → IsReached old i → kind_of old i ≡ 2 → slot_named new i name ≡ slot_named old i name
  slot_named_over i name reached kind =
      rw (directories_over.count i reached kind)
      (find-same (is_named new i name) (is_named old i name) 0 (entry_count old i) (λ k low high. is_named_over i k name reached kind (omega (arith, high))))

  pub empty_slot_over : (i : ℕ) → IsReached old i → kind_of old i ≡ 2 → empty_slot new i ≡ empty_slot old i
  empty_slot_over i reached kind =
      rw (directories_over.count i reached kind)
      (find-same (λ slot. ino_at new i slot == 0) (λ slot. ino_at old i slot == 0) 0 (entry_count old i)
      (λ k low high. ap (λ n. n == 0) (directories_over.ino i k reached kind (omega (arith, high)))))

-- ---- what stays

module _ (old new : Image) (wf : IsWellFormed old) (prepared : IsPrepared old new) where
  pub prepared_well_formed : IsWellFormed new
  prepared_well_formed = well_formed-same old new wf prepared.meaning

  pub prepared_same : Same old new
  prepared_same = same-by_meaning old new wf prepared.meaning

  alike : SameDirectories old new
  alike = (view-same old new wf prepared.meaning).directories

  pub kind_after : (i : ℕ) → IsReached old i → kind_of new i ≡ kind_of old i
  kind_after = prepared.meaning.kind

  pub size_after : (i : ℕ) → IsReached old i → size_of new i ≡ size_of old i
  size_after zero reached = prepared.inode_bytes
  size_after (suc i) reached = prepared.meaning.size i reached

  pub names_after : (i s j : ℕ) → IsReached old i → EntryNames old i s j → EntryNames new i s j
  names_after i s j reached n = record {
    directory = kind_after i reached ∙ n.directory;
    in_size = rw (size_after i reached) n.in_size;
    ino = prepared.meaning.ino i s reached n.directory n.in_size ∙ n.ino;
    not_empty = n.not_empty;
  }

  pub reached_after : (t : ℕ) → IsReached old t → IsReached new t
  reached_after _ inode_file = inode_file
  reached_after _ root_directory = root_directory
  reached_after _ (named {i} {j} slot r n) = named slot (reached_after i r) (names_after i slot j r n)

  pub reached_before : (t : ℕ) → IsReached new t → IsReached old t
  reached_before = reached-back old new wf prepared.meaning

  -- ---- what is free

  pub live_before_too : (b : ℕ) → IsLiveBlock new b → IsLiveBlock old b
  live_before_too b live = record { tree = live.tree; reached = reached_before live.tree live.reached; has = prepared.blocks.back live.tree b (reached_before live.tree live.reached) live.has }

  pub free_inode_after : (j : ℕ) → IsFreeInode old j → IsFreeInode new j
  free_inode_after j free = record { low = free.low; high = rw prepared.inode_bytes free.high; free = λ reached. free.free (reached_before j reached) }

  -- ---- slots

  pub slot_named_after : (i : ℕ) (name : Name) → IsReached old i → kind_of old i ≡ 2 → slot_named new i name ≡ slot_named old i name
  slot_named_after = slot_named_over old new wf prepared.meaning
