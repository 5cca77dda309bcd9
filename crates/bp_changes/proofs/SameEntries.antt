-- Two images with the same entries in each directory: both reach the same inodes by the same names.
use Rattle.std.proofs.Common.{◌≡◌, ℕ, suc, ◌%◌, ◌<◌, ◌≤◌, sym, ◌∙◌, arith, le_trans}
use Rattle.bp_limits.specs.Limits.{block_size, entry_words}
use Rattle.bp_layout.specs.Words.{Image}
use Rattle.bp_layout.specs.Inode.{IsDirectory, inode_count, kind_of, size_of}
use Rattle.bp_layout.specs.Directory.{EntryNames, entry_count, entry_word, ino_at, name_at}
use Rattle.bp_layout.specs.Reached.{IsReached}
use Rattle.bp_layout.specs.Reached.IsReached.{inode_file, root_directory, named}
use Rattle.bp_layout.specs.WellFormed.{IsWellFormed}
use Rattle.bp_layout.proofs.View.{SameDirectories}
use Rattle.bp_changes.specs.KeepsTrees.{KeepsTrees}
use Rattle.bp_changes.proofs.Formatted.{stays_formatted}
use Rattle.bp_changes.proofs.SameShown.{name_by_words}

-- the same inodes are directories, and each has the inode numbers that it had
pub record SameInos (old new : Image) : Type 0 where
  pub kind : (t : ℕ) → IsReached old t → kind_of new t ≡ kind_of old t
  pub count : (i : ℕ) → IsReached old i → IsDirectory old i → entry_count new i ≡ entry_count old i
  pub ino : (i s : ℕ) → IsReached old i → IsDirectory old i → s < entry_count old i → ino_at new i s ≡ ino_at old i s

module _ (old new : Image) (same : SameInos old new) where
  -- an entry of the second image is one of the first
  pub names_back : (i s j : ℕ) → IsReached old i → EntryNames new i s j → EntryNames old i s j
  names_back i s j reached n =
      let kind : kind_of old i ≡ 2 = sym (same.kind i reached) ∙ n.directory in
      let in_size : s < entry_count old i = rw (same.count i reached kind) at n.in_size in
      record { directory = kind; in_size = in_size; ino = sym (same.ino i s reached kind in_size) ∙ n.ino; not_empty = n.not_empty }

  -- and so is an inode that it reaches
  pub reached_back : (t : ℕ) → IsReached new t → IsReached old t
  reached_back _ inode_file = inode_file
  reached_back _ root_directory = root_directory
  reached_back _ (named {i} {j} slot r n) = named slot (reached_back i r) (names_back i slot j (reached_back i r) n)

  -- an entry of the first is one of the second
  pub names_on : (i s j : ℕ) → IsReached old i → EntryNames old i s j → EntryNames new i s j
  names_on i s j reached n = record {
    directory = same.kind i reached ∙ n.directory;
    in_size = rw (same.count i reached n.directory) n.in_size;
    ino = same.ino i s reached n.directory n.in_size ∙ n.ino;
    not_empty = n.not_empty;
  }

  -- and so is an inode that it reaches
  pub reached_on : (t : ℕ) → IsReached old t → IsReached new t
  reached_on _ inode_file = inode_file
  reached_on _ root_directory = root_directory
  reached_on _ (named {i} {j} slot r n) = named slot (reached_on i r) (names_on i slot j r n)

-- Entries have their words too, and so their names. The trees are sound, and the inode file may have grown.
pub record SameEntries (old new : Image) : Type 0 where
  pub trees : KeepsTrees old new
  pub inode_blocks : size_of new 0 % block_size ≡ 0
  pub inodes : size_of old 0 ≤ size_of new 0
  pub size : (i : ℕ) → IsReached old i → IsDirectory old i → size_of new i ≡ size_of old i
  pub inos : SameInos old new
  pub entry : (i s j f : ℕ) → IsReached old i → EntryNames old i s j → f < entry_words → entry_word new i s f ≡ entry_word old i s f

module _ (old new : Image) (wf : IsWellFormed old) (same : SameEntries old new) where
  -- each entry keeps its name
  pub name_same : (i slot j : ℕ) → IsReached old i → EntryNames old i slot j → name_at new i slot ≡ name_at old i slot
  name_same i slot j reached names =
      name_by_words old new i slot (wf.names i slot j reached names).short (λ f some few. same.entry i slot j f reached names few)

  -- so directories read the same
  pub directories_same : SameDirectories old new
  directories_same = record { kind = same.inos.kind; count = same.inos.count; ino = same.inos.ino; name = name_same }

  -- and the second image is well formed
  pub well_formed_same : IsWellFormed new
  well_formed_same = record {
    formatted = stays_formatted old new same.trees wf.formatted;
    low = λ t r. same.trees.low t (back t r);
    sound = λ t r. same.trees.sound t (back t r);
    apart = λ t u b r q has also. same.trees.apart t u b (back t r) (back u q) has also;
    full_inode_file = same.trees.full_inode_file;
    full_directories = λ i r kind. same.trees.full_directories i (back i r) (kind_back i r kind);
    inode_blocks = same.inode_blocks;
    some_inodes = le_trans wf.some_inodes same.inodes;
    inos = λ i s j r n. let low : j < inode_count old = wf.inos i s j (back i r) (was i s j r n) in omega (arith, low, same.inodes);
    not_root = λ i s j r n. wf.not_root i s j (back i r) (was i s j r n);
    named_once = λ i s k q j r p n m kind. wf.named_once i s k q j (back i r) (back k p) (was i s j r n) (was k q j p m) (kind_back j (named s r n) kind);
    kinds = λ i r. rw (same.inos.kind (suc i) (back (suc i) r)) (wf.kinds i (back (suc i) r));
    root_kind = same.inos.kind 1 root_directory ∙ wf.root_kind;
    directory_sizes = λ i r kind. rw (same.size i (back i r) (kind_back i r kind)) (wf.directory_sizes i (back i r) (kind_back i r kind));
    names = λ i s j r n. rw (name_back i s j r n) (wf.names i s j (back i r) (was i s j r n));
    names_once = λ i s q j k r n m e.
        wf.names_once i s q j k (back i r) (was i s j r n) (was i q k r m) (sym (name_back i s j r n) ∙ e ∙ name_back i q k r m);
  }
    where
      back : (t : ℕ) → IsReached new t → IsReached old t
      back = reached_back old new same.inos

      kind_back : (t : ℕ) → IsReached new t → IsDirectory new t → kind_of old t ≡ 2
      kind_back t r kind = sym (same.inos.kind t (back t r)) ∙ kind

      was : (i s j : ℕ) → IsReached new i → EntryNames new i s j → EntryNames old i s j
      was i s j r n = names_back old new same.inos i s j (back i r) n

      name_back : (i s j : ℕ) → IsReached new i → EntryNames new i s j → name_at new i s ≡ name_at old i s
      name_back i s j r n = name_same i s j (back i r) (was i s j r n)
