-- One more entry in one directory, whichever inode it names: the name shows the inode, and all other names stay.
use Rattle.std.proofs.Common.{◌≡◌, ◌≢◌, ◌⊎◌, ℕ, suc, ◌%◌, ◌<◌, ◌≤◌, Some, inl, inr}
use Rattle.std.proofs.Common.{refl, sym, ◌∙◌, ap, ap₂, subst, subst₂, arith, le_trans}
use Rattle.bp_limits.specs.Limits.{block_size, greatest_height}
use Rattle.bp_layout.specs.Formatted.{version_of}
use Rattle.bp_layout.specs.Words.{Image, height_of}
use Rattle.bp_layout.specs.Tree.{HasBlock, IsSound, IsFull}
use Rattle.bp_layout.specs.Inode.{kind_of, root_of, size_of, inode_count}
use Rattle.bp_layout.specs.Directory.{EntryNames, name_at, lookup_in}
use Rattle.bp_layout.specs.Paths.{Name, IsName}
use Rattle.bp_layout.specs.Reached.{IsReached}
use Rattle.bp_layout.specs.Reached.IsReached.{inode_file, root_directory, named}
use Rattle.bp_layout.specs.WellFormed.{IsWellFormed}
use Rattle.bp_layout.proofs.LookupLaws.{Shows, lookup_in-none}
use Rattle.bp_layout.proofs.Paths.{AddsName}
use Rattle.bp_layout.proofs.SmallTrees.{none_live, empty_sound, empty_has_none}
use Rattle.bp_changes.specs.Effects.{IsNewEntry}
use Rattle.bp_changes.proofs.Formatted.{stays_formatted}
use Rattle.bp_changes.proofs.GainsEntry.{GainsEntry}
use Rattle.bp_changes.proofs.SameShown.{IsKeptIn, entry_found, lookup_kept, node_by_bytes}

-- What more is known of the inode: it has no entry, no bytes if nobody named it, and only one name if it is a directory. The inode file may have grown.
pub record TakesName (old new : Image) (j : ℕ) : Type 0 where
  pub inode_bytes : size_of old 0 ≤ size_of new 0
  pub inode_blocks : size_of new 0 % block_size ≡ 0
  pub in_file : j < inode_count new
  pub not_root : j ≢ 1
  pub new_kind : (1 ≤ kind_of new j) × (kind_of new j ≤ 2)
  pub before : IsReached old j ⊎ (size_of new j ≡ 0)
  pub no_entry : (r k : ℕ) → EntryNames new j r k → ⊥
  pub first : (u r : ℕ) → IsReached old u → EntryNames old u r j → kind_of new j ≡ 2 → ⊥

module _ (old new : Image) (wf : IsWellFormed old) (i s j : ℕ) (gains : GainsEntry old new i s j) (takes : TakesName old new j) where
  -- ---- what is reached, and which entries there are

  -- each inode that was reached still is
  pub reached_stays : (t : ℕ) → IsReached old t → IsReached new t
  reached_stays _ inode_file = inode_file
  reached_stays _ root_directory = root_directory
  reached_stays _ (named {i = u} {j = k} r from n) = named r (reached_stays u from) (gains.stay u r k from n)

  -- and no other but the one named
  pub reached_cases : (t : ℕ) → IsReached new t → (t ≡ j) ⊎ IsReached old t
  reached_cases _ inode_file = inr inode_file
  reached_cases _ root_directory = inr root_directory
  reached_cases _ (named {i = u} {j = k} r from n) = go (reached_cases u from)
    where
      by_entry : IsReached old u → IsNewEntry i s j u r k ⊎ EntryNames old u r k → (k ≡ j) ⊎ IsReached old k
      by_entry reached (inl fresh) = inl fresh.inode
      by_entry reached (inr old_names) = inr (named r reached old_names)

      go : (u ≡ j) ⊎ IsReached old u → (k ≡ j) ⊎ IsReached old k
      go (inl e) = absurd (takes.no_entry r k (rw e at n))
      go (inr reached) = by_entry reached (gains.back u r k reached n)

  -- an inode of the new image: the one named, if it was free and so has no bytes, or one that was reached
  abbrev Inode : ℕ → Type 0
  Inode t = ((t ≡ j) × (size_of new t ≡ 0)) ⊎ IsReached old t

  -- each inode that is reached is one of these
  inode_cases : (t : ℕ) → IsReached new t → Inode t
  inode_cases t r = go (reached_cases t r) takes.before
    where
      go : (t ≡ j) ⊎ IsReached old t → IsReached old j ⊎ (size_of new j ≡ 0) → Inode t
      go (inl e) (inl there) = inr (subst (IsReached old) (sym e) there)
      go (inl e) (inr nothing) = inl (e, ap (size_of new) e ∙ nothing)
      go (inr was) b = inr was

  -- an entry of the new image: the new one, or one of the old image
  abbrev pub Entry : ℕ → ℕ → ℕ → Type 0
  Entry u r k = IsNewEntry i s j u r k ⊎ (IsReached old u × EntryNames old u r k)

  -- each entry that names an inode is one of these
  pub entry_cases : (u r k : ℕ) → IsReached new u → EntryNames new u r k → Entry u r k
  entry_cases u r k reached n = go (reached_cases u reached)
    where
      by_entry : IsReached old u → IsNewEntry i s j u r k ⊎ EntryNames old u r k → Entry u r k
      by_entry from (inl e) = inl e
      by_entry from (inr e) = inr (from, e)

      go : (u ≡ j) ⊎ IsReached old u → Entry u r k
      go (inl e) = absurd (takes.no_entry r k (subst (λ x. EntryNames new x r k) e n))
      go (inr from) = by_entry from (gains.back u r k from n)

  -- ---- the new image is well formed

  -- case by case: where the inode named was free, it has no bytes
  pub linked_well_formed : IsWellFormed new
  linked_well_formed =
      record {
        formatted = stays_formatted old new gains.trees wf.formatted;
        low = λ t r. low_cases t (inode_cases t r);
        sound = λ t r. sound_cases t (inode_cases t r);
        apart = λ t u b r q one two. apart_cases t u b (inode_cases t r) (inode_cases u q) one two;
        full_inode_file = gains.trees.full_inode_file;
        full_directories = λ t r kind. full_cases t (inode_cases t r) kind;
        inode_blocks = takes.inode_blocks;
        some_inodes = le_trans wf.some_inodes takes.inode_bytes;
        inos = λ u r k q n. in_file_cases u r k (entry_cases u r k q n);
        not_root = λ u r k q n. not_root_cases u r k (entry_cases u r k q n);
        named_once = λ u r v q k from also n m kind. once_cases u r v q k (entry_cases u r k from n) (entry_cases v q k also m) kind;
        kinds = λ u r. kind_cases u (inode_cases (suc u) r);
        root_kind = gains.kind 1 root_directory ∙ wf.root_kind;
        directory_sizes = λ u r kind. size_cases u (inode_cases u r) kind;
        names = λ u r k q n. name_cases u r k (entry_cases u r k q n);
        names_once = λ u r q k l from n m e. names_once_cases u r q k l (entry_cases u r k from n) (entry_cases u q l from m) e;
      }
    where
      low_cases : (t : ℕ) → Inode t → 0 < size_of new t → height_of (root_of new t) ≤ greatest_height (version_of new)
      low_cases t (inl e) some = absurd (omega (arith, some, e.1))
      low_cases t (inr reached) some = gains.trees.low t reached some

      sound_cases : (t : ℕ) → Inode t → IsSound new (root_of new t) (size_of new t)
      sound_cases t (inl e) = rw e.1 (empty_sound new (root_of new t))
      sound_cases t (inr reached) = gains.trees.sound t reached

      has_none : (t b : ℕ) → size_of new t ≡ 0 → HasBlock new (root_of new t) (size_of new t) b → ⊥
      has_none t b e has = empty_has_none new (root_of new t) b (rw e at has)

      apart_cases : (t u b : ℕ) → Inode t → Inode u → HasBlock new (root_of new t) (size_of new t) b → HasBlock new (root_of new u) (size_of new u) b → t ≡ u
      apart_cases t u b (inl e) q one two = absurd (has_none t b e.1 one)
      apart_cases t u b (inr r) (inl e) one two = absurd (has_none u b e.1 two)
      apart_cases t u b (inr r) (inr q) one two = gains.trees.apart t u b r q one two

      full_cases : (t : ℕ) → Inode t → kind_of new t ≡ 2 → IsFull new (root_of new t) (size_of new t)
      full_cases t (inl e) kind d k live = absurd (none_live (root_of new t) d k (rw e.1 at live))
      full_cases t (inr reached) kind d k live = gains.trees.full_directories t reached (sym (gains.kind t reached) ∙ kind) d k live

      in_file_cases : (u r k : ℕ) → Entry u r k → k < inode_count new
      in_file_cases u r k (inl e) = rw e.inode takes.in_file
      in_file_cases u r k (inr e) = let low : k < inode_count old = wf.inos u r k e.0 e.1 in omega (arith, low, takes.inode_bytes)

      not_root_cases : (u r k : ℕ) → Entry u r k → k ≢ 1
      not_root_cases u r k (inl e) one = takes.not_root (sym e.inode ∙ one)
      not_root_cases u r k (inr e) one = wf.not_root u r k e.0 e.1 one

      -- what is new names no directory that had a name
      unnamed : (u r k v q : ℕ) → IsNewEntry i s j v q k → IsReached old u × EntryNames old u r k → kind_of new k ≡ 2 → ⊥
      unnamed u r k v q e f kind = takes.first u r f.0 (subst (EntryNames old u r) e.inode f.1) (subst (λ a. kind_of new a ≡ 2) e.inode kind)

      once_cases : (u r v q k : ℕ) → Entry u r k → Entry v q k → kind_of new k ≡ 2 → (u ≡ v) × (r ≡ q)
      once_cases u r v q k (inl e) (inl f) kind = (e.directory ∙ sym f.directory, e.slot ∙ sym f.slot)
      once_cases u r v q k (inl e) (inr f) kind = absurd (unnamed v q k u r e f kind)
      once_cases u r v q k (inr e) (inl f) kind = absurd (unnamed u r k v q f e kind)
      once_cases u r v q k (inr e) (inr f) kind = wf.named_once u r v q k e.0 f.0 e.1 f.1 (sym (gains.kind k (named r e.0 e.1)) ∙ kind)

      kind_cases : (u : ℕ) → Inode (suc u) → (1 ≤ kind_of new (suc u)) × (kind_of new (suc u) ≤ 2)
      kind_cases u (inl e) = rw (ap (kind_of new) e.0) takes.new_kind
      kind_cases u (inr reached) = rw (gains.kind (suc u) reached) (wf.kinds u reached)

      size_cases : (u : ℕ) → Inode u → kind_of new u ≡ 2 → size_of new u % 256 ≡ 0
      size_cases u (inl e) kind = rw e.1 refl
      size_cases u (inr reached) kind = gains.directory_size u reached (sym (gains.kind u reached) ∙ kind)

      name_cases : (u r k : ℕ) → Entry u r k → IsName (name_at new u r)
      name_cases u r k (inl e) = subst₂ (λ x y. IsName (name_at new x y)) (sym e.directory) (sym e.slot) gains.name
      name_cases u r k (inr e) = rw (gains.same_names u r k e.0 e.1) (wf.names u r k e.0 e.1)

      -- no entry of the old image has the new name
      clash : (u r q k l : ℕ) → IsNewEntry i s j u r k → IsReached old u × EntryNames old u q l → name_at new u r ≡ name_at new u q → ⊥
      clash u r q k l e f same =
          gains.new_name q l (subst (λ x. EntryNames old x q l) e.directory f.1)
          (subst (λ x. name_at old x q ≡ name_at new i s) e.directory (sym (gains.same_names u q l f.0 f.1) ∙ sym same ∙ ap₂ (name_at new) e.directory e.slot))

      names_once_cases : (u r q k l : ℕ) → Entry u r k → Entry u q l → name_at new u r ≡ name_at new u q → r ≡ q
      names_once_cases u r q k l (inl e) (inl f) same = e.slot ∙ sym f.slot
      names_once_cases u r q k l (inl e) (inr f) same = absurd (clash u r q k l e f same)
      names_once_cases u r q k l (inr e) (inl f) same = absurd (clash u q r l k f e (sym same))
      names_once_cases u r q k l (inr e) (inr f) same =
          wf.names_once u r q k l e.0 e.1 f.1 (sym (gains.same_names u r k e.0 e.1) ∙ same ∙ gains.same_names u q l f.0 f.1)

  -- ---- what names and inodes show

  -- the new name shows the inode
  lookup_linked : lookup_in new i (name_at new i s) ≡ Some j
  lookup_linked = entry_found new linked_well_formed i s j (reached_stays i gains.reached) gains.entry

  -- any other name shows what it did
  lookup_stays : (u : ℕ) (name : Name) → IsReached old u → ((u ≡ i) → (name ≡ name_at new i s) → ⊥) → lookup_in new u name ≡ lookup_in old u name
  lookup_stays u name reached other =
      lookup_kept old new wf u name reached (λ k shows. back k shows (gains.back u shows.slot k reached shows.entry)) (λ k was. record {
        entry = gains.stay u was.slot k reached was.entry;
        name = gains.same_names u was.slot k reached was.entry;
      })
    where
      back : (k : ℕ) → (shows : Shows new u name k) → IsNewEntry i s j u shows.slot k ⊎ EntryNames old u shows.slot k → IsKeptIn old new u shows.slot k
      back k shows (inl e) = absurd (other e.directory (sym shows.spelled ∙ ap₂ (name_at new) e.directory e.slot))
      back k shows (inr n) = record { entry = n; name = sym (gains.same_names u shows.slot k reached n) }

  -- the tree gains the name
  pub names_added : AddsName old new i (name_at new i s) j
  names_added = record {
    well_formed = wf;
    directory = sym (gains.kind i gains.reached) ∙ gains.entry.directory;
    missing = lookup_in-none old i (name_at new i s) (λ k shows. gains.new_name shows.slot k shows.entry shows.spelled);
    added = lookup_linked;
    alone = λ name. lookup_in-none new j name (λ k shows. takes.no_entry shows.slot k shows.entry);
    others = lookup_stays;
    nodes = λ u r. node_by_bytes old new u (gains.kind u r) (gains.attributes u r) (gains.file_size u r) (λ o kind. gains.bytes u o r kind);
  }
