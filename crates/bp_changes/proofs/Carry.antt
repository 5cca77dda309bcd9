-- A name comes to another directory under a new name: what a rename across directories, onto no name, makes of an image.
use Rattle.std.proofs.Common.{◌≡◌, ◌≢◌, ◌⊎◌, ℕ, suc, ◌%◌, ◌<◌, None, Some, refl, sym, ◌∙◌, ap₂, subst, arith, inl, inr}
use Rattle.std.proofs.lemmas.Bool.{cases_eq}
use Rattle.bp_layout.specs.Words.{Image}
use Rattle.bp_layout.specs.Inode.{kind_of, size_of, inode_count}
use Rattle.bp_layout.specs.Directory.{EntryNames, name_at, lookup_in}
use Rattle.bp_layout.specs.Paths.{Name, IsName}
use Rattle.bp_layout.specs.Reached.{IsReached}
use Rattle.bp_layout.specs.Reached.IsReached.{inode_file, root_directory, named}
use Rattle.bp_layout.specs.Lookup.{node_of}
use Rattle.bp_layout.specs.WellFormed.{IsWellFormed}
use Rattle.bp_changes.specs.Effects.{CarriesEntry, IsNewEntry, IsOldEntry}
use Rattle.bp_layout.proofs.Reached.{reached-in_file}
use Rattle.bp_layout.proofs.LookupLaws.{Shows, lookup_in-shows, lookup_in-found, lookup_in-none}
use Rattle.bp_changes.proofs.MoveName.{MovesName}
use Rattle.bp_changes.proofs.Formatted.{stays_formatted}
use Rattle.bp_changes.proofs.SameShown.{IsKeptIn, entry_found, lookup_kept, node_by_bytes}

module _ (old new : Image) (wf : IsWellFormed old) (i s k r j : ℕ) (carries : CarriesEntry old new i s k r j) where
  -- an entry of the new image: the target, or one of the old image but the source
  abbrev Entry : ℕ → ℕ → ℕ → Type 0
  Entry u x l = IsNewEntry k r j u x l ⊎ IsOldEntry old i s u x l

  j_reached : IsReached old j
  j_reached = named s carries.reached carries.names

  pub reached_back : (t : ℕ) → IsReached new t → IsReached old t
  reached_back _ inode_file = inode_file
  reached_back _ root_directory = root_directory
  reached_back _ (named {i = u} {j = l} x from n) = go (reached_back u from) (carries.back u x l (reached_back u from) n)
    where
      go : IsReached old u → Entry u x l → IsReached old l
      go reached (inl e) = subst (IsReached old) (sym e.inode) j_reached
      go reached (inr e) = named x reached e.before

  two_there : kind_of new k ≡ 2
  two_there = carries.entry.directory

  pub inode_bytes : size_of new 0 ≡ size_of old 0
  inode_bytes =
      carries.size 0 inode_file
      (λ e. let none : kind_of new 0 ≡ 2 = subst (λ u. kind_of new u ≡ 2) (sym e) two_there in omega (arith, none))

  name_there : (u x l : ℕ) → IsNewEntry k r j u x l → name_at new u x ≡ name_at new k r
  name_there u x l e = ap₂ (λ a b. name_at new a b) e.directory e.slot

  name_kept : (u x l : ℕ) → IsReached old u → IsOldEntry old i s u x l → name_at new u x ≡ name_at old u x
  name_kept u x l reached e = carries.same_names u x l reached e.before e.other

  -- no entry that was there has the new name
  no_clash : (u y m : ℕ) → IsReached old u → u ≡ k → IsOldEntry old i s u y m → name_at new u y ≡ name_at new k r → ⊥
  no_clash u y m reached e o same =
      carries.new_name y m (subst (λ a. EntryNames old a y m) e o.before)
      (subst (λ a. name_at old a y ≡ name_at new k r) e (sym (name_kept u y m reached o) ∙ same))

  pub carried_well_formed : IsWellFormed new
  carried_well_formed = record {
    formatted = stays_formatted old new carries.trees wf.formatted;
    low = λ t q. carries.trees.low t (reached_back t q);
    sound = λ t q. carries.trees.sound t (reached_back t q);
    apart = λ t u b q p one two. carries.trees.apart t u b (reached_back t q) (reached_back u p) one two;
    full_inode_file = carries.trees.full_inode_file;
    full_directories = λ t q kind. carries.trees.full_directories t (reached_back t q) (sym (carries.kind t (reached_back t q)) ∙ kind);
    inode_blocks = rw inode_bytes wf.inode_blocks;
    some_inodes = rw inode_bytes wf.some_inodes;
    inos = λ u x l q n. rw inode_bytes (in_file u x l (reached_back u q) (carries.back u x l (reached_back u q) n));
    not_root = λ u x l q n. not_root u x l (reached_back u q) (carries.back u x l (reached_back u q) n);
    named_once = λ u x v y l q p n m kind.
        once u x v y l (reached_back u q) (reached_back v p) (carries.back u x l (reached_back u q) n) (carries.back v y l (reached_back v p) m)
        (sym (carries.kind l (reached_back l (named x q n))) ∙ kind);
    kinds = λ u q. rw (carries.kind (suc u) (reached_back (suc u) q)) (wf.kinds u (reached_back (suc u) q));
    root_kind = carries.kind 1 root_directory ∙ wf.root_kind;
    directory_sizes = λ u q kind. sizes u (reached_back u q) kind (cases_eq u k);
    names = λ u x l q n. name_form u x l (reached_back u q) (carries.back u x l (reached_back u q) n);
    names_once = λ u x y l m q n o same.
        name_once u x y l m (reached_back u q) (carries.back u x l (reached_back u q) n) (carries.back u y m (reached_back u q) o) same;
  }
    where
      in_file : (u x l : ℕ) → IsReached old u → Entry u x l → l < inode_count old
      in_file u x l reached (inl e) = rw e.inode (reached-in_file old wf j j_reached)
      in_file u x l reached (inr e) = wf.inos u x l reached e.before

      not_root : (u x l : ℕ) → IsReached old u → Entry u x l → l ≡ 1 → ⊥
      not_root u x l reached (inl e) one = wf.not_root i s j carries.reached carries.names (sym e.inode ∙ one)
      not_root u x l reached (inr e) one = wf.not_root u x l reached e.before one

      source_is : (u x l : ℕ) → IsReached old u → EntryNames old u x l → l ≡ j → kind_of old l ≡ 2 → (u ≡ i) × (x ≡ s)
      source_is u x l reached n e kind = wf.named_once u x i s j reached carries.reached (subst (EntryNames old u x) e n) carries.names (subst (λ a. kind_of old a ≡ 2) e kind)

      once : (u x v y l : ℕ) → IsReached old u → IsReached old v → Entry u x l → Entry v y l → kind_of old l ≡ 2 → (u ≡ v) × (x ≡ y)
      once u x v y l q p (inl e) (inl f) kind = (e.directory ∙ sym f.directory, e.slot ∙ sym f.slot)
      once u x v y l q p (inl e) (inr f) kind = let at : (v ≡ i) × (y ≡ s) = source_is v y l p f.before e.inode kind in absurd (f.other at.0 at.1)
      once u x v y l q p (inr e) (inl f) kind = let at : (u ≡ i) × (x ≡ s) = source_is u x l q e.before f.inode kind in absurd (e.other at.0 at.1)
      once u x v y l q p (inr e) (inr f) kind = wf.named_once u x v y l q p e.before f.before kind

      sizes : (u : ℕ) → IsReached old u → kind_of new u ≡ 2 → (u ≡ k) ⊎ (u ≡ k → ⊥) → size_of new u % 256 ≡ 0
      sizes u reached kind (inl e) = subst (λ a. size_of new a % 256 ≡ 0) (sym e) carries.directory_size
      sizes u reached kind (inr other) = rw (carries.size u reached other) (wf.directory_sizes u reached (sym (carries.kind u reached) ∙ kind))

      name_form : (u x l : ℕ) → IsReached old u → Entry u x l → IsName (name_at new u x)
      name_form u x l reached (inl e) = subst IsName (sym (name_there u x l e)) carries.name
      name_form u x l reached (inr e) = rw (name_kept u x l reached e) (wf.names u x l reached e.before)

      name_once : (u x y l m : ℕ) → IsReached old u → Entry u x l → Entry u y m → name_at new u x ≡ name_at new u y → x ≡ y
      name_once u x y l m q (inl e) (inl f) same = e.slot ∙ sym f.slot
      name_once u x y l m q (inl e) (inr f) same = absurd (no_clash u y m q e.directory f (sym same ∙ name_there u x l e))
      name_once u x y l m q (inr e) (inl f) same = absurd (no_clash u x l q f.directory e (same ∙ name_there u y m f))
      name_once u x y l m q (inr e) (inr f) same =
          wf.names_once u x y l m q e.before f.before (sym (name_kept u x l q e) ∙ same ∙ name_kept u y m q f)

  -- ---- names

  lookup_target : lookup_in new k (name_at new k r) ≡ Some j
  lookup_target =
      lookup_in-found new k j (name_at new k r) (record { slot = r; entry = carries.entry; spelled = refl })
      (λ x l n same. which x l (carries.back k x l carries.target n) same)
    where
      which : (x l : ℕ) → Entry k x l → name_at new k x ≡ name_at new k r → x ≡ r
      which x l (inl e) same = e.slot
      which x l (inr e) same = absurd (no_clash k x l carries.target refl e same)

  names_differ : (i ≡ k) → (name_at old i s ≡ name_at new k r) → ⊥
  names_differ e same =
      carries.new_name s j (subst (λ a. EntryNames old a s j) e carries.names) (subst (λ a. name_at old a s ≡ name_at new k r) e same)

  lookup_source : lookup_in new i (name_at old i s) ≡ None
  lookup_source =
      lookup_in-none new i (name_at old i s) (λ l shows. none l shows (carries.back i shows.slot l carries.reached shows.entry))
    where
      none : (l : ℕ) → (shows : Shows new i (name_at old i s) l) → Entry i shows.slot l → ⊥
      none l shows (inl e) = names_differ e.directory (sym shows.spelled ∙ name_there i shows.slot l e)
      none l shows (inr e) =
          e.other refl
          (wf.names_once i shows.slot s l j carries.reached e.before carries.names (sym (name_kept i shows.slot l carries.reached e) ∙ shows.spelled))

  lookup_other : (u : ℕ) (name : Name) → IsReached old u → ((u ≡ i) → (name ≡ name_at old i s) → ⊥) →
      ((u ≡ k) → (name ≡ name_at new k r) → ⊥) → lookup_in new u name ≡ lookup_in old u name
  lookup_other u name reached no_source no_target =
      lookup_kept old new wf u name reached (λ l shows. back l shows (carries.back u shows.slot l reached shows.entry)) (λ l was. record {
        entry = carries.stay u was.slot l reached was.entry (other l was);
        name = carries.same_names u was.slot l reached was.entry (other l was);
      })
    where
      back : (l : ℕ) → (shows : Shows new u name l) → Entry u shows.slot l → IsKeptIn old new u shows.slot l
      back l shows (inl e) = absurd (no_target e.directory (sym shows.spelled ∙ name_there u shows.slot l e))
      back l shows (inr e) = record { entry = e.before; name = sym (name_kept u shows.slot l reached e) }

      other : (l : ℕ) → (was : Shows old u name l) → (u ≡ i) → (was.slot ≡ s) → ⊥
      other l was a b = no_source a (sym was.spelled ∙ ap₂ (name_at old) a b)

  node_stays : (u : ℕ) → IsReached old u → node_of new u ≡ node_of old u
  node_stays u reached =
      node_by_bytes old new u (carries.kind u reached) (carries.attributes u reached) (λ kind. carries.size u reached (other kind)) (λ o kind. carries.bytes u o reached kind)
    where
      other : kind_of old u ≡ 1 → u ≢ k
      other kind f = let two : kind_of new u ≡ 2 = subst (λ a. kind_of new a ≡ 2) (sym f) two_there in omega (arith, kind, two, carries.kind u reached)

  pub carry_moves : MovesName old new i (name_at old i s) k (name_at new k r) j
  carry_moves = record {
    well_formed = wf;
    apart = names_differ;
    source = entry_found old wf i s j carries.reached carries.names;
    directory = sym (carries.kind k carries.target) ∙ carries.entry.directory;
    gone = lookup_source;
    target = lookup_target;
    alone = λ v name e. absurd (nothing v (lookup_in-shows old k v (name_at new k r) e));
    others = lookup_other;
    nodes = node_stays;
  }
    where
      nothing : (v : ℕ) → Shows old k (name_at new k r) v → ⊥
      nothing v shows = carries.new_name shows.slot v shows.entry shows.spelled
