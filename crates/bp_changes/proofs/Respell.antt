-- An entry is spelled again in place: what a rename within one directory makes of an image.
use Rattle.std.proofs.Common.{◌≡◌, ◌⊎◌, ℕ, suc, ◌/◌, ◌<◌, None, Some, refl, sym, ◌∙◌, ap, ap₂, subst, inl, inr}
use Rattle.std.proofs.lemmas.Bool.{cases_eq}
use Rattle.bp_layout.specs.Words.{Image}
use Rattle.bp_layout.specs.Inode.{size_of, inode_count}
use Rattle.bp_layout.specs.Directory.{EntryNames, name_at, lookup_in}
use Rattle.bp_layout.specs.Paths.{Name, IsName}
use Rattle.bp_layout.specs.Reached.{IsReached}
use Rattle.bp_layout.specs.Reached.IsReached.{inode_file, root_directory, named}
use Rattle.bp_layout.specs.Lookup.{node_of}
use Rattle.bp_layout.specs.WellFormed.{IsWellFormed}
use Rattle.bp_changes.specs.Effects.{RespellsEntry}
use Rattle.bp_layout.proofs.Reached.{reached-in_file}
use Rattle.bp_layout.proofs.LookupLaws.{Shows, lookup_in-shows, lookup_in-found, lookup_in-none}
use Rattle.bp_changes.proofs.MoveName.{MovesName}
use Rattle.bp_changes.proofs.Formatted.{stays_formatted}
use Rattle.bp_changes.proofs.SameEntries as entries
use Rattle.bp_changes.proofs.SameEntries.{SameInos}
use Rattle.bp_changes.proofs.SameShown.{IsKeptIn, entry_found, lookup_kept, name_by_words, node_by_bytes, this_or}

module _ (old new : Image) (wf : IsWellFormed old) (i s j : ℕ) (spells : RespellsEntry old new i s j) where
  in_inodes : (t : ℕ) → IsReached old t → t < inode_count old
  in_inodes = reached-in_file old wf

  -- all entries have the inode numbers that they had
  pub same_inos : SameInos old new
  same_inos = record {
    kind = λ u reached. spells.kind u (in_inodes u reached);
    count = λ u reached kind. ap (λ n. n / 256) (spells.size u (in_inodes u reached));
    ino = spells.ino;
  }

  names_back : (u x l : ℕ) → IsReached old u → EntryNames new u x l → EntryNames old u x l
  names_back = entries.names_back old new same_inos

  pub names_stay : (u x l : ℕ) → IsReached old u → EntryNames old u x l → EntryNames new u x l
  names_stay = entries.names_on old new same_inos

  pub reached_back : (t : ℕ) → IsReached new t → IsReached old t
  reached_back = entries.reached_back old new same_inos

  -- and all but this one their names
  pub name_stays : (u x l : ℕ) → IsReached old u → EntryNames old u x l → ((u ≡ i) → (x ≡ s) → ⊥) → name_at new u x ≡ name_at old u x
  name_stays u x l reached n other =
      name_by_words old new u x (wf.names u x l reached n).short (λ f some few. spells.entry u x l f reached n few other)

  here_or : (u x : ℕ) → ((u ≡ i) × (x ≡ s)) ⊎ ((u ≡ i) → (x ≡ s) → ⊥)
  here_or u x = this_or u x i s

  at_entry : (u x : ℕ) → u ≡ i → x ≡ s → name_at new u x ≡ name_at new i s
  at_entry u x e f = ap₂ (λ a b. name_at new a b) e f

  -- the other entries of that directory have other names
  others_differ : (u x l : ℕ) → IsReached old u → EntryNames old u x l → ((u ≡ i) → (x ≡ s) → ⊥) → u ≡ i → name_at new u x ≡ name_at new i s → ⊥
  others_differ u x l reached n other e same =
      spells.new_name x l (subst (λ a. EntryNames old a x l) e n) (λ f. other e f)
      (subst (λ a. name_at old a x ≡ name_at new i s) e (sym (name_stays u x l reached n other) ∙ same))

  pub respelled_well_formed : IsWellFormed new
  respelled_well_formed =
      let inodes : size_of new 0 ≡ size_of old 0 = spells.size 0 (in_inodes 0 inode_file) in
      record {
        formatted = stays_formatted old new spells.trees wf.formatted;
        low = λ t q. spells.trees.low t (reached_back t q);
        sound = λ t q. spells.trees.sound t (reached_back t q);
        apart = λ t u b q p one two. spells.trees.apart t u b (reached_back t q) (reached_back u p) one two;
        full_inode_file = spells.trees.full_inode_file;
        full_directories = λ t q kind. spells.trees.full_directories t (reached_back t q) (sym (spells.kind t (in_inodes t (reached_back t q))) ∙ kind);
        inode_blocks = rw inodes wf.inode_blocks;
        some_inodes = rw inodes wf.some_inodes;
        inos = λ u x l q n. rw inodes (wf.inos u x l (reached_back u q) (names_back u x l (reached_back u q) n));
        not_root = λ u x l q n. wf.not_root u x l (reached_back u q) (names_back u x l (reached_back u q) n);
        named_once = λ u x v y l q p n m kind. wf.named_once u x v y l (reached_back u q) (reached_back v p) (names_back u x l (reached_back u q) n) (names_back v y l (reached_back v p) m)
            (sym (spells.kind l (in_inodes l (reached_back l (named x q n)))) ∙ kind);
        kinds = λ u q. rw (spells.kind (suc u) (in_inodes (suc u) (reached_back (suc u) q))) (wf.kinds u (reached_back (suc u) q));
        root_kind = spells.kind 1 (in_inodes 1 root_directory) ∙ wf.root_kind;
        directory_sizes = λ u q kind.
            rw (spells.size u (in_inodes u (reached_back u q))) (wf.directory_sizes u (reached_back u q) (sym (spells.kind u (in_inodes u (reached_back u q))) ∙ kind));
        names = λ u x l q n. name_form u x l (reached_back u q) (names_back u x l (reached_back u q) n) (here_or u x);
        names_once = λ u x y l m q n o same.
            name_once u x y l m (reached_back u q) (names_back u x l (reached_back u q) n) (names_back u y m (reached_back u q) o) (here_or u x) (here_or u y) same;
      }
    where
      name_form : (u x l : ℕ) → IsReached old u → EntryNames old u x l → ((u ≡ i) × (x ≡ s)) ⊎ ((u ≡ i) → (x ≡ s) → ⊥) → IsName (name_at new u x)
      name_form u x l reached n (inl e) = subst IsName (sym (at_entry u x e.0 e.1)) spells.name
      name_form u x l reached n (inr other) = rw (name_stays u x l reached n other) (wf.names u x l reached n)

      name_once : (u x y l m : ℕ) → IsReached old u → EntryNames old u x l → EntryNames old u y m → ((u ≡ i) × (x ≡ s)) ⊎ ((u ≡ i) → (x ≡ s) → ⊥) → ((u ≡ i) × (y ≡ s)) ⊎ ((u ≡ i) → (y ≡ s) → ⊥) →
          name_at new u x ≡ name_at new u y → x ≡ y
      name_once u x y l m q n o (inl e) (inl f) same = e.1 ∙ sym f.1
      name_once u x y l m q n o (inl e) (inr f) same = absurd (others_differ u y m q o f e.0 (sym same ∙ at_entry u x e.0 e.1))
      name_once u x y l m q n o (inr e) (inl f) same = absurd (others_differ u x l q n e f.0 (same ∙ at_entry u y f.0 f.1))
      name_once u x y l m q n o (inr e) (inr f) same = wf.names_once u x y l m q n o (sym (name_stays u x l q n e) ∙ same ∙ name_stays u y m q o f)

  -- ---- names

  node_stays : (u : ℕ) → IsReached old u → node_of new u ≡ node_of old u
  node_stays u reached =
      node_by_bytes old new u (spells.kind u (in_inodes u reached)) (spells.attributes u (in_inodes u reached))
      (λ kind. spells.size u (in_inodes u reached)) (λ o kind. spells.bytes u o reached kind)

  now_shown : lookup_in new i (name_at new i s) ≡ Some j
  now_shown =
      lookup_in-found new i j (name_at new i s) (record { slot = s; entry = names_stay i s j spells.reached spells.names; spelled = refl }) (λ x l n same. which x l (names_back i x l spells.reached n) (here_or i x) same)
    where
      which : (x l : ℕ) → EntryNames old i x l → ((i ≡ i) × (x ≡ s)) ⊎ ((i ≡ i) → (x ≡ s) → ⊥) → name_at new i x ≡ name_at new i s → x ≡ s
      which x l n (inl e) same = e.1
      which x l n (inr other) same = absurd (others_differ i x l spells.reached n other refl same)

  was_gone : lookup_in new i (name_at old i s) ≡ None
  was_gone = lookup_in-none new i (name_at old i s) (λ l shows. none l shows (names_back i shows.slot l spells.reached shows.entry) (here_or i shows.slot))
    where
      none : (l : ℕ) → (shows : Shows new i (name_at old i s) l) → EntryNames old i shows.slot l → ((i ≡ i) × (shows.slot ≡ s)) ⊎ ((i ≡ i) → (shows.slot ≡ s) → ⊥) → ⊥
      none l shows n (inl e) = spells.changed (sym shows.spelled ∙ at_entry i shows.slot refl e.1)
      none l shows n (inr other) = other refl (wf.names_once i shows.slot s l j spells.reached n spells.names (sym (name_stays i shows.slot l spells.reached n other) ∙ shows.spelled))

  others_same : (u : ℕ) (name : Name) → IsReached old u → ((u ≡ i) → (name ≡ name_at old i s) → ⊥) → ((u ≡ i) → (name ≡ name_at new i s) → ⊥) → lookup_in new u name ≡ lookup_in old u name
  others_same u name reached no_was no_now =
      lookup_kept old new wf u name reached (λ l shows. back l shows (names_back u shows.slot l reached shows.entry) (here_or u shows.slot)) (λ l was. record {
        entry = names_stay u was.slot l reached was.entry;
        name = name_stays u was.slot l reached was.entry (λ a b. no_was a (sym was.spelled ∙ ap₂ (name_at old) a b));
      })
    where
      back : (l : ℕ) → (shows : Shows new u name l) → EntryNames old u shows.slot l →
          ((u ≡ i) × (shows.slot ≡ s)) ⊎ ((u ≡ i) → (shows.slot ≡ s) → ⊥) → IsKeptIn old new u shows.slot l
      back l shows n (inl e) = absurd (no_now e.0 (sym shows.spelled ∙ at_entry u shows.slot e.0 e.1))
      back l shows n (inr other) = record { entry = n; name = sym (name_stays u shows.slot l reached n other) }

  pub respell_moves : MovesName old new i (name_at old i s) i (name_at new i s) j
  respell_moves = record {
    well_formed = wf;
    apart = λ e same. spells.changed same;
    source = entry_found old wf i s j spells.reached spells.names;
    directory = spells.names.directory;
    gone = was_gone;
    target = now_shown;
    alone = λ v name e. absurd (nothing v (lookup_in-shows old i v (name_at new i s) e));
    others = others_same;
    nodes = node_stays;
  }
    where
      nothing : (v : ℕ) → Shows old i (name_at new i s) v → ⊥
      nothing v shows = by_slot (cases_eq shows.slot s)
        where
          by_slot : (shows.slot ≡ s) ⊎ (shows.slot ≡ s → ⊥) → ⊥
          by_slot (inl e) = spells.changed (ap (name_at old i) (sym e) ∙ shows.spelled)
          by_slot (inr other) = spells.new_name shows.slot v shows.entry other shows.spelled
