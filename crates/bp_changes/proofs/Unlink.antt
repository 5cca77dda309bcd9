-- An inode number that becomes 0 takes that name from its directory, and changes nothing else.
use Rattle.std.proofs.Common.{◌≡◌, ◌⊎◌, ℕ, suc, ◌/◌, ◌<◌, [], ◌∷◌, ◌++◌, length, Option, None, Some, inl, inr}
use Rattle.std.proofs.Common.{refl, sym, ◌∙◌, ap, ap₂, subst, subst₂, arith, length-append}
use Rattle.std.specs.Option.{option_map}
use Rattle.std.proofs.lemmas.Bool.{cases_eq}
use Rattle.bp_layout.specs.Words.{Image}
use Rattle.bp_layout.specs.Inode.{kind_of, size_of, inode_count}
use Rattle.bp_layout.specs.Directory.{EntryNames, name_at, ino_at, entry_count, lookup_in}
use Rattle.bp_layout.specs.Paths.{Name, Path}
use Rattle.bp_layout.specs.Reached.{IsReached}
use Rattle.bp_layout.specs.Reached.IsReached.{inode_file, root_directory, named}
use Rattle.bp_layout.specs.Lookup.{lookup_from, lookup, node_of, shown}
use Rattle.bp_layout.specs.WellFormed.{IsWellFormed}
use Rattle.bp_changes.specs.Effects.{CanUnlink, RemovesEntry}
use Rattle.bp_layout.proofs.Reached.{reached-in_file}
use Rattle.bp_layout.proofs.View.{lookup_in-reached, lookup_from-reached}
use Rattle.bp_layout.proofs.LookupLaws.{Shows, lookup_in-none}
use Rattle.bp_layout.proofs.Paths.{lookup_from-append, path_once, same_name}
use Rattle.bp_changes.proofs.Formatted.{stays_formatted}
use Rattle.bp_changes.proofs.SameShown.{IsKeptIn, entry_found, lookup_kept, name_by_words, node_by_bytes}

module _ (old new : Image) (wf : IsWellFormed old) (i s j : ℕ) (can : CanUnlink old i s j) (removes : RemovesEntry old new i s) where
  in_inodes : (t : ℕ) → IsReached old t → t < inode_count old
  in_inodes = reached-in_file old wf

  count_stays : (u : ℕ) → IsReached old u → entry_count new u ≡ entry_count old u
  count_stays u reached = ap (λ n. n / 256) (removes.size u (in_inodes u reached))

  ino_stays : (u r : ℕ) → IsReached old u → kind_of old u ≡ 2 → r < entry_count old u → ((i ≡ u) → (s ≡ r) → ⊥) → ino_at new u r ≡ ino_at old u r
  ino_stays u r reached kind low other = removes.entry u r 0 reached kind low (omega arith) (λ e same. other e (omega (arith, same)))

  pub name_stays : (u r k : ℕ) → IsReached old u → EntryNames old u r k → name_at new u r ≡ name_at old u r
  name_stays u r k reached n =
      name_by_words old new u r (wf.names u r k reached n).short
      (λ f some few. removes.entry u r f reached n.directory n.in_size few (λ e same. omega (arith, same, some, few)))

  -- an entry of the new image is one of the old image, but not the emptied one
  pub record IsKept (u r k : ℕ) : Type 0 where
    pub before : EntryNames old u r k
    pub other : (u ≡ i) → (r ≡ s) → ⊥

  pub names_back : (u r k : ℕ) → IsReached old u → EntryNames new u r k → IsKept u r k
  names_back u r k reached n = record {
    before = record { directory = kind; in_size = low; ino = sym (ino_stays u r reached kind low (λ e f. other (sym e) (sym f))) ∙ n.ino; not_empty = n.not_empty };
    other = other;
  }
    where
      kind : kind_of old u ≡ 2
      kind = sym (removes.kind u (in_inodes u reached)) ∙ n.directory

      low : r < entry_count old u
      low = rw (count_stays u reached) at n.in_size

      other : (u ≡ i) → (r ≡ s) → ⊥
      other e f = n.not_empty (sym n.ino ∙ subst₂ (λ x y. ino_at new x y ≡ 0) (sym e) (sym f) removes.ino)

  pub names_stay : (u r k : ℕ) → IsReached old u → EntryNames old u r k → ((u ≡ i) → (r ≡ s) → ⊥) → EntryNames new u r k
  names_stay u r k reached n other = record {
    directory = removes.kind u (in_inodes u reached) ∙ n.directory;
    in_size = rw (count_stays u reached) n.in_size;
    ino = ino_stays u r reached n.directory n.in_size (λ e f. other (sym e) (sym f)) ∙ n.ino;
    not_empty = n.not_empty;
  }

  pub reached_back : (t : ℕ) → IsReached new t → IsReached old t
  reached_back _ inode_file = inode_file
  reached_back _ root_directory = root_directory
  reached_back _ (named {i = u} {j = k} r from n) = named r (reached_back u from) (names_back u r k (reached_back u from) n).before

  entry_back : (u r k : ℕ) → IsReached new u → EntryNames new u r k → IsReached old u × EntryNames old u r k
  entry_back u r k reached n = (reached_back u reached, (names_back u r k (reached_back u reached) n).before)

  -- where no other entry names it, the inode of the entry is not reached any more
  pub not_reached : ((u r : ℕ) → IsReached old u → EntryNames old u r j → (u ≡ i) × (r ≡ s)) → IsReached new j → ⊥
  not_reached last reached = go j reached refl
    where
      go : (t : ℕ) → IsReached new t → t ≡ j → ⊥
      go _ inode_file e = can.entry.not_empty (sym e)
      go _ root_directory e = wf.not_root i s j can.reached can.entry (sym e)
      go _ (named {i = u} {j = k} r from n) e =
          let kept : IsKept u r k = names_back u r k (reached_back u from) n in
          let same : (u ≡ i) × (r ≡ s) = last u r (reached_back u from) (subst (EntryNames old u r) e kept.before) in
          kept.other same.0 same.1

  -- and all others are
  pub reached_stays : (t : ℕ) → IsReached old t → (t ≡ j → ⊥) → IsReached new t
  reached_stays _ inode_file other = inode_file
  reached_stays _ root_directory other = root_directory
  reached_stays _ (named {i = u} {j = k} r from n) other =
      named r (reached_stays u from (λ e. can.alone r k (subst (λ x. EntryNames old x r k) e n)))
      (names_stay u r k from n (λ e f. other (sym n.ino ∙ subst₂ (λ x y. ino_at old x y ≡ j) (sym e) (sym f) can.entry.ino)))

  pub unlinked_well_formed : IsWellFormed new
  unlinked_well_formed =
      let inodes : size_of new 0 ≡ size_of old 0 = removes.size 0 (in_inodes 0 inode_file) in
      record {
        formatted = stays_formatted old new removes.trees wf.formatted;
        low = λ t r. removes.trees.low t (reached_back t r);
        sound = λ t r. removes.trees.sound t (reached_back t r);
        apart = λ t u b r q one two. removes.trees.apart t u b (reached_back t r) (reached_back u q) one two;
        full_inode_file = removes.trees.full_inode_file;
        full_directories = λ t r kind. removes.trees.full_directories t (reached_back t r) (sym (removes.kind t (in_inodes t (reached_back t r))) ∙ kind);
        inode_blocks = rw inodes wf.inode_blocks;
        some_inodes = rw inodes wf.some_inodes;
        inos = λ u r k q n. let e : IsReached old u × EntryNames old u r k = entry_back u r k q n in rw inodes (wf.inos u r k e.0 e.1);
        not_root = λ u r k q n. let e : IsReached old u × EntryNames old u r k = entry_back u r k q n in wf.not_root u r k e.0 e.1;
        named_once = λ u r v q k from also n m kind.
            let e : IsReached old u × EntryNames old u r k = entry_back u r k from n in
            let f : IsReached old v × EntryNames old v q k = entry_back v q k also m in
            wf.named_once u r v q k e.0 f.0 e.1 f.1 (sym (removes.kind k (in_inodes k (named r e.0 e.1))) ∙ kind);
        kinds = λ u r. rw (removes.kind (suc u) (in_inodes (suc u) (reached_back (suc u) r))) (wf.kinds u (reached_back (suc u) r));
        root_kind = removes.kind 1 (in_inodes 1 root_directory) ∙ wf.root_kind;
        directory_sizes = λ u r kind.
            rw (removes.size u (in_inodes u (reached_back u r))) (wf.directory_sizes u (reached_back u r) (sym (removes.kind u (in_inodes u (reached_back u r))) ∙ kind));
        names = λ u r k q n. let e : IsReached old u × EntryNames old u r k = entry_back u r k q n in rw (name_stays u r k e.0 e.1) (wf.names u r k e.0 e.1);
        names_once = λ u r q k l from n m same.
            let e : IsReached old u × EntryNames old u r k = entry_back u r k from n in
            let f : IsReached old u × EntryNames old u q l = entry_back u q l from m in
            wf.names_once u r q k l e.0 e.1 f.1 (sym (name_stays u r k e.0 e.1) ∙ same ∙ name_stays u q l f.0 f.1);
      }

  name : Name
  name = name_at old i s

  pub lookup_unlinked : lookup_in new i (name_at old i s) ≡ None
  lookup_unlinked = lookup_in-none new i (name_at old i s) (λ k shows.
      let kept : IsKept i shows.slot k = names_back i shows.slot k can.reached shows.entry in
      kept.other refl (wf.names_once i shows.slot s k j can.reached kept.before can.entry (sym (name_stays i shows.slot k can.reached kept.before) ∙ shows.spelled)))

  pub lookup_stays : (u : ℕ) (other : Name) → IsReached old u → ((u ≡ i) → (other ≡ name_at old i s) → ⊥) → lookup_in new u other ≡ lookup_in old u other
  lookup_stays u other reached apart =
      lookup_kept old new wf u other reached (λ k shows. back k shows (names_back u shows.slot k reached shows.entry)) (λ k was. record {
        entry = names_stay u was.slot k reached was.entry (λ f g. apart f (sym was.spelled ∙ ap₂ (name_at old) f g));
        name = name_stays u was.slot k reached was.entry;
      })
    where
      back : (k : ℕ) → (shows : Shows new u other k) → IsKept u shows.slot k → IsKeptIn old new u shows.slot k
      back k shows kept = record { entry = kept.before; name = sym (name_stays u shows.slot k reached kept.before) }

  -- ---- paths

  alone : (other : Name) → lookup_in old j other ≡ None
  alone other = lookup_in-none old j other (λ k shows. can.alone shows.slot k shows.entry)

  there : lookup_in old i (name_at old i s) ≡ Some j
  there = entry_found old wf i s j can.reached can.entry

  -- a path at which the name ended
  pub record EndedThere (u : ℕ) (path : Path) : Type 0 where
    pub above : Path
    pub is : path ≡ above ++ name_at old i s ∷ []
    pub parent : lookup_from old u above ≡ Some i

  ended_or_same : (u : ℕ) (path : Path) → IsReached old u → (lookup_from new u path ≡ lookup_from old u path) ⊎ EndedThere u path
  ended_or_same u [] reached = inl refl
  ended_or_same u (first ∷ path) reached = go (λ v r. ended_or_same v path r) (cases_eq u i) (same_name first (name_at old i s))
    where
      at_name : (path : Path) → u ≡ i → first ≡ name_at old i s → (lookup_from new u (first ∷ path) ≡ lookup_from old u (first ∷ path)) ⊎ EndedThere u (first ∷ path)
      at_name [] e f = inr (record { above = []; is = ap (λ n. n ∷ []) f; parent = ap Some e })
      at_name (second ∷ path) e f =
          let before : lookup_in old u first ≡ Some j = subst₂ (λ x y. lookup_in old x y ≡ Some j) (sym e) (sym f) there in
          let after : lookup_in new u first ≡ None = subst₂ (λ x y. lookup_in new x y ≡ None) (sym e) (sym f) lookup_unlinked in
          inl (rw (before, after, alone second) refl)

      elsewhere : ((v : ℕ) → IsReached old v → (lookup_from new v path ≡ lookup_from old v path) ⊎ EndedThere v path) → lookup_in new u first ≡ lookup_in old u first →
          (found : Option ℕ) → lookup_in old u first ≡ found → (lookup_from new u (first ∷ path) ≡ lookup_from old u (first ∷ path)) ⊎ EndedThere u (first ∷ path)
      elsewhere rest same None f = inl (rw (same, f) refl)
      elsewhere rest same (Some v) f = below (rest v (lookup_in-reached old u v first reached f))
        where
          below : (lookup_from new v path ≡ lookup_from old v path) ⊎ EndedThere v path → (lookup_from new u (first ∷ path) ≡ lookup_from old u (first ∷ path)) ⊎ EndedThere u (first ∷ path)
          below (inl e) = inl (rw (same, f) e)
          below (inr ends) = inr (record { above = first ∷ ends.above; is = ap (λ q. first ∷ q) ends.is; parent = rw f ends.parent })

      go : ((v : ℕ) → IsReached old v → (lookup_from new v path ≡ lookup_from old v path) ⊎ EndedThere v path) → (u ≡ i) ⊎ (u ≡ i → ⊥) → (first ≡ name_at old i s) ⊎ (first ≡ name_at old i s → ⊥) →
          (lookup_from new u (first ∷ path) ≡ lookup_from old u (first ∷ path)) ⊎ EndedThere u (first ∷ path)
      go rest (inl e) (inl f) = at_name path e f
      go rest (inl e) (inr f) = elsewhere rest (lookup_stays u first reached (λ x y. f y)) (lookup_in old u first) refl
      go rest (inr e) f = elsewhere rest (lookup_stays u first reached (λ x y. e x)) (lookup_in old u first) refl

  node_stays : (u : ℕ) → IsReached old u → node_of new u ≡ node_of old u
  node_stays u reached =
      node_by_bytes old new u (removes.kind u (in_inodes u reached)) (removes.attributes u (in_inodes u reached))
      (λ kind. removes.size u (in_inodes u reached)) (λ o kind. removes.bytes u o reached kind)

  module _ (parent : Path) (at : lookup old parent ≡ Some i) where
    pub lookup_elsewhere : (path : Path) → (path ≡ parent ++ name_at old i s ∷ [] → ⊥) → lookup new path ≡ lookup old path
    lookup_elsewhere path other = same (ended_or_same 1 path root_directory)
      where
        same : (lookup new path ≡ lookup old path) ⊎ EndedThere 1 path → lookup new path ≡ lookup old path
        same (inl e) = e
        same (inr ends) = absurd (other (ends.is ∙ ap (λ p. p ++ name_at old i s ∷ []) (path_once old wf ends.above parent i ends.parent at can.entry.directory)))

    pub shown_elsewhere : (path : Path) → (path ≡ parent ++ name_at old i s ∷ [] → ⊥) → shown new path ≡ shown old path
    shown_elsewhere path other = rw (lookup_elsewhere path other) (go (lookup old path) refl)
      where
        go : (found : Option ℕ) → lookup old path ≡ found → option_map (node_of new) found ≡ option_map (node_of old) found
        go None e = refl
        go (Some u) e = ap Some (node_stays u (lookup_from-reached old 1 u path root_directory e))

    -- the parent's own path does not end with that name, as the name's inode is not its own ancestor
    pub parent_stays : lookup new parent ≡ Some i
    parent_stays = go (ended_or_same 1 parent root_directory)
      where
        go : (lookup new parent ≡ lookup old parent) ⊎ EndedThere 1 parent → lookup new parent ≡ Some i
        go (inl e) = e ∙ at
        go (inr ends) =
            let same : ends.above ≡ parent = path_once old wf ends.above parent i ends.parent at can.entry.directory in
            absurd (longer parent (name_at old i s) (ends.is ∙ ap (λ p. p ++ name_at old i s ∷ []) same))
          where
            longer : (p : Path) (n : Name) → p ≡ p ++ n ∷ [] → ⊥
            longer p n e = omega (arith, ap length e, length-append p (n ∷ []))

    pub lookup_there : lookup new (parent ++ name_at old i s ∷ []) ≡ None
    lookup_there = lookup_from-append new 1 parent (name_at old i s) ∙ rw parent_stays lookup_unlinked

    pub shown_there : shown new (parent ++ name_at old i s ∷ []) ≡ None
    shown_there = rw lookup_there refl
