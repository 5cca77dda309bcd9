-- An inode number leaves one entry and comes into another: what a rename onto a target, or into another directory, makes of an image.
use Rattle.std.proofs.Common.{◌≡◌, ◌⊎◌, ℕ, suc, ◌/◌, ◌<◌, ◌≤◌, length, None, Some, refl, sym, ◌∙◌, ap, ap₂, subst, subst₂, arith, inl, inr}
use Rattle.bp_limits.specs.CallLimits.{max_name}
use Rattle.bp_layout.specs.Words.{Image}
use Rattle.bp_layout.specs.Inode.{kind_of, size_of, inode_count}
use Rattle.bp_layout.specs.Directory.{EntryNames, name_at, ino_at, entry_count, lookup_in}
use Rattle.bp_layout.specs.Paths.{Name, IsName}
use Rattle.bp_layout.specs.Reached.{IsReached}
use Rattle.bp_layout.specs.Reached.IsReached.{inode_file, root_directory, named}
use Rattle.bp_layout.specs.Lookup.{node_of}
use Rattle.bp_layout.specs.WellFormed.{IsWellFormed}
use Rattle.bp_changes.specs.Effects.{CanMoveEntry, MovesEntry, CarriesEntry, IsNewEntry, IsOldEntry}
use Rattle.bp_layout.proofs.Reached.{reached-in_file}
use Rattle.bp_layout.proofs.LookupLaws.{Shows, lookup_in-shows, lookup_in-found, lookup_in-none}
use Rattle.bp_changes.proofs.MoveName.{MovesName}
use Rattle.bp_changes.proofs.Formatted.{stays_formatted}
use Rattle.bp_changes.proofs.SameShown.{IsKeptIn, entry_found, lookup_kept, name_by_words, node_by_bytes, this_or}

module _ (old new : Image) (wf : IsWellFormed old) (i s k r j : ℕ) (can : CanMoveEntry old i s k r j) (moves : MovesEntry old new i s k r j) where
  in_inodes : (t : ℕ) → IsReached old t → t < inode_count old
  in_inodes = reached-in_file old wf

  j_reached : IsReached old j
  j_reached = named s can.reached can.entry

  count_stays : (u : ℕ) → IsReached old u → entry_count new u ≡ entry_count old u
  count_stays u reached = ap (λ n. n / 256) (moves.size u (in_inodes u reached))

  ino_stays : (u x : ℕ) → IsReached old u → kind_of old u ≡ 2 → x < entry_count old u → ((u ≡ i) → (x ≡ s) → ⊥) → ((u ≡ k) → (x ≡ r) → ⊥) → ino_at new u x ≡ ino_at old u x
  ino_stays u x reached kind low one two =
      moves.entry u x 0 reached kind low (omega arith) (λ e same. one (sym e) (omega (arith, same))) (λ e same. two (sym e) (omega (arith, same)))

  name_stays : (u x : ℕ) → IsReached old u → kind_of old u ≡ 2 → x < entry_count old u → length (name_at old u x) ≤ max_name → name_at new u x ≡ name_at old u x
  name_stays u x reached kind low few =
      name_by_words old new u x few
      (λ f some small. moves.entry u x f reached kind low small (λ e same. omega (arith, same, some, small)) (λ e same. omega (arith, same, some, small)))

  pub name_of_old : (u x l : ℕ) → IsReached old u → EntryNames old u x l → name_at new u x ≡ name_at old u x
  name_of_old u x l reached n = name_stays u x reached n.directory n.in_size (wf.names u x l reached n).short

  pub name_of_target : name_at new k r ≡ name_at old k r
  name_of_target = name_stays k r can.target can.directory can.in_size can.name.short

  -- an entry of the new image: the target, or one of the old image but neither source nor target
  pub data Entry (u x l : ℕ) : Type 0 where
    is_target : u ≡ k → x ≡ r → l ≡ j → Entry u x l
    is_old : EntryNames old u x l → ((u ≡ i) → (x ≡ s) → ⊥) → ((u ≡ k) → (x ≡ r) → ⊥) → Entry u x l

  pub entry_of : (u x l : ℕ) → IsReached old u → EntryNames new u x l → Entry u x l
  entry_of u x l reached n = go (this_or u x k r)
    where
      kind : kind_of old u ≡ 2
      kind = sym (moves.kind u (in_inodes u reached)) ∙ n.directory

      low : x < entry_count old u
      low = rw (count_stays u reached) at n.in_size

      not_source : (u ≡ i) → (x ≡ s) → ⊥
      not_source e f = n.not_empty (sym n.ino ∙ subst₂ (λ a b. ino_at new a b ≡ 0) (sym e) (sym f) moves.emptied)

      other : ((u ≡ k) → (x ≡ r) → ⊥) → Entry u x l
      other not_target =
          is_old (record { directory = kind; in_size = low; ino = sym (ino_stays u x reached kind low not_source not_target) ∙ n.ino; not_empty = n.not_empty }) not_source not_target

      go : ((u ≡ k) × (x ≡ r)) ⊎ ((u ≡ k) → (x ≡ r) → ⊥) → Entry u x l
      go (inl at) = is_target at.0 at.1 (sym n.ino ∙ ap₂ (ino_at new) at.0 at.1 ∙ moves.entered)
      go (inr apart) = other apart

  pub names_stay : (u x l : ℕ) → IsReached old u → EntryNames old u x l → ((u ≡ i) → (x ≡ s) → ⊥) → ((u ≡ k) → (x ≡ r) → ⊥) → EntryNames new u x l
  names_stay u x l reached n one two = record {
    directory = moves.kind u (in_inodes u reached) ∙ n.directory;
    in_size = rw (count_stays u reached) n.in_size;
    ino = ino_stays u x reached n.directory n.in_size one two ∙ n.ino;
    not_empty = n.not_empty;
  }

  pub new_entry : EntryNames new k r j
  new_entry = record {
    directory = moves.kind k (in_inodes k can.target) ∙ can.directory;
    in_size = rw (count_stays k can.target) can.in_size;
    ino = moves.entered;
    not_empty = can.entry.not_empty;
  }

  pub reached_back : (t : ℕ) → IsReached new t → IsReached old t
  reached_back _ inode_file = inode_file
  reached_back _ root_directory = root_directory
  reached_back _ (named {i = u} {j = l} x from n) = go (reached_back u from) (entry_of u x l (reached_back u from) n)
    where
      go : IsReached old u → Entry u x l → IsReached old l
      go reached (is_target e f g) = subst (IsReached old) (sym g) j_reached
      go reached (is_old before one two) = named x reached before

  pub moved_well_formed : IsWellFormed new
  moved_well_formed =
      let inodes : size_of new 0 ≡ size_of old 0 = moves.size 0 (in_inodes 0 inode_file) in
      record {
        formatted = stays_formatted old new moves.trees wf.formatted;
        low = λ t q. moves.trees.low t (reached_back t q);
        sound = λ t q. moves.trees.sound t (reached_back t q);
        apart = λ t u b q p one two. moves.trees.apart t u b (reached_back t q) (reached_back u p) one two;
        full_inode_file = moves.trees.full_inode_file;
        full_directories = λ t q kind. moves.trees.full_directories t (reached_back t q) (sym (moves.kind t (in_inodes t (reached_back t q))) ∙ kind);
        inode_blocks = rw inodes wf.inode_blocks;
        some_inodes = rw inodes wf.some_inodes;
        inos = λ u x l q n. rw inodes (in_file u x l (reached_back u q) (entry_of u x l (reached_back u q) n));
        not_root = λ u x l q n. not_root u x l (reached_back u q) (entry_of u x l (reached_back u q) n);
        named_once = λ u x v y l q p n m kind. once u x v y l (reached_back u q) (reached_back v p) (entry_of u x l (reached_back u q) n) (entry_of v y l (reached_back v p) m)
            (sym (moves.kind l (in_inodes l (reached_back l (named x q n)))) ∙ kind);
        kinds = λ u q. rw (moves.kind (suc u) (in_inodes (suc u) (reached_back (suc u) q))) (wf.kinds u (reached_back (suc u) q));
        root_kind = moves.kind 1 (in_inodes 1 root_directory) ∙ wf.root_kind;
        directory_sizes = λ u q kind.
            rw (moves.size u (in_inodes u (reached_back u q))) (wf.directory_sizes u (reached_back u q) (sym (moves.kind u (in_inodes u (reached_back u q))) ∙ kind));
        names = λ u x l q n. name_form u x l (reached_back u q) (entry_of u x l (reached_back u q) n);
        names_once = λ u x y l m q n o same. name_once u x y l m (reached_back u q) (entry_of u x l (reached_back u q) n) (entry_of u y m (reached_back u q) o) same;
      }
    where
      in_file : (u x l : ℕ) → IsReached old u → Entry u x l → l < inode_count old
      in_file u x l reached (is_target e f g) = rw g (in_inodes j j_reached)
      in_file u x l reached (is_old n one two) = wf.inos u x l reached n

      not_root : (u x l : ℕ) → IsReached old u → Entry u x l → l ≡ 1 → ⊥
      not_root u x l reached (is_target e f g) h = wf.not_root i s j can.reached can.entry (sym g ∙ h)
      not_root u x l reached (is_old n one two) h = wf.not_root u x l reached n h

      source_is : (u x l : ℕ) → IsReached old u → EntryNames old u x l → l ≡ j → kind_of old l ≡ 2 → (u ≡ i) × (x ≡ s)
      source_is u x l reached n e kind = wf.named_once u x i s j reached can.reached (subst (EntryNames old u x) e n) can.entry (subst (λ a. kind_of old a ≡ 2) e kind)

      once : (u x v y l : ℕ) → IsReached old u → IsReached old v → Entry u x l → Entry v y l → kind_of old l ≡ 2 → (u ≡ v) × (x ≡ y)
      once u x v y l q p (is_target a b c) (is_target d e f) kind = (a ∙ sym d, b ∙ sym e)
      once u x v y l q p (is_target a b c) (is_old n one two) kind = let at : (v ≡ i) × (y ≡ s) = source_is v y l p n c kind in absurd (one at.0 at.1)
      once u x v y l q p (is_old n one two) (is_target d e f) kind = let at : (u ≡ i) × (x ≡ s) = source_is u x l q n f kind in absurd (one at.0 at.1)
      once u x v y l q p (is_old n one two) (is_old m three four) kind = wf.named_once u x v y l q p n m kind

      name_form : (u x l : ℕ) → IsReached old u → Entry u x l → IsName (name_at new u x)
      name_form u x l reached (is_target e f g) = subst₂ (λ a b. IsName (name_at new a b)) (sym e) (sym f) (rw name_of_target can.name)
      name_form u x l reached (is_old n one two) = rw (name_of_old u x l reached n) (wf.names u x l reached n)

      at_target : (u x : ℕ) → u ≡ k → x ≡ r → name_at new u x ≡ name_at old k r
      at_target u x e f = subst₂ (λ a b. name_at new a b ≡ name_at old k r) (sym e) (sym f) name_of_target

      clash : (u y m : ℕ) → u ≡ k → EntryNames old u y m → name_at old u y ≡ name_at old k r → y ≡ r
      clash u y m e n same = can.new_name y m (subst (λ a. EntryNames old a y m) e n) (subst (λ a. name_at old a y ≡ name_at old k r) e same)

      name_once : (u x y l m : ℕ) → IsReached old u → Entry u x l → Entry u y m → name_at new u x ≡ name_at new u y → x ≡ y
      name_once u x y l m q (is_target a b c) (is_target d e f) same = b ∙ sym e
      name_once u x y l m q (is_target a b c) (is_old n one two) same = b ∙ sym (clash u y m a n (sym (name_of_old u y m q n) ∙ sym same ∙ at_target u x a b))
      name_once u x y l m q (is_old n one two) (is_target d e f) same = clash u x l d n (sym (name_of_old u x l q n) ∙ same ∙ at_target u y d e) ∙ sym e
      name_once u x y l m q (is_old n one two) (is_old o three four) same = wf.names_once u x y l m q n o (sym (name_of_old u x l q n) ∙ same ∙ name_of_old u y m q o)

  -- ---- names

  pub lookup_target : lookup_in new k (name_at old k r) ≡ Some j
  lookup_target =
      lookup_in-found new k j (name_at old k r) (record { slot = r; entry = new_entry; spelled = name_of_target }) (λ x l n same. which x l (entry_of k x l can.target n) same)
    where
      which : (x l : ℕ) → Entry k x l → name_at new k x ≡ name_at old k r → x ≡ r
      which x l (is_target e f g) same = f
      which x l (is_old n one two) same = can.new_name x l n (sym (name_of_old k x l can.target n) ∙ same)

  pub lookup_other : (u : ℕ) (name : Name) → IsReached old u → ((u ≡ i) → (name ≡ name_at old i s) → ⊥) → ((u ≡ k) → (name ≡ name_at old k r) → ⊥) → lookup_in new u name ≡ lookup_in old u name
  lookup_other u name reached no_source no_target =
      lookup_kept old new wf u name reached (λ l shows. back l shows (entry_of u shows.slot l reached shows.entry)) (λ l was. record {
        entry = names_stay u was.slot l reached was.entry
            (λ a b. no_source a (sym was.spelled ∙ ap₂ (name_at old) a b)) (λ a b. no_target a (sym was.spelled ∙ ap₂ (name_at old) a b));
        name = name_of_old u was.slot l reached was.entry;
      })
    where
      back : (l : ℕ) → (shows : Shows new u name l) → Entry u shows.slot l → IsKeptIn old new u shows.slot l
      back l shows (is_target e f g) = absurd (no_target e (sym shows.spelled ∙ ap₂ (name_at new) e f ∙ name_of_target))
      back l shows (is_old n one two) = record { entry = n; name = sym (name_of_old u shows.slot l reached n) }

  -- the source's name is gone, but where it is the target's
  pub lookup_source : ((i ≡ k) → (name_at old i s ≡ name_at old k r) → ⊥) → lookup_in new i (name_at old i s) ≡ None
  lookup_source other = lookup_in-none new i (name_at old i s) (λ l shows. none l shows (entry_of i shows.slot l can.reached shows.entry))
    where
      none : (l : ℕ) → (shows : Shows new i (name_at old i s) l) → Entry i shows.slot l → ⊥
      none l shows (is_target e f g) = other e (sym shows.spelled ∙ subst₂ (λ a b. name_at new a b ≡ name_at old k r) (sym e) (sym f) name_of_target)
      none l shows (is_old n one two) =
          one refl (wf.names_once i shows.slot s l j can.reached n can.entry (sym (name_of_old i shows.slot l can.reached n) ∙ shows.spelled))

  names_differ : (i ≡ k) → (name_at old i s ≡ name_at old k r) → ⊥
  names_differ e same =
      can.apart e (can.new_name s j (subst (λ a. EntryNames old a s j) e can.entry) (subst (λ a. name_at old a s ≡ name_at old k r) e same))

  node_stays : (u : ℕ) → IsReached old u → node_of new u ≡ node_of old u
  node_stays u reached =
      node_by_bytes old new u (moves.kind u (in_inodes u reached)) (moves.attributes u (in_inodes u reached))
      (λ kind. moves.size u (in_inodes u reached)) (λ o kind. moves.bytes u o reached kind)

  pub entry_moves : MovesName old new i (name_at old i s) k (name_at old k r) j
  entry_moves = record {
    well_formed = wf;
    apart = names_differ;
    source = entry_found old wf i s j can.reached can.entry;
    directory = can.directory;
    gone = lookup_source names_differ;
    target = lookup_target;
    alone = nothing;
    others = lookup_other;
    nodes = node_stays;
  }
    where
      nothing : (v : ℕ) (name : Name) → lookup_in old k (name_at old k r) ≡ Some v → lookup_in old v name ≡ None
      nothing v name e =
          let shows : Shows old k (name_at old k r) v = lookup_in-shows old k v (name_at old k r) e in
          let slot : shows.slot ≡ r = can.new_name shows.slot v shows.entry shows.spelled in
          let ino : ino_at old k r ≡ v = ap (ino_at old k) (sym slot) ∙ shows.entry.ino in
          lookup_in-none old v name (λ l below.
          can.alone below.slot l (λ empty. shows.entry.not_empty (sym ino ∙ empty)) (subst (λ a. EntryNames old a below.slot l) (sym ino) below.entry))

  -- where no name was in the target, it is one that its directory had not
  pub moves_carry : ino_at old k r ≡ 0 → CarriesEntry old new i s k r j
  moves_carry empty = record {
    reached = can.reached;
    names = can.entry;
    target = can.target;
    trees = moves.trees;
    kind = λ u reached. moves.kind u (in_inodes u reached);
    attributes = λ u reached. moves.attributes u (in_inodes u reached);
    size = λ u reached other. moves.size u (in_inodes u reached);
    directory_size = rw (moves.size k (in_inodes k can.target)) (wf.directory_sizes k can.target can.directory);
    slots = λ x low. inl (rw (count_stays k can.target) at low);
    emptied = moves.emptied;
    entry = new_entry;
    back = λ u x l reached n. back u x l (entry_of u x l reached n);
    stay = λ u x l reached n other. names_stay u x l reached n other (not_target u x l n);
    same_names = λ u x l reached n other. name_of_old u x l reached n;
    name = rw name_of_target can.name;
    new_name = λ x l n same. not_target k x l n refl (can.new_name x l n (same ∙ name_of_target));
    bytes = moves.bytes;
  }
    where
      not_target : (u x l : ℕ) → EntryNames old u x l → (u ≡ k) → (x ≡ r) → ⊥
      not_target u x l n e f = n.not_empty (sym n.ino ∙ subst₂ (λ a b. ino_at old a b ≡ 0) (sym e) (sym f) empty)

      back : (u x l : ℕ) → Entry u x l → IsNewEntry k r j u x l ⊎ IsOldEntry old i s u x l
      back u x l (is_target e f g) = inl (record { directory = e; slot = f; inode = g })
      back u x l (is_old n one two) = inr (record { before = n; other = one })
