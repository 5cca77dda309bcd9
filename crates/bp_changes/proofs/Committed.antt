-- What a commit makes of an image: a name moved, a name spelled again, the bytes of one file or of several. It may give any values to words that nobody reads.
use Rattle.std.proofs.Common.{◌≡◌, ◌≢◌, ◌⊎◌, ℕ, zero, suc, ◌+◌, ◌*◌, ◌/◌, ◌%◌, ◌<◌, ◌≤◌, List, refl, sym, ◌∙◌, ap, ap₂, subst, arith, lt_of_lt_of_le, inl, inr}
use Rattle.std.proofs.lemmas.Bool.{cases_eq}
use Rattle.bp_limits.proofs.Versions.{fields_most}
use Rattle.bp_layout.specs.Formatted.{version_of}
use Rattle.bp_layout.specs.Words.{Image, byte_of}
use Rattle.bp_layout.specs.Tree.{content_word, byte}
use Rattle.bp_layout.specs.Inode.{attributes_of, inode_word, kind_of, root_of, size_of, inode_count}
use Rattle.bp_layout.specs.Directory.{EntryNames, word_in, name_at, ino_at, entry_word, entry_count}
use Rattle.bp_layout.specs.Paths.{IsName}
use Rattle.bp_layout.specs.Reached.{IsReached}
use Rattle.bp_layout.specs.Reached.IsReached.{inode_file}
use Rattle.bp_layout.specs.WellFormed.{IsWellFormed}
use Rattle.bp_layout.proofs.AttributeLaws.{attributes_alike}
use Rattle.bp_layout.proofs.Reached.{reached-in_file}
use Rattle.bp_changes.specs.Commits.{Changes, changed_word, CommitsOnly}
use Rattle.bp_changes.specs.Effects.{CanMoveEntry, MovesEntry, CarriesEntry, IsNewEntry, IsOldEntry, RespellsEntry, ChangesFile}
use Rattle.bp_changes.specs.Overwrites.{OverwritesFiles, Patch, patched}
use Rattle.bp_changes.specs.SameContent.{IsReadByWords}
use Rattle.bp_changes.proofs.Formatted.{version_stays}
use Rattle.bp_changes.proofs.SameShown.{name_by_words, this_or}

no_directory : (image : Image) (t : ℕ) → kind_of image t ≡ 2 → t ≢ 0
no_directory image t two e = let zero_kind : kind_of image 0 ≡ 2 = subst (λ x. kind_of image x ≡ 2) e two in omega (arith, zero_kind)

module _ (old new : Image) (changes : Changes) (Changed : ℕ → ℕ → Type 0) (only : CommitsOnly old new changes Changed) where
  -- ---- words

  pub word_committed : (t k : ℕ) → IsReached old t → IsReadByWords old t → 8 * k + 8 ≤ size_of old t → (t ≡ 0 → k % 8 ≢ 1) →
      content_word new (root_of new t) k ≡ changed_word changes old t k
  word_committed t k reached by_words below no_root = only.commits.words t k reached by_words (omega (arith, below)) no_root

  pub word-kept : (t k : ℕ) → IsReached old t → IsReadByWords old t → 8 * k + 8 ≤ size_of old t → (t ≡ 0 → k % 8 ≢ 1) → (Changed t k → ⊥) →
      content_word new (root_of new t) k ≡ content_word old (root_of old t) k
  word-kept t k reached by_words below no_root still = word_committed t k reached by_words below no_root ∙ only.kept t k reached (omega (arith, below)) still

  pub byte-kept : (t o : ℕ) → IsReached old t → kind_of old t ≡ 1 → o < size_of old t → (Changed t (o / 8) → ⊥) →
      byte new (root_of new t) o ≡ byte old (root_of old t) o
  byte-kept t o reached kind low still =
      only.commits.bytes t o reached kind (omega (arith, low)) ∙ ap (λ w. byte_of w (o % 8)) (only.kept t (o / 8) reached (omega (arith, low)) still)

  pub inode_word-kept : (i f : ℕ) → suc i < inode_count old → f < 8 → f ≢ 1 → (Changed 0 (8 * suc i + f) → ⊥) → inode_word new (suc i) f ≡ inode_word old (suc i) f
  inode_word-kept i f low few no_root still =
      word-kept 0 (8 * suc i + f) inode_file (inl refl) (omega (arith, low, few)) (λ e same. no_root (omega (arith, same, few))) still

  pub kind-kept : (t : ℕ) → t < inode_count old → (Changed 0 (8 * t + 0) → ⊥) → kind_of new t ≡ kind_of old t
  kind-kept zero low still = refl
  kind-kept (suc i) low still = inode_word-kept i 0 low (omega arith) (λ e. omega (arith, e)) still

  pub attributes-kept : (t : ℕ) → t < inode_count old → ((f : ℕ) → 3 ≤ f → f < 8 → Changed 0 (8 * t + f) → ⊥) → attributes_of new t ≡ attributes_of old t
  attributes-kept t low still =
      attributes_alike old new t (version_stays old new only.commits.trees.has_magic) (λ i f e least most.
      let few : f < 8 = lt_of_lt_of_le most (fields_most (version_of old)) in
      inode_word-kept i f (subst (λ u. u < inode_count old) e low) few (λ one. omega (arith, one, least)) (subst (λ u. Changed 0 (8 * u + f) → ⊥) e (still f least few)))

  pub size-kept : (t : ℕ) → t < inode_count old → (Changed 0 (8 * t + 2) → ⊥) → size_of new t ≡ size_of old t
  size-kept zero low still = only.commits.inode_bytes
  size-kept (suc i) low still = inode_word-kept i 2 low (omega arith) (λ e. omega (arith, e)) still

-- ---- a name moved

pub commit_moves : (old new : Image) (changes : Changes) (i s k r j : ℕ) → CanMoveEntry old i s k r j →
    CommitsOnly old new changes (λ t l. ((t ≡ i) × (l ≡ 32 * s + 0)) ⊎ ((t ≡ k) × (l ≡ 32 * r + 0))) →
    changed_word changes old i (32 * s + 0) ≡ 0 → changed_word changes old k (32 * r + 0) ≡ j → MovesEntry old new i s k r j
commit_moves old new changes i s k r j can only emptied entered = record {
  trees = only.commits.trees;
  kind = λ u low. kind-kept old new changes _ only u low no_inode;
  attributes = λ u low. attributes-kept old new changes _ only u low (λ f least few. no_inode);
  size = λ u low. size-kept old new changes _ only u low no_inode;
  emptied = word_committed old new changes _ only i (32 * s + 0) can.reached (inr can.entry.directory) (omega (arith, can.entry.in_size)) (λ e. absurd (no_directory old i can.entry.directory e)) ∙ emptied;
  entered = word_committed old new changes _ only k (32 * r + 0) can.target (inr can.directory) (omega (arith, can.in_size)) (λ e. absurd (no_directory old k can.directory e)) ∙ entered;
  entry = λ u x f also kind low few one two.
      word-kept old new changes _ only u (32 * x + f) also (inr kind) (omega (arith, low, few)) (λ e. absurd (no_directory old u kind e))
      (λ here. elim here [ inl source ↦ one (sym source.0) (sym source.1) | inr target ↦ two (sym target.0) (sym target.1) ]);
  bytes = λ u o also kind low.
      byte-kept old new changes _ only u o also kind low
      (λ here. elim here [
        | inl source ↦ no_file u i kind can.entry.directory source.0
        | inr target ↦ no_file u k kind can.directory target.0
      ]);
}
  where
    no_inode : {l : ℕ} → ((0 ≡ i) × (l ≡ 32 * s + 0)) ⊎ ((0 ≡ k) × (l ≡ 32 * r + 0)) → ⊥
    no_inode (inl source) = no_directory old i can.entry.directory (sym source.0)
    no_inode (inr target) = no_directory old k can.directory (sym target.0)

    no_file : (u d : ℕ) → kind_of old u ≡ 1 → kind_of old d ≡ 2 → u ≡ d → ⊥
    no_file u d kind directory e = let two : kind_of old u ≡ 2 = subst (λ x. kind_of old x ≡ 2) (sym e) directory in omega (arith, kind, two)

-- ---- a name carried after the last entry of a directory

-- Behind the last entry of directory k stands one for j, with a name that no entry has.
module _ (old new : Image) (changes : Changes) (i s k j : ℕ) (wf : IsWellFormed old) (reached : IsReached old i) (names : EntryNames old i s j)
    (target : IsReached old k) (directory : kind_of old k ≡ 2) (ready : ino_at old k (entry_count old k) ≡ j) (name : IsName (name_at old k (entry_count old k)))
    (new_name : (x l : ℕ) → EntryNames old k x l → name_at old k x ≢ name_at old k (entry_count old k))
    (only : CommitsOnly old new changes (λ t l. ((t ≡ i) × (l ≡ 32 * s + 0)) ⊎ ((t ≡ 0) × (l ≡ 8 * k + 2))))
    (emptied : changed_word changes old i (32 * s + 0) ≡ 0) (grown : changed_word changes old 0 (8 * k + 2) ≡ size_of old k + 256)
    (beyond : (f : ℕ) → f < 32 → changed_word changes old k (32 * entry_count old k + f) ≡ word_in old (root_of old k) (entry_count old k) f) where
  in_inodes : (t : ℕ) → IsReached old t → t < inode_count old
  in_inodes = reached-in_file old wf

  kinds_stay : (u : ℕ) → IsReached old u → kind_of new u ≡ kind_of old u
  kinds_stay u also = kind-kept old new changes _ only u (in_inodes u also) (λ here. elim here [
    | inl source ↦ no_directory old i names.directory (sym source.0)
    | inr size ↦ omega (arith, size.1)
  ])

  attributes_stay : (u : ℕ) → IsReached old u → attributes_of new u ≡ attributes_of old u
  attributes_stay u also = attributes-kept old new changes _ only u (in_inodes u also) (λ f least few here. elim here [
    | inl source ↦ no_directory old i names.directory (sym source.0)
    | inr size ↦ omega (arith, size.1, least, few)
  ])

  sizes_stay : (u : ℕ) → IsReached old u → u ≢ k → size_of new u ≡ size_of old u
  sizes_stay u also other = size-kept old new changes _ only u (in_inodes u also) (λ here. elim here [
    | inl source ↦ no_directory old i names.directory (sym source.0)
    | inr size ↦ other (omega (arith, size.1))
  ])

  size_here : size_of new k ≡ size_of old k + 256
  size_here = go k refl
    where
      go : (u : ℕ) → k ≡ u → size_of new k ≡ size_of old k + 256
      go zero e = absurd (no_directory old k directory e)
      go (suc n) e =
          let low : suc n < inode_count old = rw e at (in_inodes k target) in
          let stored : size_of new (suc n) ≡ changed_word changes old 0 (8 * suc n + 2) =
          word_committed old new changes _ only 0 (8 * suc n + 2) inode_file (inl refl) (omega (arith, low)) (λ z f. omega (arith, f)) in
          subst (λ x. size_of new x ≡ changed_word changes old 0 (8 * x + 2)) (sym e) stored ∙ grown

  whole_entries : size_of old k % 256 ≡ 0
  whole_entries = wf.directory_sizes k target directory

  count_here : entry_count new k ≡ suc (entry_count old k)
  count_here = omega (arith, size_here, whole_entries)

  words_stay : (u x f : ℕ) → IsReached old u → kind_of old u ≡ 2 → x < entry_count old u → f < 32 → ((u ≡ i) → (x ≡ s) → f ≡ 0 → ⊥) → entry_word new u x f ≡ entry_word old u x f
  words_stay u x f also kind low few other =
      word-kept old new changes _ only u (32 * x + f) also (inr kind) (omega (arith, low, few)) (λ e. absurd (no_directory old u kind e)) (λ here. elim here [
        | inl source ↦ other source.0 (omega (arith, source.1, few)) (omega (arith, source.1, few))
        | inr size ↦ no_directory old u kind size.0
      ])

  words_here : (f : ℕ) → f < 32 → entry_word new k (entry_count old k) f ≡ entry_word old k (entry_count old k) f
  words_here f few =
      only.commits.words k (32 * entry_count old k + f) target (inr directory)
      (let room : 8 * (32 * entry_count old k + f) + 8 ≤ size_of new k = omega (arith, few, size_here, whole_entries) in omega (arith, room)) (λ e. absurd (no_directory old k directory e))
      ∙ beyond f few

  name_here : name_at new k (entry_count old k) ≡ name_at old k (entry_count old k)
  name_here = name_by_words old new k (entry_count old k) name.short (λ f some few. words_here f few)

  name_of_old : (u x l : ℕ) → IsReached old u → EntryNames old u x l → name_at new u x ≡ name_at old u x
  name_of_old u x l also n =
      name_by_words old new u x (wf.names u x l also n).short
      (λ f some few. words_stay u x f also n.directory n.in_size few (λ a b c. omega (arith, some, c)))

  new_entry : EntryNames new k (entry_count old k) j
  new_entry = record {
    directory = kinds_stay k target ∙ directory;
    in_size = omega (arith, count_here);
    ino = words_here 0 (omega arith) ∙ ready;
    not_empty = names.not_empty;
  }

  source_empty : ino_at new i s ≡ 0
  source_empty =
      word_committed old new changes _ only i (32 * s + 0) reached (inr names.directory) (omega (arith, names.in_size)) (λ e. absurd (no_directory old i names.directory e)) ∙ emptied

  in_old : (u x : ℕ) → IsReached old u → kind_of old u ≡ 2 → x < entry_count new u → ((u ≡ k) → (x ≡ entry_count old k) → ⊥) → x < entry_count old u
  in_old u x also kind low other = go (cases_eq u k)
    where
      go : (u ≡ k) ⊎ (u ≡ k → ⊥) → x < entry_count old u
      go (inl e) =
          let here : x < entry_count new k = rw (← e) low in
          let apart : x ≢ entry_count old k = other e in
          let below : x < entry_count old k = omega (arith, here, count_here, apart) in
          rw e below
      go (inr apart) = rw (sizes_stay u also apart) at low

  entry_cases : (u x l : ℕ) → IsReached old u → EntryNames new u x l → IsNewEntry k (entry_count old k) j u x l ⊎ IsOldEntry old i s u x l
  entry_cases u x l also n = go (this_or u x k (entry_count old k))
    where
      kind : kind_of old u ≡ 2
      kind = sym (kinds_stay u also) ∙ n.directory

      not_source : (u ≡ i) → (x ≡ s) → ⊥
      not_source e f = n.not_empty (sym n.ino ∙ ap₂ (λ a b. ino_at new a b) e f ∙ source_empty)

      before : ((u ≡ k) → (x ≡ entry_count old k) → ⊥) → IsOldEntry old i s u x l
      before other =
          let low : x < entry_count old u = in_old u x also kind n.in_size other in
          record {
            before = record { directory = kind; in_size = low; ino = sym (words_stay u x 0 also kind low (omega arith) (λ a b c. not_source a b)) ∙ n.ino; not_empty = n.not_empty };
            other = not_source;
          }

      go : ((u ≡ k) × (x ≡ entry_count old k)) ⊎ ((u ≡ k) → (x ≡ entry_count old k) → ⊥) →
          IsNewEntry k (entry_count old k) j u x l ⊎ IsOldEntry old i s u x l
      go (inl at) = inl (record { directory = at.0; slot = at.1; inode = sym n.ino ∙ ap₂ (ino_at new) at.0 at.1 ∙ new_entry.ino })
      go (inr apart) = inr (before apart)

  names_stay : (u x l : ℕ) → IsReached old u → EntryNames old u x l → ((u ≡ i) → (x ≡ s) → ⊥) → EntryNames new u x l
  names_stay u x l also n other = record {
    directory = kinds_stay u also ∙ n.directory;
    in_size = go (cases_eq u k);
    ino = words_stay u x 0 also n.directory n.in_size (omega arith) (λ a b c. other a b) ∙ n.ino;
    not_empty = n.not_empty;
  }
    where
      go : (u ≡ k) ⊎ (u ≡ k → ⊥) → x < entry_count new u
      go (inl e) =
          let low : x < entry_count old k = rw (← e) n.in_size in
          let more : x < entry_count new k = omega (arith, low, count_here) in
          rw e more
      go (inr apart) = rw (sizes_stay u also apart) n.in_size

  slots_grow : (x : ℕ) → x < entry_count new k → (x ≡ entry_count old k) ⊎ (x ≡ entry_count old k → ⊥) → (x < entry_count old k) ⊎ (x ≡ entry_count old k)
  slots_grow x low (inl e) = inr e
  slots_grow x low (inr other) = inl (omega (arith, low, count_here, other))

  pub commit_carries : CarriesEntry old new i s k (entry_count old k) j
  commit_carries = record {
    reached = reached;
    names = names;
    target = target;
    trees = only.commits.trees;
    kind = kinds_stay;
    attributes = attributes_stay;
    size = sizes_stay;
    directory_size = omega (arith, size_here, whole_entries);
    slots = λ x low. slots_grow x low (cases_eq x (entry_count old k));
    emptied = source_empty;
    entry = new_entry;
    back = entry_cases;
    stay = names_stay;
    same_names = λ u x l also n other. name_of_old u x l also n;
    name = rw name_here name;
    new_name = λ x l n. rw name_here (new_name x l n);
    bytes = λ u o also kind low.
        byte-kept old new changes _ only u o also kind low (λ here. elim here [
          | inl source ↦ (let two : kind_of old u ≡ 2 = subst (λ x. kind_of old x ≡ 2) (sym source.0) names.directory in omega (arith, kind, two))
          | inr size ↦ (let none : kind_of old 0 ≡ 1 = subst (λ x. kind_of old x ≡ 1) size.0 kind in omega (arith, none))
        ]);
  }

-- ---- a name spelled again

pub commit_respells : (old new : Image) (changes : Changes) (i s j : ℕ) → IsWellFormed old → IsReached old i → EntryNames old i s j →
    CommitsOnly old new changes (λ t l. (t ≡ i) × (32 * s + 1 ≤ l) × (l < 32 * s + 32)) →
    IsName (name_at new i s) → name_at old i s ≢ name_at new i s → ((x l : ℕ) → EntryNames old i x l → x ≢ s → name_at old i x ≢ name_at new i s) →
    RespellsEntry old new i s j
commit_respells old new changes i s j wf reached names only name changed new_name = record {
  reached = reached;
  names = names;
  trees = only.commits.trees;
  kind = λ u low. kind-kept old new changes _ only u low (λ here. no_directory old i names.directory (sym here.0));
  attributes = λ u low. attributes-kept old new changes _ only u low (λ f least few here. no_directory old i names.directory (sym here.0));
  size = λ u low. size-kept old new changes _ only u low (λ here. no_directory old i names.directory (sym here.0));
  ino = λ u x also kind low.
      word-kept old new changes _ only u (32 * x + 0) also (inr kind) (omega (arith, low)) (λ e. absurd (no_directory old u kind e))
      (λ here. omega (arith, here.1, here.2));
  entry = λ u x l f also n few other.
      word-kept old new changes _ only u (32 * x + f) also (inr n.directory) (omega (arith, n.in_size, few)) (λ e. absurd (no_directory old u n.directory e))
      (λ here. other here.0 (omega (arith, here.1, here.2, few)));
  name = name;
  changed = changed;
  new_name = new_name;
  bytes = λ u o also kind low.
      byte-kept old new changes _ only u o also kind low
      (λ here. let two : kind_of old u ≡ 2 = subst (λ x. kind_of old x ≡ 2) (sym here.0) names.directory in omega (arith, kind, two));
}

-- ---- the bytes of one file, and its size

pub commit_writes : (old new : Image) (changes : Changes) (x : ℕ) → IsWellFormed old → IsReached old x → kind_of old x ≡ 1 →
    CommitsOnly old new changes (λ t l. (t ≡ x) ⊎ ((t ≡ 0) × (l ≡ 8 * x + 2))) → ChangesFile old new x
commit_writes old new changes x wf reached is_file only = record {
  reached = reached;
  is_file = is_file;
  trees = only.commits.trees;
  kind = λ t also. kind-kept old new changes _ only t (reached-in_file old wf t also) (λ here. elim here [
    | inl e ↦ not_zero e
    | inr size ↦ omega (arith, size.1)
  ]);
  attributes = λ t also. attributes-kept old new changes _ only t (reached-in_file old wf t also) (λ f least few here. elim here [
    | inl e ↦ not_zero e
    | inr size ↦ omega (arith, size.1, least, few)
  ]);
  size = λ t also other. size-kept old new changes _ only t (reached-in_file old wf t also) (λ here. elim here [
    | inl e ↦ not_zero e
    | inr size ↦ other (omega (arith, size.1))
  ]);
  ino = λ i s also kind low.
      word-kept old new changes _ only i (32 * s + 0) also (inr kind) (omega (arith, low)) (λ e. absurd (no_directory old i kind e)) (in_directory i kind);
  entry = λ i s j f also n few.
      word-kept old new changes _ only i (32 * s + f) also (inr n.directory) (omega (arith, n.in_size, few)) (λ e. absurd (no_directory old i n.directory e)) (in_directory i n.directory);
  bytes = λ i o also other kind low.
      byte-kept old new changes _ only i o also kind low (λ here. elim here [
        | inl e ↦ other e
        | inr size ↦ (let zero_kind : kind_of old 0 ≡ 1 = subst (λ y. kind_of old y ≡ 1) size.0 kind in omega (arith, zero_kind))
      ]);
}
  where
    not_zero : 0 ≡ x → ⊥
    not_zero e = let zero_kind : kind_of old 0 ≡ 1 = subst (λ y. kind_of old y ≡ 1) (sym e) is_file in omega (arith, zero_kind)

    in_directory : (i : ℕ) {l : ℕ} → kind_of old i ≡ 2 → (i ≡ x) ⊎ ((i ≡ 0) × (l ≡ 8 * x + 2)) → ⊥
    in_directory i kind (inl e) = let one : kind_of old i ≡ 1 = subst (λ y. kind_of old y ≡ 1) (sym e) is_file in omega (arith, kind, one)
    in_directory i kind (inr size) = no_directory old i kind size.0

-- ---- the bytes of files, below their sizes

-- where no word but those of files is given again
pub commit_overwrites : (old new : Image) (changes : Changes) (patches : List Patch) → IsWellFormed old → CommitsOnly old new changes (λ t l. kind_of old t ≡ 1) →
    ((i o : ℕ) → IsReached old i → kind_of old i ≡ 1 → o < size_of old i → byte new (root_of new i) o ≡ patched patches i o (byte old (root_of old i) o)) → OverwritesFiles patches old new
commit_overwrites old new changes patches wf only bytes = record {
  trees = only.commits.trees;
  kind = λ t also. kind-kept old new changes _ only t (reached-in_file old wf t also) no_file;
  attributes = λ t also. attributes-kept old new changes _ only t (reached-in_file old wf t also) (λ f least few. no_file);
  size = λ t also. size-kept old new changes _ only t (reached-in_file old wf t also) no_file;
  ino = λ i s also kind low.
      word-kept old new changes _ only i (32 * s + 0) also (inr kind) (omega (arith, low)) (λ e. absurd (no_directory old i kind e)) (λ one. omega (arith, kind, one));
  entry = λ i s j f also n few.
      word-kept old new changes _ only i (32 * s + f) also (inr n.directory) (omega (arith, n.in_size, few)) (λ e. absurd (no_directory old i n.directory e)) (λ one. omega (arith, n.directory, one));
  bytes = bytes;
}
  where
    no_file : kind_of old 0 ≡ 1 → ⊥
    no_file one = omega (arith, one)
