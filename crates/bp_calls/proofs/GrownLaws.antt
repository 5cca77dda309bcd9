-- The size of a directory grows over an entry that stands ready after it: the directory gains the name.
use Rattle.std.proofs.Common.{◌≡◌, ◌≢◌, ◌⊎◌, ℕ, zero, suc, ◌+◌, ◌*◌, ◌/◌, ◌%◌, ◌<◌, ◌≤◌, length, set, None, refl, sym, ◌∙◌, ap, subst, subst₂, suc-ne-zero, arith, inl, inr, lt_of_lt_of_le, get_or-set_other}
use Rattle.bp_changes.proofs.Formatted.{low_stays, version_stays}
use Rattle.bp_layout.specs.Formatted.{version_of}
use Rattle.bp_limits.specs.Limits.{greatest_height}
use Rattle.bp_limits.proofs.Versions.{fields_most}
use Rattle.bp_layout.proofs.AttributeLaws.{attributes_alike}
use Rattle.std.proofs.lemmas.Bool.{cases_eq}
use Rattle.std.proofs.lemmas.List.{length-set}
use Rattle.bp_layout.specs.Words.{Image, word, byte_of, height_of, slot_word}
use Rattle.bp_layout.specs.Tree.{node, content_word, HasBlock, IsSound, IsFull, IsLiveWord}
use Rattle.bp_layout.specs.Inode.{attributes_of, inode_word, kind_of, root_of, size_of, inode_count, ContentStandsAt}
use Rattle.bp_layout.specs.Directory.{EntryNames, name_at, ino_at, entry_word, entry_count, slot_named}
use Rattle.bp_layout.specs.Paths.{Name, IsName}
use Rattle.bp_layout.specs.Reached.{IsReached}
use Rattle.bp_layout.specs.Reached.IsReached.{inode_file}
use Rattle.bp_layout.specs.WellFormed.{IsWellFormed}
use Rattle.bp_layout.proofs.TreeLaws.{KeepsPointers, content-kept, slot_word-same, tree_word-suc, live_pointer_word, live_content, live_above, sound-kept, full-kept, has_block-kept, has_block-stays}
use Rattle.bp_layout.proofs.Reached.{reached-in_file}
use Rattle.bp_changes.proofs.Separation.{stands_in_block}
use Rattle.bp_changes.proofs.ContentStore.{word-stored, word-elsewhere}
use Rattle.bp_changes.specs.Effects.{IsNewEntry}
use Rattle.bp_changes.proofs.GainsEntry.{GainsEntry, gains_adds, gains_links, takes_inode}
use Rattle.bp_calls.specs.Entered.{IsNewInode, IsReadyPastEnd}
use Rattle.bp_calls.proofs.EnteredLaws.{Enters, EntersLink, not_named, name_same, directory_inode, file_inode}

-- ---- a store of the greater size

module _ (old : Image) (wf : IsWellFormed old) (n j place : ℕ) (name : Name) (ready : IsReadyPastEnd old (suc n) j name) (stands : ContentStandsAt old 0 (8 * suc n + 2) place) where
  abbrev new : Image
  new = set old place (size_of old (suc n) + 256)

  in_file : (t : ℕ) → IsReached old t → t < inode_count old
  in_file = reached-in_file old wf

  size_low : 8 * (8 * suc n + 2) < size_of old 0
  size_low = let low : suc n < size_of old 0 / 64 = in_file (suc n) ready.reached in omega (arith, low)

  the_word : IsLiveWord (root_of old 0) (size_of old 0) (suc (height_of (root_of old 0))) (8 * suc n + 2)
  the_word = live_content (root_of old 0) (size_of old 0) (8 * suc n + 2) size_low

  -- the new blocks are in no other tree
  apart : (u b : ℕ) → IsReached old u → u ≢ suc n → HasBlock old (root_of old (suc n)) (size_of old (suc n) + 256) b → HasBlock old (root_of old u) (size_of old u) b → ⊥
  apart u b reached other has also = ready.apart u b reached other has also

  -- each other live word stays
  elsewhere : (u e l : ℕ) → IsReached old u → IsLiveWord (root_of old u) (size_of old u) (suc e) l → ((0 ≡ u) → (height_of (root_of old 0) ≡ e) → (8 * suc n + 2 ≡ l) → ⊥) →
      slot_word new (node old (root_of old u) e (l / 512)) (l % 512) ≡ slot_word old (node old (root_of old u) e (l / 512)) (l % 512)
  elsewhere u e l reached live other =
      word-elsewhere old wf 0 (height_of (root_of old 0)) (8 * suc n + 2) place (size_of old (suc n) + 256) inode_file the_word stands u e l reached live (λ same. other same.tree same.depth same.index)

  keeps : (u : ℕ) → IsReached old u → KeepsPointers old new (root_of old u) (size_of old u)
  keeps u reached = record {
    kept = λ d k live. elsewhere u d k reached (live_pointer_word _ _ (suc d) k live)
        (λ t h l. let root : height_of (root_of old 0) ≡ height_of (root_of old u) = ap (λ (x : ℕ). height_of (root_of old x)) t in omega (arith, live.height, root, h));
  }

  -- so do the words that the new size brings in
  new_block : (b s : ℕ) → s < 512 → HasBlock old (root_of old (suc n)) (size_of old (suc n) + 256) b → slot_word new b s ≡ slot_word old b s
  new_block b s low has =
      slot_word-same old new b s (λ present.
      get_or-set_other old place _ (size_of old (suc n) + 256) 0 (λ here.
      let same : b ≡ node old (root_of old 0) (height_of (root_of old 0)) ((8 * suc n + 2) / 512) = omega (arith, here, stands.at, low) in
      apart 0 b inode_file (λ e. suc-ne-zero n (sym e)) has
      (subst (HasBlock old (root_of old 0) (size_of old 0)) (sym same) (stands_in_block old 0 (height_of (root_of old 0)) (8 * suc n + 2) place stands the_word))))

  new_word : (d k : ℕ) → IsLiveWord (root_of old (suc n)) (size_of old (suc n) + 256) (suc d) k →
      slot_word new (node old (root_of old (suc n)) d (k / 512)) (k % 512) ≡ slot_word old (node old (root_of old (suc n)) d (k / 512)) (k % 512)
  new_word d k live = go (cases_eq (node old (root_of old (suc n)) d (k / 512)) 0)
    where
      go : (node old (root_of old (suc n)) d (k / 512) ≡ 0) ⊎ (node old (root_of old (suc n)) d (k / 512) ≡ 0 → ⊥) →
          slot_word new (node old (root_of old (suc n)) d (k / 512)) (k % 512) ≡ slot_word old (node old (root_of old (suc n)) d (k / 512)) (k % 512)
      go (inl null) = rw null refl
      go (inr present) = new_block _ (k % 512) (omega arith) (record { depth = d; index = k / 512; pointer = live_above _ _ d k live; named = refl; not_null = present })

  keeps_new : KeepsPointers old new (root_of old (suc n)) (size_of old (suc n) + 256)
  keeps_new = record { kept = λ d k live. new_word d k (live_pointer_word _ _ (suc d) k live) }

  superblock : (p : ℕ) → p < 512 → word new p ≡ word old p
  superblock p low = get_or-set_other old place p (size_of old (suc n) + 256) 0 (λ e. stands.present (omega (arith, stands.at, e)))

  inode_word_stays : (u f : ℕ) → suc u < inode_count old → f < 8 → ((8 * suc n + 2 ≡ 8 * suc u + f) → ⊥) → inode_word new (suc u) f ≡ inode_word old (suc u) f
  inode_word_stays u f low few other =
      let below : 8 * (8 * suc u + f) < size_of old 0 = omega (arith, low, few) in
      let root : word new 2 ≡ word old 2 = superblock 2 (omega arith) in
      rw root
      (content-kept old new (root_of old 0) (size_of old 0) (keeps 0 inode_file) (8 * suc u + f) below
      ∙ elsewhere 0 (height_of (root_of old 0)) (8 * suc u + f) inode_file (live_content _ _ (8 * suc u + f) below) (λ t h l. other l)
      ∙ sym (tree_word-suc old (root_of old 0) (height_of (root_of old 0)) (8 * suc u + f)))

  kind_stays : (u : ℕ) → u < inode_count old → kind_of new u ≡ kind_of old u
  kind_stays zero low = refl
  kind_stays (suc u) low = inode_word_stays u 0 low (omega arith) (λ e. omega (arith, e))

  attributes_stay : (u : ℕ) → u < inode_count old → attributes_of new u ≡ attributes_of old u
  attributes_stay u low =
      attributes_alike old new u (version_stays old new (superblock 0 (omega arith)))
      (λ i f is least most.
      let few : f < 8 = lt_of_lt_of_le most (fields_most (version_of old)) in
      inode_word_stays i f (subst (λ t. t < inode_count old) is low) few (λ e. omega (arith, e, few, least)))

  root_stays : (u : ℕ) → u < inode_count old → root_of new u ≡ root_of old u
  root_stays zero low = superblock 2 (omega arith)
  root_stays (suc u) low = inode_word_stays u 1 low (omega arith) (λ e. omega (arith, e))

  size_stays : (u : ℕ) → u < inode_count old → u ≢ suc n → size_of new u ≡ size_of old u
  size_stays zero low other = superblock 3 (omega arith)
  size_stays (suc u) low other = inode_word_stays u 2 low (omega arith) (λ e. other (omega (arith, e)))

  size_here : size_of new (suc n) ≡ size_of old (suc n) + 256
  size_here =
      let root : word new 2 ≡ word old 2 = superblock 2 (omega arith) in
      rw root
      (content-kept old new (root_of old 0) (size_of old 0) (keeps 0 inode_file) (8 * suc n + 2) size_low
      ∙ word-stored old wf 0 (height_of (root_of old 0)) (8 * suc n + 2) place (size_of old (suc n) + 256) inode_file the_word stands)

  -- content words, below the old sizes and below the new one
  content_stays : (u k : ℕ) → IsReached old u → u ≢ 0 → 8 * k < size_of old u →
      content_word new (root_of new u) k ≡ content_word old (root_of old u) k
  content_stays u k reached inode below =
      rw (root_stays u (in_file u reached))
      (content-kept old new (root_of old u) (size_of old u) (keeps u reached) k below
      ∙ elsewhere u (height_of (root_of old u)) k reached (live_content _ _ k below) (λ t h l. inode (sym t))
      ∙ sym (tree_word-suc old (root_of old u) (height_of (root_of old u)) k))

  content_grown : (k : ℕ) → 8 * k < size_of old (suc n) + 256 →
      content_word new (root_of new (suc n)) k ≡ content_word old (root_of old (suc n)) k
  content_grown k below =
      rw (root_stays (suc n) (in_file (suc n) ready.reached))
      (content-kept old new (root_of old (suc n)) (size_of old (suc n) + 256) keeps_new k below
      ∙ new_word (height_of (root_of old (suc n))) k (live_content _ _ k below)
      ∙ sym (tree_word-suc old (root_of old (suc n)) (height_of (root_of old (suc n))) k))

  -- ---- blocks

  -- the directory's, under the size that it gets
  pub block_of_grown : (b : ℕ) → HasBlock new (root_of new (suc n)) (size_of new (suc n)) b →
      HasBlock old (root_of old (suc n)) (size_of old (suc n) + 256) b
  block_of_grown b has =
      has_block-kept old new (root_of old (suc n)) (size_of old (suc n) + 256) keeps_new b
      (subst₂ (λ r z. HasBlock new r z b) (root_stays (suc n) (in_file (suc n) ready.reached)) size_here has)

  pub block_to_grown : (b : ℕ) → HasBlock old (root_of old (suc n)) (size_of old (suc n) + 256) b →
      HasBlock new (root_of new (suc n)) (size_of new (suc n)) b
  block_to_grown b has =
      subst₂ (λ r z. HasBlock new r z b) (sym (root_stays (suc n) (in_file (suc n) ready.reached))) (sym size_here)
      (has_block-stays old new (root_of old (suc n)) (size_of old (suc n) + 256) keeps_new b has)

  -- those of the other trees
  pub block_of_other : (t b : ℕ) → IsReached old t → t ≢ suc n → HasBlock new (root_of new t) (size_of new t) b →
      HasBlock old (root_of old t) (size_of old t) b
  block_of_other t b reached other has =
      has_block-kept old new (root_of old t) (size_of old t) (keeps t reached) b
      (subst₂ (λ r z. HasBlock new r z b) (root_stays t (in_file t reached)) (size_stays t (in_file t reached) other) has)

  pub block_to_other : (t b : ℕ) → IsReached old t → t ≢ suc n → HasBlock old (root_of old t) (size_of old t) b →
      HasBlock new (root_of new t) (size_of new t) b
  block_to_other t b reached other has =
      subst₂ (λ r z. HasBlock new r z b) (sym (root_stays t (in_file t reached))) (sym (size_stays t (in_file t reached) other))
      (has_block-stays old new (root_of old t) (size_of old t) (keeps t reached) b has)

  -- ---- entries

  whole_entries : size_of old (suc n) % 256 ≡ 0
  whole_entries = wf.directory_sizes (suc n) ready.reached ready.directory

  count_here : entry_count new (suc n) ≡ size_of old (suc n) / 256 + 1
  count_here = let size : size_of new (suc n) ≡ size_of old (suc n) + 256 = size_here in omega (arith, size)

  -- a word of the new entry
  word_here : (f : ℕ) → f < 32 → entry_word new (suc n) (size_of old (suc n) / 256) f ≡ entry_word old (suc n) (size_of old (suc n) / 256) f
  word_here f few = content_grown (32 * (size_of old (suc n) / 256) + f) (omega (arith, few, whole_entries))

  word_stays : (u r f : ℕ) → IsReached old u → kind_of old u ≡ 2 → r < entry_count old u → f < 32 → entry_word new u r f ≡ entry_word old u r f
  word_stays u r f reached kind low few = content_stays u (32 * r + f) reached (directory_inode old u kind) (omega (arith, low, few))

  -- an entry that the first image has no more
  slot_cases : (u r : ℕ) → IsReached old u → r < entry_count new u → (r < entry_count old u) ⊎ ((u ≡ suc n) × (r ≡ size_of old (suc n) / 256))
  slot_cases u r reached low = go (cases_eq u (suc n)) (cases_eq r (size_of old (suc n) / 256))
    where
      go : (u ≡ suc n) ⊎ (u ≡ suc n → ⊥) → (r ≡ size_of old (suc n) / 256) ⊎ (r ≡ size_of old (suc n) / 256 → ⊥) → (r < entry_count old u) ⊎ ((u ≡ suc n) × (r ≡ size_of old (suc n) / 256))
      go (inl e) (inl f) = inr (e, f)
      go (inl e) (inr f) =
          let here : r < entry_count new (suc n) = subst (λ x. r < entry_count new x) e low in
          inl (subst (λ x. r < entry_count old x) (sym e) (omega (arith, here, count_here, f)))
      go (inr other) f = inl (subst (λ z. r < z / 256) (size_stays u (in_file u reached) other) low)

  count_grows : (u r : ℕ) → IsReached old u → r < entry_count old u → r < entry_count new u
  count_grows u r reached low = go (cases_eq u (suc n))
    where
      go : (u ≡ suc n) ⊎ (u ≡ suc n → ⊥) → r < entry_count new u
      go (inl e) =
          let here : r < entry_count old (suc n) = subst (λ x. r < entry_count old x) e low in
          subst (λ x. r < entry_count new x) (sym e) (omega (arith, here, count_here))
      go (inr other) = subst (λ z. r < z / 256) (sym (size_stays u (in_file u reached) other)) low

  names_stay : (u r k : ℕ) → IsReached old u → EntryNames old u r k → EntryNames new u r k
  names_stay u r k reached named = record {
    directory = kind_stays u (in_file u reached) ∙ named.directory;
    in_size = count_grows u r reached named.in_size;
    ino = word_stays u r 0 reached named.directory named.in_size (omega arith) ∙ named.ino;
    not_empty = named.not_empty;
  }

  entered_here : ino_at new (suc n) (size_of old (suc n) / 256) ≡ j
  entered_here = word_here 0 (omega arith) ∙ ready.ino

  names_back : (u r k : ℕ) → IsReached old u → EntryNames new u r k → IsNewEntry (suc n) (size_of old (suc n) / 256) j u r k ⊎ EntryNames old u r k
  names_back u r k reached named = go (slot_cases u r reached named.in_size)
    where
      kind : kind_of old u ≡ 2
      kind = sym (kind_stays u (in_file u reached)) ∙ named.directory

      go : (r < entry_count old u) ⊎ ((u ≡ suc n) × (r ≡ size_of old (suc n) / 256)) → IsNewEntry (suc n) (size_of old (suc n) / 256) j u r k ⊎ EntryNames old u r k
      go (inl low) = inr (record { directory = kind; in_size = low; ino = sym (word_stays u r 0 reached kind low (omega arith)) ∙ named.ino; not_empty = named.not_empty })
      go (inr at) = inl (record {
        directory = at.0;
        slot = at.1;
        inode = sym named.ino ∙ subst₂ (λ x y. ino_at new x y ≡ j) (sym at.0) (sym at.1) entered_here;
      })

  name_stays : (u r k : ℕ) → IsReached old u → EntryNames old u r k → name_at new u r ≡ name_at old u r
  name_stays u r k reached named =
      name_same old new (root_of old u) (root_of new u) r
      (wf.names u r k reached named).short (λ f first few. word_stays u r f reached named.directory named.in_size few)

  name_here : IsName name → name_at new (suc n) (size_of old (suc n) / 256) ≡ name
  name_here form =
      name_same old new (root_of old (suc n)) (root_of new (suc n)) (size_of old (suc n) / 256)
      (rw ready.spelled form.short) (λ f first few. word_here f few)
      ∙ ready.spelled

  -- ---- trees

  whole : length new ≡ length old
  whole = length-set old place (size_of old (suc n) + 256)

  -- what is true of the directory's tree under its new size, and of the other trees
  by_tree : (P : ℕ → ℕ → Type 0) (t : ℕ) → IsReached old t → P (root_of old (suc n)) (size_of old (suc n) + 256) → (t ≢ suc n → P (root_of old t) (size_of old t)) →
      P (root_of new t) (size_of new t)
  by_tree P t reached grown others = go (cases_eq t (suc n))
    where
      go : (t ≡ suc n) ⊎ (t ≡ suc n → ⊥) → P (root_of new t) (size_of new t)
      go (inl e) =
          subst (λ x. P (root_of new x) (size_of new x)) (sym e)
          (subst₂ P (sym (root_stays (suc n) (in_file (suc n) ready.reached))) (sym size_here) grown)
      go (inr other) = subst₂ P (sym (root_stays t (in_file t reached))) (sym (size_stays t (in_file t reached) other)) (others other)

  sound_stays : (t : ℕ) → IsReached old t → IsSound new (root_of new t) (size_of new t)
  sound_stays t reached =
      by_tree (IsSound new) t reached
      (sound-kept old new (root_of old (suc n)) (size_of old (suc n) + 256) keeps_new whole ready.sound)
      (λ other. sound-kept old new (root_of old t) (size_of old t) (keeps t reached) whole (wf.sound t reached))

  low_now : (t : ℕ) → IsReached old t → 0 < size_of new t → height_of (root_of new t) ≤ greatest_height (version_of new)
  low_now t reached =
      by_tree (λ root z. 0 < z → height_of root ≤ greatest_height (version_of new)) t reached
      (low_stays old new (superblock 0 (omega arith)) (root_of old (suc n)) (root_of old (suc n)) (size_of old (suc n) + 256) (λ _. refl) (λ _. ready.low))
      (λ other. low_stays old new (superblock 0 (omega arith)) (root_of old t) (root_of old t) (size_of old t) (λ _. refl) (wf.low t reached))

  full_stays : (t : ℕ) → IsReached old t → IsFull old (root_of old t) (size_of old t) →
      IsFull new (root_of new t) (size_of new t)
  full_stays t reached full =
      by_tree (IsFull new) t reached
      (full-kept old new (root_of old (suc n)) (size_of old (suc n) + 256) keeps_new ready.full)
      (λ other. full-kept old new (root_of old t) (size_of old t) (keeps t reached) full)

  apart_cases : (t u b : ℕ) → IsReached old t → IsReached old u → (t ≡ suc n) ⊎ (t ≡ suc n → ⊥) → (u ≡ suc n) ⊎ (u ≡ suc n → ⊥) →
      HasBlock new (root_of new t) (size_of new t) b →
      HasBlock new (root_of new u) (size_of new u) b → t ≡ u
  apart_cases t u b r q (inl e) (inl f) one two = e ∙ sym f
  apart_cases t u b r q (inl e) (inr f) one two =
      absurd (apart u b q f (block_of_grown b (subst (λ x. HasBlock new (root_of new x) (size_of new x) b) e one))
      (block_of_other u b q f two))
  apart_cases t u b r q (inr e) (inl f) one two =
      absurd (apart t b r e (block_of_grown b (subst (λ x. HasBlock new (root_of new x) (size_of new x) b) f two))
      (block_of_other t b r e one))
  apart_cases t u b r q (inr e) (inr f) one two = wf.apart t u b r q (block_of_other t b r e one) (block_of_other u b q f two)

  size_cases : (t : ℕ) → IsReached old t → kind_of old t ≡ 2 → size_of new t % 256 ≡ 0
  size_cases t reached kind =
      by_tree (λ r z. z % 256 ≡ 0) t reached (let before : size_of old (suc n) % 256 ≡ 0 = whole_entries in omega (arith, before)) (λ other. wf.directory_sizes t reached kind)

  file_not : (t : ℕ) → kind_of old t ≡ 1 → t ≢ suc n
  file_not t kind e = let one : kind_of old (suc n) ≡ 1 = subst (λ x. kind_of old x ≡ 1) e kind in absurd (omega (arith, one, ready.directory))

  file_is : (t : ℕ) → kind_of old t ≡ 1 → t ≢ 0
  file_is t kind e = let one : kind_of old 0 ≡ 1 = (rw e at kind) in absurd (omega (arith, one))

  module _ (some : j ≢ 0) (form : IsName name) (missing : slot_named old (suc n) name ≡ None) where
    grown_gains : GainsEntry old new (suc n) (size_of old (suc n) / 256) j
    grown_gains = record {
      reached = ready.reached;
      trees = record {
        whole = whole;
        has_magic = superblock 0 (omega arith);
        counted = superblock 1 (omega arith);
        low = low_now;
        sound = sound_stays;
        apart = λ t u b r q one two. apart_cases t u b r q (cases_eq t (suc n)) (cases_eq u (suc n)) one two;
        full_inode_file = full_stays 0 inode_file wf.full_inode_file;
        full_directories = λ u r kind. full_stays u r (wf.full_directories u r kind);
      };
      kind = λ u r. kind_stays u (in_file u r);
      attributes = λ u r. attributes_stay u (in_file u r);
      file_size = λ u r kind. size_stays u (in_file u r) (file_not u kind);
      directory_size = size_cases;
      slots = λ u r q kind low. slot_cases u r q low;
      back = names_back;
      stay = names_stay;
      entry = record {
        directory = kind_stays (suc n) (in_file (suc n) ready.reached) ∙ ready.directory;
        in_size = omega (arith, count_here);
        ino = entered_here;
        not_empty = some;
      };
      same_names = name_stays;
      name = rw (name_here form) form;
      new_name = λ r k named same. not_named old wf (suc n) name ready.reached missing r k named (same ∙ name_here form);
      bytes = λ u o r kind low. ap (λ w. byte_of w (o % 8)) (content_stays u (o / 8) r (file_is u kind) (omega (arith, low)));
    }

  module _ (form : IsName name) (missing : slot_named old (suc n) name ≡ None) where
    grown_suc : (kind : ℕ) → IsNewInode old j kind → Enters old new (suc n) (size_of old (suc n) / 256) j name kind
    grown_suc kind fresh = record {
      adds = gains_adds old new (suc n) (size_of old (suc n) / 256) j (grown_gains some form missing)
          (takes_inode old new j wf (record { fresh = fresh.free.free; in_file = fresh.free.high; kind = rw fresh.kind_is (fresh.least, fresh.most); nothing = fresh.empty; attributes = fresh.attributes })
          (superblock 3 (omega arith)) (kind_stays j fresh.free.high) (attributes_stay j fresh.free.high) (size_stays j fresh.free.high not_here));
      spelled = name_here form;
      kind_is = kind_stays j fresh.free.high ∙ fresh.kind_is;
    }
      where
        some : j ≢ 0
        some none = let low : 2 ≤ j = fresh.free.low in omega (arith, none, low)

        not_here : j ≢ suc n
        not_here e = fresh.free.free (subst (IsReached old) (sym e) ready.reached)

    grown_links_suc : IsReached old j → kind_of old j ≡ 1 → EntersLink old new (suc n) (size_of old (suc n) / 256) j name
    grown_links_suc there file = record {
      adds = gains_links old new (suc n) (size_of old (suc n) / 256) j (grown_gains (file_inode old j file) form missing) there file (superblock 3 (omega arith));
      spelled = name_here form;
    }

-- ---- the same of any directory

pub grown : (old : Image) → IsWellFormed old → (i j kind place : ℕ) (name : Name) → IsNewInode old j kind → IsReadyPastEnd old i j name → IsName name → slot_named old i name ≡ None →
    ContentStandsAt old 0 (8 * i + 2) place → Enters old (set old place (size_of old i + 256)) i (size_of old i / 256) j name kind
grown old wf zero j kind place name fresh ready form missing stands = absurd (directory_inode old 0 ready.directory refl)
grown old wf (suc n) j kind place name fresh ready form missing stands = grown_suc old wf n j place name ready stands form missing kind fresh

pub grown_links : (old : Image) → IsWellFormed old → (i j place : ℕ) (name : Name) → IsReached old j → kind_of old j ≡ 1 → IsReadyPastEnd old i j name → IsName name → slot_named old i name ≡ None →
    ContentStandsAt old 0 (8 * i + 2) place → EntersLink old (set old place (size_of old i + 256)) i (size_of old i / 256) j name
grown_links old wf zero j place name there file ready form missing stands = absurd (directory_inode old 0 ready.directory refl)
grown_links old wf (suc n) j place name there file ready form missing stands = grown_links_suc old wf n j place name ready stands form missing there file

pub grown_file : (old : Image) → IsWellFormed old → (i j place : ℕ) (name : Name) → IsReadyPastEnd old i j name → ContentStandsAt old 0 (8 * i + 2) place →
    size_of (set old place (size_of old i + 256)) 0 ≡ size_of old 0
grown_file old wf zero j place name ready stands = absurd (directory_inode old 0 ready.directory refl)
grown_file old wf (suc n) j place name ready stands = superblock old wf n j place name ready stands 3 (omega arith)

-- The blocks of the trees after the store. The directory has those that it has under its new size.
pub record GrowsBlocks (old new : Image) (i : ℕ) : Type 0 where
  pub back : (t b : ℕ) → IsReached old t → HasBlock new (root_of new t) (size_of new t) b →
      HasBlock old (root_of old t) (size_of old t) b ⊎ ((t ≡ i) × HasBlock old (root_of old i) (size_of old i + 256) b)
  pub stay : (t b : ℕ) → IsReached old t → t ≢ i → HasBlock old (root_of old t) (size_of old t) b → HasBlock new (root_of new t) (size_of new t) b
  pub here : (b : ℕ) → HasBlock old (root_of old i) (size_of old i + 256) b → HasBlock new (root_of new i) (size_of new i) b

pub grown_blocks : (old : Image) → IsWellFormed old → (i j place : ℕ) (name : Name) → IsReadyPastEnd old i j name → ContentStandsAt old 0 (8 * i + 2) place →
    GrowsBlocks old (set old place (size_of old i + 256)) i
grown_blocks old wf zero j place name ready stands = absurd (directory_inode old 0 ready.directory refl)
grown_blocks old wf (suc n) j place name ready stands = record {
  back = λ t b reached has. back t b reached (cases_eq t (suc n)) has;
  stay = block_to_other old wf n j place name ready stands;
  here = block_to_grown old wf n j place name ready stands;
}
  where
    back : (t b : ℕ) → IsReached old t → (t ≡ suc n) ⊎ (t ≡ suc n → ⊥) →
        HasBlock (set old place (size_of old (suc n) + 256)) (root_of (set old place (size_of old (suc n) + 256)) t) (size_of (set old place (size_of old (suc n) + 256)) t) b →
        HasBlock old (root_of old t) (size_of old t) b ⊎ ((t ≡ suc n) × HasBlock old (root_of old (suc n)) (size_of old (suc n) + 256) b)
    back t b reached (inl e) has =
        inr (
          e,
          block_of_grown old wf n j place name ready stands b
              (subst (λ x. HasBlock (set old place (size_of old (suc n) + 256)) (root_of (set old place (size_of old (suc n) + 256)) x) (size_of (set old place (size_of old (suc n) + 256)) x) b) e has),
        )
    back t b reached (inr other) has = inl (block_of_other old wf n j place name ready stands t b reached other has)
