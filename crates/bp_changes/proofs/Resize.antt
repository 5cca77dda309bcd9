-- A store to the size word of a file gives the file that size, and changes nothing else.
use Rattle.std.proofs.Common.{◌≡◌, ◌≢◌, ◌⊎◌, ℕ, zero, suc, ◌+◌, ◌*◌, ◌/◌, ◌%◌, ◌<◌, ◌≤◌, length, set, refl, sym, ◌∙◌, ap, subst, subst₂, suc-ne-zero, arith, lt_of_lt_of_le, inl, inr, get_or-set_other}
use Rattle.std.proofs.lemmas.Bool.{cases_eq}
use Rattle.std.proofs.lemmas.List.{length-set}
use Rattle.bp_limits.specs.Limits.{greatest_height}
use Rattle.bp_limits.proofs.Versions.{fields_most}
use Rattle.bp_layout.specs.Formatted.{version_of}
use Rattle.bp_layout.specs.Words.{Image, word, byte_of, height_of, slot_word}
use Rattle.bp_layout.specs.Tree.{node, content_word, content, HasBlock, IsSound, IsFull, IsLiveWord}
use Rattle.bp_layout.specs.Inode.{attributes_of, inode_word, kind_of, root_of, size_of, inode_count, ContentStandsAt}
use Rattle.bp_layout.specs.Reached.{IsReached}
use Rattle.bp_layout.specs.Reached.IsReached.{inode_file}
use Rattle.bp_layout.specs.WellFormed.{IsWellFormed}
use Rattle.bp_layout.proofs.AttributeLaws.{attributes_alike}
use Rattle.bp_layout.proofs.TreeLaws.{KeepsPointers, content-kept, slot_word-same, tree_word-suc, live_pointer_word, live_content, live_above, sound-kept, full-kept, has_block-kept, has_block-stays}
use Rattle.bp_layout.proofs.Finding.{map-same}
use Rattle.bp_layout.proofs.Reached.{reached-in_file}
use Rattle.bp_changes.proofs.Separation.{stands_in_block}
use Rattle.bp_changes.proofs.ContentStore.{word-stored, word-elsewhere}
use Rattle.bp_changes.specs.Effects.{ChangesFile}
use Rattle.bp_changes.proofs.Formatted.{low_stays, version_stays}

-- a file, the place of its size word, and a size under which its tree is sound, not too high, and apart from the others
pub record CanResize (old : Image) (n size place : ℕ) : Type 0 where
  pub reached : IsReached old (suc n)
  pub is_file : kind_of old (suc n) ≡ 1
  pub stands : ContentStandsAt old 0 (8 * suc n + 2) place
  pub sound : IsSound old (root_of old (suc n)) size
  pub low : 0 < size → height_of (root_of old (suc n)) ≤ greatest_height (version_of old)
  pub apart : (u b : ℕ) → IsReached old u → u ≢ suc n → HasBlock old (root_of old (suc n)) size b → HasBlock old (root_of old u) (size_of old u) b → ⊥

module _ (old : Image) (wf : IsWellFormed old) (n size place : ℕ) (can : CanResize old n size place) where
  in_file : (t : ℕ) → IsReached old t → t < inode_count old
  in_file = reached-in_file old wf

  size_low : 8 * (8 * suc n + 2) < size_of old 0
  size_low = let low : suc n < size_of old 0 / 64 = in_file (suc n) can.reached in omega (arith, low)

  the_word : IsLiveWord (root_of old 0) (size_of old 0) (suc (height_of (root_of old 0))) (8 * suc n + 2)
  the_word = live_content (root_of old 0) (size_of old 0) (8 * suc n + 2) size_low

  -- each other live word stays
  elsewhere : (u e l : ℕ) → IsReached old u → IsLiveWord (root_of old u) (size_of old u) (suc e) l → ((0 ≡ u) → (height_of (root_of old 0) ≡ e) → (8 * suc n + 2 ≡ l) → ⊥) →
      slot_word (set old place size) (node old (root_of old u) e (l / 512)) (l % 512) ≡ slot_word old (node old (root_of old u) e (l / 512)) (l % 512)
  elsewhere u e l reached live other =
      word-elsewhere old wf 0 (height_of (root_of old 0)) (8 * suc n + 2) place size inode_file the_word can.stands u e l reached live (λ same. other same.tree same.depth same.index)

  keeps : (u : ℕ) → IsReached old u → KeepsPointers old (set old place size) (root_of old u) (size_of old u)
  keeps u reached = record {
    kept = λ d k live. elsewhere u d k reached (live_pointer_word _ _ (suc d) k live)
        (λ t h l. let root : height_of (root_of old 0) ≡ height_of (root_of old u) = ap (λ (x : ℕ). height_of (root_of old x)) t in omega (arith, live.height, root, h));
  }

  -- so do the words that the new size brings in
  new_block : (b s : ℕ) → s < 512 → HasBlock old (root_of old (suc n)) size b → slot_word (set old place size) b s ≡ slot_word old b s
  new_block b s low has =
      slot_word-same old (set old place size) b s (λ present.
      get_or-set_other old place _ size 0 (λ here.
      let same : b ≡ node old (root_of old 0) (height_of (root_of old 0)) ((8 * suc n + 2) / 512) = omega (arith, here, can.stands.at, low) in
      can.apart 0 b inode_file (λ e. suc-ne-zero n (sym e)) has
      (subst (HasBlock old (root_of old 0) (size_of old 0)) (sym same) (stands_in_block old 0 (height_of (root_of old 0)) (8 * suc n + 2) place can.stands the_word))))

  new_word : (d k : ℕ) → IsLiveWord (root_of old (suc n)) size (suc d) k →
      slot_word (set old place size) (node old (root_of old (suc n)) d (k / 512)) (k % 512) ≡ slot_word old (node old (root_of old (suc n)) d (k / 512)) (k % 512)
  new_word d k live = go (cases_eq (node old (root_of old (suc n)) d (k / 512)) 0)
    where
      go : (node old (root_of old (suc n)) d (k / 512) ≡ 0) ⊎ (node old (root_of old (suc n)) d (k / 512) ≡ 0 → ⊥) →
          slot_word (set old place size) (node old (root_of old (suc n)) d (k / 512)) (k % 512) ≡ slot_word old (node old (root_of old (suc n)) d (k / 512)) (k % 512)
      go (inl null) = rw null refl
      go (inr present) = new_block _ (k % 512) (omega arith) (record { depth = d; index = k / 512; pointer = live_above _ _ d k live; named = refl; not_null = present })

  keeps_new : KeepsPointers old (set old place size) (root_of old (suc n)) size
  keeps_new = record { kept = λ d k live. new_word d k (live_pointer_word _ _ (suc d) k live) }

  superblock : (p : ℕ) → p < 512 → word (set old place size) p ≡ word old p
  superblock p low = get_or-set_other old place p size 0 (λ e. can.stands.present (omega (arith, can.stands.at, e)))

  inode_word_stays : (u f : ℕ) → suc u < inode_count old → f < 8 → ((8 * suc n + 2 ≡ 8 * suc u + f) → ⊥) → inode_word (set old place size) (suc u) f ≡ inode_word old (suc u) f
  inode_word_stays u f low few other =
      let below : 8 * (8 * suc u + f) < size_of old 0 = omega (arith, low, few) in
      let root : word (set old place size) 2 ≡ word old 2 = superblock 2 (omega arith) in
      rw root
      (content-kept old (set old place size) (root_of old 0) (size_of old 0) (keeps 0 inode_file) (8 * suc u + f) below
      ∙ elsewhere 0 (height_of (root_of old 0)) (8 * suc u + f) inode_file (live_content _ _ (8 * suc u + f) below) (λ t h l. other l)
      ∙ sym (tree_word-suc old (root_of old 0) (height_of (root_of old 0)) (8 * suc u + f)))

  kind_stays : (u : ℕ) → u < inode_count old → kind_of (set old place size) u ≡ kind_of old u
  kind_stays zero low = refl
  kind_stays (suc u) low = inode_word_stays u 0 low (omega arith) (λ e. omega (arith, e))

  attributes_stay : (u : ℕ) → u < inode_count old → attributes_of (set old place size) u ≡ attributes_of old u
  attributes_stay u low =
      attributes_alike old (set old place size) u (version_stays old (set old place size) (superblock 0 (omega arith))) (λ n f e least most.
      let few : f < 8 = lt_of_lt_of_le most (fields_most (version_of old)) in
      inode_word_stays n f (subst (λ t. t < inode_count old) e low) few (λ same. omega (arith, same, least, few)))

  root_stays : (u : ℕ) → u < inode_count old → root_of (set old place size) u ≡ root_of old u
  root_stays zero low = superblock 2 (omega arith)
  root_stays (suc u) low = inode_word_stays u 1 low (omega arith) (λ e. omega (arith, e))

  size_stays : (u : ℕ) → u < inode_count old → u ≢ suc n → size_of (set old place size) u ≡ size_of old u
  size_stays zero low other = superblock 3 (omega arith)
  size_stays (suc u) low other = inode_word_stays u 2 low (omega arith) (λ e. other (omega (arith, e)))

  pub size_here : size_of (set old place size) (suc n) ≡ size
  size_here =
      let root : word (set old place size) 2 ≡ word old 2 = superblock 2 (omega arith) in
      rw root
      (content-kept old (set old place size) (root_of old 0) (size_of old 0) (keeps 0 inode_file) (8 * suc n + 2) size_low
      ∙ word-stored old wf 0 (height_of (root_of old 0)) (8 * suc n + 2) place size inode_file the_word can.stands)

  content_stays : (u k : ℕ) → IsReached old u → u ≢ 0 → 8 * k < size_of old u → content_word (set old place size) (root_of (set old place size) u) k ≡ content_word old (root_of old u) k
  content_stays u k reached inode below =
      rw (root_stays u (in_file u reached))
      (content-kept old (set old place size) (root_of old u) (size_of old u) (keeps u reached) k below
      ∙ elsewhere u (height_of (root_of old u)) k reached (live_content _ _ k below) (λ t h l. inode (sym t))
      ∙ sym (tree_word-suc old (root_of old u) (height_of (root_of old u)) k))

  pub bytes_of_file : content (set old place size) (root_of (set old place size) (suc n)) (size_of (set old place size) (suc n)) ≡ content old (root_of old (suc n)) size
  bytes_of_file =
      rw (size_here, root_stays (suc n) (in_file (suc n) can.reached))
      (map-same _ _ 0 size (λ o low high.
      let below : 8 * (o / 8) < size = omega (arith, high) in
      ap (λ w. byte_of w (o % 8))
      (content-kept old (set old place size) (root_of old (suc n)) size keeps_new (o / 8) below
      ∙ new_word (height_of (root_of old (suc n))) (o / 8) (live_content _ _ (o / 8) below)
      ∙ sym (tree_word-suc old (root_of old (suc n)) (height_of (root_of old (suc n))) (o / 8)))))

  whole : length (set old place size) ≡ length old
  whole = length-set old place size

  sound_cases : (t : ℕ) → IsReached old t → (t ≡ suc n) ⊎ (t ≡ suc n → ⊥) → IsSound (set old place size) (root_of (set old place size) t) (size_of (set old place size) t)
  sound_cases t reached (inl e) =
      subst (λ x. IsSound (set old place size) (root_of (set old place size) x) (size_of (set old place size) x)) (sym e)
      (rw (size_here, root_stays (suc n) (in_file (suc n) can.reached)) (sound-kept old (set old place size) (root_of old (suc n)) size keeps_new whole can.sound))
  sound_cases t reached (inr other) =
      rw (root_stays t (in_file t reached), size_stays t (in_file t reached) other) (sound-kept old (set old place size) (root_of old t) (size_of old t) (keeps t reached) whole (wf.sound t reached))

  low_cases : (t : ℕ) → IsReached old t → (t ≡ suc n) ⊎ (t ≡ suc n → ⊥) → 0 < size_of (set old place size) t →
      height_of (root_of (set old place size) t) ≤ greatest_height (version_of (set old place size))
  low_cases t reached (inl e) some =
      let root : root_of (set old place size) t ≡ root_of old (suc n) = ap (root_of (set old place size)) e ∙ root_stays (suc n) (in_file (suc n) can.reached) in
      let now : 0 < size = subst (λ z. 0 < z) (ap (size_of (set old place size)) e ∙ size_here) some in
      low_stays old (set old place size) (superblock 0 (omega arith)) _ _ size (λ _. root) can.low now
  low_cases t reached (inr other) some =
      low_stays old (set old place size) (superblock 0 (omega arith)) _ _ (size_of old t) (λ _. root_stays t (in_file t reached)) (wf.low t reached)
      (subst (λ z. 0 < z) (size_stays t (in_file t reached) other) some)

  -- the blocks of each tree are the old ones, and of the file those that its new size brings in
  pub block_of_file : (b : ℕ) → HasBlock (set old place size) (root_of (set old place size) (suc n)) (size_of (set old place size) (suc n)) b → HasBlock old (root_of old (suc n)) size b
  block_of_file b has =
      has_block-kept old (set old place size) (root_of old (suc n)) size keeps_new b
      (subst₂ (λ r z. HasBlock (set old place size) r z b) (root_stays (suc n) (in_file (suc n) can.reached)) size_here has)

  pub block_of_other : (t b : ℕ) → IsReached old t → t ≢ suc n → HasBlock (set old place size) (root_of (set old place size) t) (size_of (set old place size) t) b → HasBlock old (root_of old t) (size_of old t) b
  block_of_other t b reached other has =
      has_block-kept old (set old place size) (root_of old t) (size_of old t) (keeps t reached) b
      (subst₂ (λ r z. HasBlock (set old place size) r z b) (root_stays t (in_file t reached)) (size_stays t (in_file t reached) other) has)

  pub block_on_file : (b : ℕ) → HasBlock old (root_of old (suc n)) size b → HasBlock (set old place size) (root_of (set old place size) (suc n)) (size_of (set old place size) (suc n)) b
  block_on_file b has =
      subst₂ (λ r z. HasBlock (set old place size) r z b) (sym (root_stays (suc n) (in_file (suc n) can.reached))) (sym size_here)
      (has_block-stays old (set old place size) (root_of old (suc n)) size keeps_new b has)

  pub block_on_other : (t b : ℕ) → IsReached old t → t ≢ suc n → HasBlock old (root_of old t) (size_of old t) b → HasBlock (set old place size) (root_of (set old place size) t) (size_of (set old place size) t) b
  block_on_other t b reached other has =
      subst₂ (λ r z. HasBlock (set old place size) r z b) (sym (root_stays t (in_file t reached))) (sym (size_stays t (in_file t reached) other))
      (has_block-stays old (set old place size) (root_of old t) (size_of old t) (keeps t reached) b has)

  apart_cases : (t u b : ℕ) → IsReached old t → IsReached old u → (t ≡ suc n) ⊎ (t ≡ suc n → ⊥) → (u ≡ suc n) ⊎ (u ≡ suc n → ⊥) →
      HasBlock (set old place size) (root_of (set old place size) t) (size_of (set old place size) t) b → HasBlock (set old place size) (root_of (set old place size) u) (size_of (set old place size) u) b → t ≡ u
  apart_cases t u b r q (inl e) (inl f) one two = e ∙ sym f
  apart_cases t u b r q (inl e) (inr f) one two =
      absurd (can.apart u b q f (block_of_file b (subst (λ x. HasBlock (set old place size) (root_of (set old place size) x) (size_of (set old place size) x) b) e one)) (block_of_other u b q f two))
  apart_cases t u b r q (inr e) (inl f) one two =
      absurd (can.apart t b r e (block_of_file b (subst (λ x. HasBlock (set old place size) (root_of (set old place size) x) (size_of (set old place size) x) b) f two)) (block_of_other t b r e one))
  apart_cases t u b r q (inr e) (inr f) one two = wf.apart t u b r q (block_of_other t b r e one) (block_of_other u b q f two)

  file_not : (i : ℕ) → kind_of old i ≡ 2 → i ≢ suc n
  file_not i kind e = let one : kind_of old i ≡ 1 = subst (λ x. kind_of old x ≡ 1) (sym e) can.is_file in absurd (omega (arith, kind, one))

  directory_not : (i : ℕ) → kind_of old i ≡ 2 → i ≢ 0
  directory_not i kind e = let two : kind_of old 0 ≡ 2 = (rw e at kind) in absurd (omega (arith, two))

  file_is : (i : ℕ) → kind_of old i ≡ 1 → i ≢ 0
  file_is i kind e = let one : kind_of old 0 ≡ 1 = (rw e at kind) in absurd (omega (arith, one))

  full_kept : (t : ℕ) → IsReached old t → t ≢ suc n → IsFull old (root_of old t) (size_of old t) → IsFull (set old place size) (root_of (set old place size) t) (size_of (set old place size) t)
  full_kept t reached other full =
      subst₂ (IsFull (set old place size)) (sym (root_stays t (in_file t reached))) (sym (size_stays t (in_file t reached) other))
      (full-kept old (set old place size) (root_of old t) (size_of old t) (keeps t reached) full)

  pub resize_changes : ChangesFile old (set old place size) (suc n)
  resize_changes = record {
    reached = can.reached;
    is_file = can.is_file;
    trees = record {
      whole = whole;
      has_magic = superblock 0 (omega arith);
      counted = superblock 1 (omega arith);
      low = λ t r. low_cases t r (cases_eq t (suc n));
      sound = λ t r. sound_cases t r (cases_eq t (suc n));
      apart = λ t u b r q one two. apart_cases t u b r q (cases_eq t (suc n)) (cases_eq u (suc n)) one two;
      full_inode_file = full_kept 0 inode_file (λ e. suc-ne-zero n (sym e)) wf.full_inode_file;
      full_directories = λ i r kind. full_kept i r (file_not i kind) (wf.full_directories i r kind);
    };
    kind = λ t r. kind_stays t (in_file t r);
    attributes = λ t r. attributes_stay t (in_file t r);
    size = λ t r other. size_stays t (in_file t r) other;
    ino = λ i s r kind low. content_stays i (32 * s + 0) r (directory_not i kind) (omega (arith, low));
    entry = λ i s j f r names few. content_stays i (32 * s + f) r (directory_not i names.directory) (omega (arith, names.in_size, few));
    bytes = λ i o r other kind low. ap (λ w. byte_of w (o % 8)) (content_stays i (o / 8) r (file_is i kind) (omega (arith, low)));
  }
