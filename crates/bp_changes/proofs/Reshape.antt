-- One tree of an image gets another shape and holds the same: every other tree stays, and the image means the same.
use Rattle.std.proofs.Common.{le_of_eq, lt_of_lt_of_le, ◌≡◌, ◌≢◌, ◌⊎◌, ℕ, zero, suc, ◌+◌, ◌*◌, ◌/◌, ◌%◌, ◌<◌, ◌≤◌, length, refl, sym, ◌∙◌, ap, subst, subst₂, arith, inl, inr}
use Rattle.std.proofs.lemmas.Bool.{cases_eq}
use Rattle.bp_limits.specs.Limits.{greatest_height, super_blocks, super_magic, super_root, super_size}
use Rattle.bp_limits.proofs.Versions.{fields_most}
use Rattle.bp_layout.specs.Formatted.{version_of}
use Rattle.bp_layout.specs.Words.{Image, word, height_of, slot_word, byte_of}
use Rattle.bp_layout.specs.Tree.{node, content_word, byte, IsLiveWord, HasBlock, IsSound, IsFull}
use Rattle.bp_layout.specs.Inode.{attributes_of, inode_word, kind_of, root_of, size_of, inode_count}
use Rattle.bp_layout.specs.Reached.{IsReached, IsLiveBlock}
use Rattle.bp_layout.specs.Reached.IsReached.{inode_file}
use Rattle.bp_layout.specs.WellFormed.{IsWellFormed}
use Rattle.bp_layout.specs.Same.{Same}
use Rattle.bp_layout.proofs.AttributeLaws.{attributes_alike}
use Rattle.bp_layout.proofs.TreeLaws.{KeepsPointers, content-kept, tree_word-suc, live_pointer_word, live_content, sound-kept, full-kept, has_block-kept}
use Rattle.bp_layout.proofs.Reached.{reached-in_file}
use Rattle.bp_changes.specs.SameContent.{SameContent, IsReadByWords}
use Rattle.bp_changes.specs.SameMeaning.{SameMeaning}
use Rattle.bp_changes.proofs.Formatted.{low_stays, version_stays}
use Rattle.bp_changes.proofs.SameMeaning.{same-by_meaning}

-- tree t has this root word in the new image
pub record Reshapes (old new : Image) (t root : ℕ) : Type 0 where
  pub reached : IsReached old t
  pub whole : length new ≡ length old
  pub has_magic : word new super_magic ≡ word old super_magic
  pub counted : word new super_blocks ≡ word old super_blocks
  pub inode_bytes : word new super_size ≡ word old super_size
  pub top : t ≢ 0 → word new super_root ≡ word old super_root
  pub here : root_of new t ≡ root
  -- the live words of the other trees stay, but the root word of t
  pub others : (u e l : ℕ) → IsReached old u → u ≢ t → IsLiveWord (root_of old u) (size_of old u) (suc e) l →
      ((u ≡ 0) → (e ≡ height_of (root_of old 0)) → (l ≡ 8 * t + 1) → ⊥) →
      slot_word new (node old (root_of old u) e (l / 512)) (l % 512) ≡ slot_word old (node old (root_of old u) e (l / 512)) (l % 512)
  pub content : SameContent (IsReadByWords old t) old new (size_of old t) (root_of old t) root
  pub sound : IsSound new root (size_of old t)
  pub low : 0 < size_of old t → height_of root ≤ greatest_height (version_of old)
  pub blocks : (b : ℕ) → HasBlock new root (size_of old t) b → HasBlock old (root_of old t) (size_of old t) b ⊎ (IsLiveBlock old b → ⊥)
  pub full : IsFull old (root_of old t) (size_of old t) → IsFull new root (size_of old t)

module _ (old new : Image) (wf : IsWellFormed old) (t root : ℕ) (reshapes : Reshapes old new t root) where
  pub keeps : (u : ℕ) → IsReached old u → u ≢ t → KeepsPointers old new (root_of old u) (size_of old u)
  keeps u reached other = record {
    kept = λ d k live. reshapes.others u d k reached other (live_pointer_word _ _ (suc d) k live)
        (λ top at l. let root : height_of (root_of old u) ≡ height_of (root_of old 0) = ap (λ (x : ℕ). height_of (root_of old x)) top in omega (arith, live.height, root, at));
  }

  -- a word of another tree
  word_stays : (u k : ℕ) → IsReached old u → u ≢ t → 8 * k < size_of old u → ((u ≡ 0) → (k ≡ 8 * t + 1) → ⊥) →
      content_word new (root_of old u) k ≡ content_word old (root_of old u) k
  word_stays u k reached other below apart =
      content-kept old new (root_of old u) (size_of old u) (keeps u reached other) k below
      ∙ reshapes.others u (height_of (root_of old u)) k reached other (live_content _ _ k below) (λ top at l. apart top l)
      ∙ sym (tree_word-suc old (root_of old u) (height_of (root_of old u)) k)

  inode_file_word : (k : ℕ) → 8 * k + 8 ≤ size_of old 0 → (k ≡ 8 * t + 1 → ⊥) → content_word new (root_of new 0) k ≡ content_word old (root_of old 0) k
  inode_file_word k below apart = go (cases_eq t 0)
    where
      go : (t ≡ 0) ⊎ (t ≡ 0 → ⊥) → content_word new (root_of new 0) k ≡ content_word old (root_of old 0) k
      go (inl e) =
          subst (λ x. content_word new (root_of new x) k ≡ content_word old (root_of old x) k) e
          (ap (λ r. content_word new r k) reshapes.here ∙ reshapes.content.words (inl e) k (subst (λ x. 8 * k + 8 ≤ size_of old x) (sym e) below))
      go (inr inode) = ap (λ r. content_word new r k) (reshapes.top inode) ∙ word_stays 0 k inode_file (λ e. inode (sym e)) (omega (arith, below)) (λ top. apart)

  inode_word-same : (i f : ℕ) → IsReached old (suc i) → f < 8 → (suc i ≡ t → f ≢ 1) → inode_word new (suc i) f ≡ inode_word old (suc i) f
  inode_word-same i f reached low apart =
      let in_file : suc i < inode_count old = reached-in_file old wf (suc i) reached in
      inode_file_word (8 * suc i + f) (omega (arith, in_file, low)) (λ e. let same : suc i ≡ t = omega (arith, e, low) in apart same (omega (arith, e, same)))

  kind-same : (u : ℕ) → IsReached old u → kind_of new u ≡ kind_of old u
  kind-same zero reached = refl
  kind-same (suc i) reached = inode_word-same i 0 reached (omega arith) (λ e. omega arith)

  attributes-same : (u : ℕ) → IsReached old u → attributes_of new u ≡ attributes_of old u
  attributes-same u reached =
      attributes_alike old new u (version_stays old new reshapes.has_magic) (λ i f e least most.
      inode_word-same i f (subst (IsReached old) e reached) (lt_of_lt_of_le most (fields_most (version_of old))) (λ same one. omega (arith, one, least)))

  pub size-same : (u : ℕ) → IsReached old u → size_of new u ≡ size_of old u
  size-same zero reached = reshapes.inode_bytes
  size-same (suc i) reached = inode_word-same i 2 reached (omega arith) (λ e. omega arith)

  pub root-same : (u : ℕ) → IsReached old u → u ≢ t → root_of new u ≡ root_of old u
  root-same zero reached other = reshapes.top (λ e. other (sym e))
  root-same (suc i) reached other = inode_word-same i 1 reached (omega arith) (λ e. absurd (other e))

  -- each content word but root words
  content-same : (u k : ℕ) → IsReached old u → kind_of old u ≡ 2 → u ≢ 0 → 8 * k + 8 ≤ size_of old u → content_word new (root_of new u) k ≡ content_word old (root_of old u) k
  content-same u k reached kind inode below = go (cases_eq u t)
    where
      go : (u ≡ t) ⊎ (u ≡ t → ⊥) → content_word new (root_of new u) k ≡ content_word old (root_of old u) k
      go (inl e) =
          subst (λ x. content_word new (root_of new x) k ≡ content_word old (root_of old x) k) (sym e)
          (ap (λ r. content_word new r k) reshapes.here ∙ reshapes.content.words (inr (subst (λ x. kind_of old x ≡ 2) e kind)) k (subst (λ x. 8 * k + 8 ≤ size_of old x) e below))
      go (inr other) = ap (λ r. content_word new r k) (root-same u reached other) ∙ word_stays u k reached other (omega (arith, below)) (λ top. absurd (inode top))

  bytes-same : (u o : ℕ) → IsReached old u → u ≢ 0 → o < size_of old u → byte new (root_of new u) o ≡ byte old (root_of old u) o
  bytes-same u o reached inode below = go (cases_eq u t)
    where
      go : (u ≡ t) ⊎ (u ≡ t → ⊥) → byte new (root_of new u) o ≡ byte old (root_of old u) o
      go (inl e) =
          subst (λ x. byte new (root_of new x) o ≡ byte old (root_of old x) o) (sym e)
          (ap (λ r. byte new r o) reshapes.here ∙ reshapes.content.bytes o (subst (λ x. o < size_of old x) e below))
      go (inr other) =
          ap (λ r. byte new r o) (root-same u reached other)
          ∙ ap (λ w. byte_of w (o % 8)) (word_stays u (o / 8) reached other (omega (arith, below)) (λ top. absurd (inode top)))

  directory_inode : (i : ℕ) → kind_of old i ≡ 2 → i ≢ 0
  directory_inode i kind e = let two : kind_of old 0 ≡ 2 = (rw e at kind) in absurd (omega (arith, two))

  file_inode : (i : ℕ) → kind_of old i ≡ 1 → i ≢ 0
  file_inode i kind e = let one : kind_of old 0 ≡ 1 = (rw e at kind) in absurd (omega (arith, one))

  -- what is true of a tree by its root word and its size
  by_tree : (P : ℕ → ℕ → Type 0) (u : ℕ) → IsReached old u → (u ≡ t → P root (size_of old t)) → (u ≢ t → P (root_of old u) (size_of old u)) → P (root_of new u) (size_of new u)
  by_tree P u reached one two = go (cases_eq u t)
    where
      go : (u ≡ t) ⊎ (u ≡ t → ⊥) → P (root_of new u) (size_of new u)
      go (inl e) = subst₂ P (sym (ap (λ x. root_of new x) e ∙ reshapes.here)) (sym (size-same u reached ∙ ap (λ x. size_of old x) e)) (one e)
      go (inr other) = subst₂ P (sym (root-same u reached other)) (sym (size-same u reached)) (two other)

  sound-same : (u : ℕ) → IsReached old u → IsSound new (root_of new u) (size_of new u)
  sound-same u reached = by_tree (IsSound new) u reached (λ e. reshapes.sound)
      (λ other. sound-kept old new (root_of old u) (size_of old u) (keeps u reached other) reshapes.whole (wf.sound u reached))

  pub block-back : (u b : ℕ) → IsReached old u → HasBlock new (root_of new u) (size_of new u) b →
      HasBlock old (root_of old u) (size_of old u) b ⊎ ((u ≡ t) × (IsLiveBlock old b → ⊥))
  block-back u b reached has = by_tree (λ r s. HasBlock new r s b → HasBlock old (root_of old u) (size_of old u) b ⊎ ((u ≡ t) × (IsLiveBlock old b → ⊥))) u reached
      (λ e here. at_t e (reshapes.blocks b here))
      (λ other here. inl (has_block-kept old new (root_of old u) (size_of old u) (keeps u reached other) b here)) has
    where
      at_t : u ≡ t → HasBlock old (root_of old t) (size_of old t) b ⊎ (IsLiveBlock old b → ⊥) → HasBlock old (root_of old u) (size_of old u) b ⊎ ((u ≡ t) × (IsLiveBlock old b → ⊥))
      at_t e (inl before) = inl (subst (λ x. HasBlock old (root_of old x) (size_of old x) b) (sym e) before)
      at_t e (inr free) = inr (e, free)

  apart-same : (u v b : ℕ) → IsReached old u → IsReached old v → HasBlock new (root_of new u) (size_of new u) b → HasBlock new (root_of new v) (size_of new v) b → u ≡ v
  apart-same u v b r q one two = go (block-back u b r one) (block-back v b q two)
    where
      go : HasBlock old (root_of old u) (size_of old u) b ⊎ ((u ≡ t) × (IsLiveBlock old b → ⊥)) → HasBlock old (root_of old v) (size_of old v) b ⊎ ((v ≡ t) × (IsLiveBlock old b → ⊥)) → u ≡ v
      go (inl has) (inl also) = wf.apart u v b r q has also
      go (inl has) (inr free) = absurd (free.1 (record { tree = u; reached = r; has = has }))
      go (inr free) (inl has) = absurd (free.1 (record { tree = v; reached = q; has = has }))
      go (inr one) (inr two) = one.0 ∙ sym two.0

  full-same : (u : ℕ) → IsReached old u → IsFull old (root_of old u) (size_of old u) → IsFull new (root_of new u) (size_of new u)
  full-same u reached full = by_tree (IsFull new) u reached
      (λ e. reshapes.full (subst (λ x. IsFull old (root_of old x) (size_of old x)) e full))
      (λ other. full-kept old new (root_of old u) (size_of old u) (keeps u reached other) full)

  low-same : (u : ℕ) → IsReached old u → 0 < size_of new u → height_of (root_of new u) ≤ greatest_height (version_of new)
  low-same u reached = by_tree (λ r s. 0 < s → height_of r ≤ greatest_height (version_of new)) u reached
      (λ e. low_stays old new reshapes.has_magic root root (size_of old t) (λ _. refl) reshapes.low)
      (λ other. low_stays old new reshapes.has_magic (root_of old u) (root_of old u) (size_of old u) (λ _. refl) (wf.low u reached))

  pub reshaped_meaning : SameMeaning old new
  reshaped_meaning = record {
    trees = record {
      whole = reshapes.whole;
      has_magic = reshapes.has_magic;
      counted = reshapes.counted;
      low = low-same;
      sound = sound-same;
      apart = apart-same;
      full_inode_file = full-same 0 inode_file wf.full_inode_file;
      full_directories = λ i reached kind. full-same i reached (wf.full_directories i reached kind);
    };
    kind = kind-same;
    attributes = attributes-same;
    size = λ i reached. size-same (suc i) reached;
    inode_blocks = rw (size-same 0 inode_file) wf.inode_blocks;
    inodes = le_of_eq (sym (size-same 0 inode_file));
    ino = λ i s reached kind in_size. content-same i (32 * s + 0) reached kind (directory_inode i kind) (omega (arith, in_size));
    entry = λ i s j f reached n few. content-same i (32 * s + f) reached n.directory (directory_inode i n.directory) (omega (arith, n.in_size, few));
    bytes = λ i o reached kind below. bytes-same i o reached (file_inode i kind) below;
  }

  pub reshaped_same : Same old new
  reshaped_same = same-by_meaning old new wf reshaped_meaning
