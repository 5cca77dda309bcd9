-- What a copy on write has made, reported on content words: a commit.
use Rattle.std.proofs.Common.{◌≡◌, ◌≢◌, ◌⊎◌, ℕ, zero, suc, ◌+◌, ◌*◌, ◌/◌, ◌%◌, ◌<◌, ◌≤◌, max, [], refl, sym, ◌∙◌, ap, subst, arith, inl, inr, lt_of_lt_of_le, le_trans, zero-mul}
use Rattle.std.proofs.lemmas.Bool.{cases_eq}
use Rattle.bp_limits.specs.Limits.{greatest_height}
use Rattle.bp_layout.specs.Formatted.{version_of}
use Rattle.bp_layout.specs.Words.{Image, word, block_count, block_of, height_of, byte_of}
use Rattle.bp_layout.specs.Tree.{tree_word, node, content_word, covered, IsLivePointer, HasBlock, IsSound, IsFull}
use Rattle.bp_layout.specs.Inode.{kind_of, root_of, size_of}
use Rattle.bp_layout.specs.Reached.{IsReached}
use Rattle.bp_layout.specs.Reached.IsReached.{inode_file}
use Rattle.bp_changes.specs.Commits.{Commits}
use Rattle.bp_changes.proofs.Formatted.{version_stays}
use Rattle.bp_layout.proofs.TreeLaws.{live_above, live_content}
use Rattle.bp_changes.specs.Trail.{Trail, word_on, block_on, LeadsTo}
use Rattle.bp_changes.specs.Forest.{root_trail, tree_trail, IsForest, IsTreePointer}
use Rattle.bp_cow.specs.Counting.{IsTreeWord}
use Rattle.bp_cow.specs.Job.{Job}
use Rattle.bp_cow.specs.Committed.{after_commit, changes_of, IsCommitted}
use Rattle.bp_changes.proofs.TrailLaws.{word_on-top}
use Rattle.bp_changes.proofs.ForestLaws.{HasFewDigits, word-root, word-tree, same_trail, same_pointer, pointers, short}

-- ---- the words of a leaf

module _ (old : Image) (bound : ℕ → ℕ) (forest : IsForest old bound) (t k : ℕ) (reached : IsReached old t) (low : 8 * k < bound t) where
  leaf_live : IsLivePointer (root_of old t) (bound t) (height_of (root_of old t)) (k / 512)
  leaf_live = live_above _ _ _ _ (live_content (root_of old t) (bound t) k low)

  leaf_pointer : IsTreePointer old bound (tree_trail (height_of (word old 2)) t (height_of (root_of old t)) (k / 512))
  leaf_pointer = record { tree = t; depth = height_of (root_of old t); index = k / 512; reached = reached; live = leaf_live; named = refl }

  -- a word of the leaf is no pointer, but a root word in the inode file
  no_pointer : (m : ℕ) → m / 512 ≡ k / 512 → (t ≡ 0 → m % 8 ≢ 1) → IsTreePointer old bound (tree_trail (height_of (word old 2)) t (suc (height_of (root_of old t))) m) → ⊥
  no_pointer m up plain one =
      let deep : one.depth ≤ height_of (root_of old one.tree) = omega (arith, one.live.height) in
      let all : (one.tree ≡ t) × (one.depth ≡ suc (height_of (root_of old t))) × (one.index ≡ m) =
      same_trail old bound forest one.tree one.depth one.index t (suc (height_of (root_of old t))) m one.reached reached
      (short old bound forest one.tree one.depth one.index one.reached one.live) (subst (HasFewDigits (height_of (root_of old t))) (sym up) (short old bound forest t (height_of (root_of old t)) (k / 512) reached leaf_live))
      (omega (arith, deep)) (omega arith) (λ _ f _. absurd (omega (arith, deep, f))) (λ z _. plain z) one.named in
      let height : height_of (root_of old one.tree) ≡ height_of (root_of old t) = ap (λ (x : ℕ). height_of (root_of old x)) all.0 in
      omega (arith, deep, all.1, height)

-- ---- a commit

module _ (old now : Image) (bound : ℕ → ℕ) (forest : IsForest old bound) (turned : Trail → Type 0) (job : Job) (stage : IsCommitted old now (IsTreePointer old bound) (IsTreeWord old bound) turned (after_commit old job)) where
  low_bits : (t d k : ℕ) → IsReached old t → IsLivePointer (root_of old t) (bound t) d k →
      word_on now (tree_trail (height_of (word old 2)) t d k) % 4096 ≡ word_on old (tree_trail (height_of (word old 2)) t d k) % 4096
  low_bits t d k r live = stage.bits _ (record { tree = t; depth = d; index = k; reached = r; live = live; named = refl })

  same_height : height_of (word now 2) ≡ height_of (word old 2)
  same_height =
      let bits : word_on now [] % 4096 ≡ word_on old [] % 4096 = stage.bits [] (pointers old bound forest).top in
      let same : word now 2 % 4096 ≡ word old 2 % 4096 = sym (ap (λ w. w % 4096) (word_on-top now)) ∙ bits ∙ ap (λ w. w % 4096) (word_on-top old) in
      omega (arith, same)

  pub root-now : (t : ℕ) → word_on now (root_trail (height_of (word old 2)) t) ≡ root_of now t
  root-now t = subst (λ h. word_on now (root_trail h t) ≡ root_of now t) same_height (word-root now t)

  pub word-now : (t d k : ℕ) → word_on now (tree_trail (height_of (word old 2)) t d k) ≡ tree_word now (root_of now t) d k
  word-now t d k = subst (λ h. word_on now (tree_trail h t d k) ≡ tree_word now (root_of now t) d k) same_height (word-tree now t d k)

  node-now : (t d k : ℕ) → block_on now (tree_trail (height_of (word old 2)) t d k) ≡ node now (root_of now t) d k
  node-now t d k = ap block_of (word-now t d k)

  root_bits : (t : ℕ) → IsReached old t → 0 < bound t → root_of now t % 4096 ≡ root_of old t % 4096
  root_bits t r some =
      let bits = low_bits t 0 0 r (record { level = height_of (root_of old t); height = omega arith; live = rw zero-mul some }) in
      sym (ap (λ w. w % 4096) (root-now t)) ∙ bits ∙ ap (λ w. w % 4096) (word-root old t)

  root_height : (t : ℕ) → IsReached old t → 0 < bound t → height_of (root_of now t) ≡ height_of (root_of old t)
  root_height t r some = omega (arith, root_bits t r some)

  -- each content word has its value
  pub content_after : (t k : ℕ) → IsReached old t → 8 * k < bound t → (t ≡ 0 → k % 8 ≢ 1) →
      content_word now (root_of now t) k ≡ after_commit old job (tree_trail (height_of (word old 2)) t (suc (height_of (root_of old t))) k)
  content_after t k r low no_root =
      let some : 0 < bound t = omega (arith, low) in
      ap (λ h. tree_word now (root_of now t) (suc h) k) (root_height t r some)
      ∙ sym (word-now t (suc (height_of (root_of old t))) k)
      ∙ stage.words (tree_trail (height_of (word old 2)) t (height_of (root_of old t)) (k / 512)) (k % 512) (leaf_pointer old bound forest t k r low) (omega arith)
      (λ n. no_pointer old bound forest t k r low k refl no_root (stage.pointers _ n)) (record { tree = t; number = k; reached = r; below = low; named = refl })

  -- the size of an inode is the value of its word
  pub size_after : (i : ℕ) → IsReached old (suc i) → size_of now (suc i) ≡ after_commit old job (tree_trail (height_of (word old 2)) 0 (suc (height_of (word old 2))) (8 * suc i + 2))
  size_after i r =
      let inside : 64 * suc i + 64 ≤ bound 0 = forest.in_file i r in
      content_after 0 (8 * suc i + 2) inode_file (omega (arith, inside)) (λ _ e. omega (arith, e))

  -- the blocks to which the pointers lead are those of the trees
  pub led_has : (b : ℕ) → LeadsTo now (IsTreePointer old bound) b → (t : ℕ) × IsReached old t × HasBlock now (root_of now t) (bound t) b
  led_has b one =
      let p = one.pointer in
      let below : p.index * covered (suc p.live.level) < bound p.tree = p.live.live in (
        p.tree,
        p.reached,
        record {
          depth = p.depth;
          index = p.index;
          pointer = record { level = p.live.level; height = p.live.height ∙ sym (root_height p.tree p.reached (omega (arith, below))); live = below };
          named = sym (node-now p.tree p.depth p.index) ∙ ap (block_on now) p.named ∙ one.named;
          not_null = one.not_null;
        },
      )

  pub has_led : (b t : ℕ) → IsReached old t → HasBlock now (root_of now t) (bound t) b → LeadsTo now (IsTreePointer old bound) b
  has_led b t r has =
      let below : has.index * covered (suc has.pointer.level) < bound t = has.pointer.live in
      record {
        trail = tree_trail (height_of (word old 2)) t has.depth has.index;
        pointer = record { tree = t; depth = has.depth; index = has.index; reached = r; live = record { level = has.pointer.level; height = has.pointer.height ∙ root_height t r (omega (arith, below)); live = below }; named = refl };
        named = node-now t has.depth has.index ∙ has.named;
        not_null = has.not_null;
      }

  module _ (sizes_before : (t : ℕ) → IsReached old t → size_of old t ≤ bound t) (sizes : (t : ℕ) → IsReached old t → size_of now t ≤ bound t) where
    live_before : (t d k : ℕ) → IsReached old t → IsLivePointer (root_of now t) (size_of now t) d k → IsLivePointer (root_of old t) (bound t) d k
    live_before t d k r live =
        let below : k * covered (suc live.level) < bound t = lt_of_lt_of_le live.live (sizes t r) in
        let some : 0 < bound t = omega (arith, below) in
        record { level = live.level; height = live.height ∙ root_height t r some; live = below }

    in_range : (t d k : ℕ) → IsReached old t → IsLivePointer (root_of old t) (bound t) d k → node now (root_of now t) d k < block_count now
    in_range t d k r live = subst (λ b. b < block_count now) (node-now t d k) (stage.skeleton.in_range _ (record { tree = t; depth = d; index = k; reached = r; live = live; named = refl }))

    once : (t d k u e l : ℕ) → IsReached old t → IsReached old u → IsLivePointer (root_of old t) (bound t) d k → IsLivePointer (root_of old u) (bound u) e l →
        node now (root_of now t) d k ≢ 0 → node now (root_of now t) d k ≡ node now (root_of now u) e l → (t ≡ u) × (d ≡ e) × (k ≡ l)
    once t d k u e l r q live also present same =
        same_pointer old bound forest t d k u e l r q live also
        (stage.skeleton.once _ _ (record { tree = t; depth = d; index = k; reached = r; live = live; named = refl }) (record { tree = u; depth = e; index = l; reached = q; live = also; named = refl })
        (λ null. present (sym (node-now t d k) ∙ null)) (node-now t d k ∙ same ∙ sym (node-now u e l)))

    sound_now : (t : ℕ) → IsReached old t → IsSound now (root_of now t) (size_of now t)
    sound_now t r =
        let before : IsSound old (root_of old t) (bound t) = forest.sound t r in
        record {
          low = λ some. rw (root_height t r (lt_of_lt_of_le some (sizes t r))) (before.low (lt_of_lt_of_le some (sizes t r)));
          root_bits = λ some. omega (arith, root_bits t r (lt_of_lt_of_le some (sizes t r)), before.root_bits (lt_of_lt_of_le some (sizes t r)));
          pointer_bits = λ d k live.
              let at = live_before t (suc d) k r live in
              sym (ap (λ w. w % 4096) (word-now t (suc d) k)) ∙ low_bits t (suc d) k r at ∙ ap (λ w. w % 4096) (word-tree old t (suc d) k) ∙ before.pointer_bits d k at;
          in_range = λ d k live. in_range t d k r (live_before t d k r live);
          once = λ d k e l live also present same.
              let all : (t ≡ t) × (d ≡ e) × (k ≡ l) = once t d k t e l r r (live_before t d k r live) (live_before t e l r also) present same in (all.1, all.2);
          fits = fits (cases_eq (bound t) 0);
        }
      where
        fits : (bound t ≡ 0) ⊎ (bound t ≡ 0 → ⊥) → size_of now t ≤ covered (suc (height_of (root_of now t)))
        fits (inl none) = omega (arith, sizes t r, none)
        fits (inr some) =
            rw (root_height t r (omega (arith, some)))
            (le_trans (sizes t r) (forest.sound t r).fits)

    low_now : (t : ℕ) → IsReached old t → 0 < size_of now t → height_of (root_of now t) ≤ greatest_height (version_of now)
    low_now t r some =
        let bytes : 0 < bound t = lt_of_lt_of_le some (sizes t r) in
        rw (root_height t r bytes, version_stays old now (stage.superblock 0 (omega arith) (omega arith))) (forest.low t r bytes)

    apart_now : (t u b : ℕ) → IsReached old t → IsReached old u → HasBlock now (root_of now t) (size_of now t) b → HasBlock now (root_of now u) (size_of now u) b → t ≡ u
    apart_now t u b r q has also =
        let all : (t ≡ u) × (has.depth ≡ also.depth) × (has.index ≡ also.index) =
        once t has.depth has.index u also.depth also.index r q (live_before t has.depth has.index r has.pointer) (live_before u also.depth also.index q also.pointer)
        (λ null. has.not_null (sym has.named ∙ null)) (has.named ∙ sym also.named) in
        all.0

    full_now : (t : ℕ) → IsReached old t → IsFull old (root_of old t) (bound t) → IsFull now (root_of now t) (size_of now t)
    full_now t r full d k live null = go (stage.decide _)
      where
        before : IsLivePointer (root_of old t) (bound t) d k
        before = live_before t d k r live

        one : IsTreePointer old bound (tree_trail (height_of (word old 2)) t d k)
        one = record { tree = t; depth = d; index = k; reached = r; live = before; named = refl }

        go : turned (tree_trail (height_of (word old 2)) t d k) ⊎ (turned (tree_trail (height_of (word old 2)) t d k) → ⊥) → ⊥
        go (inl made) = (stage.fresh _ one made).0 (node-now t d k ∙ null)
        go (inr still) = full d k before (sym (ap block_of (word-tree old t d k)) ∙ sym (ap block_of (stage.kept _ one still)) ∙ node-now t d k ∙ null)

    content_now : (t k : ℕ) → IsReached old t → 8 * k < max (size_of old t) (size_of now t) → (t ≡ 0 → k % 8 ≢ 1) →
        content_word now (root_of now t) k ≡ after_commit old job (tree_trail (height_of (word old 2)) t (suc (height_of (root_of old t))) k)
    content_now t k r below no_root = content_after t k r (omega (arith, below, sizes_before t r, sizes t r)) no_root

    -- reported on content words
    pub committed_commits : IsFull old (root_of old 0) (bound 0) → ((i : ℕ) → IsReached old i → kind_of old i ≡ 2 → IsFull old (root_of old i) (bound i)) → Commits old now (changes_of old job)
    committed_commits file directories = record {
      trees = record {
        whole = stage.whole;
        has_magic = stage.superblock 0 (omega arith) (omega arith);
        counted = stage.superblock 1 (omega arith) (omega arith);
        low = low_now;
        sound = sound_now;
        apart = apart_now;
        full_inode_file = full_now 0 inode_file file;
        full_directories = λ i r kind. full_now i r (directories i r kind);
      };
      inode_bytes = stage.superblock 3 (omega arith) (omega arith);
      words = λ t k r by_words below no_root. content_now t k r (omega (arith, below)) no_root;
      bytes = λ i o r kind low.
          ap (λ w. byte_of w (o % 8)) (content_now i (o / 8) r (omega (arith, low)) (λ none. absurd (no_kind i none kind)));
    }
      where
        no_kind : (i : ℕ) → i ≡ 0 → kind_of old i ≡ 1 → ⊥
        no_kind zero none kind = absurd (omega (arith, kind))
        no_kind (suc i) none kind = absurd (omega (arith, none))
