-- An image whose words are as before, of which some stand in other blocks, means the same, and its trees have the same shape.
use Rattle.std.proofs.Common.{◌≡◌, ◌≢◌, ◌⊎◌, ℕ, zero, suc, ◌+◌, ◌-◌, ◌*◌, ◌/◌, ◌%◌, ◌<◌, ◌≤◌, [], Bool, true, false, not, ◌&&◌, ◌==◌, refl, sym, ◌∙◌, ap, subst, arith, inl, inr, le_of_eq, lt_of_lt_of_le}
use Rattle.std.specs.Prelude.{nat_le, nat_lt}
use Rattle.std.proofs.lemmas.Bool.{ne_eqb, leb-true, ltb-true}
use Rattle.bp_limits.specs.Limits.{version_at}
use Rattle.bp_limits.proofs.Versions.{fields_most}
use Rattle.bp_layout.specs.Formatted.{version_of}
use Rattle.bp_layout.proofs.AttributeLaws.{attributes_alike}
use Rattle.bp_layout.specs.Words.{Image, word, block_of, height_of, byte_of}
use Rattle.bp_layout.specs.Tree.{node, content_word, span, IsLivePointer}
use Rattle.bp_layout.specs.Nodes.{TreeNode, is_present}
use Rattle.bp_layout.specs.Inode.{attributes_of, kind_of, root_of, size_of}
use Rattle.bp_layout.specs.Directory.{entry_count}
use Rattle.bp_layout.specs.Reached.{IsReached}
use Rattle.bp_layout.specs.Reached.IsReached.{inode_file}
use Rattle.bp_layout.specs.Same.{Same}
use Rattle.bp_layout.specs.WellFormed.{IsWellFormed}
use Rattle.bp_layout.proofs.TreeLaws.{live_above, live_content}
use Rattle.bp_changes.specs.Commits.{Commits}
use Rattle.bp_changes.specs.SameMeaning.{SameMeaning}
use Rattle.bp_changes.specs.Thawed.{SameShape}
use Rattle.bp_changes.proofs.SameMeaning.{same-by_meaning}
use Rattle.bp_changes.specs.Trail.{Trail, word_on, block_on}
use Rattle.bp_changes.specs.Forest.{IsForest, IsTreePointer, along, root_trail, tree_trail}
use Rattle.bp_changes.proofs.ForestLaws.{pointers, word-root, word-tree}
use Rattle.bp_changes.proofs.FreeSets.{wf_forest}
use Rattle.bp_cow.specs.Committed.{IsCommitted, after_commit, changes_of}
use Rattle.bp_cow.specs.Counting.{IsTreeWord}
use Rattle.bp_cow.specs.Job.{Job}
use Rattle.bp_cow.proofs.CommitLaws.{committed_commits, content_after, root-now, size_after, word-now}

-- nothing is to be done
abbrev pub empty_job : Job
empty_job = record { way = λ i. []; leaves = 0; words = 0; patch = λ i slot old. old; slot = λ i. 0; value = λ i. 0; live = λ i depth. 0 }

same_null : (a b : ℕ) → (a ≡ b) ⊎ ((a ≢ 0) × (b ≢ 0)) → not (a == 0) ≡ not (b == 0)
same_null a b (inl e) = ap (λ n. not (n == 0)) e
same_null a b (inr some) = rw (ne_eqb a 0 some.0, ne_eqb b 0 some.1) refl

module _ (old new : Image) (wf : IsWellFormed old) (turned : Trail → Type 0) (stage : IsCommitted old new (IsTreePointer old (size_of old)) (IsTreeWord old (size_of old)) turned (word_on old))
    (led : (p : Trail) → turned p → block_on old p ≢ 0) where
  forest : IsForest old (size_of old)
  forest = wf_forest old wf

  pub as_job : IsCommitted old new (IsTreePointer old (size_of old)) (IsTreeWord old (size_of old)) turned (after_commit old empty_job)
  as_job = record {
    whole = stage.whole;
    superblock = stage.superblock;
    skeleton = stage.skeleton;
    kept = stage.kept;
    bits = stage.bits;
    fresh = stage.fresh;
    words = λ p slot pointer low none counts. stage.words p slot pointer low none counts;
    decide = stage.decide;
    pointers = stage.pointers;
  }

  inside : (i : ℕ) → IsReached old (suc i) → 64 * suc i + 64 ≤ size_of old 0
  inside i r = forest.in_file i r

  pub sizes-same : (t : ℕ) → IsReached old t → size_of new t ≡ size_of old t
  sizes-same zero r = stage.superblock 3 (omega arith) (omega arith)
  sizes-same (suc i) r = size_after old new (size_of old) forest turned empty_job as_job i r ∙ word-tree old 0 (suc (height_of (word old 2))) (8 * suc i + 2)

  word-same : (t k : ℕ) → IsReached old t → 8 * k < size_of old t → (t ≡ 0 → k % 8 ≢ 1) → content_word new (root_of new t) k ≡ content_word old (root_of old t) k
  word-same t k r low no_root = content_after old new (size_of old) forest turned empty_job as_job t k r low no_root ∙ word-tree old t (suc (height_of (root_of old t))) k

  commits : Commits old new (changes_of old empty_job)
  commits = committed_commits old new (size_of old) forest turned empty_job as_job (λ t r. le_of_eq refl) (λ t r. le_of_eq (sizes-same t r)) wf.full_inode_file wf.full_directories

  kinds-same : (t : ℕ) → IsReached old t → kind_of new t ≡ kind_of old t
  kinds-same zero r = refl
  kinds-same (suc i) r = word-same 0 (8 * suc i + 0) inode_file (omega (arith, inside i r)) (λ _ e. omega (arith, e))

  version-same : version_of new ≡ version_of old
  version-same = ap version_at (stage.superblock 0 (omega arith) (omega arith))

  attributes-same : (t : ℕ) → IsReached old t → attributes_of new t ≡ attributes_of old t
  attributes-same t r =
      attributes_alike old new t version-same (λ i f is least most.
      let few : f < 8 = lt_of_lt_of_le most (fields_most (version_of old)) in
      word-same 0 (8 * suc i + f) inode_file (omega (arith, inside i (subst (IsReached old) is r), few)) (λ _ e. omega (arith, least, few, e)))

  no_directory : (t : ℕ) → kind_of old t ≡ 2 → t ≢ 0
  no_directory t two e = let zero_kind : kind_of old 0 ≡ 2 = subst (λ x. kind_of old x ≡ 2) e two in omega (arith, zero_kind)

  no_file : (t : ℕ) → kind_of old t ≡ 1 → t ≢ 0
  no_file t one e = let zero_kind : kind_of old 0 ≡ 1 = subst (λ x. kind_of old x ≡ 1) e one in omega (arith, zero_kind)

  entries-same : (i s f : ℕ) → IsReached old i → kind_of old i ≡ 2 → s < entry_count old i → f < 32 → content_word new (root_of new i) (32 * s + f) ≡ content_word old (root_of old i) (32 * s + f)
  entries-same i s f r kind low few = word-same i (32 * s + f) r (omega (arith, low, few)) (λ e. absurd (no_directory i kind e))

  pub meaning_stays : SameMeaning old new
  meaning_stays = record {
    trees = commits.trees;
    kind = kinds-same;
    attributes = attributes-same;
    size = λ i r. sizes-same (suc i) r;
    inode_blocks = rw (sizes-same 0 inode_file) wf.inode_blocks;
    inodes = le_of_eq (sym (sizes-same 0 inode_file));
    ino = λ i s r kind low. entries-same i s 0 r kind low (omega arith);
    entry = λ i s j f r n few. entries-same i s f r n.directory n.in_size few;
    bytes = λ i o r kind low. ap (λ w. byte_of w (o % 8)) (word-same i (o / 8) r (omega (arith, low)) (λ e. absurd (no_file i kind e)));
  }

  pub same_stays : Same old new
  same_stays = same-by_meaning old new wf meaning_stays

  -- ---- heights

  top : ℕ
  top = height_of (word old 2)

  root_on : (t : ℕ) → IsReached old t → word_on new (root_trail (height_of (word old 2)) t) % 4096 ≡ word_on old (root_trail (height_of (word old 2)) t) % 4096
  root_on zero r = stage.bits [] (pointers old (size_of old) forest).top
  root_on (suc i) r = go (stage.decide (root_trail (height_of (word old 2)) (suc i)))
    where
      above : IsLivePointer (root_of old 0) (size_of old 0) (height_of (root_of old 0)) ((8 * suc i + 1) / 512)
      above = live_above _ _ _ _ (live_content (root_of old 0) (size_of old 0) (8 * suc i + 1) (omega (arith, inside i r)))

      leaf : IsTreePointer old (size_of old) (along [] (height_of (word old 2)) ((8 * suc i + 1) / 512))
      leaf = record { tree = 0; depth = height_of (root_of old 0); index = (8 * suc i + 1) / 512; reached = inode_file; live = above; named = refl }

      go : turned (root_trail (height_of (word old 2)) (suc i)) ⊎ (turned (root_trail (height_of (word old 2)) (suc i)) → ⊥) →
          word_on new (root_trail (height_of (word old 2)) (suc i)) % 4096 ≡ word_on old (root_trail (height_of (word old 2)) (suc i)) % 4096
      go (inl is) = stage.bits _ (stage.pointers _ is)
      go (inr none) = ap (λ w. w % 4096) (stage.words (along [] (height_of (word old 2)) ((8 * suc i + 1) / 512)) ((8 * suc i + 1) % 512) leaf (omega arith) none
          (record { tree = 0; number = 8 * suc i + 1; reached = inode_file; below = omega (arith, inside i r); named = refl }))

  pub heights-same : (t : ℕ) → IsReached old t → height_of (root_of new t) ≡ height_of (root_of old t)
  heights-same t r =
      let bits : root_of new t % 4096 ≡ root_of old t % 4096 =
      sym (ap (λ w. w % 4096) (root-now old new (size_of old) forest turned empty_job as_job t)) ∙ root_on t r ∙ ap (λ w. w % 4096) (word-root old t) in
      omega (arith, bits)

  -- ---- nodes

  pub nodes-same : (t d k : ℕ) → IsReached old t → IsLivePointer (root_of old t) (size_of old t) d k → not (node new (root_of new t) d k == 0) ≡ not (node old (root_of old t) d k == 0)
  nodes-same t d k r live = same_null _ _ (go (stage.decide q))
    where
      q : Trail
      q = tree_trail (height_of (word old 2)) t d k

      pointer : IsTreePointer old (size_of old) (tree_trail (height_of (word old 2)) t d k)
      pointer = record { tree = t; depth = d; index = k; reached = r; live = live; named = refl }

      now : block_on new (tree_trail (height_of (word old 2)) t d k) ≡ node new (root_of new t) d k
      now = ap block_of (word-now old new (size_of old) forest turned empty_job as_job t d k)

      before : block_on old (tree_trail (height_of (word old 2)) t d k) ≡ node old (root_of old t) d k
      before = ap block_of (word-tree old t d k)

      go : turned (tree_trail (height_of (word old 2)) t d k) ⊎ (turned (tree_trail (height_of (word old 2)) t d k) → ⊥) →
          (node new (root_of new t) d k ≡ node old (root_of old t) d k) ⊎ ((node new (root_of new t) d k ≢ 0) × (node old (root_of old t) d k ≢ 0))
      go (inl is) = inr (λ null. (stage.fresh _ pointer is).0 (now ∙ null), λ null. led _ is (before ∙ null))
      go (inr none) = inl (sym now ∙ ap block_of (stage.kept _ pointer none) ∙ before)

  presence : (t : ℕ) → IsReached old t → (n : TreeNode) → is_present new (root_of new t) (size_of new t) n ≡ is_present old (root_of old t) (size_of old t) n
  presence t r n = rw (heights-same t r, sizes-same t r) (go (nat_le n.level (height_of (root_of old t))) refl (nat_lt (n.index * span n.level) (size_of old t)) refl)
    where
      go : (x : Bool) → nat_le n.level (height_of (root_of old t)) ≡ x → (y : Bool) → nat_lt (n.index * span n.level) (size_of old t) ≡ y →
          (nat_le n.level (height_of (root_of old t)) && nat_lt (n.index * span n.level) (size_of old t) && not (node new (root_of new t) (height_of (root_of old t) - n.level) n.index == 0))
          ≡ (nat_le n.level (height_of (root_of old t)) && nat_lt (n.index * span n.level) (size_of old t) && not (node old (root_of old t) (height_of (root_of old t) - n.level) n.index == 0))
      go false e y f = rw e refl
      go true e false f = rw (e, f) refl
      go true e true f =
          let low : n.level ≤ height_of (root_of old t) = leb-true n.level (height_of (root_of old t)) e in
          ap (λ b. nat_le n.level (height_of (root_of old t)) && nat_lt (n.index * span n.level) (size_of old t) && b)
          (nodes-same t (height_of (root_of old t) - n.level) n.index r (record { level = n.level; height = omega (arith, low); live = ltb-true (n.index * span n.level) (size_of old t) f }))

  pub shape_stays : SameShape old new
  shape_stays = record { meaning = meaning_stays; sizes = sizes-same; heights = heights-same; present = presence }
