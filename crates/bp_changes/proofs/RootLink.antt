-- A root word is replaced by one that reads as the same: the image means the same.
use Rattle.std.proofs.Common.{◌≡◌, ◌≢◌, ◌⊎◌, ℕ, zero, suc, ◌+◌, ◌*◌, ◌/◌, ◌%◌, ◌<◌, ◌≤◌, length, set, refl, sym, ◌∙◌, ap, subst, arith, inl, inr, get_or-set_same, get_or-set_other}
use Rattle.std.proofs.lemmas.Bool.{cases_eq}
use Rattle.std.proofs.lemmas.List.{length-set}
use Rattle.bp_layout.specs.Words.{Image, word, height_of, slot_word, byte_of}
use Rattle.bp_layout.specs.Tree.{node, content_word, IsLiveWord, HasBlock}
use Rattle.bp_layout.specs.Inode.{inode_word, root_of, size_of, inode_count, RootPlace}
use Rattle.bp_layout.specs.Reached.{IsReached, IsLiveBlock}
use Rattle.bp_layout.specs.Reached.IsReached.{inode_file}
use Rattle.bp_layout.specs.WellFormed.{IsWellFormed}
use Rattle.bp_layout.specs.Same.{Same}
use Rattle.bp_layout.proofs.TreeLaws.{KeepsPointers, content-kept, slot_word-same, tree_word-suc, live_above, live_pointer_word, live_content, sound-kept, full-kept, has_block-kept}
use Rattle.bp_layout.proofs.Reached.{reached-in_file}
use Rattle.bp_changes.proofs.Separation.{stands_in_block}
use Rattle.bp_changes.proofs.ContentStore.{word-stored, word-elsewhere}
use Rattle.bp_changes.specs.SameContent.{ReadsAs, IsReadByWords}
use Rattle.bp_layout.specs.Inode.RootPlace.{top, inode}
use Rattle.bp_changes.proofs.Reshape.{Reshapes, reshaped_same}

pub inode_root : (image : Image) (t : ℕ) → t ≢ 0 → root_of image t ≡ inode_word image t 1
inode_root image zero some = absurd (some refl)
inode_root image (suc i) some = refl

module _ (old : Image) (wf : IsWellFormed old) (t place other : ℕ) (reached : IsReached old t) (at : RootPlace old t place) (reads : ReadsAs (IsReadByWords old t) old (size_of old t) (root_of old t) other) where
  in_file : 8 * (8 * t + 1) < size_of old 0
  in_file = let low : t < inode_count old = reached-in_file old wf t reached in omega (arith, low)

  the_word : IsLiveWord (root_of old 0) (size_of old 0) (suc (height_of (root_of old 0))) (8 * t + 1)
  the_word = live_content (root_of old 0) (size_of old 0) (8 * t + 1) in_file

  -- the root word stands in none of the tree's blocks, and in no free one
  pub beside : (b s : ℕ) → b ≢ 0 → s < 512 → HasBlock old (root_of old t) (size_of old t) b ⊎ (IsLiveBlock old b → ⊥) → 512 * b + s ≢ place
  beside b s present low which here = go at
    where
      go : RootPlace old t place → ⊥
      go (top first two) = present (omega (arith, here, two))
      go (inode some stands) =
          let same : b ≡ node old (root_of old 0) (height_of (root_of old 0)) ((8 * t + 1) / 512) = omega (arith, here, stands.at, low) in
          let has : HasBlock old (root_of old 0) (size_of old 0) b =
          subst (HasBlock old (root_of old 0) (size_of old 0)) (sym same) (stands_in_block old 0 (height_of (root_of old 0)) (8 * t + 1) place stands the_word) in
          elim which [
            | inl mine ↦ some (wf.apart t 0 b reached inode_file mine has)
            | inr free ↦ free (record { tree = 0; reached = inode_file; has = has })
          ]

  slot_stays : (b s : ℕ) → s < 512 → HasBlock old other (size_of old t) b → slot_word (set old place other) b s ≡ slot_word old b s
  slot_stays b s low has = slot_word-same old (set old place other) b s (λ present. get_or-set_other old place _ other 0 (beside b s present low (reads.blocks b has)))

  -- a live word but the root word
  elsewhere : (u e l : ℕ) → IsReached old u → IsLiveWord (root_of old u) (size_of old u) (suc e) l → ((u ≡ 0) → (e ≡ height_of (root_of old 0)) → (l ≡ 8 * t + 1) → ⊥) →
      slot_word (set old place other) (node old (root_of old u) e (l / 512)) (l % 512) ≡ slot_word old (node old (root_of old u) e (l / 512)) (l % 512)
  elsewhere u e l r live apart = go at
    where
      go : RootPlace old t place → slot_word (set old place other) (node old (root_of old u) e (l / 512)) (l % 512) ≡ slot_word old (node old (root_of old u) e (l / 512)) (l % 512)
      go (top first two) = slot_word-same old (set old place other) _ _ (λ present. get_or-set_other old place _ other 0 (λ e. present (omega (arith, e, two))))
      go (inode some stands) =
          word-elsewhere old wf 0 (height_of (root_of old 0)) (8 * t + 1) place other inode_file the_word stands u e l r live
          (λ same. apart (sym same.tree) (sym same.depth) (sym same.index))

  low_words : (p : ℕ) → p < 512 → (t ≢ 0) ⊎ (p ≢ 2) → word (set old place other) p ≡ word old p
  low_words p low any = get_or-set_other old place p other 0 (go at any)
    where
      go : RootPlace old t place → (t ≢ 0) ⊎ (p ≢ 2) → p ≢ place
      go (top first two) (inl some) e = some first
      go (top first two) (inr apart) e = apart (e ∙ two)
      go (inode some stands) any e = stands.present (omega (arith, stands.at, e, low))

  new_root : root_of (set old place other) t ≡ other
  new_root = go at
    where
      go : RootPlace old t place → root_of (set old place other) t ≡ other
      go (top first two) =
          let some : 8 ≤ length old / 512 = wf.formatted.sized.at_least in
          rw (first, two) (get_or-set_same old 2 other 0 (omega (arith, some)))
      go (inode some stands) =
          let two : word (set old place other) 2 ≡ word old 2 = low_words 2 (omega arith) (inl some) in
          let keeps : KeepsPointers old (set old place other) (root_of old 0) (size_of old 0) = record {
            kept = λ d k live. word-elsewhere old wf 0 (height_of (root_of old 0)) (8 * t + 1) place other inode_file the_word stands 0 d k inode_file
                (live_pointer_word _ _ (suc d) k live) (λ same. omega (arith, same.depth, live.height));
          } in
          inode_root (set old place other) t some
          ∙ rw two
          (content-kept old (set old place other) (root_of old 0) (size_of old 0) keeps (8 * t + 1) in_file
          ∙ word-stored old wf 0 (height_of (root_of old 0)) (8 * t + 1) place other inode_file the_word stands)

  keeps_new : KeepsPointers old (set old place other) other (size_of old t)
  keeps_new = record { kept = λ d k live. new_slot d k (live_pointer_word _ _ (suc d) k live) }
    where
      new_slot : (d k : ℕ) → IsLiveWord other (size_of old t) (suc d) k → slot_word (set old place other) (node old other d (k / 512)) (k % 512) ≡ slot_word old (node old other d (k / 512)) (k % 512)
      new_slot d k live = go (cases_eq (node old other d (k / 512)) 0)
        where
          go : (node old other d (k / 512) ≡ 0) ⊎ (node old other d (k / 512) ≡ 0 → ⊥) → slot_word (set old place other) (node old other d (k / 512)) (k % 512) ≡ slot_word old (node old other d (k / 512)) (k % 512)
          go (inl null) = rw null refl
          go (inr present) = slot_stays _ (k % 512) (omega arith) (record { depth = d; index = k / 512; pointer = live_above _ _ d k live; named = refl; not_null = present })

  new_word : (k : ℕ) → 8 * k < size_of old t → content_word (set old place other) other k ≡ content_word old other k
  new_word k below =
      content-kept old (set old place other) other (size_of old t) keeps_new k below
      ∙ last (cases_eq (node old other (height_of other) (k / 512)) 0)
      ∙ sym (tree_word-suc old other (height_of other) k)
    where
      last : (node old other (height_of other) (k / 512) ≡ 0) ⊎ (node old other (height_of other) (k / 512) ≡ 0 → ⊥) →
          slot_word (set old place other) (node old other (height_of other) (k / 512)) (k % 512) ≡ slot_word old (node old other (height_of other) (k / 512)) (k % 512)
      last (inl null) = rw null refl
      last (inr present) = slot_stays _ (k % 512) (omega arith) (record { depth = height_of other; index = k / 512; pointer = live_above _ _ (height_of other) k (live_content other _ k below); named = refl; not_null = present })

  pub root_reshapes : Reshapes old (set old place other) t other
  root_reshapes = record {
    reached = reached;
    whole = length-set old place other;
    has_magic = low_words 0 (omega arith) (inr (λ e. omega (arith, e)));
    counted = low_words 1 (omega arith) (inr (λ e. omega (arith, e)));
    inode_bytes = low_words 3 (omega arith) (inr (λ e. omega (arith, e)));
    top = λ inode. low_words 2 (omega arith) (inl inode);
    here = new_root;
    others = λ u e l r other_tree live apart. elsewhere u e l r live apart;
    content = record {
      words = λ exact k below. new_word k (omega (arith, below)) ∙ reads.content.words exact k below;
      bytes = λ o below. ap (λ w. byte_of w (o % 8)) (new_word (o / 8) (omega (arith, below))) ∙ reads.content.bytes o below;
    };
    low = reads.low;
    sound = sound-kept old (set old place other) other (size_of old t) keeps_new (length-set old place other) reads.sound;
    blocks = λ b has. reads.blocks b (has_block-kept old (set old place other) other (size_of old t) keeps_new b has);
    full = λ full. full-kept old (set old place other) other (size_of old t) keeps_new (reads.full full);
  }

  -- the link of a root word
  pub root_link_same : Same old (set old place other)
  root_link_same = reshaped_same old (set old place other) wf t other root_reshapes
