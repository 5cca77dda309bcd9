-- An entry that stands ready after the last one of a directory is still ready after stores to an inode that nobody reaches.
use Rattle.std.proofs.Common.{◌≡◌, ◌≢◌, ℕ, zero, suc, ◌+◌, ◌-◌, ◌*◌, ◌/◌, ◌%◌, ◌<◌, ◌≤◌, refl, sym, ◌∙◌, subst, subst₂, suc-ne-zero, arith}
use Rattle.bp_changes.proofs.Formatted.{version_stays}
use Rattle.bp_layout.specs.Paths.{Name, IsName}
use Rattle.bp_layout.specs.Free.{IsFreeInode}
use Rattle.bp_layout.specs.Inode.{ContentStandsAt, root_of, size_of, inode_count}
use Rattle.bp_layout.specs.Reached.{IsReached}
use Rattle.bp_layout.specs.Reached.IsReached.{inode_file}
use Rattle.bp_layout.specs.Tree.{node, content_word, HasBlock, IsLiveWord, IsSound, IsFull}
use Rattle.bp_layout.specs.WellFormed.{IsWellFormed}
use Rattle.bp_layout.specs.Words.{Image, word, height_of, slot_word}
use Rattle.bp_layout.proofs.Reached.{reached-in_file}
use Rattle.bp_layout.proofs.TreeLaws.{KeepsPointers, content-kept, slot_word-at, slot_word-same, tree_word-suc, live_pointer_word, live_content, live_above, sound-kept, full-kept, has_block-kept, has_block-stays}
use Rattle.bp_read.specs.Within.{IsWithin}
use Rattle.bp_calls.specs.Entered.{IsReadyPastEnd}
use Rattle.bp_calls.proofs.AfterLaws.{kind_after, reached_after, reached_before, size_after}
use Rattle.bp_calls.proofs.EnteredLaws.{directory_inode, name_same}
use Rattle.bp_calls.proofs.Spares.{one_content, row_stands}
use Rattle.bp_calls.proofs.Trees.{SameTrees, live_leaf, word_kept}

module _ (old new : Image) (wf : IsWellFormed old) (trees : SameTrees old new) (n j at : ℕ) (name : Name) (free : IsFreeInode old j) (stands : ContentStandsAt old 0 (8 * j + 0) at)
    (frame : (p : ℕ) → (IsWithin at 8 p → ⊥) → word new p ≡ word old p) (ready : IsReadyPastEnd old (suc n) j name) where
  abbrev root : ℕ
  root = root_of old (suc n)

  abbrev more : ℕ
  more = size_of old (suc n) + 256

  in_file : suc n < inode_count old
  in_file = reached-in_file old wf (suc n) ready.reached

  -- no word of the directory is one of the inode
  inode_block : HasBlock old (root_of old 0) (size_of old 0) (node old (root_of old 0) (height_of (root_of old 0)) ((8 * j + 0) / 512))
  inode_block = record {
    depth = height_of (root_of old 0);
    index = (8 * j + 0) / 512;
    pointer = live_leaf (root_of old 0) (size_of old 0) ((8 * j + 0) / 512) (let high : j < inode_count old = free.high in omega (arith, high));
    named = refl;
    not_null = stands.present;
  }

  beside : (b s : ℕ) → s < 512 → HasBlock old root more b → IsWithin at 8 (512 * b + s) → ⊥
  beside b s low has inside =
      let first : at ≤ 512 * b + s = inside.low in
      let last : 512 * b + s < at + 8 = inside.high in
      let same : b ≡ node old (root_of old 0) (height_of (root_of old 0)) ((8 * j + 0) / 512) = omega (arith, first, last, low, stands.at) in
      ready.apart 0 b inode_file (λ e. suc-ne-zero n (sym e)) has (subst (HasBlock old (root_of old 0) (size_of old 0)) (sym same) inode_block)

  word_stays : (d k : ℕ) → IsLiveWord root more (suc d) k → slot_word new (node old root d (k / 512)) (k % 512) ≡ slot_word old (node old root d (k / 512)) (k % 512)
  word_stays d k live =
      slot_word-same old new (node old root d (k / 512)) (k % 512) (λ present.
      frame (512 * node old root d (k / 512) + k % 512)
      (beside (node old root d (k / 512)) (k % 512) (omega arith) (record { depth = d; index = k / 512; pointer = live_above _ _ d k live; named = refl; not_null = present })))

  keeps : KeepsPointers old new root more
  keeps = record { kept = λ d k live. word_stays d k (live_pointer_word _ _ (suc d) k live) }

  -- the root word stays where it is
  root_word : word new (512 * node old (root_of old 0) (height_of (root_of old 0)) ((8 * suc n + 1) / 512) + (8 * suc n + 1) % 512) ≡ root
  root_word =
      frame (512 * node old (root_of old 0) (height_of (root_of old 0)) ((8 * suc n + 1) / 512) + (8 * suc n + 1) % 512) root_beside
      ∙ sym (tree_word-suc old (root_of old 0) (height_of (root_of old 0)) (8 * suc n + 1) ∙ slot_word-at old _ ((8 * suc n + 1) % 512) present)
    where
      present : node old (root_of old 0) (height_of (root_of old 0)) ((8 * suc n + 1) / 512) ≢ 0
      present = wf.full_inode_file _ _ (live_leaf (root_of old 0) (size_of old 0) ((8 * suc n + 1) / 512) (omega (arith, in_file)))

      root_beside : IsWithin at 8 (512 * node old (root_of old 0) (height_of (root_of old 0)) ((8 * suc n + 1) / 512) + (8 * suc n + 1) % 512) → ⊥
      root_beside inside =
          let place : ℕ = 512 * node old (root_of old 0) (height_of (root_of old 0)) ((8 * suc n + 1) / 512) + (8 * suc n + 1) % 512 in
          let first : at ≤ place = inside.low in
          let last : place < at + 8 = inside.high in
          let f : ℕ = place - at in
          let high : j < inode_count old = free.high in
          let same = one_content old wf 0 (8 * suc n + 1) 0 (8 * j + f) place inode_file inode_file (omega (arith, in_file)) (omega (arith, high)) (record { present = present; at = refl })
          (row_stands old 0 (8 * j + 0) f (8 * j + f) at place (omega arith) (omega arith) (omega arith) stands) in
          let inodes : suc n ≡ j = omega (arith, same.1) in
          free.free (subst (IsReached old) inodes ready.reached)

  root_stays : root_of new (suc n) ≡ root
  root_stays =
      word_kept old new trees 0 (8 * suc n + 1) (512 * node old (root_of old 0) (height_of (root_of old 0)) ((8 * suc n + 1) / 512) + (8 * suc n + 1) % 512) inode_file (omega (arith, in_file))
      (record { present = wf.full_inode_file _ _ (live_leaf (root_of old 0) (size_of old 0) ((8 * suc n + 1) / 512) (omega (arith, in_file))); at = refl })
      ∙ root_word

  size_stays : size_of new (suc n) ≡ size_of old (suc n)
  size_stays = size_after old new wf trees.prepared (suc n) ready.reached

  content_stays : (k : ℕ) → 8 * k < more → content_word new root k ≡ content_word old root k
  content_stays k below =
      content-kept old new root more keeps k below ∙ word_stays (height_of root) k (live_content _ _ k below) ∙ sym (tree_word-suc old root (height_of root) k)

  -- under the new size the tree has the blocks that it had
  pub more_back : (b : ℕ) → HasBlock new (root_of new (suc n)) (size_of new (suc n) + 256) b → HasBlock old root more b
  more_back b has = has_block-kept old new root more keeps b (subst₂ (λ r s. HasBlock new r (s + 256) b) root_stays size_stays has)

  pub more_stays : (b : ℕ) → HasBlock old root more b → HasBlock new (root_of new (suc n)) (size_of new (suc n) + 256) b
  more_stays b has = subst₂ (λ r s. HasBlock new r (s + 256) b) (sym root_stays) (sym size_stays) (has_block-stays old new root more keeps b has)

  pub ready_kept_suc : IsName name → size_of old (suc n) % 256 ≡ 0 → IsReadyPastEnd new (suc n) j name
  ready_kept_suc form entries = record {
    reached = reached_after old new wf trees.prepared (suc n) ready.reached;
    directory = kind_after old new wf trees.prepared (suc n) ready.reached ∙ ready.directory;
    sound = subst₂ (λ r s. IsSound new r (s + 256)) (sym root_stays) (sym size_stays) (sound-kept old new root more keeps trees.prepared.meaning.trees.whole ready.sound);
    low = rw (root_stays, version_stays old new trees.prepared.meaning.trees.has_magic) ready.low;
    full = subst₂ (λ r s. IsFull new r (s + 256)) (sym root_stays) (sym size_stays) (full-kept old new root more keeps ready.full);
    apart = λ u b reached other has also.
        ready.apart u b (reached_before old new wf trees.prepared u reached) other (more_back b has) (trees.prepared.blocks.back u b (reached_before old new wf trees.prepared u reached) also);
    ino = rw (root_stays, size_stays) (content_stays (32 * (size_of old (suc n) / 256) + 0) (omega (arith, entries)) ∙ ready.ino);
    spelled = rw (root_stays, size_stays)
        (name_same old new root root (size_of old (suc n) / 256) (rw ready.spelled form.short) (λ f some few. content_stays (32 * (size_of old (suc n) / 256) + f) (omega (arith, entries, few)))
        ∙ ready.spelled);
  }

-- ---- the same of any directory

module _ (old new : Image) (wf : IsWellFormed old) (trees : SameTrees old new) where
  pub ready_kept : (i j at : ℕ) (name : Name) → IsFreeInode old j → ContentStandsAt old 0 (8 * j + 0) at → ((p : ℕ) → (IsWithin at 8 p → ⊥) → word new p ≡ word old p) → IsReadyPastEnd old i j name → IsName name →
      IsReadyPastEnd new i j name
  ready_kept zero j at name free stands frame ready form = absurd (directory_inode old 0 ready.directory refl)
  ready_kept (suc n) j at name free stands frame ready form = ready_kept_suc old new wf trees n j at name free stands frame ready form (wf.directory_sizes (suc n) ready.reached ready.directory)

  pub ready_back : (i j at : ℕ) (name : Name) → IsFreeInode old j → ContentStandsAt old 0 (8 * j + 0) at → ((p : ℕ) → (IsWithin at 8 p → ⊥) → word new p ≡ word old p) → IsReadyPastEnd old i j name →
      (b : ℕ) → HasBlock new (root_of new i) (size_of new i + 256) b → HasBlock old (root_of old i) (size_of old i + 256) b
  ready_back zero j at name free stands frame ready = absurd (directory_inode old 0 ready.directory refl)
  ready_back (suc n) j at name free stands frame ready = more_back old new wf trees n j at name free stands frame ready

  pub ready_stays : (i j at : ℕ) (name : Name) → IsFreeInode old j → ContentStandsAt old 0 (8 * j + 0) at → ((p : ℕ) → (IsWithin at 8 p → ⊥) → word new p ≡ word old p) → IsReadyPastEnd old i j name →
      (b : ℕ) → HasBlock old (root_of old i) (size_of old i + 256) b → HasBlock new (root_of new i) (size_of new i + 256) b
  ready_stays zero j at name free stands frame ready = absurd (directory_inode old 0 ready.directory refl)
  ready_stays (suc n) j at name free stands frame ready = more_stays old new wf trees n j at name free stands frame ready
