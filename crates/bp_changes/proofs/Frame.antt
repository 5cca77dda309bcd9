-- An image whose words may all stand in a well-formed one is well-formed, and shows the same.
use Rattle.std.proofs.Common.{le_of_eq, suc-ne-zero, lt_of_lt_of_le, ◌≡◌, ◌⊎◌, inl, inr, subst, ℕ, zero, suc, ◌+◌, ◌*◌, ◌/◌, ◌%◌, ◌<◌, ◌≤◌, refl, sym, ◌∙◌, ap, subst₂, arith}
use Rattle.std.proofs.lemmas.Bool.{cases_eq}
use Rattle.bp_limits.specs.Limits.{greatest_height, inode_fields}
use Rattle.bp_limits.proofs.Versions.{fields_least, fields_most}
use Rattle.bp_layout.specs.Formatted.{version_of}
use Rattle.bp_layout.specs.Words.{Image, word, height_of, byte_of}
use Rattle.bp_layout.specs.Tree.{content_word, byte, HasBlock, IsSound, IsFull}
use Rattle.bp_layout.specs.Inode.{attributes_of, inode_word, kind_of, root_of, size_of, inode_count, ContentStandsAt, RootPlace}
use Rattle.bp_layout.specs.Inode.RootPlace.{inode}
use Rattle.bp_layout.specs.Directory.{EntryNames, ino_at, entry_word, entry_count}
use Rattle.bp_layout.specs.Reached.{IsReached}
use Rattle.bp_layout.specs.Reached.IsReached.{inode_file}
use Rattle.bp_layout.specs.WellFormed.{IsWellFormed}
use Rattle.bp_layout.specs.Same.{Same}
use Rattle.bp_changes.specs.Harmless.{Agrees}
use Rattle.bp_layout.proofs.AttributeLaws.{attributes_alike}
use Rattle.bp_layout.proofs.Reached.{reached-in_file}
use Rattle.bp_layout.proofs.TreeLaws.{KeepsPointers, content-kept, slot_word-same, tree_word-suc, slot_byte-same, sound-kept, full-kept, has_block-kept, has_block-stays}
use Rattle.bp_layout.proofs.SmallTrees.{none_live, empty_sound, empty_has_none}
use Rattle.bp_changes.specs.SameMeaning.{SameMeaning}
use Rattle.bp_changes.proofs.SameMeaning.{same-by_meaning}
use Rattle.bp_changes.proofs.Formatted.{low_stays, version_stays}

module _ (old new : Image) (wf : IsWellFormed old) (agrees : Agrees old new) where
  -- the pointers of a reached tree stay
  pub keeps : (t : ℕ) → IsReached old t → KeepsPointers old new (root_of old t) (size_of old t)
  keeps t reached = record {
    kept = λ d k live. slot_word-same old new _ _ (λ present.
        (agrees.each _).pointers t d k reached live (record { present = present; at = refl }));
  }

  inode_file_root : root_of new 0 ≡ root_of old 0
  inode_file_root = (agrees.each 2).superblock (omega arith)

  inode_file_size : size_of new 0 ≡ size_of old 0
  inode_file_size = (agrees.each 3).superblock (omega arith)

  -- a content word is what stands at its old place
  content_word-same : (t k : ℕ) → IsReached old t → root_of new t ≡ root_of old t → 8 * k < size_of old t →
      ((place : ℕ) → ContentStandsAt old t k place → word new place ≡ word old place) →
      content_word new (root_of new t) k ≡ content_word old (root_of old t) k
  content_word-same t k reached root below same =
      rw root
      (content-kept old new (root_of old t) (size_of old t) (keeps t reached) k below
      ∙ slot_word-same old new _ _ (λ present. same _ (record { present = present; at = refl }))
      ∙ sym (tree_word-suc old (root_of old t) (height_of (root_of old t)) k))

  inode_word-same : (i f : ℕ) → IsReached old (suc i) → f < 8 →
      ((place : ℕ) → ContentStandsAt old 0 (8 * suc i + f) place → word new place ≡ word old place) → inode_word new (suc i) f ≡ inode_word old (suc i) f
  inode_word-same i f reached low =
      let in_file : suc i < inode_count old = reached-in_file old wf (suc i) reached in
      content_word-same 0 (8 * suc i + f) inode_file inode_file_root (omega (arith, in_file, low))

  -- the kind, the root word and the size have a meaning in each version
  read : (f : ℕ) → f < 3 → f < inode_fields (version_of old)
  read f low = lt_of_lt_of_le low (fields_least (version_of old))

  kind-same : (t : ℕ) → IsReached old t → kind_of new t ≡ kind_of old t
  kind-same zero reached = refl
  kind-same (suc i) reached = inode_word-same i 0 reached (omega arith) (λ place at. (agrees.each place).inodes i 0 reached (read 0 (omega arith)) (λ e. omega (arith, e)) at)

  attributes-same : (t : ℕ) → IsReached old t → attributes_of new t ≡ attributes_of old t
  attributes-same t reached =
      attributes_alike old new t (version_stays old new ((agrees.each 0).superblock (omega arith))) (λ i f e least most.
      let here : IsReached old (suc i) = subst (IsReached old) e reached in
      inode_word-same i f here (lt_of_lt_of_le most (fields_most (version_of old))) (λ place at. (agrees.each place).inodes i f here most (λ one. omega (arith, one, least)) at))

  pub root-same : (t : ℕ) → IsReached old t → 0 < size_of old t → root_of new t ≡ root_of old t
  root-same zero reached some = inode_file_root
  root-same (suc i) reached some = inode_word-same i 1 reached (omega arith) (λ place at. (agrees.each place).inodes i 1 reached (read 1 (omega arith)) (λ e. some) at)

  -- a root word at whose place the same stands, whatever the size
  pub root-kept : (t : ℕ) → IsReached old t → ((place : ℕ) → RootPlace old t place → word new place ≡ word old place) → root_of new t ≡ root_of old t
  root-kept zero reached same = inode_file_root
  root-kept (suc i) reached same = inode_word-same i 1 reached (omega arith) (λ place at. same place (inode (suc-ne-zero i) at))

  pub size-same : (t : ℕ) → IsReached old t → size_of new t ≡ size_of old t
  size-same zero reached = inode_file_size
  size-same (suc i) reached = inode_word-same i 2 reached (omega arith) (λ place at. (agrees.each place).inodes i 2 reached (read 2 (omega arith)) (λ e. omega (arith, e)) at)

  ino-same : (i slot : ℕ) → IsReached old i → kind_of old i ≡ 2 → slot < entry_count old i → ino_at new i slot ≡ ino_at old i slot
  ino-same i slot reached kind in_size =
      content_word-same i (32 * slot + 0) reached (root-same i reached (omega (arith, in_size))) (omega (arith, in_size)) (λ place at. (agrees.each place).inos i slot reached kind in_size at)

  entry_word-same : (i slot j f : ℕ) → IsReached old i → EntryNames old i slot j → f < 32 → entry_word new i slot f ≡ entry_word old i slot f
  entry_word-same i slot j f reached names low =
      content_word-same i (32 * slot + f) reached (root-same i reached (omega (arith, names.in_size))) (omega (arith, names.in_size)) (λ place at. (agrees.each place).names i slot j f reached names low at)

  byte-same : (i o : ℕ) → IsReached old i → kind_of old i ≡ 1 → o < size_of old i → byte new (root_of new i) o ≡ byte old (root_of old i) o
  byte-same i o reached kind below =
      rw (root-same i reached (omega (arith, below)))
      (ap (λ w. byte_of w (o % 8)) (content-kept old new (root_of old i) (size_of old i) (keeps i reached) (o / 8) (omega (arith, below)))
      ∙ slot_byte-same old new _ _ (o % 8) (λ present. (agrees.each _).bytes i o reached kind below (record { present = present; at = refl }))
      ∙ ap (λ w. byte_of w (o % 8)) (sym (tree_word-suc old (root_of old i) (height_of (root_of old i)) (o / 8))))

  -- what is true of a tree by its root word and its size, and by no root word where it has no bytes
  at_old : (P : ℕ → ℕ → Type 0) → ((r s : ℕ) → P r 0 → P s 0) → (t : ℕ) → IsReached old t → P (root_of old t) (size_of old t) → P (root_of new t) (size_of new t)
  at_old P any t reached h = go (cases_eq (size_of old t) 0)
    where
      go : (size_of old t ≡ 0) ⊎ (size_of old t ≡ 0 → ⊥) → P (root_of new t) (size_of new t)
      go (inl none) = subst (P (root_of new t)) (sym (size-same t reached ∙ none)) (any (root_of old t) (root_of new t) (subst (P (root_of old t)) none h))
      go (inr some) = subst₂ P (sym (root-same t reached (omega (arith, some)))) (sym (size-same t reached)) h

  at_new : (P : ℕ → ℕ → Type 0) → ((r s : ℕ) → P r 0 → P s 0) → (t : ℕ) → IsReached old t → P (root_of new t) (size_of new t) → P (root_of old t) (size_of old t)
  at_new P any t reached h = go (cases_eq (size_of old t) 0)
    where
      go : (size_of old t ≡ 0) ⊎ (size_of old t ≡ 0 → ⊥) → P (root_of old t) (size_of old t)
      go (inl none) = subst (P (root_of old t)) (sym none) (any (root_of new t) (root_of old t) (subst (P (root_of new t)) (size-same t reached ∙ none) h))
      go (inr some) = subst₂ P (root-same t reached (omega (arith, some))) (size-same t reached) h

  pub has_block-back : (t b : ℕ) → IsReached old t → HasBlock new (root_of new t) (size_of new t) b → HasBlock old (root_of old t) (size_of old t) b
  has_block-back t b reached has =
      has_block-kept old new (root_of old t) (size_of old t) (keeps t reached) b
      (at_new (λ r s. HasBlock new r s b) (λ r s none. absurd (empty_has_none new r b none)) t reached has)

  pub has_block-on : (t b : ℕ) → IsReached old t → HasBlock old (root_of old t) (size_of old t) b → HasBlock new (root_of new t) (size_of new t) b
  has_block-on t b reached has =
      at_old (λ r s. HasBlock new r s b) (λ r s none. absurd (empty_has_none new r b none)) t reached
      (has_block-stays old new (root_of old t) (size_of old t) (keeps t reached) b has)

  full-on : (t : ℕ) → IsReached old t → IsFull old (root_of old t) (size_of old t) → IsFull new (root_of new t) (size_of new t)
  full-on t reached full =
      at_old (IsFull new) (λ r s _ d k live. absurd (none_live s d k live)) t reached
      (full-kept old new (root_of old t) (size_of old t) (keeps t reached) full)

  pub meaning-same : SameMeaning old new
  meaning-same = record {
    trees = record {
      whole = agrees.whole;
      has_magic = (agrees.each 0).superblock (omega arith);
      counted = (agrees.each 1).superblock (omega arith);
      low = λ t r. at_old (λ root s. 0 < s → height_of root ≤ greatest_height (version_of new)) (λ _ _ _ some. absurd (omega (arith, some))) t r
          (low_stays old new ((agrees.each 0).superblock (omega arith)) (root_of old t) (root_of old t) (size_of old t) (λ _. refl) (wf.low t r));
      sound = λ t r. at_old (IsSound new) (λ r s _. empty_sound new s) t r (sound-kept old new (root_of old t) (size_of old t) (keeps t r) agrees.whole (wf.sound t r));
      apart = λ t u b r q has also. wf.apart t u b r q (has_block-back t b r has) (has_block-back u b q also);
      full_inode_file = full-on 0 inode_file wf.full_inode_file;
      full_directories = λ i r kind. full-on i r (wf.full_directories i r kind);
    };
    kind = kind-same;
    attributes = attributes-same;
    size = λ i reached. size-same (suc i) reached;
    inode_blocks = rw (size-same 0 inode_file) wf.inode_blocks;
    inodes = le_of_eq (sym (size-same 0 inode_file));
    ino = ino-same;
    entry = entry_word-same;
    bytes = byte-same;
  }

  pub same-by_agreement : Same old new
  same-by_agreement = same-by_meaning old new wf meaning-same
