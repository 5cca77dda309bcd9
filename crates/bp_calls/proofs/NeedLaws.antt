-- How many blocks a new name needs, where an inode is free.
use Rattle.std.proofs.Common.{◌≡◌, ◌≢◌, ℕ, suc, ◌+◌, ◌*◌, ◌/◌, ◌<◌, [], ◌∷◌, ◌++◌, length, flat_map, fold, ◌==◌, Option, None, Some, if◌then◌else◌, refl, ◌∙◌, ap, ap₂, arith, subst}
use Rattle.std.proofs.lemmas.Bool.{ne_eqb}
use Rattle.std.proofs.lemmas.List.{length-map, append-nil}
use Rattle.bp_layout.specs.Words.{Image, height_of}
use Rattle.bp_layout.specs.Tree.{IsFull}
use Rattle.bp_layout.specs.Nodes.{height_with, nodes_for}
use Rattle.bp_layout.specs.Inode.{kind_of, root_of, size_of}
use Rattle.bp_layout.specs.Directory.{ino_at, empty_slot}
use Rattle.bp_layout.specs.Reached.{IsReached}
use Rattle.bp_layout.specs.WellFormed.{IsWellFormed}
use Rattle.bp_layout.specs.Need.{Beyond, new_entry, prepared_for, preparation, height_after, inode_word_path, entry_path, entered, touched, is_there_after, copied, cover, need}
use Rattle.bp_layout.specs.Need.Change.{enters}
use Rattle.bp_layout.specs.Need.Entrant.{linked}
use Rattle.bp_layout.specs.WordPaths.{inode_path, tree_path}
use Rattle.bp_layout.proofs.Finding.{find-passes}
use Rattle.bp_append.specs.Prepared.{need_for}
use Rattle.bp_read.proofs.ExistingPaths.{AllThere, inode_path-there, content_path-there, cover-one, copied-one}

-- ---- a new name in a directory

-- the inode file keeps its height
inodes_stay : (image : Image) (i : ℕ) (found : Option ℕ) → i ≢ 0 →
    fold (λ h (b : Beyond). if b.tree == 0 then height_with (root_of image 0) (size_of image 0) b.to else h) (height_of (root_of image 0)) (new_entry image i found ++ []) ≡ height_of (root_of image 0)
inodes_stay image i None other = rw (ne_eqb i 0 other) refl
inodes_stay image i (Some slot) other = refl

module _ (image : Image) (i : ℕ) (wf : IsWellFormed image) (reached : IsReached image i) (kind : kind_of image i ≡ 2) where
  not_inodes : i ≢ 0
  not_inodes none = let two : kind_of image 0 ≡ 2 = subst (λ x. kind_of image x ≡ 2) none kind in omega (arith, two)

  full_tree : IsFull image (root_of image i) (size_of image i)
  full_tree = wf.full_directories i reached kind

  low_tree : height_after image (enters i linked) 0 ≡ height_of (root_of image 0)
  low_tree = inodes_stay image i (empty_slot image i) not_inodes

  -- an empty entry: its inode number is the one word that changes, and nothing is made
  module _ (s : ℕ) (found : empty_slot image i ≡ Some s) where
    low_slot : s < size_of image i / 256
    low_slot = let finds = find-passes (λ slot. ino_at image i slot == 0) 0 (size_of image i / 256) s found in omega (arith, finds.high)

    same_slot : height_after image (enters i linked) i ≡ height_of (root_of image i)
    same_slot = ap (λ f. fold (λ h (b : Beyond). if b.tree == i then height_with (root_of image i) (size_of image i) b.to else h) (height_of (root_of image i)) (new_entry image i f ++ [])) found

    one_slot : touched image (enters i linked) ≡ entry_path image (enters i linked) i s 0 ∷ []
    one_slot = ap (λ f. entered image (enters i linked) i f ∷ []) found

    all_slot : AllThere (is_there_after image (enters i linked)) [] (entry_path image (enters i linked) i s 0)
    all_slot = content_path-there image (enters i linked) wf low_tree i (32 * s + 0) reached same_slot full_tree (omega (arith, low_slot))

    pub cover_in_slot : cover image (enters i linked) ≡ tree_path (height_of (root_of image 0)) i (suc (height_of (root_of image i))) (32 * s + 0)
    cover_in_slot = cover-one image (enters i linked) (entry_path image (enters i linked) i s 0) one_slot all_slot ∙ ap₂ (λ h k. tree_path h i (suc k) (32 * s + 0)) low_tree same_slot

  pub need_in_slot : (s : ℕ) → empty_slot image i ≡ Some s → need image (enters i linked) ≡ 0
  need_in_slot s found = omega (arith, none, nothing)
    where
      none : length (preparation image (enters i linked)) ≡ 0
      none = ap (λ f. length (flat_map (prepared_for image) (new_entry image i f))) found

      nothing : length (copied image (enters i linked)) ≡ 0
      nothing = ap length (copied-one image (enters i linked) (entry_path image (enters i linked) i s 0) (one_slot s found) (all_slot s found))

  -- none: the size of the directory is the one word that changes
  module _ (none : empty_slot image i ≡ None) where
    one_size : touched image (enters i linked) ≡ inode_word_path image (enters i linked) i 2 ∷ []
    one_size = ap (λ f. entered image (enters i linked) i f ∷ []) none

    all_size : AllThere (is_there_after image (enters i linked)) [] (inode_word_path image (enters i linked) i 2)
    all_size = inode_path-there image (enters i linked) wf low_tree i 2 reached (omega arith)

    pub cover_past_end : cover image (enters i linked) ≡ inode_path (height_of (root_of image 0)) i 2
    cover_past_end = cover-one image (enters i linked) (inode_word_path image (enters i linked) i 2) one_size all_size ∙ ap (λ h. inode_path h i 2) low_tree

    nothing_copied : length (copied image (enters i linked)) ≡ 0
    nothing_copied = ap length (copied-one image (enters i linked) (inode_word_path image (enters i linked) i 2) one_size all_size)

    -- the nodes of the next entry's bytes are made
    made : length (preparation image (enters i linked)) ≡ need_for image i (size_of image i) (size_of image i + 256)
    made =
        let next : Beyond = record { tree = i; from = size_of image i; to = size_of image i + 256 } in
        ap (λ f. length (flat_map (prepared_for image) (new_entry image i f))) none
        ∙ ap length (append-nil (prepared_for image next)) ∙ length-map (nodes_for image (root_of image i) (size_of image i) (size_of image i) (size_of image i + 256)) _

    pub need_past_end : need image (enters i linked) ≡ need_for image i (size_of image i) (size_of image i + 256)
    need_past_end = omega (arith, nothing_copied, made)

  -- so no block is copied
  pub none_copied : length (copied image (enters i linked)) ≡ 0
  none_copied = go (empty_slot image i) refl
    where
      go : (found : Option ℕ) → empty_slot image i ≡ found → length (copied image (enters i linked)) ≡ 0
      go (Some s) found = ap length (copied-one image (enters i linked) (entry_path image (enters i linked) i s 0) (one_slot s found) (all_slot s found))
      go None none = nothing_copied none
