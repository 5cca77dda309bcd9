-- Behind the preparation of a write across the size of a file, what is touched can be committed: the sizes that count are those that the trees have, and for the file the end of the bytes.
use Rattle.std.proofs.Common.{◌≡◌, ◌≢◌, ◌⊎◌, ℕ, zero, suc, ◌+◌, ◌-◌, ◌*◌, ◌/◌, ◌%◌, ◌<◌, ◌≤◌, Bool, false, List, [], ◌∷◌, length, drop, slice_index, refl, sym, ◌∙◌, ap, subst, suc-ne-zero, arith, true, inl, inr}
use Rattle.std.proofs.lemmas.Bool.{cases_eq}
use Rattle.bp_free.specs.Set.{Set, has, members}
use Rattle.bp_layout.specs.Free.{AreUnheld}
use Rattle.bp_layout.specs.Inode.{root_of, size_of, inode_count}
use Rattle.bp_layout.specs.Members.{Has}
use Rattle.bp_layout.specs.Reached.{IsReached, IsLiveBlock, IsFreeBlock}
use Rattle.bp_layout.specs.Reached.IsReached.{inode_file}
use Rattle.bp_layout.specs.WellFormed.{IsWellFormed}
use Rattle.bp_layout.specs.WordPaths.{WordPath, address, digits, inode_path}
use Rattle.bp_layout.specs.Need.Change.{writes}
use Rattle.bp_layout.specs.Tree.{IsLivePointer, IsLiveWord, node}
use Rattle.bp_layout.proofs.Addresses.{address_from-digits}
use Rattle.bp_layout.proofs.ThawLaws.{loose-on}
use Rattle.bp_layout.proofs.TreeLaws.{live_above, live_content, live_pointer_word, tree_word-zero}
use Rattle.bp_read.proofs.LooseWays.{loose_word}
use Rattle.bp_cow.specs.Commit.{HasLooseCover}
use Rattle.bp_calls.proofs.WriteTargets.{across_targets}
use Rattle.bp_layout.specs.Words.{Image, block_of, word, height_of}
use Rattle.bp_layout.proofs.Reached.{reached-in_file}
use Rattle.bp_changes.proofs.ReachedOn.{reached_on}
use Rattle.bp_changes.proofs.SameMeaning as meaning
use Rattle.bp_append.specs.Prepared.{PreparesWith}
use Rattle.bp_read.proofs.Digits.{length-digits}
use Rattle.bp_changes.specs.Forest.{along, tree_trail, IsForest, IsTreePointer}
use Rattle.bp_changes.specs.Sets.{AreExactFor}
use Rattle.bp_changes.specs.Trail.{Trail, block_on, trail_of}
use Rattle.bp_changes.proofs.ForestLaws.{word-tree}
use Rattle.bp_changes.proofs.FreeSets.{content_prefixes, content_no_pointer}
use Rattle.bp_changes.proofs.PathTrails.{length-trail_of}
use Rattle.bp_cow.specs.CanCommit.{CanCommit, IsRunIn, IsTreeIn}
use Rattle.bp_cow.specs.Cover.{commit_cover, copied_count}
use Rattle.bp_cow.specs.Found.{AreWaysIn}
use Rattle.bp_cow.specs.Touched.{path_of, run_path, word_paths}
use Rattle.bp_cow.specs.declared.covers.FoundWays.{FoundWays}
use Rattle.bp_cow.specs.declared.touched.Run.{Run}
use Rattle.bp_cow.specs.declared.touched.Touched.{Touched}
use Rattle.bp_cow.proofs.CopiesNeed.{has-word}
use Rattle.bp_cow.proofs.LeafCover.{IsSizedRun, leaf_cover, leaf_count, leaf_path}
use Rattle.bp_cow.proofs.RunLaws.{length-run_path}
use Rattle.bp_cow.proofs.RunWrites.{IsFileRun, digits_trail, root_path_trail}
use Rattle.pm_region.specs.Memory.{Memory, current_words}
use Rattle.bp_calls.specs.TouchedAcross.{WritesAcross}
use Rattle.bp_calls.proofs.AcrossTouched.{across_end, across_run, across_shape, across_some, across_words}
use Rattle.bp_calls.proofs.SizesWith.{size_with_here, size_with_other, sizes_with}
use Rattle.bp_calls.proofs.PreparedSets.{live_before, prepared_exact, prepared_forest, prepared_sets, sizes_low, still_free}
use Rattle.bp_layout.specs.Thaw.{IsLoose, targets, thawed}
use Rattle.bp_cow.proofs.CallerLaws.{no_trees}
use Rattle.bp_calls.proofs.WaysStay.{ways_stay_on}

-- the trail without its last slot
without_last : (x y : ℕ) (p q : Trail) → x ∷ p ≡ y ∷ q → p ≡ q
without_last x y p q e = cc

module _ {in_snapshot : ℕ → Bool} (old middle : Memory) (blocks inodes after : Set) (n offset : ℕ) (bytes : List ℕ) (touched : Touched) (across : WritesAcross in_snapshot old blocks inodes (suc n) offset bytes touched)
    (prepared : PreparesWith in_snapshot old middle (members blocks) (members after) (suc n) (size_of (current_words old) (suc n)) (offset + length bytes) (drop (size_of (current_words old) (suc n) - offset) bytes)) where
  abbrev image : Image
  image = current_words old

  abbrev mid : Image
  mid = current_words middle

  abbrev end : ℕ
  end = offset + length bytes

  abbrev bound : ℕ → ℕ
  bound = sizes_with (current_words middle) touched

  wf : IsWellFormed image
  wf = across.into.well_formed

  pub middle_formed : IsWellFormed (current_words middle)
  middle_formed = meaning.well_formed-same (current_words old) (current_words middle) across.into.well_formed prepared.ready.meaning

  on : (t : ℕ) → IsReached image t → IsReached mid t
  on = reached_on (current_words old) (current_words middle) prepared.ready.meaning

  here : IsReached mid (suc n)
  here = on (suc n) across.into.can.reached

  root_stays : root_of mid 0 ≡ root_of image 0
  root_stays = prepared.ready.roots 0 inode_file (λ e. suc-ne-zero n (sym e))

  in_file : suc n < inode_count mid
  in_file = reached-in_file (current_words middle) middle_formed (suc n) here

  pub middle_sized : word_paths touched ≡ inode_path (height_of (root_of (current_words middle) 0)) (suc n) 2 ∷ []
  middle_sized = across.touches.sized ∙ ap (λ r. inode_path (height_of r) (suc n) 2 ∷ []) (sym root_stays)

  path_is : path_of (word_paths touched) 0 ≡ inode_path (height_of (root_of mid 0)) (suc n) 2
  path_is = ap (λ ps. path_of ps 0) middle_sized

  -- ---- the sizes that count

  size_low : 8 * (8 * suc n + 2) < size_of mid 0
  size_low = omega (arith, in_file)

  pub bound_here : sizes_with (current_words middle) touched (suc n) ≡ offset + length bytes
  bound_here = size_with_here mid middle_formed (suc n) in_file touched path_is ∙ ap (λ vs. slice_index vs 0) across.touches.value

  pub bound_other : (t : ℕ) → (t ≡ suc n → ⊥) → sizes_with (current_words middle) touched t ≡ size_of (current_words middle) t
  bound_other = size_with_other mid middle_formed (suc n) in_file touched path_is

  past : size_of (current_words old) (suc n) ≤ offset + length bytes
  past = omega (arith, across.past)

  some : suc n ≢ 0
  some e = suc-ne-zero n e

  pub bound_low : (t : ℕ) → size_of (current_words middle) t ≤ sizes_with (current_words middle) touched t
  bound_low =
      sizes_low old middle blocks inodes after (suc n) (size_of (current_words old) (suc n)) (offset + length bytes) (drop (size_of (current_words old) (suc n) - offset) bytes) across.into.well_formed across.into.exact across.into.can.reached
      some past prepared (sizes_with (current_words middle) touched) bound_here bound_other

  pub middle_forest : IsForest (current_words middle) (sizes_with (current_words middle) touched)
  middle_forest =
      prepared_forest old middle blocks inodes after (suc n) (size_of (current_words old) (suc n)) (offset + length bytes) (drop (size_of (current_words old) (suc n) - offset) bytes) across.into.well_formed across.into.exact across.into.can.reached
      some past prepared (sizes_with (current_words middle) touched) bound_here bound_other

  -- ---- the blocks

  pub middle_live : (b : ℕ) → IsLiveBlock (current_words middle) b → IsLiveBlock (current_words old) b ⊎ Has prepared.taken b
  middle_live =
      live_before old middle blocks inodes after (suc n) (size_of (current_words old) (suc n)) (offset + length bytes) (drop (size_of (current_words old) (suc n) - offset) bytes) across.into.well_formed across.into.exact across.into.can.reached
      some past prepared (sizes_with (current_words middle) touched) bound_here bound_other

  pub left_free : (b : ℕ) → has after b ≡ true → IsFreeBlock (current_words old) in_snapshot b × (Has prepared.taken b → ⊥)
  left_free =
      still_free old middle blocks inodes after (suc n) (size_of (current_words old) (suc n)) (offset + length bytes) (drop (size_of (current_words old) (suc n) - offset) bytes) across.into.well_formed across.into.exact across.into.can.reached
      some past prepared (sizes_with (current_words middle) touched) bound_here bound_other

  -- so the sets are exact under these sizes
  pub middle_sets : length after ≡ length blocks → AreExactFor (current_words middle) (IsReached (current_words middle)) (sizes_with (current_words middle) touched) in_snapshot after inodes
  middle_sets =
      prepared_sets old middle blocks inodes after (suc n) (size_of (current_words old) (suc n)) (offset + length bytes) (drop (size_of (current_words old) (suc n) - offset) bytes) across.into.well_formed across.into.exact across.into.can.reached
      some past prepared (sizes_with (current_words middle) touched) bound_here bound_other

  pub middle_exact : AreUnheld (current_words middle) (IsReached (current_words middle)) (sizes_with (current_words middle) touched) in_snapshot (has after)
  middle_exact =
      prepared_exact old middle blocks inodes after (suc n) (size_of (current_words old) (suc n)) (offset + length bytes) (drop (size_of (current_words old) (suc n) - offset) bytes) across.into.well_formed across.into.exact across.into.can.reached
      some past prepared (sizes_with (current_words middle) touched) bound_here bound_other

  -- ---- the paths

  size_trail : trail_of (inode_path (height_of (root_of mid 0)) (suc n) 2) (suc (height_of (root_of mid 0))) ≡ tree_trail (height_of (word mid 2)) 0 (suc (height_of (root_of mid 0))) (8 * suc n + 2)
  size_trail =
      let none : suc (height_of (root_of mid 0)) ≡ 0 + suc (height_of (root_of mid 0)) = omega arith in
      ap (trail_of (inode_path (height_of (root_of mid 0)) (suc n) 2)) none ∙ digits_trail [] (suc (height_of (root_of mid 0))) (8 * suc n + 2)

  size_long : length (inode_path (height_of (root_of mid 0)) (suc n) 2) ≡ suc (height_of (root_of mid 0))
  size_long = length-digits (suc (height_of (root_of mid 0))) (8 * suc n + 2)

  -- the only word
  only_word : (P : WordPath → Type 0) → P (inode_path (height_of (root_of mid 0)) (suc n) 2) → (j : ℕ) → j < length touched.words.now → P (path_of (word_paths touched) j)
  only_word P has j low =
      let first : j ≡ 0 = omega (arith, low, across_words old blocks inodes n offset bytes touched across) in
      subst (λ k. P (path_of (word_paths touched) k)) (sym first) (subst P (sym path_is) has)

  -- its prefixes are pointers, under the sizes of the image too
  pub size_prefixes : (sizes : ℕ → ℕ) → IsForest (current_words middle) sizes → size_of (current_words middle) 0 ≤ sizes 0 → (d : ℕ) → d < length (inode_path (height_of (root_of (current_words middle) 0)) (suc n) 2) →
      IsTreePointer (current_words middle) sizes (trail_of (inode_path (height_of (root_of (current_words middle) 0)) (suc n) 2) d)
  size_prefixes sizes forest high d low =
      content_prefixes mid sizes forest (inode_path (height_of (root_of mid 0)) (suc n) 2) (height_of (root_of mid 0)) 0 (8 * suc n + 2) inode_file (omega (arith, size_low, high)) size_trail d (omega (arith, low, size_long))

  pub across_file : (small : (i : ℕ) → slice_index across.touches.run.bytes.now i < 256) → IsFileRun (current_words middle) (sizes_with (current_words middle) touched) touched across.touches.run n
  across_file small = record {
    one = across.touches.one;
    words = only_word (λ p. trail_of p (length p) ≡ tree_trail (height_of (word mid 2)) 0 (suc (height_of (root_of mid 0))) (8 * suc n + 2))
        (ap (trail_of (inode_path (height_of (root_of mid 0)) (suc n) 2)) size_long ∙ size_trail);
    reached = here;
    is_file = prepared.ready.meaning.kind (suc n) across.into.can.reached ∙ across.into.can.file;
    root = across.touches.is.root ∙ ap (λ r. inode_path (height_of r) (suc n) 1) (sym root_stays);
    height = across.touches.is.height ∙ sym prepared.ready.height;
    some = across_some old blocks inodes n offset bytes touched across;
    below = omega (arith, across_end old blocks inodes n offset bytes touched across, bound_here, across.past);
    small = small;
    others = λ t reached other. bound_other t other;
  }

  pub across_can : CanCommit (current_words middle) (sizes_with (current_words middle) touched) in_snapshot touched (has after)
  across_can = record {
    shape = across_shape old blocks inodes n offset bytes touched across;
    forest = middle_forest;
    sizes = λ t reached. bound_low t;
    exact = middle_exact;
    pointers = λ j d low few.
        only_word (λ p. d < length p → IsTreePointer mid bound (trail_of p d)) (size_prefixes bound middle_forest (bound_low 0) d) j low few;
    contents = only_word (λ p. IsTreePointer mid bound (trail_of p (length p)) → ⊥)
        (λ pointer.
        content_no_pointer mid bound middle_forest (inode_path (height_of (root_of mid 0)) (suc n) 2) (height_of (root_of mid 0)) 0 (8 * suc n + 2) inode_file (omega (arith, size_low, bound_low 0)) size_trail (λ _ e. omega (arith, e))
        (subst (λ d. IsTreePointer mid bound (trail_of (inode_path (height_of (root_of mid 0)) (suc n) 2) d)) size_long pointer));
    runs = λ r has. subst (IsRunIn mid bound) (only_run r has) (record {
      inode = n;
      reached = here;
      root = root_path_trail (height_of (root_of mid 0)) n across.touches.run.root.items (across.touches.is.root ∙ ap (λ r. inode_path (height_of r) (suc n) 1) (sym root_stays));
      height = across.touches.is.height ∙ sym prepared.ready.height;
      below = omega (arith, across_end old blocks inodes n offset bytes touched across, bound_here, across.past);
      counts = omega (arith, bound_here, across.touches.is.size);
    });
    trees = no_trees (IsTreeIn mid bound) across.touches.no_trees;
    apart = λ i k low few same. omega (arith, low, few, across_words old blocks inodes n offset bytes touched across);
    beside = λ r i k has low first last.
        only_word (λ p. trail_of p (length p) ≢ trail_of (run_path r k) (length (run_path r k))) (λ same. longer r k has same) i low;
  }
    where
      only_run : (r : Run) → Has touched.runs.now r → across.touches.run ≡ r
      only_run r has = elim (subst (λ runs. Has runs r) across.touches.one has) [ inl e ↦ e | inr none_left ↦ absurd none_left ]

      longer : (r : Run) (k : ℕ) → Has touched.runs.now r →
          trail_of (inode_path (height_of (root_of mid 0)) (suc n) 2) (length (inode_path (height_of (root_of mid 0)) (suc n) 2)) ≡ trail_of (run_path r k) (length (run_path r k)) → ⊥
      longer r k has same =
          let root_long : length r.root.items ≡ suc (height_of (root_of mid 0)) =
          subst (λ (x : Run). length x.root.items ≡ suc (height_of (root_of mid 0))) (only_run r has)
          (ap (λ (p : WordPath). length p) (across.touches.is.root ∙ ap (λ z. inode_path (height_of z) (suc n) 1) (sym root_stays)) ∙ length-digits (suc (height_of (root_of mid 0))) (8 * suc n + 1)) in
          omega (
            arith,
            ap (λ (x : Trail). length x) same,
            length-trail_of (inode_path (height_of (root_of mid 0)) (suc n) 2) (length (inode_path (height_of (root_of mid 0)) (suc n) 2)),
            length-trail_of (run_path r k) (length (run_path r k)),
            size_long,
            length-run_path r k,
            root_long,
          )

  -- ---- the cover is the one that it was, and the copies are as many

  pub run_there : IsSizedRun (height_of (root_of mid 0)) (suc n) touched across.touches.run
  run_there = record { one = across.touches.one; root = across.touches.is.root ∙ ap (λ r. inode_path (height_of r) (suc n) 1) (sym root_stays); sized = middle_sized }

  in_image : suc n < inode_count image
  in_image = reached-in_file image wf (suc n) across.into.can.reached

  pub middle_cover : commit_cover (current_words middle) touched ≡ leaf_path (height_of (root_of (current_words old) 0)) (suc n)
  middle_cover =
      leaf_cover (height_of (root_of mid 0)) (suc n) touched across.touches.run run_there (across_shape old blocks inodes n offset bytes touched across) mid middle_formed refl in_file
      ∙ ap (λ r. leaf_path (height_of r) (suc n)) root_stays

  pub middle_count : copied_count (current_words middle) touched ≡ copied_count (current_words old) touched
  middle_count =
      leaf_count (height_of (root_of image 0)) (suc n) touched across.touches.run (across_run old blocks inodes n offset bytes touched across) (across_shape old blocks inodes n offset bytes touched across) mid middle_formed
      (ap height_of (sym root_stays)) in_file
      ∙ sym (leaf_count (height_of (root_of image 0)) (suc n) touched across.touches.run (across_run old blocks inodes n offset bytes touched across) (across_shape old blocks inodes n offset bytes touched across) image wf refl in_image)

  -- ---- the pointers of the inode file stay

  inode_node : (d k : ℕ) → IsLivePointer (root_of image 0) (size_of image 0) d k → node mid (root_of mid 0) d k ≡ node image (root_of image 0) d k
  inode_node zero k live = ap block_of (tree_word-zero mid (root_of mid 0) k ∙ root_stays ∙ sym (tree_word-zero image (root_of image 0) k))
  inode_node (suc d) k live =
      ap block_of (prepared.ready.others 0 d k inode_file (λ e. suc-ne-zero n (sym e)) (live_pointer_word _ _ (suc d) k live) (λ _ last _. omega (arith, last, live.height)))

  -- so do all that begin a path to one of them
  block_stays : (path : WordPath) (count k : ℕ) → trail_of path count ≡ along [] count k → IsLivePointer (root_of image 0) (size_of image 0) count k → block_on mid (trail_of path count) ≡ block_on image (trail_of path count)
  block_stays path count k is live =
      ap (block_on mid) is ∙ ap block_of (word-tree mid 0 count k) ∙ inode_node count k live ∙ sym (ap block_of (word-tree image 0 count k)) ∙ sym (ap (block_on image) is)

  blocks_stay : (path : WordPath) (count k : ℕ) → trail_of path count ≡ along [] count k → IsLivePointer (root_of image 0) (size_of image 0) count k → (d : ℕ) → d ≤ count → block_on mid (trail_of path d) ≡ block_on image (trail_of path d)
  blocks_stay path zero k is live zero low = block_stays path zero k is live
  blocks_stay path zero k is live (suc d) low = absurd (omega (arith, low))
  blocks_stay path (suc count) k is live d low = go (cases_eq d (suc count)) (λ less. blocks_stay path count (k / 512) above (live_above _ _ count k (live_pointer_word _ _ (suc count) k live)) d less)
    where
      above : trail_of path count ≡ along [] count (k / 512)
      above = without_last _ _ _ _ is

      go : (d ≡ suc count) ⊎ (d ≡ suc count → ⊥) → (d ≤ count → block_on mid (trail_of path d) ≡ block_on image (trail_of path d)) → block_on mid (trail_of path d) ≡ block_on image (trail_of path d)
      go (inl e) rest = subst (λ x. block_on mid (trail_of path x) ≡ block_on image (trail_of path x)) (sym e) (block_stays path (suc count) k is live)
      go (inr apart) rest = rest (omega (arith, low, apart))

  -- and those on the way to the size
  size_blocks : (d : ℕ) → d < length (path_of (word_paths touched) 0) → block_on mid (trail_of (path_of (word_paths touched) 0) d) ≡ block_on image (trail_of (path_of (word_paths touched) 0) d)
  size_blocks =
      subst (λ (p : WordPath). (d : ℕ) → d < length p → block_on mid (trail_of p d) ≡ block_on image (trail_of p d)) (sym (ap (λ ps. path_of ps 0) across.touches.sized))
      (λ d low. blocks_stay (inode_path (height_of (root_of image 0)) (suc n) 2) (height_of (root_of image 0)) ((8 * suc n + 2) / 512) above leaf d
      (omega (arith, low, length-digits (suc (height_of (root_of image 0))) (8 * suc n + 2))))
    where
      leaf : IsLivePointer (root_of image 0) (size_of image 0) (height_of (root_of image 0)) ((8 * suc n + 2) / 512)
      leaf = live_above _ _ (height_of (root_of image 0)) (8 * suc n + 2) (live_content _ _ (8 * suc n + 2) (omega (arith, in_image)))

      whole : trail_of (inode_path (height_of (root_of image 0)) (suc n) 2) (suc (height_of (root_of image 0))) ≡ along [] (suc (height_of (root_of image 0))) (8 * suc n + 2)
      whole = subst (λ r. trail_of (inode_path (height_of r) (suc n) 2) (suc (height_of r)) ≡ along [] (suc (height_of r)) (8 * suc n + 2)) root_stays size_trail

      above : trail_of (inode_path (height_of (root_of image 0)) (suc n) 2) (height_of (root_of image 0)) ≡ along [] (height_of (root_of image 0)) ((8 * suc n + 2) / 512)
      above = without_last _ _ _ _ whole

  -- so the ways that were found before are those of the image in the middle
  pub middle_ways : (found : FoundWays) → AreWaysIn (current_words old) touched found → AreWaysIn (current_words middle) touched found
  middle_ways =
      let shape = across_shape old blocks inodes n offset bytes touched across in
      ways_stay_on image mid touched shape prepared.ready.meaning.trees.whole (path_of (word_paths touched) 0)
      (has-word touched shape 0 (omega (arith, across_words old blocks inodes n offset bytes touched across))) size_blocks

  -- ---- the store in place

  -- No pointer on the way to the leaf of the inode is in the snapshot, and these are the same after the preparation.
  module _ (clear : thawed (current_words old) in_snapshot (writes (suc n) offset (length bytes)) ≡ []) where
    abbrev leaf_number : ℕ
    leaf_number = (8 * suc n + 1) / 512

    leaf_loose : IsLoose image in_snapshot (length (leaf_path (height_of (root_of image 0)) (suc n)) - 1) (leaf_path (height_of (root_of image 0)) (suc n))
    leaf_loose =
        loose-on image in_snapshot (targets image (writes (suc n) offset (length bytes))) clear (leaf_path (height_of (root_of image 0)) (suc n))
        (subst (λ ps. Has ps (leaf_path (height_of (root_of image 0)) (suc n))) (sym (across_targets image wf n across.into.can.reached offset (length bytes) across.below across.past)) (inl refl))
        (length (leaf_path (height_of (root_of image 0)) (suc n)) - 1)

    under_leaf : (d : ℕ) → suc d ≡ height_of (root_of image 0) → IsLivePointer (root_of image 0) (size_of image 0) d (leaf_number / 512)
    under_leaf d high =
        live_above _ _ d leaf_number
        (subst (λ h. IsLiveWord (root_of image 0) (size_of image 0) h leaf_number) (sym high)
        (live_pointer_word _ _ (height_of (root_of image 0)) leaf_number (live_above _ _ (height_of (root_of image 0)) (8 * suc n + 1) (live_content _ _ (8 * suc n + 1) (omega (arith, in_image))))))

    node_stays : (d : ℕ) → suc d ≡ height_of (root_of image 0) → node mid (root_of mid 0) d (leaf_number / 512) ≡ node image (root_of image 0) d (leaf_number / 512)
    node_stays d high = inode_node d (leaf_number / 512) (under_leaf d high)

    leaf_open : (h : ℕ) → h ≡ height_of (root_of image 0) → 512 ≤ address mid (digits h leaf_number) → in_snapshot (address mid (digits h leaf_number) / 512) ≡ false
    leaf_open zero high low = absurd (omega (arith, low))
    leaf_open (suc d) high low =
        let present : node image (root_of image 0) d (leaf_number / 512) ≢ 0 = wf.full_inode_file d (leaf_number / 512) (under_leaf d high) in
        let at : address mid (digits (suc d) leaf_number) ≡ 512 * node mid (root_of mid 0) d (leaf_number / 512) + leaf_number % 512 =
        address_from-digits mid 2 (word mid 2) refl (suc d) leaf_number (λ null. present (sym (node_stays d high) ∙ null)) in
        let block : address mid (digits (suc d) leaf_number) / 512 ≡ node image (root_of image 0) d (leaf_number / 512) = omega (arith, at, node_stays d high) in
        ap in_snapshot block
        ∙ loose_word image wf in_snapshot 0 d leaf_number inode_file (under_leaf d high) present
        (subst (λ h. IsLoose image in_snapshot (length (digits h leaf_number) - 1) (digits h leaf_number)) (sym high) leaf_loose)

    pub middle_loose : HasLooseCover (current_words middle) in_snapshot touched
    middle_loose = subst (λ (p : WordPath). 512 ≤ address mid p → in_snapshot (address mid p / 512) ≡ false) (sym middle_cover) (leaf_open (height_of (root_of image 0)) refl)
