-- What a write across the size of a file touches and needs, before it prepares anything.
use Rattle.std.proofs.Common.{◌≡◌, ℕ, suc, ◌+◌, ◌-◌, ◌*◌, ◌/◌, ◌^◌, ◌<◌, ◌≤◌, min, max, List, [], ◌∷◌, ◌++◌, ◌==◌, length, map, fold, flat_map, Bool, true, nat_lt, if◌then◌else◌, refl, sym, ◌∙◌, ap, subst, suc-ne-zero, arith, le_trans}
use Rattle.bp_limits.proofs.Versions.{size_most}
use Rattle.bp_layout.specs.Formatted.{version_of}
use Rattle.std.specs.List.{range_with_len}
use Rattle.std.proofs.lemmas.Bool.{eq-eqb, lt-ltb, ne_eqb}
use Rattle.std.proofs.lemmas.List.{append-nil, length-map, length-take}
use Rattle.bp_limits.specs.Limits.{block_size, block_words, max_height}
use Rattle.bp_free.specs.Set.{Set}
use Rattle.bp_layout.specs.Inode.{root_of, size_of, inode_count}
use Rattle.bp_layout.specs.Need.{Change, Beyond, beyond, new_inodes, prepared_for, height_after, content_path, inode_word_path, need}
use Rattle.bp_layout.specs.Need.Change.{writes}
use Rattle.bp_layout.specs.Need as layout
use Rattle.bp_layout.specs.Nodes.{height_with, nodes_for}
use Rattle.bp_layout.specs.Reached.IsReached.{inode_file}
use Rattle.bp_layout.specs.Tree.{span, IsSound}
use Rattle.bp_layout.specs.WellFormed.{IsWellFormed}
use Rattle.bp_layout.specs.WordPaths.{WordPath, digits, inode_path, tree_path}
use Rattle.bp_layout.specs.Words.{Image, height_of}
use Rattle.bp_layout.proofs.Finding.{map-same}
use Rattle.bp_layout.proofs.Reached.{reached-in_file}
use Rattle.bp_layout.proofs.TreeLaws.{span-is}
use Rattle.bp_append.specs.Prepared.{need_for}
use Rattle.bp_append.proofs.FewNeeded.{few_needed}
use Rattle.bp_append.proofs.NeedLaws.{tall_fits, tall_low}
use Rattle.bp_cow.specs.Cover.{LeadsInside, copied_count}
use Rattle.bp_cow.specs.Touched.{IsTouched, NoneBegins, all_paths, run_end, paths_of_run, run_leaves, run_path, run_paths, word_paths}
use Rattle.bp_cow.specs.declared.touched.Run.{Run}
use Rattle.bp_cow.specs.declared.touched.Touched.{Touched}
use Rattle.bp_cow.proofs.FewCopies.{run_copies}
use Rattle.bp_cow.proofs.LeafCover.{IsSizedRun, leaf_path, change_count, change_leaf, leaf_count, leaf_inside, one_word, sized_apart, sized_shape}
use Rattle.pm_region.specs.Memory.{Memory, current_words}
use Rattle.bp_calls.specs.TouchedAcross.{WritesAcross}
use Rattle.bp_calls.proofs.RunCommits.{few_leaves}
use Rattle.bp_cow.proofs.CallerLaws.{no_trees}

-- ---- the change

module _ (image : Image) (n offset len : ℕ) (below : offset < size_of image (suc n)) (past : size_of image (suc n) < offset + len) where
  abbrev change : Change
  change = writes (suc n) offset len

  longer : nat_lt (size_of image (suc n)) (offset + len) ≡ true
  longer = lt-ltb (size_of image (suc n)) (offset + len) past

  prepares : beyond image change ≡ record { tree = suc n; from = size_of image (suc n); to = offset + len } ∷ []
  prepares = let top : max offset (size_of image (suc n)) ≡ size_of image (suc n) = omega (arith, below) in rw (longer, top) refl

  abbrev tall : ℕ → List Beyond → ℕ
  tall t bs = fold (λ h (b : Beyond). if b.tree == t then height_with (root_of image t) (size_of image t) b.to else h) (height_of (root_of image t)) (bs ++ new_inodes image change)

  pub across_inodes : height_after image change 0 ≡ height_of (root_of image 0)
  across_inodes = ap (tall 0) prepares ∙ rw (ne_eqb (suc n) 0 (suc-ne-zero n)) refl

  pub across_height : height_after image change (suc n) ≡ height_with (root_of image (suc n)) (size_of image (suc n)) (offset + len)
  across_height = ap (tall (suc n)) prepares ∙ rw (eq-eqb (suc n) (suc n) refl) refl

  -- what is touched, by the tests of the definition
  abbrev parts : Bool → ℕ → Bool → List WordPath
  parts starts end longer =
      map (content_path image change (suc n)) (if starts then range_with_len (offset / 8) (suc ((end - 1) / 8 - offset / 8)) else []) ++ (if longer then inode_word_path image change (suc n) 2 ∷ [] else [])

  pub across_touched : layout.touched image change ≡ map (content_path image change (suc n)) (range_with_len (offset / 8) (suc ((size_of image (suc n) - 1) / 8 - offset / 8))) ++ inode_word_path image change (suc n) 2 ∷ []
  across_touched =
      let starts : nat_lt offset (size_of image (suc n)) ≡ true = lt-ltb offset (size_of image (suc n)) below in
      let end : min (offset + len) (size_of image (suc n)) ≡ size_of image (suc n) = omega (arith, past) in
      ap (λ x. parts x (min (offset + len) (size_of image (suc n))) (nat_lt (size_of image (suc n)) (offset + len))) starts
      ∙ ap (λ m. parts true m (nat_lt (size_of image (suc n)) (offset + len))) end
      ∙ ap (parts true (size_of image (suc n))) longer

  -- it prepares the bytes past the size, and makes copies
  pub across_need : need image change ≡ need_for image (suc n) (size_of image (suc n)) (offset + len) + length (layout.copied image change)
  across_need =
      let made : length (flat_map (prepared_for image) (beyond image change)) ≡ need_for image (suc n) (size_of image (suc n)) (offset + len) =
      ap (λ bs. length (flat_map (prepared_for image) bs)) prepares
      ∙ ap length (append-nil (prepared_for image (record { tree = suc n; from = size_of image (suc n); to = offset + len })))
      ∙ length-map (nodes_for image (root_of image (suc n)) (size_of image (suc n)) (size_of image (suc n)) (offset + len)) _ in
      omega (arith, made)

-- ---- the call

module _ {in_snapshot : ℕ → Bool} (old : Memory) (blocks inodes : Set) (n offset : ℕ) (bytes : List ℕ) (touched : Touched) (across : WritesAcross in_snapshot old blocks inodes (suc n) offset bytes touched) where
  abbrev image : Image
  image = current_words old

  abbrev size : ℕ
  size = size_of image (suc n)

  abbrev end : ℕ
  end = offset + length bytes

  abbrev write : Change
  write = writes (suc n) offset (length bytes)

  abbrev run : Run
  run = across.touches.run

  wf : IsWellFormed image
  wf = across.into.well_formed

  inode_sound : IsSound image (root_of image 0) (size_of image 0)
  inode_sound = wf.sound 0 inode_file

  pub across_run : IsSizedRun (height_of (root_of image 0)) (suc n) touched across.touches.run
  across_run = record { one = across.touches.one; root = across.touches.is.root; sized = across.touches.sized }

  pub across_long : length across.touches.run.bytes.now ≡ size_of image (suc n) - offset
  across_long =
      ap (λ (bs : List ℕ). length bs) across.touches.is.bytes_are ∙ length-take (size_of image (suc n) - offset) bytes ∙ omega (arith, across.past)

  pub across_end : run_end across.touches.run ≡ size_of image (suc n)
  across_end = omega (arith, across.touches.is.from, across_long, across.below)

  pub across_some : 0 < length across.touches.run.bytes.now
  across_some = omega (arith, across_long, across.below)

  pub across_shape : IsTouched touched
  across_shape =
      let there : 4096 ≤ size_of image 0 = wf.some_inodes in
      let low_tree : height_with (root_of image (suc n)) (size_of image (suc n)) (offset + length bytes) ≤ max_height =
      tall_low (root_of image (suc n)) (size_of image (suc n)) (offset + length bytes) (wf.sound (suc n) across.into.can.reached).low in
      let fits : offset + length bytes ≤ span (height_with (root_of image (suc n)) (size_of image (suc n)) (offset + length bytes)) =
      tall_fits (root_of image (suc n)) (size_of image (suc n)) (offset + length bytes) (le_trans across.into.can.fits (size_most (version_of image))) in
      let wide = span-is (height_with (root_of image (suc n)) (size_of image (suc n)) (offset + length bytes)) in
      sized_shape (height_of (root_of image 0)) (suc n) touched across.touches.run across_run (inode_sound.low (omega (arith, there))) across_some
      (omega (arith, across_long, across.past, across.into.can.short))
      (subst (λ h. h ≤ max_height) (sym across.touches.is.height) low_tree)
      (subst (λ h. run_end across.touches.run ≤ block_size * block_words ^ h) (sym across.touches.is.height) (omega (arith, fits, wide, across_end, across.past)))
      (no_trees (λ tree. tree.height ≤ max_height) across.touches.no_trees)

  pub across_apart : NoneBegins (all_paths touched)
  across_apart = sized_apart (height_of (root_of image 0)) (suc n) touched across.touches.run across_run across_shape

  inside : suc n < inode_count image
  inside = reached-in_file image wf (suc n) across.into.can.reached

  pub across_inside : LeadsInside image touched
  across_inside = leaf_inside (height_of (root_of image 0)) (suc n) touched across.touches.run across_run across_shape image wf refl inside inode_sound

  pub across_words : length touched.words.now ≡ 1
  across_words = one_word (height_of (root_of image 0)) (suc n) touched across.touches.run across_run

  -- few nodes are made and few blocks copied: the leaves of both are those of one write
  abbrev made_leaves : ℕ
  made_leaves = (offset + length bytes - size_of image (suc n)) / 4096 + 1

  across_made_by : need_for image (suc n) (size_of image (suc n)) (offset + length bytes) ≤ made_leaves + 2 + 3 * max_height
  across_made_by =
      few_needed image (root_of image (suc n)) (size_of image (suc n)) (size_of image (suc n)) (offset + length bytes) made_leaves (omega (arith, across.into.can.short, across.below)) (omega arith) (omega arith)
      (wf.sound (suc n) across.into.can.reached).low

  across_leaves : run_leaves across.touches.run ≤ 257
  across_leaves = few_leaves across.touches.run (omega (arith, across_long, across.past, across.into.can.short))

  across_copies_by : (other : Image) → copied_count other touched ≤ run_leaves across.touches.run + 33
  across_copies_by other =
      let most = run_copies other touched across_shape across_apart across.touches.run across.touches.one in
      omega (arith, most, across_words)

  pub across_copies : (other : Image) → copied_count other touched ≤ 290
  across_copies other = omega (arith, across_copies_by other, across_leaves)

  pub across_few : (other : Image) → need_for image (suc n) (size_of image (suc n)) (offset + length bytes) + copied_count other touched ≤ 320
  across_few other =
      let leaves : run_leaves across.touches.run + made_leaves ≤ 260 = omega (arith, across.touches.is.from, across_end, across.below, across.past, across.into.can.short) in
      omega (arith, leaves, across_made_by, across_copies_by other)

  same_path : (k : ℕ) → run_path across.touches.run k ≡ content_path image write (suc n) k
  same_path k =
      ap (λ (p : WordPath). p ++ digits (suc across.touches.run.height) k) across.touches.is.root
      ∙ ap (λ h. inode_path (height_of (root_of image 0)) (suc n) 1 ++ digits (suc h) k) across.touches.is.height
      ∙ sym (ap (λ h. tree_path h (suc n) (suc (height_after image write (suc n))) k) (across_inodes image n offset (length bytes) across.below across.past)
      ∙ ap (λ h. tree_path (height_of (root_of image 0)) (suc n) (suc h) k) (across_height image n offset (length bytes) across.below across.past))

  pub across_paths : all_paths touched ≡ layout.touched image write
  across_paths =
      ap (λ runs. run_paths runs ++ word_paths touched) across.touches.one
      ∙ ap (λ (words : List WordPath). run_paths (across.touches.run ∷ []) ++ words) across.touches.sized
      ∙ ap (λ (paths : List WordPath). paths ++ inode_path (height_of (root_of image 0)) (suc n) 2 ∷ []) (append-nil (paths_of_run across.touches.run))
      ∙ ap (λ from. map (run_path across.touches.run) (range_with_len (from / 8) (suc ((run_end across.touches.run - 1) / 8 - from / 8))) ++ inode_path (height_of (root_of image 0)) (suc n) 2 ∷ []) across.touches.is.from
      ∙ ap (λ last. map (run_path across.touches.run) (range_with_len (offset / 8) (suc ((last - 1) / 8 - offset / 8))) ++ inode_path (height_of (root_of image 0)) (suc n) 2 ∷ []) across_end
      ∙ ap (λ (paths : List WordPath). paths ++ inode_path (height_of (root_of image 0)) (suc n) 2 ∷ [])
      (map-same (run_path across.touches.run) (content_path image write (suc n)) (offset / 8) (suc ((size_of image (suc n) - 1) / 8 - offset / 8)) (λ k low high. same_path k))
      ∙ ap (λ h. map (content_path image write (suc n)) (range_with_len (offset / 8) (suc ((size_of image (suc n) - 1) / 8 - offset / 8))) ++ inode_path h (suc n) 2 ∷ []) (sym (across_inodes image n offset (length bytes) across.below across.past))
      ∙ sym (across_touched image n offset (length bytes) across.below across.past)

  pub across_cover : layout.cover image write ≡ leaf_path (height_of (root_of image 0)) (suc n)
  across_cover =
      change_leaf (height_of (root_of image 0)) (suc n) touched across.touches.run across_run across_shape image wf refl inside write (across_inodes image n offset (length bytes) across.below across.past) across_paths

  -- as many blocks as are made and copied
  pub across_needs : need image write ≡ need_for image (suc n) (size_of image (suc n)) (offset + length bytes) + copied_count image touched
  across_needs =
      across_need image n offset (length bytes) across.below across.past
      ∙ ap (λ c. need_for image (suc n) (size_of image (suc n)) (offset + length bytes) + c)
      (change_count (height_of (root_of image 0)) (suc n) touched across.touches.run across_run across_shape image wf refl inside write (across_inodes image n offset (length bytes) across.below across.past) across_paths
      ∙ sym (leaf_count (height_of (root_of image 0)) (suc n) touched across.touches.run across_run across_shape image wf refl inside))
