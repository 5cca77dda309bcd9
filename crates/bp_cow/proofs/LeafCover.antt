-- The words of a run in an inode's tree, with the word of the inode's size, have the pointer to the inode's leaf for their cover, since the inode file has no null.
-- So they have it in each image, and before a preparation as after it.
use Rattle.std.proofs.Common.{◌≡◌, ◌⊎◌, ℕ, zero, suc, ◌+◌, ◌-◌, ◌*◌, ◌/◌, ◌%◌, ◌^◌, ◌<◌, ◌≤◌, List, [], ◌∷◌, length, take, slice_index, refl, sym, ◌∙◌, ap, subst, inl, inr, arith}
use Rattle.std.specs.List.{All}
use Rattle.std.proofs.lemmas.Bool.{cases_lt}
use Rattle.std.proofs.lemmas.List.{length-map, length-take}
use Rattle.std.proofs.lemmas.List.Elements.{All-get_or}
use Rattle.std.proofs.Math.Seq.{take-length}
use Rattle.bp_limits.specs.Limits.{block_size, block_words, max_height}
use Rattle.bp_limits.specs.CallLimits.{max_write}
use Rattle.bp_layout.specs.Inode.{root_of, size_of, inode_count}
use Rattle.bp_layout.specs.Members.{Has}
use Rattle.bp_layout.specs.Need.{Change, height_after, is_there_after, existing_from, common_all, cover_of, prefixes_of}
use Rattle.bp_layout.specs.Need as layout
use Rattle.bp_layout.specs.Tree.{node, IsFull, IsLiveWord, IsSound}
use Rattle.bp_layout.specs.WellFormed.{IsWellFormed}
use Rattle.bp_layout.specs.WordPaths.{WordPath, digits, inode_path}
use Rattle.bp_layout.specs.Words.{Image, block_count, block_of, height_of}
use Rattle.bp_layout.proofs.Addresses.{IsUnderNodes}
use Rattle.bp_layout.proofs.TreeLaws.{live_above, live_content, live_pointer_word}
use Rattle.bp_changes.specs.Forest.{along}
use Rattle.bp_changes.specs.Trail.{Trail, block_on, trail_of}
use Rattle.bp_changes.proofs.ForestLaws.{word-tree}
use Rattle.bp_read.proofs.Digits.{length-digits}
use Rattle.bp_read.proofs.ExistingPaths.{AllThere, existing-all, inodes-there}
use Rattle.bp_read.proofs.PathLaws.{small_digits}
use Rattle.bp_cow.specs.Cover.{end_path, end_path_of, ends, ends_of, BeginAlike, CoverHas, LeadsInside, commit_cover, copied_count}
use Rattle.bp_cow.specs.Touched.{IsRun, IsTouched, NoneBegins, all_paths, leaves_of, path_of, run_end, run_leaves, run_path, word_paths}
use Rattle.bp_cow.specs.declared.touched.Run.{Run}
use Rattle.bp_cow.specs.declared.touched.Touched.{Touched}
use Rattle.bp_cow.specs.declared.touched.TreeSize.{TreeSize}
use Rattle.bp_cow.proofs.CommonPaths.{Begins, all-begin, all-most}
use Rattle.bp_cow.proofs.CopiesNeed.{alike-all, has-of-run, has-word, paths-by}
use Rattle.bp_cow.proofs.CoverLaws.{some-ends}
use Rattle.bp_cow.proofs.CoverOf.{alike_prefix, cover_prefix}
use Rattle.bp_cow.proofs.Distinct.{same-take}
use Rattle.bp_cow.proofs.RunPrefixes.{trail_of-append, trail_of-take}
use Rattle.bp_cow.proofs.RunLaws.{length-run_path, slot-digits}
use Rattle.bp_cow.proofs.RunThere.{Prefix, prefix_of}
use Rattle.bp_cow.proofs.RunWrites.{digits_trail}

-- the path of the pointer to the leaf in which an inode's words stand, where the inode file has this height
abbrev pub leaf_path : ℕ → ℕ → WordPath
leaf_path height i = digits height ((8 * i + 1) / block_words)

-- a run under the root word of an inode, and the word of the inode's size
pub record IsSizedRun (height i : ℕ) (touched : Touched) (run : Run) : Type 0 where
  pub one : touched.runs.now ≡ run ∷ []
  pub root : run.root.items ≡ inode_path height i 1
  pub sized : word_paths touched ≡ inode_path height i 2 ∷ []

-- ---- the prefixes of an inode's words

slot_of : (height i f : ℕ) → slice_index (inode_path height i f) height ≡ (8 * i + f) % 512
slot_of height i f =
    let level : suc height - 1 - height ≡ 0 = omega arith in
    let whole : (8 * i + f) / 512 ^ 0 ≡ 8 * i + f = omega arith in
    slot-digits (suc height) (8 * i + f) height (omega arith) ∙ ap (λ l. (8 * i + f) / 512 ^ l % 512) level ∙ ap (λ n. n % 512) whole

leaf_prefix : (height i f d : ℕ) → f < 8 → d ≤ height → trail_of (inode_path height i f) d ≡ trail_of (leaf_path height i) d
leaf_prefix height i f d few low =
    let same : (8 * i + f) / 512 ≡ (8 * i + 1) / 512 = omega (arith, few) in
    trail_of-append (digits height ((8 * i + f) / 512)) ((8 * i + f) % 512 ∷ []) d (omega (arith, low, length-digits height ((8 * i + f) / 512))) ∙ ap (λ k. trail_of (digits height k) d) same

-- the root word and the size stand in different slots
words_apart : (height i : ℕ) → trail_of (inode_path height i 1) (suc height) ≡ trail_of (inode_path height i 2) (suc height) → ⊥
words_apart height i same =
    let slots : slice_index (inode_path height i 1) height ≡ slice_index (inode_path height i 2) height = heads same in
    omega (arith, slots, slot_of height i 1, slot_of height i 2)
  where
    heads : {s t : ℕ} {p q : Trail} → s ∷ p ≡ t ∷ q → s ≡ t
    heads e = cc

only-run : (run r : Run) → Has (run ∷ []) r → run ≡ r
only-run run r (inl e) = e
only-run run r (inr none) = absurd none

under_full : (image : Image) (root size d k : ℕ) → IsFull image root size → IsLiveWord root size d k → IsUnderNodes image root d k
under_full image root size zero k full live = tt
under_full image root size (suc d) k full live = full d (k / 512) (live_above root size d k live)

module _ (height i : ℕ) (touched : Touched) (run : Run) (is : IsSizedRun height i touched run) where
  pub one_word : length touched.words.now ≡ 1
  one_word = sym (length-map touched.words.now (λ word. word.0.items)) ∙ ap (λ (ps : List WordPath). length ps) is.sized

  size_path : path_of (word_paths touched) 0 ≡ inode_path height i 2
  size_path = ap (λ ps. path_of ps 0) is.sized

  root_long : length run.root.items ≡ suc height
  root_long = ap (λ (p : WordPath). length p) is.root ∙ length-digits (suc height) (8 * i + 1)

  only : (r : Run) → Has touched.runs.now r → run ≡ r
  only r has = only-run run r (subst (λ runs. Has runs r) is.one has)

  has-run : Has touched.runs.now run
  has-run = subst (λ runs. Has runs run) (sym is.one) (inl refl)

  -- what code asks of them
  pub sized_shape : height ≤ max_height → 0 < length run.bytes.now → length run.bytes.now ≤ max_write → run.height ≤ max_height → run_end run ≤ block_size * block_words ^ run.height →
      ((tree : TreeSize) → Has touched.trees.now tree → tree.height ≤ max_height) → IsTouched touched
  sized_shape low some few low_tree covered low_trees = record {
    trees = low_trees;
    runs = λ r has. subst IsRun (only r has) (record {
      some = some;
      few = few;
      low = low_tree;
      covered = covered;
      short = omega (arith, root_long, low, low_tree);
      slots = λ d short. All-get_or (λ slot. slot < 512) run.root.items d 0 short (subst (All (λ slot. slot < 512)) (sym is.root) (small_digits (suc height) (8 * i + 1)));
    });
    few_runs = let count : length touched.runs.now ≡ 1 = ap (λ (runs : List Run). length runs) is.one in omega (arith, count);
    few = omega (arith, one_word);
    words = λ j here. by_word (λ p. 1 ≤ length p) (omega (arith, size_long)) j here;
    short = λ j here. by_word (λ p. length p ≤ 12) (omega (arith, size_long, low)) j here;
    slots = λ j d here. by_word (λ p. d < length p → slice_index p d < 512) (λ few. All-get_or (λ slot. slot < 512) (inode_path height i 2) d 0 few (small_digits (suc height) (8 * i + 2))) j here;
    some = let leaves : leaves_of touched.runs.now ≡ run_leaves run + 0 = ap leaves_of is.one in omega (arith, leaves);
  }
    where
      size_long : length (inode_path height i 2) ≡ suc height
      size_long = length-digits (suc height) (8 * i + 2)

      by_word : (P : WordPath → Type 0) → P (inode_path height i 2) → (j : ℕ) → j < length touched.words.now → P (path_of (word_paths touched) j)
      by_word P has j here = let first : j ≡ 0 = omega (arith, here, one_word) in subst (λ k. P (path_of (word_paths touched) k)) (sym first) (subst P (sym size_path) has)

  module _ (shape : IsTouched touched) where
    some_ends : 0 < ends touched
    some_ends = some-ends touched shape

    ends_are : ends touched ≡ 3
    ends_are = ap (λ r. ends_of r (length touched.words.now)) is.one ∙ ap (λ n. 2 + n) one_word

    by_end : (P : WordPath → Type 0) → ((k : ℕ) → P (run_path run k)) → P (inode_path height i 2) → (j : ℕ) → j < ends touched → P (end_path touched j)
    by_end P of_run of_word zero here = subst P (ap (λ r. end_path_of r (word_paths touched) 0) (sym is.one)) (of_run (run.offset / 8))
    by_end P of_run of_word (suc zero) here = subst P (ap (λ r. end_path_of r (word_paths touched) 1) (sym is.one)) (of_run ((run_end run - 1) / 8))
    by_end P of_run of_word (suc (suc zero)) here = subst P (sym (ap (λ r. end_path_of r (word_paths touched) 2) is.one ∙ size_path)) of_word
    by_end P of_run of_word (suc (suc (suc j))) here = absurd (omega (arith, here, ends_are))

    run_prefix : (k d : ℕ) → d ≤ suc height → trail_of (run_path run k) d ≡ trail_of (inode_path height i 1) d
    run_prefix k d low = trail_of-append run.root.items (digits (suc run.height) k) d (omega (arith, low, root_long)) ∙ ap (λ p. trail_of p d) is.root

    end_prefix : (j : ℕ) → j < ends touched → (d : ℕ) → d ≤ height → trail_of (end_path touched j) d ≡ trail_of (leaf_path height i) d
    end_prefix = by_end (λ p. (d : ℕ) → d ≤ height → trail_of p d ≡ trail_of (leaf_path height i) d)
        (λ k d low. run_prefix k d (omega (arith, low)) ∙ leaf_prefix height i 1 d (omega arith) low)
        (λ d low. leaf_prefix height i 2 d (omega arith) low)

    long_ends : (j : ℕ) → j < ends touched → height ≤ length (end_path touched j)
    long_ends = by_end (λ p. height ≤ length p) (λ k. omega (arith, length-run_path run k, root_long)) (omega (arith, length-digits (suc height) (8 * i + 2)))

    alike : BeginAlike touched height
    alike = record {
      long = long_ends;
      same = λ j here. end_prefix j here height (omega arith) ∙ sym (end_prefix 0 some_ends height (omega arith));
    }

    no_longer : BeginAlike touched (height + 1) → ⊥
    no_longer more =
        let next : height + 1 ≡ suc height = omega arith in
        let run_here : end_path touched 0 ≡ run_path run (run.offset / 8) = ap (λ r. end_path_of r (word_paths touched) 0) is.one in
        let word_here : end_path touched 2 ≡ inode_path height i 2 = ap (λ r. end_path_of r (word_paths touched) 2) is.one ∙ size_path in
        let same = more.same 2 (omega (arith, ends_are)) in
        words_apart height i
        (sym (run_prefix (run.offset / 8) (suc height) (omega arith)) ∙ ap (λ p. trail_of p (suc height)) (sym run_here) ∙ ap (trail_of (end_path touched 0)) (sym next) ∙ sym same
        ∙ ap (trail_of (end_path touched 2)) next ∙ ap (λ p. trail_of p (suc height)) word_here)

    -- ---- the paths themselves

    leaf_long : length (leaf_path height i) ≡ height
    leaf_long = length-digits height ((8 * i + 1) / 512)

    take_leaf : (path : WordPath) → height ≤ length path → trail_of path height ≡ trail_of (leaf_path height i) height → take height path ≡ leaf_path height i
    take_leaf path long same =
        same-take path (leaf_path height i) height long (omega (arith, leaf_long)) same ∙ ap (λ n. take n (leaf_path height i)) (sym leaf_long) ∙ take-length (leaf_path height i)

    some : 0 < length run.bytes.now
    some = (shape.runs run has-run).some

    first_path : Has (all_paths touched) (run_path run (run.offset / 8))
    first_path = has-of-run touched shape run (run.offset / 8) has-run (omega arith) (omega (arith, some))

    pub has_size : Has (all_paths touched) (inode_path height i 2)
    has_size = subst (Has (all_paths touched)) size_path (has-word touched shape 0 (omega (arith, one_word)))

    abbrev shared : WordPath
    shared = common_all (all_paths touched)

    leaf_begins : Begins (leaf_path height i) (common_all (all_paths touched))
    leaf_begins = all-most (all_paths touched) (leaf_path height i) (run_path run (run.offset / 8)) first_path begins
      where
        begins : (path : WordPath) → Has (all_paths touched) path → Begins (leaf_path height i) path
        begins path has =
            let like = alike-all touched shape height alike path has in
            record { long = omega (arith, leaf_long, like.0); same = ap (λ n. take n path) leaf_long ∙ take_leaf path like.0 (like.1 ∙ end_prefix 0 some_ends height (omega arith)) }

    short : length (common_all (all_paths touched)) ≤ height
    short = go (cases_lt height (length (common_all (all_paths touched))))
      where
        of : (path : WordPath) → Has (all_paths touched) path → suc height ≤ length (common_all (all_paths touched)) → trail_of path (suc height) ≡ trail_of (common_all (all_paths touched)) (suc height)
        of path has more =
            let begins : Begins (common_all (all_paths touched)) path = all-begin (all_paths touched) path has in
            sym (trail_of-take path (length (common_all (all_paths touched))) (suc height) more) ∙ ap (λ p. trail_of p (suc height)) begins.same

        go : (height < length (common_all (all_paths touched))) ⊎ (length (common_all (all_paths touched)) ≤ height) → length (common_all (all_paths touched)) ≤ height
        go (inr few) = few
        go (inl more) =
            absurd (words_apart height i
            (sym (run_prefix (run.offset / 8) (suc height) (omega arith)) ∙ of (run_path run (run.offset / 8)) first_path (omega (arith, more)) ∙ sym (of (inode_path height i 2) has_size (omega (arith, more)))))

    common_leaf : common_all (all_paths touched) ≡ leaf_path height i
    common_leaf =
        let size : length (common_all (all_paths touched)) ≡ length (leaf_path height i) = omega (arith, short, leaf_begins.long, leaf_long) in
        sym (take-length (common_all (all_paths touched))) ∙ ap (λ n. take n (common_all (all_paths touched))) size ∙ leaf_begins.same

    -- none is a proper prefix of another: those of the run are of one length, and the size is no prefix of them
    pub sized_apart : NoneBegins (all_paths touched)
    sized_apart path other has also m low same = go (kind path has) (kind other also)
      where
        Kind : WordPath → Type 0
        Kind p = ((length p ≡ suc height) × (trail_of p (suc height) ≡ trail_of (inode_path height i 2) (suc height))) ⊎
            ((length p ≡ suc height + run.height + 1) × (trail_of p (suc height) ≡ trail_of (inode_path height i 1) (suc height)))

        kind : (p : WordPath) → Has (all_paths touched) p → Kind p
        kind = paths-by touched shape Kind of_run of_word
          where
            of_run : (r : Run) (k : ℕ) → Has touched.runs.now r → r.offset / 8 ≤ k → k ≤ (run_end r - 1) / 8 → Kind (run_path r k)
            of_run r k has first last = subst (λ (x : Run). Kind (run_path x k)) (only r has) (inr (omega (arith, length-run_path run k, root_long), run_prefix k (suc height) (omega arith)))

            of_word : (j : ℕ) → j < length touched.words.now → Kind (path_of (word_paths touched) j)
            of_word j here =
                let at : j ≡ 0 = omega (arith, here, one_word) in
                subst (λ k. Kind (path_of (word_paths touched) k)) (sym at) (subst Kind (sym size_path) (inl (length-digits (suc height) (8 * i + 2), refl)))

        size : length path ≡ m
        size = ap (λ (p : WordPath). length p) (sym same) ∙ length-take m other ∙ omega (arith, low)

        go : Kind path → Kind other → ⊥
        go (inl one) (inl two) = omega (arith, size, low, one.0, two.0)
        go (inr one) (inr two) = omega (arith, size, low, one.0, two.0)
        go (inr one) (inl two) = omega (arith, size, low, one.0, two.0)
        go (inl one) (inr two) =
            let at : suc height ≤ m = omega (arith, size, one.0) in
            words_apart height i (sym two.1 ∙ sym (trail_of-take other m (suc height) at) ∙ ap (λ p. trail_of p (suc height)) same ∙ one.1)

    -- ---- an image whose inode file has this height

    module _ (image : Image) (wf : IsWellFormed image) (high : height ≡ height_of (root_of image 0)) (inside : i < inode_count image) where
      record_live : IsLiveWord (root_of image 0) (size_of image 0) (suc (height_of (root_of image 0))) (8 * i + 1)
      record_live = live_content (root_of image 0) (size_of image 0) (8 * i + 1) (omega (arith, inside))

      prefix : (d : ℕ) → d ≤ height → Prefix (root_of image 0) (size_of image 0) (suc (height_of (root_of image 0))) (8 * i + 1) d
      prefix d low = prefix_of (root_of image 0) (size_of image 0) (suc (height_of (root_of image 0))) (8 * i + 1) d record_live (omega (arith, low, high))

      on_way : (d : ℕ) (low : d ≤ height) → trail_of (end_path touched 0) d ≡ along [] d (prefix d low).number
      on_way d low =
          let none : d ≡ 0 + d = omega arith in
          end_prefix 0 some_ends d low ∙ sym (leaf_prefix height i 1 d (omega arith) low) ∙ ap (λ h. trail_of (digits (suc h) (8 * i + 1)) d) high
          ∙ sym (trail_of-take (digits (suc (height_of (root_of image 0))) (8 * i + 1)) d d (omega arith)) ∙ ap (λ p. trail_of p d) (prefix d low).same
          ∙ ap (trail_of (digits d (prefix d low).number)) none ∙ digits_trail [] d (prefix d low).number

      block_is : (d : ℕ) (low : d ≤ height) → block_on image (trail_of (end_path touched 0) d) ≡ node image (root_of image 0) d (prefix d low).number
      block_is d low = ap (block_on image) (on_way d low) ∙ ap block_of (word-tree image 0 d (prefix d low).number)

      leaf_has : CoverHas image touched height
      leaf_has = record {
        alike = alike;
        exists = λ d low null. wf.full_inode_file d (prefix d (omega (arith, low))).number (prefix d (omega (arith, low))).live (sym (block_is d (omega (arith, low))) ∙ null);
        longest = λ more. absurd (no_longer more);
      }

      pub leaf_cover : commit_cover image touched ≡ leaf_path height i
      leaf_cover =
          sym (cover_prefix touched shape image height leaf_has) ∙ take_leaf (end_path touched 0) (long_ends 0 some_ends) (end_prefix 0 some_ends height (omega arith))

      pub leaf_count : copied_count image touched ≡ length (prefixes_of height [] (all_paths touched))
      leaf_count =
          ap (λ (path : WordPath). length (prefixes_of (length path) [] (all_paths touched))) leaf_cover ∙ ap (λ n. length (prefixes_of n [] (all_paths touched))) leaf_long

      -- the pointers on the way to it lead to blocks of the image
      pub leaf_inside : IsSound image (root_of image 0) (size_of image 0) → LeadsInside image touched
      leaf_inside sound d more = go (cases_lt d height)
        where
          go : (d < height) ⊎ (height ≤ d) → block_on image (trail_of (end_path touched 0) d) < block_count image
          go (inl low) = subst (λ b. b < block_count image) (sym (block_is d (omega (arith, low)))) (sound.in_range d (prefix d (omega (arith, low))).number (prefix d (omega (arith, low))).live)
          go (inr past) = absurd (no_longer (alike_prefix touched (d + 1) (height + 1) (omega (arith, past)) more))

      -- a change that touches these paths and keeps the height of the inode file has the same cover
      module _ (change : Change) (low_tree : height_after image change 0 ≡ height_of (root_of image 0)) (same : all_paths touched ≡ layout.touched image change) where
        way_there : AllThere (is_there_after image change) [] (leaf_path height i)
        way_there =
            let live : IsLiveWord (root_of image 0) (size_of image 0) (height_of (root_of image 0)) ((8 * i + 1) / 512) =
            live_pointer_word (root_of image 0) (size_of image 0) (height_of (root_of image 0)) ((8 * i + 1) / 512) (live_above _ _ _ _ record_live) in
            subst (λ h. AllThere (is_there_after image change) [] (leaf_path h i)) (sym high)
            (inodes-there image change wf low_tree (height_of (root_of image 0)) ((8 * i + 1) / 512) live (under_full image (root_of image 0) (size_of image 0) (height_of (root_of image 0)) ((8 * i + 1) / 512) wf.full_inode_file live))

        pub change_leaf : layout.cover image change ≡ leaf_path height i
        change_leaf =
            ap (λ (paths : List WordPath). cover_of (is_there_after image change) paths) (sym same) ∙ ap (existing_from (is_there_after image change) []) common_leaf
            ∙ existing-all (is_there_after image change) [] (leaf_path height i) way_there

        pub change_count : length (layout.copied image change) ≡ length (prefixes_of height [] (all_paths touched))
        change_count =
            ap (λ (path : WordPath). length (prefixes_of (length path) [] (layout.touched image change))) change_leaf
            ∙ ap (λ n. length (prefixes_of n [] (layout.touched image change))) leaf_long ∙ ap (λ (paths : List WordPath). length (prefixes_of height [] paths)) (sym same)
