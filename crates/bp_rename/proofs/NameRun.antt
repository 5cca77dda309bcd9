-- Bytes of a directory that are committed alone: what that asks, and what it makes of an image.
use Rattle.std.proofs.Common.{◌≡◌, ℕ, zero, suc, ◌+◌, ◌-◌, ◌*◌, ◌/◌, ◌%◌, ◌<◌, ◌≤◌, List, [], ◌∷◌, length, Bool, slice_index, refl, sym, ◌∙◌, ap, subst, arith, inl, inr}
use Rattle.std.proofs.lemmas.List.{length-take}
use Rattle.bp_layout.specs.Free.{AreFreeBlocks}
use Rattle.bp_layout.specs.Inode.{kind_of, root_of, size_of}
use Rattle.bp_layout.specs.Members.{Has}
use Rattle.bp_layout.specs.Reached.{IsReached}
use Rattle.bp_layout.specs.Reached.IsReached.{inode_file}
use Rattle.bp_layout.specs.Tree.{byte, content_word}
use Rattle.bp_layout.specs.WellFormed.{IsWellFormed}
use Rattle.bp_layout.specs.Words.{Image, block_count, byte_of, word, height_of}
use Rattle.bp_limits.specs.Limits.{max_height}
use Rattle.bp_changes.specs.Commits.{Commits, CommitsOnly}
use Rattle.bp_changes.specs.Forest.{along, root_trail, tree_trail, IsTreePointer}
use Rattle.bp_changes.specs.Trail.{Trail, block_on, trail_of, word_on}
use Rattle.bp_changes.proofs.ForestLaws.{skeleton, word-tree}
use Rattle.bp_changes.proofs.FreeSets.{wf_forest}
use Rattle.bp_cow.specs.CanCommit.{CanCommit, IsTreeIn}
use Rattle.bp_cow.specs.Committed.{IsCommitted, after_commit, changes_of}
use Rattle.bp_cow.specs.Counting.{IsTreeWord}
use Rattle.bp_cow.specs.Cover.{LeadsInside, end_path, end_path_of}
use Rattle.bp_cow.specs.Touched.{IsRun, IsTouched, NoneBegins, all_paths, job_of, laid_word, leaves_of, run_byte, run_end, run_leaves, run_path, run_way, run_word, word_paths}
use Rattle.bp_cow.specs.declared.touched.Run.{Run}
use Rattle.bp_cow.specs.declared.touched.Touched.{Touched}
use Rattle.bp_cow.proofs.CallerLaws.{run_can}
use Rattle.bp_cow.proofs.CommitLaws.{committed_commits, size_after}
use Rattle.bp_cow.proofs.CopiesNeed.{paths-by}
use Rattle.bp_cow.proofs.CoverLaws.{some-ends}
use Rattle.bp_cow.proofs.RunPointers.{leaf-prefixes}
use Rattle.bp_cow.proofs.RunPrefixes.{prefix-run_way}
use Rattle.bp_cow.proofs.RunLaws.{byte-run_word, length-run_path, length-run_way}
use Rattle.bp_cow.proofs.RunWrites.{digits_trail, root_path_trail}
use Rattle.bp_cow.proofs.RunsLaws.{laid-one}
use Rattle.bp_cow.proofs.Values.{after-others, after-run}
use Rattle.bp_calls.proofs.RunCommits.{IsRunOf, laid_inside, run_in, run_is}
use Rattle.bp_calls.proofs.TreeTrails.{same_word}
use Rattle.bp_cow.proofs.CallerLaws.{no_trees}

-- ---- what is asked

module _ (image : Image) (wf : IsWellFormed image) (n : ℕ) (reached : IsReached image (suc n)) (touched : Touched) (run : Run) (one : touched.runs.now ≡ run ∷ []) (none : length touched.words.now ≡ 0) (bare : touched.trees.now ≡ [])
    (of : IsRunOf image (suc n) run) where
  leaves : leaves_of touched.runs.now ≡ run_leaves run
  leaves = ap leaves_of one ∙ omega arith

  -- it is the only one
  one_run : (r : Run) → Has touched.runs.now r → run ≡ r
  one_run r has = elim (subst (λ runs. Has runs r) one has) [ inl e ↦ e | inr none_left ↦ absurd none_left ]

  the_run : Has touched.runs.now run
  the_run = subst (λ runs. Has runs run) (sym one) (inl refl)

  pub run_shape : IsTouched touched
  run_shape = record {
    runs = λ r has. subst IsRun (one_run r has) (run_is image wf n reached run of);
    few_runs = omega (arith, ap (λ (runs : List Run). length runs) one);
    trees = no_trees (λ tree. tree.height ≤ max_height) bare;
    few = omega (arith, none);
    words = λ i here. absurd (omega (arith, here, none));
    short = λ i here. absurd (omega (arith, here, none));
    slots = λ i d here. absurd (omega (arith, here, none));
    some = omega (arith, leaves);
  }

  pub run_commit : {in_snapshot : ℕ → Bool} (free : ℕ → Bool) → AreFreeBlocks image in_snapshot free → CanCommit image (size_of image) in_snapshot touched free
  run_commit free exact = run_can image wf touched run_shape free exact (no_trees (IsTreeIn image (size_of image)) bare) run one none (run_in image wf n reached run of)

  -- all paths are as long, so none begins another
  pub run_apart : NoneBegins (all_paths touched)
  run_apart path other has also m low same =
      let size : length path ≡ m = ap (λ (p : List ℕ). length p) (sym same) ∙ length-take m other ∙ omega (arith, low) in
      omega (arith, size, low, long path has, long other also)
    where
      long : (p : List ℕ) → Has (all_paths touched) p → length p ≡ length run.root.items + run.height + 1
      long = paths-by touched run_shape (λ p. length p ≡ length run.root.items + run.height + 1)
          (λ r k has low high. subst (λ (x : Run). length (run_path x k) ≡ length run.root.items + run.height + 1) (one_run r has) (length-run_path run k))
          (λ i here. absurd (omega (arith, here, none)))

  -- the pointers on the path of its first word
  pub run_live : (d : ℕ) → d < length (run_path run (run.offset / 8)) → IsTreePointer image (size_of image) (trail_of (run_path run (run.offset / 8)) d)
  run_live d low =
      let short : d ≤ length (run_way run 0) = omega (arith, low, length-run_path run (run.offset / 8), length-run_way run 0) in
      subst (IsTreePointer image (size_of image)) (prefix-run_way run 0 (run.offset / 8) d (omega arith) short)
      (leaf-prefixes image (size_of image) (wf_forest image wf) run (run_is image wf n reached run of) (run_in image wf n reached run of) 0 d (omega arith) short)

  pub run_inside : LeadsInside image touched
  run_inside d alike =
      let first : end_path touched 0 ≡ run_path run (run.offset / 8) = ap (λ r. end_path_of r (word_paths touched) 0) one in
      go first (alike.long 0 (some-ends touched run_shape))
    where
      go : end_path touched 0 ≡ run_path run (run.offset / 8) → d + 1 ≤ length (end_path touched 0) → block_on image (trail_of (end_path touched 0) d) < block_count image
      go first long =
          let deep : d < length (run_path run (run.offset / 8)) = subst (λ (p : List ℕ). d < length p) first (omega (arith, long)) in
          (skeleton image (size_of image) (wf_forest image wf) wf.formatted.sized.whole).in_range _ (subst (λ p. IsTreePointer image (size_of image) (trail_of p d)) (sym first) (run_live d deep))

  -- ---- what the commit makes

  run_trail : (k : ℕ) → trail_of (run_path run k) (length (run_path run k)) ≡ tree_trail (height_of (word image 2)) (suc n) (suc (height_of (root_of image (suc n)))) k
  run_trail k =
      let size : length (run_path run k) ≡ length run.root.items + suc run.height = omega (arith, length-run_path run k) in
      ap (trail_of (run_path run k)) size ∙ digits_trail run.root.items (suc run.height) k
      ∙ ap (λ (base : Trail). along base (suc run.height) k) (root_path_trail (height_of (root_of image 0)) n run.root.items of.root)
      ∙ ap (λ h. along (root_trail (height_of (word image 2)) (suc n)) (suc h) k) of.height

  module _ {in_snapshot : ℕ → Bool} (free : ℕ → Bool) (exact : AreFreeBlocks image in_snapshot free) (directory : kind_of image (suc n) ≡ 2) (new : Image) (turned : Trail → Type 0)
      (stage : IsCommitted image new (IsTreePointer image (size_of image)) (IsTreeWord image (size_of image)) turned (after_commit image (job_of touched))) where
    can : CanCommit image (size_of image) in_snapshot touched free
    can = run_commit free exact

    stays : (t k : ℕ) → IsReached image t → 8 * k < size_of image t → ((t ≡ suc n) × (run.offset / 8 ≤ k) × (k ≤ (run_end run - 1) / 8) → ⊥) →
        after_commit image (job_of touched) (tree_trail (height_of (word image 2)) t (suc (height_of (root_of image t))) k) ≡ content_word image (root_of image t) k
    stays t k also low other =
        after-others image (size_of image) touched free wf can (k % 512) (along (root_trail (height_of (word image 2)) t) (height_of (root_of image t)) (k / 512)) (omega arith)
        (λ i here same. absurd (omega (arith, here, none)))
        (λ r l e first last same. apart r l e first last same)
        ∙ word-tree image t (suc (height_of (root_of image t))) k
      where
        apart : (r : Run) (l : ℕ) → Has touched.runs.now r → r.offset / 8 ≤ l → l ≤ (run_end r - 1) / 8 →
            (k % 512) ∷ along (root_trail (height_of (word image 2)) t) (height_of (root_of image t)) (k / 512) ≡ trail_of (run_path r l) (length (run_path r l)) → ⊥
        apart r l has first last same =
            let is : run ≡ r = one_run r has in
            let low_word : run.offset / 8 ≤ l = subst (λ (x : Run). x.offset / 8 ≤ l) (sym is) first in
            let high_word : l ≤ (run_end run - 1) / 8 = subst (λ (x : Run). l ≤ (run_end x - 1) / 8) (sym is) last in
            let both = same_word image (size_of image) (wf_forest image wf) t k (suc n) l also reached low (omega (arith, high_word, of.below, of.some))
            (same ∙ ap (λ (x : Run). trail_of (run_path x l) (length (run_path x l))) (sym is) ∙ run_trail l) in
            other (both.0, omega (arith, both.1, low_word), omega (arith, both.1, high_word))

    pub run_sizes : (t : ℕ) → IsReached image t → size_of new t ≡ size_of image t
    run_sizes zero also = stage.superblock 3 (omega arith) (λ e. omega (arith, e))
    run_sizes (suc m) also =
        let inside : 64 * suc m + 64 ≤ size_of image 0 = can.forest.in_file m also in
        size_after image new (size_of image) can.forest turned (job_of touched) stage m also
        ∙ stays 0 (8 * suc m + 2) inode_file (omega (arith, inside)) (λ here. omega (arith, here.0))

    commits : Commits image new (changes_of image (job_of touched))
    commits =
        committed_commits image new (size_of image) can.forest turned (job_of touched) stage (λ t r. omega arith) (λ t r. let same = run_sizes t r in omega (arith, same)) wf.full_inode_file wf.full_directories

    pub run_only : (Changed : ℕ → ℕ → Type 0) → ((k : ℕ) → run.offset / 8 ≤ k → k ≤ (run_end run - 1) / 8 → Changed (suc n) k) → CommitsOnly image new (changes_of image (job_of touched)) Changed
    run_only Changed reported = record {
      commits = commits;
      kept = λ t k also low other. stays t k also low (λ here. other (subst (λ u. Changed u k) (sym here.0) (reported k here.1 here.2)));
    }

    -- a word of the run
    pub run_words : (k : ℕ) → run.offset / 8 ≤ k → k ≤ (run_end run - 1) / 8 → 8 * k + 8 ≤ size_of image (suc n) →
        content_word new (root_of new (suc n)) k ≡ run_word run k (content_word image (root_of image (suc n)) k)
    run_words k first last low =
        commits.words (suc n) k reached (inr directory) (omega (arith, low)) (λ e. absurd (omega (arith, e)))
        ∙ ap (after_commit image (job_of touched)) (sym (run_trail k)) ∙ after-run image (size_of image) touched free wf can run k the_run first last
        ∙ ap (λ runs. laid_word runs run.root.items k (word_on image (trail_of (run_path run k) (length (run_path run k))))) one ∙ laid-one run k (word_on image (trail_of (run_path run k) (length (run_path run k))))
        ∙ ap (λ q. run_word run k (word_on image q)) (run_trail k) ∙ ap (run_word run k) (word-tree image (suc n) (suc (height_of (root_of image (suc n)))) k)

    -- a byte of the run
    pub run_given : (o : ℕ) → ((i : ℕ) → slice_index run.bytes.now i < 256) → run.offset ≤ o → o < run_end run → 8 * (o / 8) + 8 ≤ size_of image (suc n) →
        byte new (root_of new (suc n)) o ≡ slice_index run.bytes.now (o - run.offset)
    run_given o small low high inside =
        let number : 8 * (o / 8) + o % 8 ≡ o = omega arith in
        ap (λ w. byte_of w (o % 8)) (run_words (o / 8) (omega (arith, low)) (omega (arith, high)) inside)
        ∙ byte-run_word run (o / 8) (content_word image (root_of image (suc n)) (o / 8)) (o % 8) (omega arith) small
        ∙ ap (λ m. run_byte run m (byte image (root_of image (suc n)) o)) number
        ∙ laid_inside run o (byte image (root_of image (suc n)) o) low high
