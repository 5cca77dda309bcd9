-- Content words that are committed, each in a tree: what they ask, and what the commit makes of an image.
use Rattle.std.proofs.Common.{◌≡◌, ◌≢◌, ℕ, zero, suc, ◌+◌, ◌-◌, ◌*◌, ◌/◌, ◌%◌, ◌<◌, ◌≤◌, List, [], ◌++◌, length, Bool, refl, sym, ◌∙◌, ap, subst, subst₂, arith, lt_of_lt_of_le}
use Rattle.std.specs.List.{All}
use Rattle.std.proofs.lemmas.List.{length-append, length-take}
use Rattle.std.proofs.lemmas.List.Elements.{All-append, All-get_or}
use Rattle.bp_limits.specs.Limits.{max_height}
use Rattle.bp_layout.specs.Free.{AreUnheld}
use Rattle.bp_layout.specs.Inode.{kind_of, root_of, size_of}
use Rattle.bp_layout.specs.Members.{Has}
use Rattle.bp_layout.specs.Reached.{IsReached}
use Rattle.bp_layout.specs.Reached.IsReached.{inode_file}
use Rattle.bp_layout.specs.Tree.{content_word, IsFull}
use Rattle.bp_layout.specs.WellFormed.{IsWellFormed}
use Rattle.bp_layout.specs.WordPaths.{WordPath, digits, inode_path, tree_path}
use Rattle.bp_layout.specs.Words.{Image, word, height_of}
use Rattle.bp_changes.specs.Commits.{CommitsOnly}
use Rattle.bp_changes.specs.Forest.{along, root_trail, tree_trail, IsForest, IsTreePointer}
use Rattle.bp_changes.specs.Trail.{Trail, trail_of}
use Rattle.bp_changes.proofs.ForestLaws.{skeleton, word-tree}
use Rattle.bp_changes.proofs.FreeSets.{content_prefixes, content_no_pointer}
use Rattle.bp_read.proofs.Digits.{length-digits}
use Rattle.bp_read.proofs.PathLaws.{small_digits}
use Rattle.bp_cow.specs.CanCommit.{CanCommit, IsTreeIn}
use Rattle.bp_cow.specs.Committed.{IsCommitted, after_commit, changes_of}
use Rattle.bp_cow.specs.Counting.{IsTreeWord}
use Rattle.bp_cow.specs.Cover.{LeadsInside, end_path, end_path_of}
use Rattle.bp_cow.specs.Touched.{IsTouched, NoneBegins, all_paths, job_of, path_of, touched_trail, word_paths}
use Rattle.bp_cow.specs.declared.touched.Run.{Run}
use Rattle.bp_cow.specs.declared.touched.Touched.{Touched}
use Rattle.bp_cow.specs.declared.touched.TreeSize.{TreeSize}
use Rattle.bp_cow.proofs.CommitLaws.{committed_commits, size_after}
use Rattle.bp_cow.proofs.CopiesNeed.{paths-by}
use Rattle.bp_cow.proofs.CoverLaws.{some-ends}
use Rattle.bp_cow.proofs.RunPrefixes.{trail_of-take}
use Rattle.bp_cow.proofs.RunWrites.{digits_trail, root_path_trail}
use Rattle.bp_cow.proofs.Values.{after-others, after-word}
use Rattle.bp_calls.proofs.TreeTrails.{same_word}

-- Content words alone are touched: each in a reached tree below a size that counts, no root word, and no two alike.
pub record AreContent (image : Image) (bound : ℕ → ℕ) (touched : Touched) (tree number : ℕ → ℕ) : Type 0 where
  pub none : touched.runs.now ≡ []
  pub trees : (tree : TreeSize) → Has touched.trees.now tree → IsTreeIn image bound tree
  pub low_trees : (tree : TreeSize) → Has touched.trees.now tree → tree.height ≤ max_height
  pub some : 1 ≤ length touched.words.now
  pub few : length touched.words.now ≤ 32
  pub reached : (i : ℕ) → i < length touched.words.now → IsReached image (tree i)
  pub below : (i : ℕ) → i < length touched.words.now → 8 * number i < bound (tree i)
  pub no_root : (i : ℕ) → i < length touched.words.now → tree i ≡ 0 → number i % 8 ≢ 1
  pub path : (i : ℕ) → i < length touched.words.now →
      path_of (word_paths touched) i ≡ tree_path (height_of (root_of image 0)) (tree i) (suc (height_of (root_of image (tree i)))) (number i)
  pub apart : (i k : ℕ) → i < length touched.words.now → k < length touched.words.now → tree i ≡ tree k → number i ≡ number k → i ≡ k

-- ---- the path of a content word

pub content_long : (top t depth k : ℕ) → length (tree_path top t depth k) ≤ depth + suc top
content_long top zero depth k = omega (arith, length-digits depth k)
content_long top (suc n) depth k =
    omega (arith, length-append (inode_path top (suc n) 1) (digits depth k), length-digits depth k, length-digits (suc top) (8 * suc n + 1))

pub content_some : (top t depth k : ℕ) → depth ≤ length (tree_path top t depth k)
content_some top zero depth k = omega (arith, length-digits depth k)
content_some top (suc n) depth k = omega (arith, length-append (inode_path top (suc n) 1) (digits depth k), length-digits depth k)

pub content_slots : (top t depth k : ℕ) → All (λ slot. slot < 512) (tree_path top t depth k)
content_slots top zero depth k = small_digits depth k
content_slots top (suc n) depth k =
    All-append (λ slot. slot < 512) (inode_path top (suc n) 1) (digits depth k) (small_digits (suc top) (8 * suc n + 1)) (small_digits depth k)

pub content_trail : (top t depth k : ℕ) → trail_of (tree_path top t depth k) (length (tree_path top t depth k)) ≡ tree_trail top t depth k
content_trail top zero depth k =
    let size : length (digits depth k) ≡ 0 + depth = omega (arith, length-digits depth k) in
    ap (trail_of (digits depth k)) size ∙ digits_trail [] depth k
content_trail top (suc n) depth k =
    let root : List ℕ = inode_path top (suc n) 1 in
    let size : length (inode_path top (suc n) 1 ++ digits depth k) ≡ length (inode_path top (suc n) 1) + depth =
    omega (arith, length-append (inode_path top (suc n) 1) (digits depth k), length-digits depth k) in
    ap (trail_of (inode_path top (suc n) 1 ++ digits depth k)) size ∙ digits_trail (inode_path top (suc n) 1) depth k
    ∙ ap (λ (base : Trail). along base depth k) (root_path_trail top n (inode_path top (suc n) 1) refl)

-- ---- what is touched

module _ (image : Image) (bound : ℕ → ℕ) (forest : IsForest image bound) (touched : Touched) (tree number : ℕ → ℕ) (are : AreContent image bound touched tree number) where
  abbrev count : ℕ
  count = length touched.words.now

  abbrev trail : ℕ → ℕ → Trail
  trail t k = tree_trail (height_of (word image 2)) t (suc (height_of (root_of image t))) k

  low_tree : (t : ℕ) → IsReached image t → 0 < bound t → height_of (root_of image t) ≤ max_height
  low_tree t reached some = (forest.sound t reached).low some

  none_has : (run : Run) → Has touched.runs.now run → ⊥
  none_has run has = subst (λ runs. Has runs run) are.none has

  pub words_shape : IsTouched touched
  words_shape =
      let top : height_of (root_of image 0) ≤ max_height = low_tree 0 inode_file forest.some in
      record {
        runs = λ run has. absurd (none_has run has);
        few_runs = omega (arith, ap (λ (runs : List Run). length runs) are.none);
        trees = are.low_trees;
        few = are.few;
        words = λ i here.
            rw (are.path i here) (omega (arith, content_some (height_of (root_of image 0)) (tree i) (suc (height_of (root_of image (tree i)))) (number i)));
        short = λ i here.
            let below : 8 * number i < bound (tree i) = are.below i here in
            let low : height_of (root_of image (tree i)) ≤ max_height = low_tree (tree i) (are.reached i here) (omega (arith, below)) in
            rw (are.path i here) (omega (arith, top, low, content_long (height_of (root_of image 0)) (tree i) (suc (height_of (root_of image (tree i)))) (number i)));
        slots = λ i d here deep.
            All-get_or (λ slot. slot < 512) (path_of (word_paths touched) i) d 0 deep
            (subst (All (λ slot. slot < 512)) (sym (are.path i here)) (content_slots (height_of (root_of image 0)) (tree i) (suc (height_of (root_of image (tree i)))) (number i)));
        some = omega (arith, are.some);
      }

  pub words_trail : (i : ℕ) → i < length touched.words.now → touched_trail touched i ≡ tree_trail (height_of (word image 2)) (tree i) (suc (height_of (root_of image (tree i)))) (number i)
  words_trail i here =
      ap (λ (p : WordPath). trail_of p (length p)) (are.path i here) ∙ content_trail (height_of (root_of image 0)) (tree i) (suc (height_of (root_of image (tree i)))) (number i)

  whole : (i : ℕ) → i < length touched.words.now → length (path_of (word_paths touched) i) ≡ suc (length (path_of (word_paths touched) i) - 1)
  whole i here = omega (arith, words_shape.words i here)

  at : (i : ℕ) → i < length touched.words.now →
      trail_of (path_of (word_paths touched) i) (suc (length (path_of (word_paths touched) i) - 1)) ≡ tree_trail (height_of (word image 2)) (tree i) (suc (height_of (root_of image (tree i)))) (number i)
  at i here = ap (trail_of (path_of (word_paths touched) i)) (sym (whole i here)) ∙ words_trail i here

  -- each proper prefix of a path is a pointer, and no path is one
  pub words_prefixes : (i d : ℕ) → i < length touched.words.now → d < length (path_of (word_paths touched) i) → IsTreePointer image bound (trail_of (path_of (word_paths touched) i) d)
  words_prefixes i d here deep =
      content_prefixes image bound forest (path_of (word_paths touched) i) (length (path_of (word_paths touched) i) - 1) (tree i) (number i) (are.reached i here) (are.below i here) (at i here) d (omega (arith, deep))

  words_no_pointer : (i : ℕ) → i < length touched.words.now → IsTreePointer image bound (touched_trail touched i) → ⊥
  words_no_pointer i here pointer =
      content_no_pointer image bound forest (path_of (word_paths touched) i) (length (path_of (word_paths touched) i) - 1) (tree i) (number i) (are.reached i here) (are.below i here) (at i here) (are.no_root i here)
      (subst (λ d. IsTreePointer image bound (trail_of (path_of (word_paths touched) i) d)) (whole i here) pointer)

  -- so the cover and its need can be asked for
  pub words_apart : NoneBegins (all_paths touched)
  words_apart path other has also m low same =
      let size : length path ≡ m = ap (λ (p : WordPath). length p) (sym same) ∙ length-take m other ∙ omega (arith, low) in
      plain path has
      (subst (IsTreePointer image bound) (sym (ap (trail_of path) size ∙ ap (λ p. trail_of p m) (sym same) ∙ trail_of-take other m m (omega arith))) (prefixes other also m low))
    where
      plain : (p : WordPath) → Has (all_paths touched) p → IsTreePointer image bound (trail_of p (length p)) → ⊥
      plain = paths-by touched words_shape (λ p. IsTreePointer image bound (trail_of p (length p)) → ⊥) (λ run k has _ _. absurd (none_has run has)) words_no_pointer

      prefixes : (p : WordPath) → Has (all_paths touched) p → (d : ℕ) → d < length p → IsTreePointer image bound (trail_of p d)
      prefixes = paths-by touched words_shape (λ p. (d : ℕ) → d < length p → IsTreePointer image bound (trail_of p d)) (λ run k has _ _. absurd (none_has run has)) (λ i here d deep. words_prefixes i d here deep)

  pub words_inside : IsWellFormed image → LeadsInside image touched
  words_inside wf d alike =
      let first : end_path touched 0 ≡ path_of (word_paths touched) 0 = ap (λ r. end_path_of r (word_paths touched) 0) are.none in
      let long : d + 1 ≤ length (end_path touched 0) = alike.long 0 (some-ends touched words_shape) in
      let deep : d < length (path_of (word_paths touched) 0) = subst (λ (p : WordPath). d < length p) first (omega (arith, long)) in
      (skeleton image bound forest wf.formatted.sized.whole).in_range _ (subst (λ p. IsTreePointer image bound (trail_of p d)) (sym first) (words_prefixes 0 d (omega (arith, are.some)) deep))

  module _ {in_snapshot : ℕ → Bool} (sizes : (t : ℕ) → IsReached image t → size_of image t ≤ bound t) (free : ℕ → Bool) (exact : AreUnheld image (IsReached image) bound in_snapshot free) where
    pub words_can : CanCommit image bound in_snapshot touched free
    words_can = record {
      shape = words_shape;
      forest = forest;
      sizes = sizes;
      exact = exact;
      pointers = words_prefixes;
      contents = words_no_pointer;
      runs = λ run has. absurd (none_has run has);
      trees = are.trees;
      apart = λ i k here there same.
          let both = same_word image bound forest (tree i) (number i) (tree k) (number k) (are.reached i here) (are.reached k there) (are.below i here) (are.below k there)
          (sym (words_trail i here) ∙ same ∙ words_trail k there) in
          are.apart i k here there both.0 both.1;
      beside = λ run i k has here low high same. none_has run has;
    }

  -- ---- what the commit makes

  module _ {in_snapshot : ℕ → Bool} (free : ℕ → Bool) (wf : IsWellFormed image) (can : CanCommit image bound in_snapshot touched free) where
    -- a touched word has its value
    pub words_value : (i : ℕ) → i < length touched.words.now →
        after_commit image (job_of touched) (tree_trail (height_of (word image 2)) (tree i) (suc (height_of (root_of image (tree i)))) (number i)) ≡ (job_of touched).value i
    words_value i here = ap (after_commit image (job_of touched)) (sym (words_trail i here)) ∙ after-word image bound touched free wf can i here

    -- another word stays
    pub words_kept : (t k : ℕ) → IsReached image t → 8 * k < bound t → ((i : ℕ) → i < length touched.words.now → t ≡ tree i → k ≡ number i → ⊥) →
        after_commit image (job_of touched) (tree_trail (height_of (word image 2)) t (suc (height_of (root_of image t))) k) ≡ content_word image (root_of image t) k
    words_kept t k reached low other =
        after-others image bound touched free wf can (k % 512) (along (root_trail (height_of (word image 2)) t) (height_of (root_of image t)) (k / 512)) (omega arith)
        (λ i here same.
        let both = same_word image bound forest t k (tree i) (number i) reached (are.reached i here) low (are.below i here) (same ∙ words_trail i here) in
        other i here both.0 both.1)
        (λ run l has low high same. none_has run has)
        ∙ word-tree image t (suc (height_of (root_of image t))) k

    -- Where no size grows past what counts, the commit is reported on content words.
    module _ (new : Image) (turned : Trail → Type 0) (stage : IsCommitted image new (IsTreePointer image bound) (IsTreeWord image bound) turned (after_commit image (job_of touched))) where
      -- a size that is not touched stays
      pub size_kept : (t : ℕ) → IsReached image t → ((i : ℕ) → i < length touched.words.now → tree i ≡ 0 → number i ≡ 8 * t + 2 → ⊥) → size_of new t ≡ size_of image t
      size_kept zero reached other = stage.superblock 3 (omega arith) (λ e. omega (arith, e))
      size_kept (suc n) reached other =
          let inside : 64 * suc n + 64 ≤ bound 0 = forest.in_file n reached in
          size_after image new bound forest turned (job_of touched) stage n reached
          ∙ words_kept 0 (8 * suc n + 2) inode_file (omega (arith, inside)) (λ i here e f. other i here (sym e) (sym f))

      -- a size that is touched has its value
      pub size_given : (n i : ℕ) → IsReached image (suc n) → i < length touched.words.now → tree i ≡ 0 → number i ≡ 8 * suc n + 2 → size_of new (suc n) ≡ (job_of touched).value i
      size_given n i reached here e f =
          size_after image new bound forest turned (job_of touched) stage n reached
          ∙ sym (subst₂ (λ t k. after_commit image (job_of touched) (tree_trail (height_of (word image 2)) t (suc (height_of (root_of image t))) k) ≡ after_commit image (job_of touched) (tree_trail (height_of (word image 2)) 0 (suc (height_of (root_of image 0))) (8 * suc n + 2))) (sym e) (sym f) refl)
          ∙ words_value i here

      pub words_only : (Changed : ℕ → ℕ → Type 0) → ((t : ℕ) → IsReached image t → size_of new t ≤ bound t) →
          IsFull image (root_of image 0) (bound 0) → ((i : ℕ) → IsReached image i → kind_of image i ≡ 2 → IsFull image (root_of image i) (bound i)) →
          ((i : ℕ) → i < length touched.words.now → Changed (tree i) (number i)) →
          CommitsOnly image new (changes_of image (job_of touched)) Changed
      words_only Changed low file directories reported = record {
        commits = committed_commits image new bound forest turned (job_of touched) stage can.sizes low file directories;
        kept = λ t k reached below other.
            words_kept t k reached (lt_of_lt_of_le below (can.sizes t reached)) (λ i here e f. other (subst₂ Changed (sym e) (sym f) (reported i here)));
      }
