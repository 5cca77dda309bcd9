-- Touched words that can be committed under the sizes that the image has: one word of a tree, and runs.
use Rattle.std.proofs.Common.{◌≡◌, ◌≢◌, ℕ, suc, ◌-◌, ◌*◌, ◌%◌, ◌<◌, ◌≤◌, List, [], ◌∷◌, length, Bool, sym, ◌∙◌, ap, subst, arith, inl, inr}
use Rattle.bp_layout.specs.Free.{AreFreeBlocks}
use Rattle.bp_layout.specs.Members.{Has}
use Rattle.bp_layout.specs.Words.{Image, word, height_of}
use Rattle.bp_layout.specs.Inode.{root_of, size_of}
use Rattle.bp_layout.specs.Reached.{IsReached}
use Rattle.bp_layout.specs.WellFormed.{IsWellFormed}
use Rattle.bp_changes.specs.Forest.{tree_trail, IsForest, IsTreePointer}
use Rattle.bp_changes.specs.Trail.{trail_of}
use Rattle.bp_changes.proofs.FreeSets.{wf_forest, content_prefixes, content_no_pointer}
use Rattle.bp_cow.specs.declared.touched.Run.{Run}
use Rattle.bp_cow.specs.declared.touched.Touched.{Touched}
use Rattle.bp_cow.specs.declared.touched.TreeSize.{TreeSize}
use Rattle.bp_cow.specs.Touched.{IsTouched, path_of, word_paths}
use Rattle.bp_cow.specs.CanCommit.{IsRunIn, IsTreeIn, CanCommit}

-- what is asked of trees that are given, where none is
pub no_trees : {trees : List TreeSize} (P : TreeSize → Type 0) → trees ≡ [] → (tree : TreeSize) → Has trees tree → P tree
no_trees P none tree has = absurd (subst (λ (ts : List TreeSize). Has ts tree) none has)

module _ {in_snapshot : ℕ → Bool} (old : Image) (wf : IsWellFormed old) (touched : Touched) (shape : IsTouched touched) (free : ℕ → Bool) (exact : AreFreeBlocks old in_snapshot free) (in_size : (tree : TreeSize) → Has touched.trees.now tree → IsTreeIn old (size_of old) tree) where
  forest : IsForest old (size_of old)
  forest = wf_forest old wf

  -- one word
  module _ (none : touched.runs.now ≡ []) (one : length touched.words.now ≡ 1) (t k : ℕ) (reached : IsReached old t) (below : 8 * k < size_of old t) (no_root : t ≡ 0 → k % 8 ≢ 1)
      (is : trail_of (path_of (word_paths touched) 0) (length (path_of (word_paths touched) 0)) ≡ tree_trail (height_of (word old 2)) t (suc (height_of (root_of old t))) k) where
    pub word_can : CanCommit old (size_of old) in_snapshot touched free
    word_can = record {
      shape = shape;
      forest = forest;
      sizes = λ u r. omega arith;
      exact = exact;
      pointers = λ i d here low. pointers i d (first i here) low;
      contents = λ i here pointer. contents i (first i here) pointer;
      runs = λ run has. absurd (no_run run has);
      trees = in_size;
      apart = λ i j here there same. omega (arith, first i here, first j there);
      beside = λ run i j has here low high same. no_run run has;
    }
      where
        first : (i : ℕ) → i < length touched.words.now → i ≡ 0
        first i here = omega (arith, here, one)

        no_run : (run : Run) → Has touched.runs.now run → ⊥
        no_run run has = subst (λ runs. Has runs run) none has

        some : 1 ≤ length (path_of (word_paths touched) 0)
        some = shape.words 0 (omega (arith, one))

        whole : length (path_of (word_paths touched) 0) ≡ suc (length (path_of (word_paths touched) 0) - 1)
        whole = omega (arith, some)

        at : trail_of (path_of (word_paths touched) 0) (suc (length (path_of (word_paths touched) 0) - 1)) ≡ tree_trail (height_of (word old 2)) t (suc (height_of (root_of old t))) k
        at = ap (trail_of (path_of (word_paths touched) 0)) (sym whole) ∙ is

        pointers : (i d : ℕ) → i ≡ 0 → d < length (path_of (word_paths touched) i) → IsTreePointer old (size_of old) (trail_of (path_of (word_paths touched) i) d)
        pointers i d e low =
            let less : d < length (path_of (word_paths touched) 0) = subst (λ n. d < length (path_of (word_paths touched) n)) e low in
            subst (λ n. IsTreePointer old (size_of old) (trail_of (path_of (word_paths touched) n) d)) (sym e)
            (content_prefixes old (size_of old) forest (path_of (word_paths touched) 0) (length (path_of (word_paths touched) 0) - 1) t k reached below at d (omega (arith, less)))

        contents : (i : ℕ) → i ≡ 0 → IsTreePointer old (size_of old) (trail_of (path_of (word_paths touched) i) (length (path_of (word_paths touched) i))) → ⊥
        contents i e pointer =
            content_no_pointer old (size_of old) forest (path_of (word_paths touched) 0) (length (path_of (word_paths touched) 0) - 1) t k reached below at no_root
            (subst (λ d. IsTreePointer old (size_of old) (trail_of (path_of (word_paths touched) 0) d)) whole (subst (λ n. IsTreePointer old (size_of old) (trail_of (path_of (word_paths touched) n) (length (path_of (word_paths touched) n)))) e pointer))

  -- runs alone
  pub runs_can : length touched.words.now ≡ 0 → ((run : Run) → Has touched.runs.now run → IsRunIn old (size_of old) run) → CanCommit old (size_of old) in_snapshot touched free
  runs_can none in_trees = record {
    shape = shape;
    forest = forest;
    sizes = λ u r. omega arith;
    exact = exact;
    pointers = λ i d here low. absurd (omega (arith, here, none));
    contents = λ i here pointer. omega (arith, here, none);
    runs = in_trees;
    trees = in_size;
    apart = λ i j here there same. absurd (omega (arith, here, none));
    beside = λ r i j has here low high same. omega (arith, here, none);
  }

  pub run_can : (run : Run) → touched.runs.now ≡ run ∷ [] → length touched.words.now ≡ 0 → IsRunIn old (size_of old) run → CanCommit old (size_of old) in_snapshot touched free
  run_can run one none in_tree = runs_can none (λ r has. only r (subst (λ runs. Has runs r) one has))
    where
      only : (r : Run) → Has (run ∷ []) r → IsRunIn old (size_of old) r
      only r (inl e) = subst (IsRunIn old (size_of old)) e in_tree
      only r (inr none_left) = absurd none_left
