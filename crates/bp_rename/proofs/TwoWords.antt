-- Two content words that are committed together.
use Rattle.std.proofs.Common.{◌≡◌, ◌≢◌, ℕ, zero, suc, ◌*◌, ◌%◌, ◌<◌, ◌≤◌, List, [], ◌∷◌, ◌++◌, length, slice_index, refl, sym, ◌∙◌, ap, subst, arith, inl, inr}
use Rattle.std.specs.Prelude.{map}
use Rattle.arrayvec.specs.ArrayVec.{ArrayVec}
use Rattle.std.proofs.lemmas.List.{length-map}
use Rattle.bp_layout.specs.Inode.{root_of, size_of}
use Rattle.bp_layout.specs.Members.{Has}
use Rattle.bp_layout.specs.Reached.{IsReached}
use Rattle.bp_layout.specs.WordPaths.{WordPath, tree_path}
use Rattle.bp_layout.specs.Words.{Image, height_of}
use Rattle.bp_cow.specs.Cover.{copied_count}
use Rattle.bp_cow.specs.Touched.{IsTouched, NoneBegins, all_paths, job_of, leaves_of, path_of, run_paths, word_paths}
use Rattle.bp_cow.specs.declared.touched.Touched.{Touched}
use Rattle.bp_cow.specs.declared.touched.TreeSize.{TreeSize}
use Rattle.bp_rename.specs.TouchesTwo.{AreTwo, ListsTrees, TouchesTwo}
use Rattle.bp_rename.proofs.ContentWords.{AreContent}
use Rattle.bp_rename.proofs.ListedTrees.{sized_in}
use Rattle.bp_rename.proofs.FewWays.{few_ways}

-- the first for 0, and else the second
abbrev pub pick : ℕ → ℕ → ℕ → ℕ
pick a b zero = a
pick a b (suc i) = b

-- what is touched by two words and no run
pub touches_two : (image : Image) (Among : ℕ → Type 0) {first second : WordPath} {one two : ℕ} → (touched : Touched) (words : List (ArrayVec ℕ × ℕ)) (trees : List TreeSize) → touched.words.now ≡ words → touched.runs.now ≡ [] →
    touched.trees.now ≡ trees → ListsTrees image Among trees → AreTwo words first second one two → TouchesTwo image Among touched first second one two
touches_two image Among touched words trees e none listed lists are = record {
  none = none;
  trees = subst (λ (ts : List TreeSize). ListsTrees image Among ts) (sym listed) lists;
  paths = ap (λ (ws : List (ArrayVec ℕ × ℕ)). map (λ word. word.0.items) ws) e ∙ are.paths;
  values = ap (λ (ws : List (ArrayVec ℕ × ℕ)). map (λ word. word.1) ws) e ∙ are.values;
}

-- the path of a content word
abbrev pub word_path : Image → ℕ → ℕ → WordPath
word_path image t k = tree_path (height_of (root_of image 0)) t (suc (height_of (root_of image t))) k

module _ {Among : ℕ → Type 0} (image : Image) (touched : Touched) (t k u l one two : ℕ) (is : TouchesTwo image Among touched (tree_path (height_of (root_of image 0)) t (suc (height_of (root_of image t))) k) (tree_path (height_of (root_of image 0)) u (suc (height_of (root_of image u))) l) one two) where
  pub two_count : length touched.words.now ≡ 2
  two_count = sym (length-map touched.words.now (λ word. word.0.items)) ∙ ap (λ (ps : List WordPath). length ps) is.paths

  pub no_leaves : (job_of touched).leaves ≡ 0
  no_leaves = ap leaves_of is.none

  pub two_paths : all_paths touched ≡ tree_path (height_of (root_of image 0)) t (suc (height_of (root_of image t))) k ∷ tree_path (height_of (root_of image 0)) u (suc (height_of (root_of image u))) l ∷ []
  two_paths = ap (λ r. run_paths r ++ word_paths touched) is.none ∙ is.paths

  pub has_first : Has (all_paths touched) (tree_path (height_of (root_of image 0)) t (suc (height_of (root_of image t))) k)
  has_first = rw two_paths (inl refl)

  pub has_second : Has (all_paths touched) (tree_path (height_of (root_of image 0)) u (suc (height_of (root_of image u))) l)
  has_second = rw two_paths (inr (inl refl))

  pub two_few : IsTouched touched → NoneBegins (all_paths touched) → copied_count image touched ≤ 23
  two_few shape apart = let few = few_ways image touched shape apart in omega (arith, few, no_leaves, two_count)

  pub first_value : (job_of touched).value 0 ≡ one
  first_value = ap (λ vs. slice_index vs 0) is.values

  pub second_value : (job_of touched).value 1 ≡ two
  second_value = ap (λ vs. slice_index vs 1) is.values

  module _ (bound : ℕ → ℕ) (first : IsReached image t) (second : IsReached image u) (low : 8 * k < bound t) (few : 8 * l < bound u)
      (no_root : t ≡ 0 → k % 8 ≢ 1) (not_root : u ≡ 0 → l % 8 ≢ 1) (apart : t ≡ u → k ≡ l → ⊥) (fits : (v : ℕ) → Among v → bound v ≤ size_of image v) where
    pub two_are : AreContent image bound touched (pick t u) (pick k l)
    two_are = record {
      none = is.none;
      trees = λ tree has. let at = is.trees tree has in sized_in image bound tree at.0 at.1.1 (fits at.0 at.1.0);
      low_trees = λ tree has. (is.trees tree has).1.1.low;
      some = omega (arith, two_count);
      few = omega (arith, two_count);
      reached = λ i here. reaches i;
      below = λ i here. lows i;
      no_root = λ i here. roots i;
      path = paths;
      apart = aparts;
    }
      where
        reaches : (i : ℕ) → IsReached image (pick t u i)
        reaches zero = first
        reaches (suc i) = second

        lows : (i : ℕ) → 8 * pick k l i < bound (pick t u i)
        lows zero = low
        lows (suc i) = few

        roots : (i : ℕ) → pick t u i ≡ 0 → pick k l i % 8 ≢ 1
        roots zero = no_root
        roots (suc i) = not_root

        paths : (i : ℕ) → i < length touched.words.now → path_of (word_paths touched) i ≡ tree_path (height_of (root_of image 0)) (pick t u i) (suc (height_of (root_of image (pick t u i)))) (pick k l i)
        paths zero here = ap (λ ps. path_of ps 0) is.paths
        paths (suc zero) here = ap (λ ps. path_of ps 1) is.paths
        paths (suc (suc i)) here = absurd (omega (arith, here, two_count))

        aparts : (i j : ℕ) → i < length touched.words.now → j < length touched.words.now → pick t u i ≡ pick t u j → pick k l i ≡ pick k l j → i ≡ j
        aparts zero zero here there e f = refl
        aparts zero (suc j) here there e f = absurd (apart e f)
        aparts (suc i) zero here there e f = absurd (apart (sym e) (sym f))
        aparts (suc i) (suc j) here there e f = omega (arith, here, there, two_count)
