-- The numbers that slots report, and the nodes by them.
use Rattle.std.proofs.Common.{nat_le, ◌≡◌, ◌≢◌, ℕ, zero, suc, ◌+◌, ◌-◌, ◌*◌, ◌/◌, ◌^◌, ◌<◌, ◌≤◌, List, [], ◌∷◌, ◌++◌, length, take, drop, get_or, Bool, true, false, not, ◌&&◌, ◌==◌, pow-suc, refl, sym, ◌∙◌, ap, arith}
use Rattle.std.specs.Prelude.{nat_lt}
use Rattle.std.proofs.lemmas.Bool.{le-leb, lt-leb, ltb-true}
use Rattle.std.proofs.lemmas.List.{length-append, length-take-le, take-take, take_more}
use native.Mathlib.Nat.{pow-le-pow_right}
use Rattle.bp_layout.specs.Inode.{root_of, size_of}
use Rattle.bp_layout.specs.Need.{path_number}
use Rattle.bp_layout.specs.Nodes.{TreeNode, is_present}
use Rattle.bp_layout.specs.Reached.{IsReached}
use Rattle.bp_layout.specs.Thaw.{is_there_now}
use Rattle.bp_layout.specs.Tree.{node, span}
use Rattle.bp_layout.specs.WellFormed.{IsWellFormed}
use Rattle.bp_layout.specs.WordPaths.{WordPath, digits, inode_path, tree_path}
use Rattle.bp_layout.specs.Words.{Image, height_of, word}
use Rattle.bp_read.proofs.Digits.{length-digits}
use Rattle.bp_thaw.specs.Prefixes.{IsPointerPath, IsWayIn}
use Rattle.bp_thaw.proofs.PointerPaths.{prefix_path, number-append, pointed_is}

pub drop_all : (n : ℕ) (xs : List ℕ) → length xs ≤ n → drop n xs ≡ []
drop_all zero [] low = refl
drop_all zero (x ∷ xs) low = absurd (omega (arith, low))
drop_all (suc n) [] low = refl
drop_all (suc n) (x ∷ xs) low = drop_all n xs (omega (arith, low))

drop_prefix : (n : ℕ) (xs ys : List ℕ) → n ≤ length xs → drop n (xs ++ ys) ≡ drop n xs ++ ys
drop_prefix zero xs ys low = refl
drop_prefix (suc n) [] ys low = absurd (omega (arith, low))
drop_prefix (suc n) (x ∷ xs) ys low = drop_prefix n xs ys (omega (arith, low))

pub number_start : (w : List ℕ) (from : ℕ) → from ≤ length w → 0 ≡ path_number (drop from (take from w))
number_start w from low = ap path_number (sym (drop_all from (take from w) (omega (arith, length-take-le from w low))))

pub number_more : (w : List ℕ) (from i : ℕ) → from ≤ i → i < length w → 512 * path_number (drop from (take i w)) + get_or w i 0 ≡ path_number (drop from (take (i + 1) w))
number_more w from i low less =
    sym (number-append (drop from (take i w)) (get_or w i 0))
    ∙ ap path_number (sym (ap (drop from) (take_more w i 0 less) ∙ drop_prefix from (take i w) (get_or w i 0 ∷ []) (omega (arith, low, length-take-le i w (omega (arith, less))))))

pub number_small : (n from i : ℕ) → n < 512 ^ (i - from) → i < from + 6 → n < 35184372088832
number_small n from i below few =
    let short : i - from ≤ 5 = omega (arith, few) in
    let most : 512 ^ (i - from) ≤ 512 ^ 5 = pow-le-pow_right {n = 512} (omega arith) short in
    omega (arith, below, most)

pub number_next : (n slot from i : ℕ) → from ≤ i → n < 512 ^ (i - from) → slot < 512 → 512 * n + slot < 512 ^ (i + 1 - from)
number_next n slot from i low below small =
    let next : i + 1 - from ≡ suc (i - from) = omega (arith, low) in
    rw (next, pow-suc) (omega (arith, below, small))

-- ---- whether a node is there

module _ (image : Image) (root size level index : ℕ) where
  pub present_far : (index * span level < size → ⊥) → is_present image root size (record { level = level; index = index }) ≡ false
  present_far past = go (nat_le level (height_of root)) (nat_lt (index * span level) size) refl
    where
      go : (x y : Bool) → nat_lt (index * span level) size ≡ y → (x && nat_lt (index * span level) size && not (node image root (height_of root - level) index == 0)) ≡ false
      go false y e = refl
      go true false e = rw e refl
      go true true e = absurd (past (ltb-true (index * span level) size e))

  pub present_none : size ≡ 0 → is_present image root size (record { level = level; index = index }) ≡ false
  present_none none = present_far (λ below. omega (arith, below, none))

-- after the slots of the inode file a pointer stands in the tree of an inode
pub record IsInTree (image : Image) (w : WordPath) (d h number : ℕ) : Type 0 where
  pub past : h < d
  pub reached : IsReached image (number / 8)
  pub some : number / 8 ≢ 0
  pub low : d - (h + 1) ≤ height_of (root_of image (number / 8))
  pub there : is_there_now image (take d w) ≡ is_present image (root_of image (number / 8)) (size_of image (number / 8))
      (record { level = height_of (root_of image (number / 8)) - (d - (h + 1)); index = path_number (drop (h + 1) (take d w)) })

module _ (image : Image) (wf : IsWellFormed image) (w : WordPath) (way : IsWayIn image w) (d : ℕ) (low : d < length w) where
  abbrev top : ℕ
  top = height_of (root_of image 0)

  of : IsPointerPath image (take d w)
  of = prefix_path image wf w d way low

  long : length (take d w) ≡ d
  long = length-take-le d w (omega (arith, low))

  pub there_file : d ≤ height_of (root_of image 0) → is_there_now image (take d w) ≡ is_present image (root_of image 0) (size_of image 0) (record { level = height_of (root_of image 0) - d; index = path_number (take d w) })
  there_file short = rw (le-leb (length (take d w)) (height_of (root_of image 0)) (omega (arith, long, short)))
      (ap (λ n. is_present image (root_of image 0) (size_of image 0) (record { level = height_of (root_of image 0) - n; index = path_number (take d w) })) long)

  abbrev tree : ℕ
  tree = path_number (take (suc top) (take d w)) / 8

  there_tree : top < d → is_there_now image (take d w) ≡ is_present image (root_of image tree) (size_of image tree)
      (record { level = height_of (root_of image tree) - (d - suc top); index = path_number (drop (suc top) (take d w)) })
  there_tree past = rw (lt-leb (length (take d w)) top (omega (arith, long, past)))
      (ap (λ n. is_present image (root_of image tree) (size_of image tree)
      (record { level = height_of (root_of image tree) - (n - suc top); index = path_number (drop (suc top) (take d w)) })) long)

  -- the tree whose pointer it is
  tree_is : top < d → tree ≡ of.tree
  tree_is past =
      rw (lt-leb (length (take d w)) top (omega (arith, long, past))) at (ap (λ (p : ℕ × TreeNode). p.0) (pointed_is image wf (take d w) of))

  depth_of : (t e k : ℕ) → e ≤ height_of (root_of image t) → take d w ≡ tree_path (height_of (word image 2)) t e k → top < d → (t ≢ 0) × (d ≡ suc top + e)
  depth_of zero e k few is past =
      let size : d ≡ e = sym long ∙ ap (λ (p : WordPath). length p) is ∙ length-digits e k in
      absurd (omega (arith, size, few, past))
  depth_of (suc i) e k few is past =
      let size = sym long ∙ ap (λ (p : WordPath). length p) is ∙ length-append (inode_path (height_of (word image 2)) (suc i) 1) (digits e k) in
      (λ none. omega (arith, none), omega (arith, size, length-digits e k, length-digits (suc (height_of (word image 2))) (8 * suc i + 1)))

  pub in_tree : (h number : ℕ) → h ≡ height_of (root_of image 0) → h < d → number ≡ path_number (drop 0 (take (h + 1) w)) → IsInTree image w d h number
  in_tree h number top_is less value =
      let next : h + 1 ≡ suc top = omega (arith, top_is) in
      let past : top < d = omega (arith, top_is, less) in
      let slots = take-take (suc top) d w (omega (arith, past)) in
      let is : number / 8 ≡ tree = ap (λ n. n / 8) (value ∙ ap (λ n. path_number (take n w)) next ∙ ap path_number (sym slots)) in
      let deep = depth_of of.tree of.depth of.index of.low of.is past in
      record {
        past = less;
        reached = rw (is, tree_is past) of.reached;
        some = rw (is, tree_is past) deep.0;
        low = rw (is, tree_is past, next) (omega (arith, deep.1, of.low));
        there = rw (is, next) (there_tree past);
      }
