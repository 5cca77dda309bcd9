-- The nodes that are there once the inode file has one more leaf: those of its tree, and those that are made over and after it.
use Rattle.std.proofs.Common.{◌≡◌, ◌≢◌, ◌⊎◌, ℕ, suc, ◌+◌, ◌-◌, ◌*◌, ◌/◌, ◌<◌, ◌≤◌, List, [], ◌∷◌, ◌++◌, map, filter, flat_map, Bool, true, not, ◌||◌, nat_le, nat_lt, if◌then◌else◌, refl, sym, ◌∙◌, ap, subst, inl, inr, arith}
use Rattle.std.specs.List.{range_with_len, list_any}
use Rattle.std.proofs.Math.Nat.{div-eq_of_lt}
use Rattle.std.proofs.lemmas.Bool.{cases_lt, eq-eqb, le-leb, le-ltb, lt-leb, lt-ltb, ne_eqb, or_left, or_right}
use Rattle.std.proofs.lemmas.List.Elements.{filter_agree}
use Rattle.bp_layout.proofs.MemberLaws.{has-after, has-filter, has-flat_map, has-prefix, has-map, has-range}
use Rattle.bp_layout.specs.Words.{Image, block_of, height_of}
use Rattle.bp_layout.specs.Tree.{node, span, IsLivePointer}
use Rattle.bp_layout.specs.Inode.{root_of, size_of}
use Rattle.bp_layout.specs.Members.{Has}
use Rattle.bp_layout.specs.Need.{growth, is_there, prepared_for, preparation, same_node}
use Rattle.bp_layout.specs.Need.Change.{enters}
use Rattle.bp_layout.specs.Need.Entrant.{grown}
use Rattle.bp_layout.specs.Nodes.{TreeNode, height_with, is_present, nodes_for, nodes_over, raised_nodes}
use Rattle.bp_layout.specs.WellFormed.{IsWellFormed}
use Rattle.bp_limits.specs.Limits.{block_size}

same_self : (n : ℕ × TreeNode) → same_node n n ≡ true
same_self n = rw (eq-eqb n.0 n.0 refl, eq-eqb n.1.level n.1.level refl, eq-eqb n.1.index n.1.index refl) refl

any_has : (x : ℕ × TreeNode) (xs : List (ℕ × TreeNode)) → Has xs x → list_any (same_node x) xs ≡ true
any_has x [] has = absurd has
any_has x (y ∷ xs) (inl e) = or_left (same_node x y) (list_any (same_node x) xs) (ap (same_node x) e ∙ same_self x)
any_has x (y ∷ xs) (inr later) = or_right (same_node x y) (list_any (same_node x) xs) (any_has x xs later)

-- ---- nodes that are made over the root of a tree without a null

module _ (image : Image) (root size to : ℕ) (some : 0 < size) (more : size < to) (top : block_of root ≢ 0) where
  abbrev Node : ℕ → ℕ → TreeNode
  Node level index = record { level = level; index = index }

  abbrev absent : TreeNode → Bool
  absent n = not (is_present image root size n)

  abbrev heights : ℕ
  heights = height_with root size to

  parts : nodes_for image root size size to ≡ filter absent (flat_map (nodes_over size to) (range_with_len 0 (suc heights))) ++ filter (λ n. nat_le (span n.level) size) (raised_nodes root size to)
  parts = rw (lt-ltb size to more) refl

  raised : raised_nodes root size to ≡ map (λ level. Node level 0) (range_with_len (suc (height_of root)) (heights - height_of root))
  raised = rw (lt-ltb 0 size some, ne_eqb (block_of root) 0 top) refl

  module _ (level : ℕ) (over : height_of root < level) (within : level ≤ heights) where
    -- it covers the first byte after the size
    past_end : size < span level → Has (flat_map (nodes_over size to) (range_with_len 0 (suc heights))) (Node level 0)
    past_end low =
        let first : size / span level ≡ 0 = div-eq_of_lt low in
        has-flat_map (nodes_over size to) (range_with_len 0 (suc heights)) level (Node level 0) (has-range 0 (suc heights) level (omega arith) (omega (arith, within)))
        (inl (ap (Node level) first))

    passes : absent (Node level 0) ≡ true
    passes = rw (lt-leb level (height_of root) over) refl

    pub made_over : Has (nodes_for image root size size to) (Node level 0)
    made_over = subst (λ xs. Has xs (Node level 0)) (sym parts) (go (cases_lt size (span level)))
      where
        go : (size < span level) ⊎ (span level ≤ size) →
            Has (filter absent (flat_map (nodes_over size to) (range_with_len 0 (suc heights))) ++ filter (λ n. nat_le (span n.level) size) (raised_nodes root size to)) (Node level 0)
        go (inl low) =
            has-prefix (filter absent (flat_map (nodes_over size to) (range_with_len 0 (suc heights)))) (filter (λ n. nat_le (span n.level) size) (raised_nodes root size to)) (Node level 0)
            (has-filter absent (flat_map (nodes_over size to) (range_with_len 0 (suc heights))) (Node level 0) (past_end low) passes)
        go (inr past) =
            has-after (filter absent (flat_map (nodes_over size to) (range_with_len 0 (suc heights)))) (filter (λ n. nat_le (span n.level) size) (raised_nodes root size to)) (Node level 0)
            (has-filter (λ n. nat_le (span n.level) size) (raised_nodes root size to) (Node level 0)
            (subst (λ xs. Has xs (Node level 0)) (sym raised)
            (has-map (λ level. Node level 0) (range_with_len (suc (height_of root)) (heights - height_of root)) level (has-range (suc (height_of root)) (heights - height_of root) level over (omega (arith, within, over)))))
            (le-leb (span level) size past))

-- so such a node of the inode file is there once a name is entered with a growth
pub grown_there : (image : Image) (i level : ℕ) → IsWellFormed image → block_of (root_of image 0) ≢ 0 → height_of (root_of image 0) < level → level ≤ height_with (root_of image 0) (size_of image 0) (size_of image 0 + block_size) →
    is_there image (enters i grown) (0, record { level = level; index = 0 }) ≡ true
grown_there image i level wf top over within =
    or_right (is_present image (root_of image 0) (size_of image 0) (record { level = level; index = 0 }) || list_any (same_node (0, record { level = level; index = 0 })) (preparation image (enters i grown)))
    (list_any (same_node (0, record { level = level; index = 0 })) (growth image (enters i grown)))
    (any_has (0, record { level = level; index = 0 }) (growth image (enters i grown))
    (has-prefix (prepared_for image (record { tree = 0; from = size_of image 0; to = size_of image 0 + block_size })) [] (0, record { level = level; index = 0 })
    (has-map (λ n. (0, n)) (nodes_for image (root_of image 0) (size_of image 0) (size_of image 0) (size_of image 0 + block_size)) (record { level = level; index = 0 })
    (made_over image (root_of image 0) (size_of image 0) (size_of image 0 + block_size) (omega (arith, wf.some_inodes)) (omega arith) top level over within))))

-- ---- trees with the same pointers lack the same nodes

module _ (old new : Image) (root size : ℕ) (same : (d k : ℕ) → IsLivePointer root size d k → node new root d k ≡ node old root d k) where
  present_same : (n : TreeNode) → is_present new root size n ≡ is_present old root size n
  present_same n = go (cases_lt (height_of root) n.level) (cases_lt (n.index * span n.level) size)
    where
      go : (height_of root < n.level) ⊎ (n.level ≤ height_of root) → (n.index * span n.level < size) ⊎ (size ≤ n.index * span n.level) → is_present new root size n ≡ is_present old root size n
      go (inl high) which = rw (lt-leb n.level (height_of root) high) refl
      go (inr low) (inl below) =
          let live : IsLivePointer root size (height_of root - n.level) n.index = record { level = n.level; height = omega (arith, low); live = below } in
          rw (same (height_of root - n.level) n.index live) refl
      go (inr low) (inr past) = rw (le-leb n.level (height_of root) low, le-ltb (n.index * span n.level) size past) refl

  pub nodes_same : (from to : ℕ) → nodes_for new root size from to ≡ nodes_for old root size from to
  nodes_same from to =
      ap (λ xs. if nat_lt from to then xs ++ filter (λ n. nat_le (span n.level) from) (raised_nodes root size to) else raised_nodes root size to)
      (filter_agree (λ n. not (is_present new root size n)) (λ n. not (is_present old root size n)) (λ n. ap not (present_same n)) (flat_map (nodes_over from to) (range_with_len 0 (suc (height_with root size to)))))
