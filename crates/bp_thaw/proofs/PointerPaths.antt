-- The paths of pointers: the tree and node that each reports, its trail and its place.
use Rattle.std.proofs.Common.{nat_le, ◌≡◌, ◌≢◌, ◌⊎◌, ℕ, zero, suc, ◌+◌, ◌-◌, ◌*◌, ◌/◌, ◌%◌, ◌<◌, ◌≤◌, List, [], ◌∷◌, ◌++◌, length, take, Bool, true, false, not, ◌&&◌, ◌==◌, refl, sym, ◌∙◌, ap, ap₂, subst, arith, inl, inr, true≢false, append_assoc}
use Rattle.std.specs.Prelude.{nat_lt}
use Rattle.std.proofs.lemmas.Bool.{cases_eq, cases_lt, eq-eqb, le-leb, lt-leb, lt-ltb, ltb-true, ne_eqb}
use Rattle.std.proofs.lemmas.List.{length-append, take-append-le}
use Rattle.std.proofs.lemmas.List.Sums.{fold-append}
use Rattle.std.proofs.Math.ListN.{get_or-append}
use Rattle.std.proofs.Math.Seq.{drop-append_seam, take-append_seam, take-length}
use Rattle.std.specs.List.{slice_index}
use Rattle.bp_layout.specs.Inode.{root_of, size_of, inode_count}
use Rattle.bp_layout.specs.Need.{path_number, pointed}
use Rattle.bp_layout.specs.Nodes.{TreeNode, is_present}
use Rattle.bp_layout.specs.Reached.{IsReached}
use Rattle.bp_layout.specs.Reached.IsReached.{inode_file}
use Rattle.bp_layout.specs.Thaw.{heights_now, is_in_snapshot_at, is_there_now}
use Rattle.bp_layout.specs.Tree.{IsLivePointer, node, span}
use Rattle.bp_layout.specs.WellFormed.{IsWellFormed}
use Rattle.bp_layout.specs.WordPaths.{WordPath, address, digits, inode_path, tree_path}
use Rattle.bp_layout.specs.Words.{Image, block_of, height_of, word}
use Rattle.bp_layout.proofs.TreeLaws.{live_above, live_content}
use Rattle.bp_layout.proofs.Reached.{reached-in_file}
use Rattle.bp_changes.specs.Trail.{ArePointers, IsSkeleton, Trail, block_on, place_on, trail_of}
use Rattle.bp_changes.specs.Forest.{IsForest, IsTreePointer, along, tree_trail}
use Rattle.bp_changes.proofs.ForestLaws.{block-tree, pointers, same_trail, short, short_pointer, skeleton}
use Rattle.bp_changes.proofs.FreeSets.{wf_forest}
use Rattle.bp_changes.proofs.PathTrails.{AreNodes, address-on}
use Rattle.bp_read.proofs.Digits.{length-digits}
use Rattle.bp_thaw.specs.Prefixes.{HasDigits, IsPointerPath, IsWayIn, path_trail}
use Rattle.bp_thaw.proofs.Marks.{block_above, placed, places_apart, word-at_place}

-- ---- trails of paths

pub prefix-trail : (xs ys : List ℕ) (n : ℕ) → n ≤ length xs → trail_of (xs ++ ys) n ≡ trail_of xs n
prefix-trail xs ys zero low = refl
prefix-trail xs ys (suc n) low =
    let head : slice_index (xs ++ ys) n ≡ slice_index xs n = get_or-append xs ys 0 n (omega (arith, low)) in
    let tail : trail_of (xs ++ ys) n ≡ trail_of xs n = prefix-trail xs ys n (omega (arith, low)) in
    ap₂ (λ s t. s ∷ t) head tail

last-slot : (xs : List ℕ) (s : ℕ) → slice_index (xs ++ s ∷ []) (length xs) ≡ s
last-slot [] s = refl
last-slot (x ∷ xs) s = last-slot xs s

pub trail-more : (xs : List ℕ) (s : ℕ) → path_trail (xs ++ s ∷ []) ≡ s ∷ path_trail xs
trail-more xs s =
    let long : length (xs ++ s ∷ []) ≡ suc (length xs) = length-append xs (s ∷ []) ∙ omega arith in
    ap (trail_of (xs ++ s ∷ [])) long ∙ ap₂ (λ h t. h ∷ t) (last-slot xs s) (prefix-trail xs (s ∷ []) (length xs) (omega arith))

trail-digits : (base : List ℕ) (d k : ℕ) → path_trail (base ++ digits d k) ≡ along (path_trail base) d k
trail-digits base zero k = ap path_trail (append_nil base)
  where
    append_nil : (xs : List ℕ) → xs ++ [] ≡ xs
    append_nil [] = refl
    append_nil (x ∷ xs) = ap (λ rest. x ∷ rest) (append_nil xs)
trail-digits base (suc d) k =
    ap path_trail (sym (append_assoc base (digits d (k / 512)) (k % 512 ∷ [])))
    ∙ trail-more (base ++ digits d (k / 512)) (k % 512)
    ∙ ap (λ t. k % 512 ∷ t) (trail-digits base d (k / 512))

pub trail-tree : (h t d k : ℕ) → path_trail (tree_path h t d k) ≡ tree_trail h t d k
trail-tree h zero d k = trail-digits [] d k
trail-tree h (suc i) d k = trail-digits (inode_path h (suc i) 1) d k ∙ ap (λ base. along base d k) (trail-digits [] (suc h) (8 * suc i + 1))

-- ---- the prefixes of a way

pub number-append : (ds : List ℕ) (d : ℕ) → path_number (ds ++ d ∷ []) ≡ 512 * path_number ds + d
number-append ds d = fold-append (λ (n : ℕ) (d : ℕ). 512 * n + d) 0 ds (d ∷ [])

number-digits : (d k : ℕ) → HasDigits d k → path_number (digits d k) ≡ k
number-digits zero k few = sym few
number-digits (suc d) k few = number-append (digits d (k / 512)) (k % 512) ∙ omega (arith, number-digits d (k / 512) few)

-- after the path of a root word
pointed_after : (heights : ℕ → ℕ) (t : ℕ) (base : WordPath) → length base ≡ suc (heights 0) → path_number base / 8 ≡ t → (d k : ℕ) → HasDigits d k →
    pointed heights (base ++ digits d k) ≡ (t, record { level = heights t - d; index = k })
pointed_after heights t base whole tree d k few = rw (← whole, long, take-append_seam, drop-append_seam, tree, number-digits d k few, depth) refl
  where
    count : length (base ++ digits d k) ≡ length base + d
    count = length-append base (digits d k) ∙ ap (λ n. length base + n) (length-digits d k)

    depth : length (base ++ digits d k) - length base ≡ d
    depth = omega (arith, count)

    long : nat_le (length (base ++ digits d k)) (heights 0) ≡ false
    long = lt-leb _ _ (omega (arith, count, whole))

record DigitsPrefix (base : List ℕ) (depth : ℕ) (path : List ℕ) : Type 0 where
  pub count : ℕ
  pub number : ℕ
  pub less : count < depth
  pub few : HasDigits count number
  pub is : path ≡ base ++ digits count number

digits_prefix : (base : List ℕ) (depth k n : ℕ) → HasDigits depth k → length base ≤ n → n < length base + depth → DigitsPrefix base depth (take n (base ++ digits depth k))
digits_prefix base zero k n few low high = absurd (omega (arith, low, high))
digits_prefix base (suc d) k n few low high = go (cases_eq n (length base + d)) (λ less. digits_prefix base d (k / 512) n few low less)
  where
    long : length (base ++ digits d (k / 512)) ≡ length base + d
    long = length-append base (digits d (k / 512)) ∙ ap (λ m. length base + m) (length-digits d (k / 512))

    prefix : take n (base ++ (digits d (k / 512) ++ k % 512 ∷ [])) ≡ take n (base ++ digits d (k / 512))
    prefix = ap (take n) (sym (append_assoc base (digits d (k / 512)) (k % 512 ∷ []))) ∙ take-append-le n (base ++ digits d (k / 512)) (k % 512 ∷ []) (omega (arith, long, high))

    go : (n ≡ length base + d) ⊎ (n ≡ length base + d → ⊥) → (n < length base + d → DigitsPrefix base d (take n (base ++ digits d (k / 512)))) → DigitsPrefix base (suc d) (take n (base ++ (digits d (k / 512) ++ k % 512 ∷ [])))
    go (inl e) rest = record {
      count = d;
      number = k / 512;
      less = omega arith;
      few = few;
      is = prefix ∙ ap (λ m. take m (base ++ digits d (k / 512))) (e ∙ sym long) ∙ take-length (base ++ digits d (k / 512));
    }
    go (inr other) rest =
        let deeper = rest (omega (arith, high, other)) in
        record { count = deeper.count; number = deeper.number; less = omega (arith, deeper.less); few = deeper.few; is = prefix ∙ deeper.is }

module _ (image : Image) (wf : IsWellFormed image) where
  abbrev top : ℕ
  top = height_of (word image 2)

  forest : IsForest image (size_of image)
  forest = wf_forest image wf

  abbrev Pointer : Trail → Type 0
  Pointer = IsTreePointer image (size_of image)

  pub are : ArePointers Pointer
  are = pointers image (size_of image) forest

  pub bones : IsSkeleton image Pointer
  bones = skeleton image (size_of image) forest wf.formatted.sized.whole

  root_digits : (i : ℕ) → IsReached image (suc i) → HasDigits (suc (height_of (word image 2))) (8 * suc i + 1)
  root_digits i reached =
      let low : suc i < inode_count image = reached-in_file image wf (suc i) reached in
      short_pointer (root_of image 0) (size_of image 0) (height_of (root_of image 0)) ((8 * suc i + 1) / 512) (forest.sound 0 inode_file).fits
      (live_above _ _ _ _ (live_content (root_of image 0) (size_of image 0) (8 * suc i + 1) (omega (arith, low))))

  file_prefix : (depth k n : ℕ) → depth ≤ suc (height_of (word image 2)) → HasDigits depth k → n < depth → IsPointerPath image (take n (digits depth k))
  file_prefix depth k n low few less =
      let prefix = digits_prefix [] depth k n few (omega arith) (omega (arith, less)) in
      record { tree = 0; depth = prefix.count; index = prefix.number; reached = inode_file; low = omega (arith, prefix.less, low); few = prefix.few; is = prefix.is }

  way_prefix : (t depth k n : ℕ) → IsReached image t → depth ≤ suc (height_of (root_of image t)) → HasDigits depth k → n < length (tree_path (height_of (word image 2)) t depth k) →
      IsPointerPath image (take n (tree_path (height_of (word image 2)) t depth k))
  way_prefix zero depth k n reached low few less = file_prefix depth k n low few (omega (arith, less, length-digits depth k))
  way_prefix (suc i) depth k n reached low few less = go (cases_lt n (length base))
    where
      base : List ℕ
      base = inode_path (height_of (word image 2)) (suc i) 1

      base_long : length (inode_path (height_of (word image 2)) (suc i) 1) ≡ suc (height_of (word image 2))
      base_long = length-digits (suc (height_of (word image 2))) (8 * suc i + 1)

      go : (n < length (inode_path (height_of (word image 2)) (suc i) 1)) ⊎ (length (inode_path (height_of (word image 2)) (suc i) 1) ≤ n) → IsPointerPath image (take n (inode_path (height_of (word image 2)) (suc i) 1 ++ digits depth k))
      go (inl inside) =
          subst (IsPointerPath image) (sym (take-append-le n (inode_path (height_of (word image 2)) (suc i) 1) (digits depth k) (omega (arith, inside))))
          (file_prefix (suc (height_of (word image 2))) (8 * suc i + 1) n (omega arith) (root_digits i reached) (omega (arith, inside, base_long)))
      go (inr past) =
          let prefix = digits_prefix (inode_path (height_of (word image 2)) (suc i) 1) depth k n few past (omega (arith, less, length-append (inode_path (height_of (word image 2)) (suc i) 1) (digits depth k), length-digits depth k)) in
          record { tree = suc i; depth = prefix.count; index = prefix.number; reached = reached; low = omega (arith, prefix.less, low); few = prefix.few; is = prefix.is }

  pub prefix_path : (path : WordPath) (n : ℕ) → IsWayIn image path → n < length path → IsPointerPath image (take n path)
  prefix_path path n way less =
      subst (λ p. IsPointerPath image (take n p)) (sym way.is)
      (way_prefix way.tree way.depth way.index n way.reached way.low way.few (subst (λ p. n < length p) way.is less))

  -- ---- the node that it reports

  pointed_node : (t d k : ℕ) → IsReached image t → d ≤ height_of (root_of image t) → HasDigits d k →
      pointed (heights_now image) (tree_path (height_of (word image 2)) t d k) ≡ (t, record { level = height_of (root_of image t) - d; index = k })
  pointed_node zero d k reached low few = rw (length-digits, number-digits d k few, le-leb d (height_of (word image 2)) low) refl
  pointed_node (suc i) d k reached low few =
      let number : path_number (digits (suc (height_of (word image 2))) (8 * suc i + 1)) ≡ 8 * suc i + 1 = number-digits (suc (height_of (word image 2))) (8 * suc i + 1) (root_digits i reached) in
      pointed_after (heights_now image) (suc i) (inode_path (height_of (word image 2)) (suc i) 1) (length-digits (suc (height_of (word image 2))) (8 * suc i + 1)) (omega (arith, number)) d k few

  module _ (path : WordPath) (of : IsPointerPath image path) where
    pub pointed_is : pointed (heights_now image) path ≡ (of.tree, record { level = height_of (root_of image of.tree) - of.depth; index = of.index })
    pointed_is = ap (pointed (heights_now image)) of.is ∙ pointed_node of.tree of.depth of.index of.reached of.low of.few

    pub there_is : is_there_now image path ≡ is_present image (root_of image of.tree) (size_of image of.tree) (record { level = height_of (root_of image of.tree) - of.depth; index = of.index })
    there_is = ap (λ (p : ℕ × TreeNode). is_present image (root_of image p.0) (size_of image p.0) p.1) pointed_is

    pub trail_is : path_trail path ≡ tree_trail (height_of (word image 2)) of.tree of.depth of.index
    trail_is = ap path_trail of.is ∙ trail-tree (height_of (word image 2)) of.tree of.depth of.index

    back : height_of (root_of image of.tree) - (height_of (root_of image of.tree) - of.depth) ≡ of.depth
    back = omega (arith, of.low)

    block_is : block_on image (path_trail path) ≡ node image (root_of image of.tree) of.depth of.index
    block_is = ap (block_on image) trail_is ∙ block-tree image (size_of image) forest of.tree of.depth of.index

    -- a node that is there is one of a live pointer
    present_live : (l h : Bool) (level : ℕ) → nat_le level (height_of (root_of image of.tree)) ≡ l → nat_lt (of.index * span level) (size_of image of.tree) ≡ h →
        (l && h && not (node image (root_of image of.tree) (height_of (root_of image of.tree) - level) of.index == 0)) ≡ true →
        (of.index * span level < size_of image of.tree) × (node image (root_of image of.tree) (height_of (root_of image of.tree) - level) of.index ≢ 0)
    present_live false h level e f is = absurd (true≢false (sym is))
    present_live true false level e f is = absurd (true≢false (sym is))
    present_live true true level e f is = (ltb-true _ _ f, λ null. true≢false (sym is ∙ ap not (eq-eqb _ 0 null)))

    pub there_pointer : is_there_now image path ≡ true → Pointer (path_trail path) × (block_on image (path_trail path) ≢ 0)
    there_pointer there =
        let both = present_live _ _ (height_of (root_of image of.tree) - of.depth) refl refl (sym there_is ∙ there) in (
          record {
            tree = of.tree;
            depth = of.depth;
            index = of.index;
            reached = of.reached;
            live = record { level = height_of (root_of image of.tree) - of.depth; height = omega (arith, of.low); live = both.0 };
            named = sym trail_is;
          },
          λ null. both.1 (ap (λ d. node image (root_of image of.tree) d of.index) back ∙ sym block_is ∙ null),
        )

    pub pointer_there : Pointer (path_trail path) → block_on image (path_trail path) ≢ 0 → is_there_now image path ≡ true
    pointer_there one present =
        there_is ∙ rw (le-leb _ _ low, lt-ltb _ _ below, back, ne_eqb _ 0 some) refl
      where
        deep : one.depth ≤ height_of (root_of image one.tree)
        deep = omega (arith, one.live.height)

        all : (one.tree ≡ of.tree) × (one.depth ≡ of.depth) × (one.index ≡ of.index)
        all =
            same_trail image (size_of image) forest one.tree one.depth one.index of.tree of.depth of.index one.reached of.reached
            (short image (size_of image) forest one.tree one.depth one.index one.reached one.live) of.few (omega (arith, deep)) (omega (arith, of.low))
            (λ _ f _. absurd (omega (arith, deep, f))) (λ _ f _. absurd (omega (arith, of.low, f))) (one.named ∙ trail_is)

        live : IsLivePointer (root_of image of.tree) (size_of image of.tree) of.depth of.index
        live =
            subst (λ k. IsLivePointer (root_of image of.tree) (size_of image of.tree) of.depth k) all.2
            (subst (λ d. IsLivePointer (root_of image of.tree) (size_of image of.tree) d one.index) all.1
            (subst (λ (t : ℕ). IsLivePointer (root_of image t) (size_of image t) one.depth one.index) all.0 one.live))

        level : live.level ≡ height_of (root_of image of.tree) - of.depth
        level = omega (arith, live.height)

        low : height_of (root_of image of.tree) - of.depth ≤ height_of (root_of image of.tree)
        low = omega arith

        below : of.index * span (height_of (root_of image of.tree) - of.depth) < size_of image of.tree
        below = subst (λ l. of.index * span l < size_of image of.tree) level live.live

        some : node image (root_of image of.tree) of.depth of.index ≢ 0
        some null = present (block_is ∙ null)

    -- ---- its place

    module _ (there : is_there_now image path ≡ true) where
      nodes : (n : ℕ) → block_on image (trail_of path n) ≢ 0 → AreNodes image path n
      nodes zero present = tt
      nodes (suc n) present = let above = block_above image (slice_index path n) (trail_of path n) present in (above, nodes n above)

      pub address_is : address image path ≡ place_on image (path_trail path)
      address_is =
          ap (address image) (sym (take-length path))
          ∙ address-on image path (length path) (omega arith) (nodes (length path) (there_pointer there).1)

      pub block_at : block_of (word image (address image path)) ≡ block_on image (path_trail path)
      block_at = ap (λ p. block_of (word image p)) address_is ∙ ap block_of (word-at_place image (path_trail path) (there_pointer there).1)

      pub in_snapshot_is : (in_snapshot : ℕ → Bool) → is_in_snapshot_at image in_snapshot path ≡ in_snapshot (block_on image (path_trail path))
      in_snapshot_is in_snapshot = rw there (ap in_snapshot block_at)

  -- no two have one place
  pub paths_apart : (p q : WordPath) → IsPointerPath image p → IsPointerPath image q → is_there_now image p ≡ true → is_there_now image q ≡ true → address image p ≡ address image q → p ≡ q
  paths_apart p q of also there_p there_q same = of.is ∙ paths of.tree of.depth of.index also.tree also.depth also.index all.0 all.1 all.2 ∙ sym also.is
    where
      trails : path_trail p ≡ path_trail q
      trails =
          let one = there_pointer p of there_p in
          let two = there_pointer q also there_q in
          places_apart image Pointer are bones (path_trail p) (path_trail q) (placed image Pointer are bones (path_trail p) one.0 one.1) (placed image Pointer are bones (path_trail q) two.0 two.1)
          (sym (address_is p of there_p) ∙ same ∙ address_is q also there_q)

      all : (of.tree ≡ also.tree) × (of.depth ≡ also.depth) × (of.index ≡ also.index)
      all =
          same_trail image (size_of image) forest of.tree of.depth of.index also.tree also.depth also.index of.reached also.reached of.few also.few (omega (arith, of.low)) (omega (arith, also.low))
          (λ _ f _. absurd (omega (arith, of.low, f))) (λ _ f _. absurd (omega (arith, also.low, f))) (sym (trail_is p of) ∙ trails ∙ trail_is q also)

      paths : (t d k u e l : ℕ) → t ≡ u → d ≡ e → k ≡ l → tree_path (height_of (word image 2)) t d k ≡ tree_path (height_of (word image 2)) u e l
      paths t d k u e l a b c = rw (a, b, c) refl
