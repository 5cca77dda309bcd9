-- The trees of an image on their trails: the trails of live pointers are different, and words on trails are words of trees.
use Rattle.std.proofs.Common.{◌≡◌, ◌≢◌, ◌⊎◌, ℕ, zero, suc, ◌+◌, ◌*◌, ◌/◌, ◌%◌, ◌<◌, ◌≤◌, [], ◌∷◌, length, refl, sym, ◌∙◌, ap, subst, arith, inl, inr, mul-le-mul_right, zero-mul}
use Rattle.std.proofs.lemmas.Bool.{cases_eq}
use Rattle.bp_layout.specs.Words.{Image, word, block_count, block_of, height_of, slot_word}
use Rattle.bp_layout.specs.Tree.{tree_word, node, covered, IsLivePointer}
use Rattle.bp_layout.specs.Inode.{root_of}
use Rattle.bp_layout.specs.Reached.{IsReached}
use Rattle.bp_layout.specs.Reached.IsReached.{inode_file}
use Rattle.bp_layout.proofs.TreeLaws.{live_above, live_pointer_word, live_content}
use Rattle.bp_changes.specs.Trail.{Trail, word_on, block_on, ArePointers, IsSkeleton}
use Rattle.bp_changes.specs.Forest.{along, root_trail, tree_trail, IsForest, IsTreePointer}
use Rattle.bp_changes.proofs.TrailLaws.{word_on-top}

pub word-along : (image : Image) (base : Trail) (depth index : ℕ) → word_on image (along base depth index) ≡ tree_word image (word_on image base) depth index
unfolding word_on tree_word
word-along image base zero index = refl
word-along image base (suc depth) index = ap (λ w. slot_word image (block_of w) (index % 512)) (word-along image base depth (index / 512))

pub word-root : (image : Image) (t : ℕ) → word_on image (root_trail (height_of (word image 2)) t) ≡ root_of image t
word-root image zero = word_on-top image
word-root image (suc i) = word-along image [] (suc (height_of (word image 2))) (8 * suc i + 1) ∙ ap (λ w. tree_word image w (suc (height_of (word image 2))) (8 * suc i + 1)) (word_on-top image)

pub word-tree : (image : Image) (t depth index : ℕ) → word_on image (tree_trail (height_of (word image 2)) t depth index) ≡ tree_word image (root_of image t) depth index
word-tree image t depth index = word-along image (root_trail (height_of (word image 2)) t) depth index ∙ ap (λ w. tree_word image w depth index) (word-root image t)

length-along : (base : Trail) (depth index : ℕ) → length (along base depth index) ≡ depth + length base
length-along base zero index = omega arith
length-along base (suc depth) index = omega (arith, length-along base depth (index / 512))

-- a number of at most as many digits
abbrev pub HasFewDigits : ℕ → ℕ → Type 0
HasFewDigits zero index = index ≡ 0
HasFewDigits (suc depth) index = HasFewDigits depth (index / 512)

pub same_along : (base other : Trail) (depth index number : ℕ) → HasFewDigits depth index → HasFewDigits depth number → along base depth index ≡ along other depth number → (base ≡ other) × (index ≡ number)
same_along base other zero index number short also same = (same, short ∙ sym also)
same_along base other (suc depth) index number short also same =
    let tails : along base depth (index / 512) ≡ along other depth (number / 512) = cc in
    let heads : index % 512 ≡ number % 512 = cc in
    let rest : (base ≡ other) × (index / 512 ≡ number / 512) = same_along base other depth (index / 512) (number / 512) short also tails in
    (rest.0, omega (arith, heads, rest.1))

short_one : (k c size : ℕ) → k * c < size → size ≤ c → k ≡ 0
short_one k c size below fits = go (cases_eq k 0)
  where
    go : (k ≡ 0) ⊎ (k ≡ 0 → ⊥) → k ≡ 0
    go (inl e) = e
    go (inr some) =
        let one : 1 * c ≤ k * c = mul-le-mul_right c (omega (arith, some)) in
        absurd (omega (arith, below, fits, one))

pub short_pointer : (root size depth index : ℕ) → size ≤ covered (suc (height_of root)) → IsLivePointer root size depth index → HasFewDigits depth index
short_pointer root size zero index fits live =
    let level : live.level ≡ height_of root = omega (arith, live.height) in
    short_one index (covered (suc (height_of root))) size (subst (λ x. index * covered (suc x) < size) level live.live) fits
short_pointer root size (suc depth) index fits live =
    short_pointer root size depth (index / 512) fits (live_above root size depth index (live_pointer_word root size (suc depth) index live))

module _ (image : Image) (bound : ℕ → ℕ) (forest : IsForest image bound) where
  -- the pointer to the leaf in which an inode's words stand
  leaf_above : (i : ℕ) → IsReached image (suc i) → IsLivePointer (root_of image 0) (bound 0) (height_of (root_of image 0)) ((8 * suc i + 1) / 512)
  leaf_above i reached =
      let low : 64 * suc i + 64 ≤ bound 0 = forest.in_file i reached in
      live_above _ _ _ _ (live_content (root_of image 0) (bound 0) (8 * suc i + 1) (omega (arith, low)))

  short_root : (i : ℕ) → IsReached image (suc i) → HasFewDigits (suc (height_of (word image 2))) (8 * suc i + 1)
  short_root i reached = short_pointer (root_of image 0) (bound 0) (height_of (root_of image 0)) ((8 * suc i + 1) / 512) (forest.sound 0 inode_file).fits (leaf_above i reached)

  pub short : (t d k : ℕ) → IsReached image t → IsLivePointer (root_of image t) (bound t) d k → HasFewDigits d k
  short t d k reached live = short_pointer (root_of image t) (bound t) d k (forest.sound t reached).fits live

  -- a word of the inode file stands on no trail of another tree
  crossed : (d k j e l : ℕ) → IsReached image (suc j) → HasFewDigits d k → HasFewDigits e l → d ≤ suc (height_of (word image 2)) → (d ≡ suc (height_of (word image 2)) → k % 8 ≢ 1) →
      along [] d k ≡ along (along [] (suc (height_of (word image 2))) (8 * suc j + 1)) e l → ⊥
  crossed d k j zero l q short also low no_root same =
      let lengths : d ≡ suc (height_of (word image 2)) = omega (arith, length-along [] d k, length-along [] (suc (height_of (word image 2))) (8 * suc j + 1), ap (λ (x : Trail). length x) same) in
      let rest = same_along [] [] d k (8 * suc j + 1) short (subst (λ x. HasFewDigits x (8 * suc j + 1)) (sym lengths) (short_root j q)) (same ∙ ap (λ x. along [] x (8 * suc j + 1)) (sym lengths)) in
      let number : k ≡ 8 * suc j + 1 = rest.1 in
      no_root lengths (omega (arith, number))
  crossed d k j (suc e) l q short also low no_root same =
      omega (arith, low, length-along [] d k, length-along (along [] (suc (height_of (word image 2))) (8 * suc j + 1)) (suc e) l, length-along [] (suc (height_of (word image 2))) (8 * suc j + 1), ap (λ (x : Trail). length x) same)

  -- Different words stand on different trails. At a depth one past the height stand content words.
  pub same_trail : (t d k u e l : ℕ) → IsReached image t → IsReached image u → HasFewDigits d k → HasFewDigits e l →
      d ≤ suc (height_of (root_of image t)) → e ≤ suc (height_of (root_of image u)) →
      (t ≡ 0 → d ≡ suc (height_of (root_of image t)) → k % 8 ≢ 1) → (u ≡ 0 → e ≡ suc (height_of (root_of image u)) → l % 8 ≢ 1) →
      tree_trail (height_of (word image 2)) t d k ≡ tree_trail (height_of (word image 2)) u e l → (t ≡ u) × (d ≡ e) × (k ≡ l)
  same_trail zero d k zero e l r q short also low few no_root not_root same =
      let depths : d ≡ e = omega (arith, length-along [] d k, length-along [] e l, ap (λ (x : Trail). length x) same) in
      let rest = same_along [] [] d k l short (subst (λ x. HasFewDigits x l) (sym depths) also) (same ∙ ap (λ x. along [] x l) (sym depths)) in
      (refl, depths, rest.1)
  same_trail zero d k (suc j) e l r q short also low few no_root not_root same =
      absurd (crossed d k j e l q short also low (no_root refl) same)
  same_trail (suc i) d k zero e l r q short also low few no_root not_root same =
      absurd (crossed e l i d k r also short few (not_root refl) (sym same))
  same_trail (suc i) d k (suc j) e l r q short also low few no_root not_root same =
      let H : ℕ = height_of (word image 2) in
      let one : Trail = along [] (suc H) (8 * suc i + 1) in
      let two : Trail = along [] (suc H) (8 * suc j + 1) in
      let depths : d ≡ e = omega (arith, length-along one d k, length-along two e l, length-along [] (suc H) (8 * suc i + 1), length-along [] (suc H) (8 * suc j + 1), ap (λ (x : Trail). length x) same) in
      let rest = same_along one two d k l short (subst (λ x. HasFewDigits x l) (sym depths) also) (same ∙ ap (λ x. along two x l) (sym depths)) in
      let roots = same_along [] [] (suc H) (8 * suc i + 1) (8 * suc j + 1) (short_root i r) (short_root j q) rest.0 in
      let numbers : 8 * suc i + 1 ≡ 8 * suc j + 1 = roots.1 in
      (omega (arith, numbers), depths, rest.1)

  depth_low : (t d k : ℕ) → IsLivePointer (root_of image t) (bound t) d k → d ≤ height_of (root_of image t)
  depth_low t d k live = omega (arith, live.height)

  pub same_pointer : (t d k u e l : ℕ) → IsReached image t → IsReached image u → IsLivePointer (root_of image t) (bound t) d k → IsLivePointer (root_of image u) (bound u) e l →
      tree_trail (height_of (word image 2)) t d k ≡ tree_trail (height_of (word image 2)) u e l → (t ≡ u) × (d ≡ e) × (k ≡ l)
  same_pointer t d k u e l r q live also same =
      let one : d ≤ height_of (root_of image t) = depth_low t d k live in
      let two : e ≤ height_of (root_of image u) = depth_low u e l also in
      same_trail t d k u e l r q (short t d k r live) (short u e l q also) (omega (arith, one)) (omega (arith, two))
      (λ _ f _. absurd (omega (arith, one, f))) (λ _ f _. absurd (omega (arith, two, f))) same

  pub pointers : ArePointers (IsTreePointer image bound)
  pointers = record {
    top = record { tree = 0; depth = 0; index = 0; reached = inode_file; live = record { level = height_of (root_of image 0); height = omega arith; live = rw zero-mul forest.some }; named = refl };
    above = λ slot p one. above slot p one.tree one.depth one.index one.reached one.live one.named;
    slots = λ slot p one. slots slot p one.tree one.depth one.index one.named;
  }
    where
      above : (slot : ℕ) (p : Trail) (t d k : ℕ) → IsReached image t → IsLivePointer (root_of image t) (bound t) d k → tree_trail (height_of (word image 2)) t d k ≡ slot ∷ p → IsTreePointer image bound p
      above slot p zero zero k r live named = absurd (cc)
      above slot p (suc i) zero k r live named =
          record { tree = 0; depth = height_of (root_of image 0); index = (8 * suc i + 1) / 512; reached = inode_file; live = leaf_above i r; named = cc }
      above slot p t (suc d) k r live named =
          record { tree = t; depth = d; index = k / 512; reached = r; live = live_above _ _ d k (live_pointer_word _ _ (suc d) k live); named = cc }

      slots : (slot : ℕ) (p : Trail) (t d k : ℕ) → tree_trail (height_of (word image 2)) t d k ≡ slot ∷ p → slot < 512
      slots slot p zero zero k named = absurd (cc)
      slots slot p (suc i) zero k named =
          let e : (8 * suc i + 1) % 512 ≡ slot = cc in omega (arith, e)
      slots slot p t (suc d) k named =
          let e : k % 512 ≡ slot = cc in omega (arith, e)

  pub block-tree : (t d k : ℕ) → block_on image (tree_trail (height_of (word image 2)) t d k) ≡ node image (root_of image t) d k
  block-tree t d k = ap block_of (word-tree image t d k)

  pub skeleton : length image ≡ 512 * block_count image → IsSkeleton image (IsTreePointer image bound)
  skeleton whole = record {
    whole = whole;
    in_range = λ p one. subst (λ x. block_on image x < block_count image) one.named (rw (block-tree one.tree one.depth one.index) ((forest.sound one.tree one.reached).in_range one.depth one.index one.live));
    once = λ p q one two present same. once p q one two (at p one) (at q two) present same;
  }
    where
      at : (p : Trail) (one : IsTreePointer image bound p) → block_on image p ≡ node image (root_of image one.tree) one.depth one.index
      at p one = ap (block_on image) (sym one.named) ∙ block-tree one.tree one.depth one.index

      once : (p q : Trail) (one : IsTreePointer image bound p) (two : IsTreePointer image bound q) →
          block_on image p ≡ node image (root_of image one.tree) one.depth one.index → block_on image q ≡ node image (root_of image two.tree) two.depth two.index →
          block_on image p ≢ 0 → block_on image p ≡ block_on image q → p ≡ q
      once p q one two here there present same =
          let named : node image (root_of image one.tree) one.depth one.index ≡ node image (root_of image two.tree) two.depth two.index = sym here ∙ same ∙ there in
          let some : node image (root_of image one.tree) one.depth one.index ≢ 0 = λ null. present (here ∙ null) in
          let tree : one.tree ≡ two.tree = forest.apart one.tree two.tree (node image (root_of image one.tree) one.depth one.index) one.reached two.reached
          (record { depth = one.depth; index = one.index; pointer = one.live; named = refl; not_null = some }) (record { depth = two.depth; index = two.index; pointer = two.live; named = sym named; not_null = some }) in
          let both : (one.depth ≡ two.depth) × (one.index ≡ two.index) = (forest.sound one.tree one.reached).once one.depth one.index two.depth two.index one.live
          (subst (λ (z : ℕ). IsLivePointer (root_of image z) (bound z) two.depth two.index) (sym tree) two.live) some (named ∙ ap (λ (z : ℕ). node image (root_of image z) two.depth two.index) (sym tree)) in
          sym one.named ∙ trails one.tree one.depth one.index two.tree two.depth two.index tree both.0 both.1 ∙ two.named
        where
          trails : (t d k u e l : ℕ) → t ≡ u → d ≡ e → k ≡ l → tree_trail (height_of (word image 2)) t d k ≡ tree_trail (height_of (word image 2)) u e l
          trails t d k u e l a b c = rw (a, b, c) refl
