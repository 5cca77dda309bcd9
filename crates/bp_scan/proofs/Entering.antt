-- A tree is entered.
use Rattle.std.proofs.Common.{◌≡◌, ◌≢◌, ◌⊎◌, ℕ, zero, suc, ◌+◌, ◌*◌, ◌/◌, ◌%◌, ◌<◌, ◌≤◌, Bool, true, false, length, refl, sym, ◌∙◌, ap, subst, arith, inl, inr}
use Rattle.std.proofs.lemmas.Bool.{cases_eq}
use Rattle.bp_free.specs.Set.{Set, has, without}
use Rattle.bp_layout.specs.Words.{Image, block_count, block_of, height_of}
use Rattle.bp_layout.specs.Tree.{node, covered}
use Rattle.bp_layout.specs.Inode.{kind_of, root_of, size_of, inode_count}
use Rattle.bp_layout.specs.Directory.{name_at, EntryNames}
use Rattle.bp_layout.specs.Paths.{IsName}
use Rattle.bp_layout.specs.Checks.{IsFound, IsPointer, Fails, root_place, size_place, pointer_place, entry_place}
use Rattle.bp_layout.specs.Checks.Fails.{height, root_bits, pointer_bits, range, twice, hole, capacity}
use Rattle.bp_layout.specs.declared.check.Check.{Check}
use Rattle.bp_layout.specs.declared.check.Check.TheVariants.{BlockTwice}
use Rattle.bp_layout.proofs.TreeLaws.{tree_word-zero}
use Rattle.bp_layout.proofs.OnePlace.{IsAbove, above_pointer, inode_block, low_slot}
use Rattle.bp_layout.proofs.OnePlace.IsAbove.{pointer_above, inode_above}
use Rattle.bp_layout.proofs.OncePointer.{SeparatesPointers, other_root}
use Rattle.bp_walk.specs.Taken.{block_at, NamesBlock, Takes}
use Rattle.bp_scan.specs.Scanned.{IsChecked, IsSeen, IsScanned, HasAllBlocks}
use Rattle.bp_walk.specs.Walk.{IsPlace, IsTreePlace, TakesTree, FailsBelow, FailsTree}
use Rattle.bp_walk.specs.Walk.FailsBelow.{bits, range as below_range, hole as below_hole, taken, twice as below_twice}
use Rattle.bp_walk.specs.Walk.FailsTree.{height as tree_height, root_bits as tree_bits, root_range, root_hole, root_taken, capacity as tree_capacity, below}
use Rattle.bp_walk.proofs.TakenLaws.{clash, known, has_other, has_less, take_none, take_same, take_both}
use Rattle.bp_walk.proofs.Places.{pointer_word}
use Rattle.bp_walk.proofs.WholeTree.{root_live}

to_pointer : (image : Image) (t d k p : ℕ) → IsFound image t → IsPlace image (root_place image t) (root_of image t) (size_of image t) d k p → IsPointer image t d k p
to_pointer image t d k p found is = record { found = found; live = is.live; followed = is.followed; at = is.stands }

to_deep : (image : Image) (t d k p : ℕ) → IsFound image t → IsPlace image 0 (root_of image t) (size_of image t) (suc d) k p → IsPointer image t (suc d) k p
to_deep image t d k p found is = record { found = found; live = is.live; followed = is.followed; at = is.stands }

root_pointer : (image : Image) (t : ℕ) → IsFound image t → 0 < size_of image t → IsPointer image t 0 0 (root_place image t)
root_pointer image t found some = record { found = found; live = root_live (root_of image t) (size_of image t) some; followed = tt; at = refl }

below_block : (b r p : ℕ) → r < 512 → 512 * b + r ≡ p → p / 512 ≡ b
below_block b r p low at = omega arith

size_next : (image : Image) (t : ℕ) → root_place image t + 1 ≡ size_place image t
size_next image zero = refl
size_next image (suc i) = let e : (8 * suc i + 1) / 512 ≡ (8 * suc i + 2) / 512 = omega arith in
    let n : node image (root_of image 0) (height_of (root_of image 0)) ((8 * suc i + 1) / 512) ≡ node image (root_of image 0) (height_of (root_of image 0)) ((8 * suc i + 2) / 512) =
    ap (node image (root_of image 0) (height_of (root_of image 0))) e in
    next (node image (root_of image 0) (height_of (root_of image 0)) ((8 * suc i + 1) / 512)) (node image (root_of image 0) (height_of (root_of image 0)) ((8 * suc i + 2) / 512)) i n
  where
    next : (a b i : ℕ) → a ≡ b → 512 * a + (8 * suc i + 1) % 512 + 1 ≡ 512 * b + (8 * suc i + 2) % 512
    next a b i same = omega arith

module _ (image : Image) (E : ℕ → Type 0) (all left : Set) (blocks : HasAllBlocks image all) (takes : Takes image (IsSeen image E) all left) (some : 4096 ≤ size_of image 0) (closed : (t : ℕ) → E t → E 0) where
  not_first : has left 0 ≡ false
  not_first = takes.less 0 blocks.not_first

  -- a pointer that was seen, and the root of a tree that is found, stand outside of the blocks that are left
  above_out : (t d k v f m r p : ℕ) → E v → IsPointer image t d k p → IsAbove image t d k v f m r → node image (root_of image v) f m ≢ 0 → has left (node image (root_of image v) f m) ≡ false
  above_out t d k v f m r p e at i present =
      let above : IsPointer image v f m (pointer_place image v f m) = above_pointer image t d k v f m r some at.found at.live at.followed i in
      let w : block_at image (pointer_place image v f m) ≡ node image (root_of image v) f m = ap block_of (pointer_word image v f m _ above) in
      ap (has left) (sym w) ∙ takes.gone _ (record { tree = v; depth = f; index = m; entered = e; pointer = above }) (λ null. present (sym w ∙ null))

  pub outside : (t d k p : ℕ) → E t → IsPointer image t d k p → has left (p / 512) ≡ false
  outside zero zero k p e at = ap (λ x. has left (x / 512)) (sym at.at) ∙ not_first
  outside (suc i) zero k p e at =
      ap (has left) (below_block _ _ p (low_slot (8 * suc i + 1)) at.at) ∙ above_out (suc i) 0 k 0 _ _ _ p (closed (suc i) e) at inode_above (inode_block image i at.found)
  outside t (suc d) k p e at = ap (has left) (below_block _ _ p (low_slot k) at.at) ∙ above_out t (suc d) k t d (k / 512) _ p e at pointer_above at.followed.3

  root_outside : (t p : ℕ) → (t ≢ 0 → E 0) → IsPointer image t 0 0 p → has left (p / 512) ≡ false
  root_outside zero p e at = ap (λ x. has left (x / 512)) (sym at.at) ∙ not_first
  root_outside (suc i) p e at =
      ap (has left) (below_block _ _ p (low_slot (8 * suc i + 1)) at.at) ∙ above_out (suc i) 0 0 0 _ _ _ p (e (λ z. omega (arith, z))) at inode_above (inode_block image i at.found)

  -- a block in range that is not left is named by a pointer that was seen
  seen_block : (b : ℕ) → b ≢ 0 → b < block_count image → has left b ≡ false → NamesBlock image (IsSeen image E) b
  seen_block b present in_range gone = takes.named b (blocks.all b (omega (arith, present)) in_range) gone

  repeats : (t d k p : ℕ) → IsPointer image t d k p → node image (root_of image t) d k ≢ 0 → node image (root_of image t) d k < block_count image → has left (node image (root_of image t) d k) ≡ false →
      ((u e l q : ℕ) → E u → IsPointer image u e l q → p ≢ q) → Fails image BlockTwice p
  repeats t d k p at present in_range gone fresh =
      let n : NamesBlock image (IsSeen image E) (node image (root_of image t) d k) = seen_block _ present in_range gone in
      let w : block_at image n.place ≡ node image (root_of image n.is.tree) n.is.depth n.is.index = ap block_of (pointer_word image n.is.tree n.is.depth n.is.index n.place n.is.pointer) in
      twice at n.is.pointer (fresh n.is.tree n.is.depth n.is.index n.place n.is.entered n.is.pointer) present (sym n.named ∙ w)

  module _ (t : ℕ) (reports : t ≢ 0 → SeparatesPointers image E) (found : IsFound image t) (first : t ≢ 0 → E 0) (new : E t → ⊥) (alone : t ≡ 0 → (u : ℕ) → E u → ⊥) (holes : Bool)
      (which : holes ≡ false → (t ≡ 0) ⊎ (kind_of image t ≡ 2)) where
    fresh_root : (p : ℕ) → size_of image t ≤ covered (suc (height_of (root_of image t))) → IsPointer image t 0 0 p → (u e l q : ℕ) → E u → IsPointer image u e l q → p ≢ q
    fresh_root p fits at u e l q z also = go (cases_eq t 0)
      where
        go : (t ≡ 0) ⊎ (t ≡ 0 → ⊥) → p ≢ q
        go (inl file) same = alone file u z
        go (inr other) same = other_root image E (reports other) t u e l p q z new fits at also same

    fresh_deep : (p : ℕ) → has left (p / 512) ≡ true → (u e l q : ℕ) → E u → IsPointer image u e l q → p ≢ q
    fresh_deep p there u e l q z also same = clash there (ap (λ x. has left (x / 512)) same ∙ outside u e l q z also)

    root_node : node image (root_of image t) 0 0 ≡ block_of (root_of image t)
    root_node = ap block_of (tree_word-zero image (root_of image t) 0)

    pub fails_tree : (c : Check) (p : ℕ) → FailsTree image (root_place image t) (root_of image t) (size_of image t) holes left c p → Fails image c p
    fails_tree _ _ (tree_height some high) = height (root_pointer image t found some) high
    fails_tree _ _ (tree_bits some odd) = root_bits (root_pointer image t found some) odd
    fails_tree _ _ (root_range some high) = range (root_pointer image t found some) (subst (λ (x : ℕ). block_count image ≤ x) (sym root_node) high)
    fails_tree _ _ (root_hole some none null) = hole (root_pointer image t found some) (which none) (root_node ∙ null)
    fails_tree _ _ (root_taken some fits present in_range gone) =
        repeats t 0 0 (root_place image t) (root_pointer image t found some) (λ null. present (sym root_node ∙ null)) (subst (λ (x : ℕ). x < block_count image) (sym root_node) in_range)
        (ap (has left) root_node ∙ gone) (fresh_root (root_place image t) fits (root_pointer image t found some))
    fails_tree _ _ (tree_capacity large) = capacity found large (sym (size_next image t))
    fails_tree c p (below some present in_range was fault) = go c p fault
      where
        b : ℕ
        b = block_of (root_of image t)

        low : block_of (root_of image t) < length left
        low = let r : length left ≡ block_count image = takes.room ∙ blocks.room in omega (arith, r, in_range)

        was_left : (x : ℕ) → (x ≡ block_of (root_of image t)) ⊎ (has (without left (block_of (root_of image t))) x ≡ true) → has left x ≡ true
        was_left x (inl same) = ap (has left) same ∙ was
        was_left x (inr there) = still (known (has left x))
          where
            still : (has left x ≡ true) ⊎ (has left x ≡ false) → has left x ≡ true
            still (inl is) = is
            still (inr gone) = absurd (clash there (has_less left (block_of (root_of image t)) x low gone))

        go : (c : Check) (p : ℕ) → FailsBelow image 0 (root_of image t) (size_of image t) holes (block_of (root_of image t)) (without left (block_of (root_of image t))) c p → Fails image c p
        go _ p (bits {d = d} {k = k} is odd) = pointer_bits (to_deep image t d k p found is) odd
        go _ p (below_range {d = d} {k = k} is high) = range (to_deep image t d k p found is) high
        go _ p (below_hole {d = d} {k = k} is none null) = hole (to_deep image t d k p found is) (which none) null
        go _ p (below_twice {d = d} {k = k} {e = e} {l = l} {q = q} is also other present same) = twice (to_deep image t d k p found is) (to_deep image t e l q found also) other present same
        go _ p (taken {d = d} {k = k} is present in_range gone where_p) = which_one (cases_eq (node image (root_of image t) (suc d) k) (block_of (root_of image t)))
          where
            there : has left (p / 512) ≡ true
            there = was_left (p / 512) where_p

            not_root : p ≢ root_place image t
            not_root same = clash there (ap (λ x. has left (x / 512)) same ∙ root_outside t (root_place image t) first (root_pointer image t found some))

            which_one : (node image (root_of image t) (suc d) k ≡ block_of (root_of image t)) ⊎ (node image (root_of image t) (suc d) k ≡ block_of (root_of image t) → ⊥) → Fails image BlockTwice p
            which_one (inl same) = twice (to_deep image t d k p found is) (root_pointer image t found some) not_root present (same ∙ sym root_node)
            which_one (inr other) =
                repeats t (suc d) k p (to_deep image t d k p found is) present in_range (sym (has_other left (block_of (root_of image t)) (node image (root_of image t) (suc d) k) other) ∙ gone) (fresh_deep p there)

-- what was seen reports its pointers apart
pub reports_of : (image : Image) (E : ℕ → Type 0) (D : ℕ → ℕ → Type 0) (all left : Set) → 4096 ≤ size_of image 0 → E 0 → IsScanned image E D all left → SeparatesPointers image E
reports_of image E D all left some first scanned = record {
  some = some;
  first = first;
  fits = λ t e. (scanned.checked t e).fits;
  places = λ t d k u e l p q s z at also present same.
      let here : block_at image p ≡ node image (root_of image t) d k = ap block_of (pointer_word image t d k p at) in
      let there : block_at image q ≡ node image (root_of image u) e l = ap block_of (pointer_word image u e l q also) in
      scanned.takes.once p q (record { tree = t; depth = d; index = k; entered = s; pointer = at }) (record { tree = u; depth = e; index = l; entered = z; pointer = also })
      (λ null. present (sym here ∙ null)) (here ∙ same ∙ sym there);
}

-- what an inode that is entered has to pass
pub record IsInode (image : Image) (t : ℕ) : Type 0 where
  pub kinds : (i : ℕ) → t ≡ suc i → (1 ≤ kind_of image t) × (kind_of image t ≤ 2)
  pub sizes : kind_of image t ≡ 2 → size_of image t % 256 ≡ 0

pub enter : (image : Image) (E : ℕ → Type 0) (D : ℕ → ℕ → Type 0) (all old new : Set) (t : ℕ) (holes : Bool) → IsScanned image E D all old → IsFound image t → IsInode image t →
    ((t ≡ 0) ⊎ (kind_of image t ≡ 2) → holes ≡ false) → TakesTree image (root_place image t) (root_of image t) (size_of image t) holes old new →
    IsScanned image (λ x. E x ⊎ (x ≡ t)) D all new
enter image E D all old new t holes scanned found inode which tree = record {
  found = λ x e. found_all x e;
  checked = λ x e. checked_all x e;
  takes = take_same image (λ p. IsSeen image E p ⊎ IsTreePlace image (root_place image t) (root_of image t) (size_of image t) p) (IsSeen image (λ x. E x ⊎ (x ≡ t))) all new there (λ p s. back p s.tree s.depth s.index s.entered s.pointer)
      (take_both image _ _ all old new scanned.takes tree.takes);
  kinds = λ i e. kinds_all i e;
  sizes = λ i e. sizes_all i e;
  inos = scanned.inos;
  not_root = scanned.not_root;
  forms = scanned.forms;
  enters = λ i s j d names. inl (scanned.enters i s j d names);
  named_once = scanned.named_once;
  names_once = scanned.names_once;
}
  where
    found_all : (x : ℕ) → E x ⊎ (x ≡ t) → IsFound image x
    found_all x (inl e) = scanned.found x e
    found_all x (inr same) = subst (IsFound image) (sym same) found

    checked_all : (x : ℕ) → E x ⊎ (x ≡ t) → IsChecked image x
    checked_all x (inl e) = scanned.checked x e
    checked_all x (inr same) = subst (IsChecked image) (sym same) (record {
      fits = tree.fits;
      passes = λ d k live followed. (tree.passing d k live followed).0;
      full = λ kind d k live followed. (tree.passing d k live followed).1 (which kind);
    })

    there : (p : ℕ) → IsSeen image E p ⊎ IsTreePlace image (root_place image t) (root_of image t) (size_of image t) p → IsSeen image (λ x. E x ⊎ (x ≡ t)) p
    there p (inl s) = record { tree = s.tree; depth = s.depth; index = s.index; entered = inl s.entered; pointer = s.pointer }
    there p (inr s) = record { tree = t; depth = s.depth; index = s.index; entered = inr refl; pointer = to_pointer image t s.depth s.index p found s.is }

    back : (p x d k : ℕ) → E x ⊎ (x ≡ t) → IsPointer image x d k p → IsSeen image E p ⊎ IsTreePlace image (root_place image t) (root_of image t) (size_of image t) p
    back p x d k (inl e) at = inl (record { tree = x; depth = d; index = k; entered = e; pointer = at })
    back p x d k (inr same) at =
        let here : IsPointer image t d k p = subst (λ (y : ℕ). IsPointer image y d k p) same at in
        inr (record { depth = d; index = k; is = record { live = here.live; followed = here.followed; stands = here.at } })

    kinds_all : (i : ℕ) → E (suc i) ⊎ (suc i ≡ t) → (1 ≤ kind_of image (suc i)) × (kind_of image (suc i) ≤ 2)
    kinds_all i (inl e) = scanned.kinds i e
    kinds_all i (inr same) = subst (λ (y : ℕ). (1 ≤ kind_of image y) × (kind_of image y ≤ 2)) (sym same) (inode.kinds i (sym same))

    sizes_all : (i : ℕ) → E i ⊎ (i ≡ t) → kind_of image i ≡ 2 → size_of image i % 256 ≡ 0
    sizes_all i (inl e) = scanned.sizes i e
    sizes_all i (inr same) = subst (λ (y : ℕ). kind_of image y ≡ 2 → size_of image y % 256 ≡ 0) (sym same) inode.sizes

-- at the start nothing is seen
pub nothing_seen : (image : Image) (all : Set) → IsScanned image (λ t. ⊥) (λ i s. ⊥) all all
nothing_seen image all = record {
  found = λ t e. absurd e;
  checked = λ t e. absurd e;
  takes = take_same image (λ p. ⊥) (IsSeen image (λ t. ⊥)) all all (λ p never. absurd never) (λ p s. s.entered) (take_none image all);
  kinds = λ i e. absurd e;
  sizes = λ i e. absurd e;
  inos = λ i s j d. absurd d;
  not_root = λ i s j d. absurd d;
  forms = λ i s j d. absurd d;
  enters = λ i s j d. absurd d;
  named_once = λ i s k r j d. absurd d;
  names_once = λ i s r j k d. absurd d;
}

-- the facts of one more entry, over trees that include the one that it names
pub pass_entry : (image : Image) (E : ℕ → Type 0) (D : ℕ → ℕ → Type 0) (all left : Set) (i s : ℕ) → IsScanned image E D all left →
    ((j : ℕ) → EntryNames image i s j → (j < inode_count image) × (j ≢ 1) × IsName (name_at image i s) × E j) →
    ((k r j : ℕ) → D k r → EntryNames image i s j → EntryNames image k r j → kind_of image j ≡ 2 → entry_place image i s 0 ≡ entry_place image k r 0) →
    ((r j k : ℕ) → D i r → EntryNames image i s j → EntryNames image i r k → name_at image i s ≡ name_at image i r → s ≡ r) →
    IsScanned image E (λ k r. D k r ⊎ ((k ≡ i) × (r ≡ s))) all left
pass_entry image E D all left i s scanned entry once names = record {
  found = scanned.found;
  checked = scanned.checked;
  takes = scanned.takes;
  kinds = scanned.kinds;
  sizes = scanned.sizes;
  inos = λ k r j d n. low k r j d n;
  not_root = λ k r j d n. not_one k r j d n;
  forms = λ k r j d n. form k r j d n;
  enters = λ k r j d n. into k r j d n;
  named_once = λ k r l q j d e n m kind. named k r l q j d e n m kind;
  names_once = λ k r q j l d e n m same. name k r q j l d e n m same;
}
  where
    moved : (k r j : ℕ) → (k ≡ i) × (r ≡ s) → EntryNames image k r j → EntryNames image i s j
    moved k r j at n = subst (λ (x : ℕ). EntryNames image i x j) at.1 (subst (λ (x : ℕ). EntryNames image x r j) at.0 n)

    low : (k r j : ℕ) → D k r ⊎ ((k ≡ i) × (r ≡ s)) → EntryNames image k r j → j < inode_count image
    low k r j (inl d) n = scanned.inos k r j d n
    low k r j (inr at) n = (entry j (moved k r j at n)).0

    not_one : (k r j : ℕ) → D k r ⊎ ((k ≡ i) × (r ≡ s)) → EntryNames image k r j → j ≢ 1
    not_one k r j (inl d) n = scanned.not_root k r j d n
    not_one k r j (inr at) n = (entry j (moved k r j at n)).1

    form : (k r j : ℕ) → D k r ⊎ ((k ≡ i) × (r ≡ s)) → EntryNames image k r j → IsName (name_at image k r)
    form k r j (inl d) n = scanned.forms k r j d n
    form k r j (inr at) n = subst IsName (sym (ap (λ (x : ℕ). name_at image x r) at.0 ∙ ap (name_at image i) at.1)) (entry j (moved k r j at n)).2

    into : (k r j : ℕ) → D k r ⊎ ((k ≡ i) × (r ≡ s)) → EntryNames image k r j → E j
    into k r j (inl d) n = scanned.enters k r j d n
    into k r j (inr at) n = (entry j (moved k r j at n)).3

    place : (k r : ℕ) → (k ≡ i) × (r ≡ s) → entry_place image k r 0 ≡ entry_place image i s 0
    place k r at = ap (λ (x : ℕ). entry_place image x r 0) at.0 ∙ ap (λ (x : ℕ). entry_place image i x 0) at.1

    named : (k r l q j : ℕ) → D k r ⊎ ((k ≡ i) × (r ≡ s)) → D l q ⊎ ((l ≡ i) × (q ≡ s)) → EntryNames image k r j → EntryNames image l q j → kind_of image j ≡ 2 → entry_place image k r 0 ≡ entry_place image l q 0
    named k r l q j (inl d) (inl e) n m kind = scanned.named_once k r l q j d e n m kind
    named k r l q j (inr at) (inl e) n m kind = place k r at ∙ once l q j e (moved k r j at n) m kind
    named k r l q j (inl d) (inr at) n m kind = sym (place l q at ∙ once k r j d (moved l q j at m) n kind)
    named k r l q j (inr at) (inr also) n m kind = place k r at ∙ sym (place l q also)

    name : (k r q j l : ℕ) → D k r ⊎ ((k ≡ i) × (r ≡ s)) → D k q ⊎ ((k ≡ i) × (q ≡ s)) → EntryNames image k r j → EntryNames image k q l → name_at image k r ≡ name_at image k q → r ≡ q
    name k r q j l (inl d) (inl e) n m same = scanned.names_once k r q j l d e n m same
    name k r q j l (inr at) (inl e) n m same =
        at.1 ∙ names q j l (subst (λ (x : ℕ). D x q) at.0 e) (moved k r j at n) (subst (λ (x : ℕ). EntryNames image x q l) at.0 m)
        (sym (ap (name_at image i) at.1) ∙ sym (ap (λ (x : ℕ). name_at image x r) at.0) ∙ same ∙ ap (λ (x : ℕ). name_at image x q) at.0)
    name k r q j l (inl d) (inr at) n m same =
        sym (at.1 ∙ names r l j (subst (λ (x : ℕ). D x r) at.0 d) (moved k q l at m) (subst (λ (x : ℕ). EntryNames image x r j) at.0 n)
        (sym (ap (name_at image i) at.1) ∙ sym (ap (λ (x : ℕ). name_at image x q) at.0) ∙ sym same ∙ ap (λ (x : ℕ). name_at image x r) at.0))
    name k r q j l (inr at) (inr also) n m same = at.1 ∙ sym also.1
