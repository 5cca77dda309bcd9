-- A tree as its top block and the trees in that block's slots.
use Rattle.std.proofs.Common.{◌≡◌, ◌≢◌, ◌⊎◌, ℕ, zero, suc, ◌+◌, ◌*◌, ◌/◌, ◌%◌, ◌<◌, ◌≤◌, refl, sym, ◌∙◌, ap, subst, arith, inl, inr, pow-suc, lt_of_mul-lt-mul_right}
use Rattle.std.proofs.lemmas.Nat.{div-mul-add, mod-mul-add}
use Rattle.bp_layout.specs.Words.{Image, block_count, block_of, height_of, slot_word}
use Rattle.bp_layout.specs.Tree.{tree_word, node, content_word, byte, covered, IsLivePointer, HasBlock, IsSound, IsFull}
use Rattle.bp_layout.proofs.TreeLaws.{tree_word-suc, tree_word-zero}
use Rattle.bp_layout.proofs.TreeLaws.{first_index}
use Rattle.bp_layout.specs.Tree.{span}
use Rattle.bp_limits.specs.Limits.{max_height}
use Rattle.bp_layout.specs.Pieces.{piece, child, HasChildren, Joins}

-- word k at depth d + 1 stands in this slot's tree, with this number
abbrev pub slot_of : ℕ → ℕ → ℕ
slot_of zero k = k
slot_of (suc d) k = slot_of d (k / 512)

abbrev pub rest_of : ℕ → ℕ → ℕ
rest_of zero k = 0
rest_of (suc d) k = 512 * rest_of d (k / 512) + k % 512

covered-more : (rank : ℕ) → covered (suc rank) ≡ 512 * covered rank
covered-more rank = rw pow-suc (omega arith)

value_step : (k c a r : ℕ) → k / 512 * (512 * c) ≡ a + r * (512 * c) → k * c ≡ a + (512 * r + k % 512) * c
value_step k c a r e =
    let whole : k ≡ 512 * (k / 512) + k % 512 = omega arith in
    let left : k * c ≡ k / 512 * (512 * c) + k % 512 * c = ap (λ n. n * c) whole ∙ grind (arith) in
    left ∙ grind (arith, e)

pub value : (d rank total k : ℕ) → d + rank ≡ total → k * covered rank ≡ slot_of d k * covered total + rest_of d k * covered rank
value zero rank total k e =
    let same : rank ≡ total = omega (arith, e) in
    rw same (omega arith)
value (suc d) rank total k e =
    let up : k / 512 * covered (suc rank) ≡ slot_of d (k / 512) * covered total + rest_of d (k / 512) * covered (suc rank) = value d (suc rank) total (k / 512) (omega (arith, e)) in
    value_step k (covered rank) (slot_of d (k / 512) * covered total) (rest_of d (k / 512)) (rw (← covered-more rank) up)

low_step : (k c a r : ℕ) → (r + 1) * (512 * c) ≤ a → (512 * r + k % 512 + 1) * c ≤ a
low_step k c a r h = grind (arith, h)

pub rest_low : (d rank total k : ℕ) → d + rank ≡ total → (rest_of d k + 1) * covered rank ≤ covered total
rest_low zero rank total k e =
    let same : rank ≡ total = omega (arith, e) in
    rw same (omega arith)
rest_low (suc d) rank total k e =
    let up : (rest_of d (k / 512) + 1) * covered (suc rank) ≤ covered total = rest_low d (suc rank) total (k / 512) (omega (arith, e)) in
    low_step k (covered rank) (covered total) (rest_of d (k / 512)) (rw (← covered-more rank) up)

module _ (image : Image) (root size level : ℕ) (shape : HasChildren image root size level) where
  b : ℕ
  b = block_of root

  -- the tree in a slot
  at : ℕ → ℕ
  at c = child image (block_of root) level c

  height_at : (c : ℕ) → c * span level < size → height_of (child image (block_of root) level c) ≡ level
  height_at c below = let word = shape.words c below in omega (arith, word, shape.low)

  block_at : (c : ℕ) → c * span level < size → block_of (child image (block_of root) level c) ≡ block_of (slot_word image (block_of root) c)
  block_at c below = let word = shape.words c below in omega (arith, word, shape.low)

  low_slot : (c : ℕ) → c * span level < size → c < 512
  low_slot c below =
      let s : ℕ = span level in
      let wide : span (suc level) ≡ 512 * s = covered-more (suc level) in
      let less : c * s < 512 * s = omega (arith, below, shape.fits, wide) in
      lt_of_mul-lt-mul_right s less

  node_in : (d k : ℕ) → slot_of d k * span level < size → node image root (suc d) k ≡ node image (child image (block_of root) level (slot_of d k)) d (rest_of d k)
  node_in zero k below =
      let column : k % 512 ≡ k = omega (arith, low_slot k below) in
      ap block_of (tree_word-suc image root 0 k ∙ ap (λ p. slot_word image (block_of p) (k % 512)) (tree_word-zero image root (k / 512)) ∙ ap (slot_word image (block_of root)) column)
      ∙ sym (block_at k below)
      ∙ ap block_of (sym (tree_word-zero image (child image (block_of root) level k) 0))
  node_in (suc d) k below =
      let up = node_in d (k / 512) below in
      let row : rest_of (suc d) k / 512 ≡ rest_of d (k / 512) = omega arith in
      let column : rest_of (suc d) k % 512 ≡ k % 512 = omega arith in
      ap block_of (tree_word-suc image root (suc d) k
      ∙ ap (λ x. slot_word image x (k % 512)) up
      ∙ sym (tree_word-suc image (child image (block_of root) level (slot_of d (k / 512))) d (rest_of (suc d) k) ∙ rw (row, column) refl))

  word_in : (d k : ℕ) → slot_of d (k / 512) * span level < size →
      tree_word image root (suc (suc d)) k ≡ tree_word image (child image (block_of root) level (slot_of d (k / 512))) (suc d) (rest_of (suc d) k)
  word_in d k below =
      let row : rest_of (suc d) k / 512 ≡ rest_of d (k / 512) = omega arith in
      let column : rest_of (suc d) k % 512 ≡ k % 512 = omega arith in
      tree_word-suc image root (suc d) k
      ∙ ap (λ x. slot_word image x (k % 512)) (node_in d (k / 512) below)
      ∙ sym (tree_word-suc image (child image (block_of root) level (slot_of d (k / 512))) d (rest_of (suc d) k) ∙ rw (row, column) refl)

  -- a number at a rank that is below the size, in its slot's tree
  pub record IsIn (d k rank : ℕ) : Type 0 where
    pub slot : slot_of d k * span level < size
    pub rest : rest_of d k * covered rank < piece size level (slot_of d k)

  is_in : (d k rank : ℕ) → d + rank ≡ suc level → k * covered rank < size → IsIn d k rank
  is_in d k rank e below =
      let split : k * covered rank ≡ slot_of d k * span level + rest_of d k * covered rank = value d rank (suc level) k e in
      let low : (rest_of d k + 1) * covered rank ≤ span level = rest_low d rank (suc level) k e in
      let more : 0 < covered rank = pos rank in
      let x : ℕ = rest_of d k * covered rank in
      let next : (rest_of d k + 1) * covered rank ≡ rest_of d k * covered rank + covered rank = grind arith in
      record { slot = omega (arith, split, below); rest = omega (arith, split, below, low, next, more) }
    where
      pos : (rank : ℕ) → 0 < covered rank
      pos zero = omega arith
      pos (suc rank) = rw (covered-more rank) (omega (arith, pos rank))

  live_in : (d k : ℕ) → IsLivePointer root size (suc d) k → (slot_of d k * span level < size) × IsLivePointer (child image (block_of root) level (slot_of d k)) (piece size level (slot_of d k)) d (rest_of d k)
  live_in d k live =
      let found : IsIn d k (suc live.level) = is_in d k (suc live.level) (omega (arith, live.height, shape.height)) live.live in
      (found.slot, record { level = live.level; height = omega (arith, live.height, shape.height, height_at (slot_of d k) found.slot); live = found.rest })

  top_at : (k : ℕ) → node image root 0 k ≡ block_of root
  top_at k = ap block_of (tree_word-zero image root k)

  -- a block of a slot's tree
  pub record InChild (x : ℕ) : Type 0 where
    pub slot : ℕ
    pub below : slot * span level < size
    pub has : HasBlock image (child image (block_of root) level slot) (piece size level slot) x

  has_in : (d k : ℕ) (live : IsLivePointer root size (suc d) k) → node image root (suc d) k ≢ 0 →
      HasBlock image (child image (block_of root) level (slot_of d k)) (piece size level (slot_of d k)) (node image root (suc d) k)
  has_in d k live present =
      let found = live_in d k live in
      record { depth = d; index = rest_of d k; pointer = found.1; named = sym (node_in d k found.0); not_null = present }

  same_number : (d k l : ℕ) → slot_of d k ≡ slot_of d l → rest_of d k ≡ rest_of d l → k ≡ l
  same_number zero k l slots rests = slots
  same_number (suc d) k l slots rests =
      let up : k / 512 ≡ l / 512 = same_number d (k / 512) (l / 512) slots (omega (arith, rests)) in
      omega (arith, up, rests)

  wide : size ≤ covered (suc (height_of root))
  wide = rw shape.height shape.fits

  pub joined_block : (x : ℕ) → HasBlock image root size x → (x ≡ block_of root) ⊎ InChild x
  joined_block x has = go has.depth has.index has.pointer has.named
    where
      go : (d k : ℕ) → IsLivePointer root size d k → node image root d k ≡ x → (x ≡ block_of root) ⊎ InChild x
      go zero k live named = inl (sym named ∙ top_at k)
      go (suc d) k live named = inr (record {
        slot = slot_of d k;
        below = (live_in d k live).0;
        has = subst (HasBlock image (child image (block_of root) level (slot_of d k)) (piece size level (slot_of d k))) named
            (has_in d k live (λ null. has.not_null (sym named ∙ null)));
      })

  -- byte i of a slot's tree
  slot_is : (c i : ℕ) → i < piece size level c → (slot_of level ((c * span level + i) / 8 / 512) ≡ c) × (8 * rest_of (suc level) ((c * span level + i) / 8) + (c * span level + i) % 8 ≡ i)
  slot_is c i low =
      let s : ℕ = span level in
      let k : ℕ = (c * span level + i) / 8 in
      let split : k * covered 0 ≡ slot_of (suc level) k * span level + rest_of (suc level) k * covered 0 = value (suc level) 0 (suc level) k (omega arith) in
      let small : (rest_of (suc level) k + 1) * covered 0 ≤ span level = rest_low (suc level) 0 (suc level) k (omega arith) in
      let inside : i < span level = omega (arith, low) in
      unique (slot_of (suc level) k) c s (8 * rest_of (suc level) k + (c * span level + i) % 8) i (omega (arith, small)) inside (omega (arith, split))
    where
      unique : (a c s x i : ℕ) → x < s → i < s → a * s + x ≡ c * s + i → (a ≡ c) × (x ≡ i)
      unique a c s x i low inside e =
          (sym (div-mul-add a s x low) ∙ ap (λ n. n / s) e ∙ div-mul-add c s i inside, sym (mod-mul-add a s x low) ∙ ap (λ n. n % s) e ∙ mod-mul-add c s i inside)

  pub joined_byte : (c i : ℕ) → c * span level < size → i < piece size level c →
      byte image root (c * span level + i) ≡ byte image (child image (block_of root) level c) i
  joined_byte c i below low =
      let is = slot_is c i low in
      let slot : slot_of level ((c * span level + i) / 8 / 512) ≡ c = is.0 in
      let number : rest_of (suc level) ((c * span level + i) / 8) ≡ i / 8 = omega (arith, is.1) in
      let column : (c * span level + i) % 8 ≡ i % 8 = omega (arith, is.1) in
      let word : content_word image root ((c * span level + i) / 8) ≡ content_word image (child image (block_of root) level c) (i / 8) =
      ap (λ h. tree_word image root (suc h) ((c * span level + i) / 8)) shape.height
      ∙ word_in level ((c * span level + i) / 8) (subst (λ x. x * span level < size) (sym slot) below)
      ∙ rw (slot, number, height_at c below) refl in
      rw (word, column) refl

  -- the other way round
  abbrev back : ℕ → ℕ → ℕ → ℕ
  back zero c k = c
  back (suc d) c k = 512 * back d c (k / 512) + k % 512

  slot_back : (d c k : ℕ) → slot_of d (back d c k) ≡ c
  slot_back zero c k = refl
  slot_back (suc d) c k = let row : back (suc d) c k / 512 ≡ back d c (k / 512) = omega arith in ap (slot_of d) row ∙ slot_back d c (k / 512)

  rest_back : (d c k : ℕ) → slot_of d k ≡ 0 → rest_of d (back d c k) ≡ k
  rest_back zero c k top = sym top
  rest_back (suc d) c k top =
      let row : back (suc d) c k / 512 ≡ back d c (k / 512) = omega arith in
      let up : rest_of d (back (suc d) c k / 512) ≡ k / 512 = ap (rest_of d) row ∙ rest_back d c (k / 512) top in
      omega (arith, up)

  no_slot : (d rank k : ℕ) → d + rank ≡ suc level → k * covered rank < span level → slot_of d k ≡ 0
  no_slot d rank k e low =
      let split : k * covered rank ≡ slot_of d k * span level + rest_of d k * covered rank = value d rank (suc level) k e in
      go (slot_of d k) (omega (arith, split, low))
    where
      go : (a : ℕ) → a * span level < span level → a ≡ 0
      go zero h = refl
      go (suc a) h = let s : ℕ = span level in absurd (omega (arith, h))

  -- pointer k at depth d of a slot's tree stands here in the whole tree
  pub record StandsIn (c d k : ℕ) : Type 0 where
    pub live : IsLivePointer root size (suc d) (back d c k)
    pub slot : slot_of d (back d c k) ≡ c
    pub rest : rest_of d (back d c k) ≡ k
    pub below : slot_of d (back d c k) * span level < size
    pub node_is : node image root (suc d) (back d c k) ≡ node image (child image (block_of root) level c) d k

  pub stands_in : (c d k : ℕ) → c * span level < size → IsLivePointer (child image (block_of root) level c) (piece size level c) d k → StandsIn c d k
  stands_in c d k below pointer =
      let height : d + pointer.level ≡ level = omega (arith, pointer.height, height_at c below) in
      let live : k * covered (suc pointer.level) < piece size level c = pointer.live in
      let none : slot_of d k ≡ 0 = no_slot d (suc pointer.level) k (omega (arith, height)) (omega (arith, live)) in
      let slot : slot_of d (back d c k) ≡ c = slot_back d c k in
      let rest : rest_of d (back d c k) ≡ k = rest_back d c k none in
      let split : back d c k * covered (suc pointer.level) ≡ c * span level + k * covered (suc pointer.level) =
      value d (suc pointer.level) (suc level) (back d c k) (omega (arith, height)) ∙ rw (slot, rest) refl in
      record {
        live = record { level = pointer.level; height = omega (arith, height, shape.height); live = omega (arith, split, live) };
        slot = slot;
        rest = rest;
        below = rw slot below;
        node_is = node_in d (back d c k) (rw slot below) ∙ rw (slot, rest) refl;
      }

  pub child_block : (c x : ℕ) → c * span level < size → HasBlock image (child image (block_of root) level c) (piece size level c) x → HasBlock image root size x
  child_block c x below has =
      let there : StandsIn c has.depth has.index = stands_in c has.depth has.index below has.pointer in
      record { depth = suc has.depth; index = back has.depth c has.index; pointer = there.live; named = there.node_is ∙ has.named; not_null = has.not_null }

  pub child_full : IsFull image root size → (c : ℕ) → c * span level < size → IsFull image (child image (block_of root) level c) (piece size level c)
  child_full full c below d k live null =
      let there : StandsIn c d k = stands_in c d k below live in
      full (suc d) (back d c k) there.live (there.node_is ∙ null)

  pub top_has : 0 < size → block_of root ≢ 0 → HasBlock image root size (block_of root)
  top_has some present = record {
    depth = 0;
    index = 0;
    pointer = record { level = height_of root; height = omega arith; live = omega (arith, some) };
    named = top_at 0;
    not_null = present;
  }

  pub joined_full : block_of root ≢ 0 → ((c : ℕ) → c * span level < size → IsFull image (child image (block_of root) level c) (piece size level c)) → IsFull image root size
  joined_full present full zero k live null = present (sym (top_at k) ∙ null)
  joined_full present full (suc d) k live null =
      let found = live_in d k live in
      full (slot_of d k) found.0 d (rest_of d k) found.1 (sym (node_in d k found.0) ∙ null)

  -- sound trees make a sound tree
  module _ (joins : Joins image root size level) where
    pointer_bits : (d k : ℕ) → IsLivePointer root size (suc d) k → tree_word image root (suc d) k % 4096 ≡ 0
    pointer_bits zero k live =
        let below = (live_in 0 k live).0 in
        let column : k % 512 ≡ k = omega (arith, low_slot k below) in
        let word : tree_word image root 1 k ≡ slot_word image (block_of root) k =
        tree_word-suc image root 0 k ∙ ap (λ p. slot_word image (block_of p) (k % 512)) (tree_word-zero image root (k / 512)) ∙ ap (slot_word image (block_of root)) column in
        rw word (shape.words k below)
    pointer_bits (suc d) k live =
        let found = live_in (suc d) k live in
        rw (word_in d k found.0) ((joins.sound (slot_of d (k / 512)) found.0).pointer_bits d (rest_of (suc d) k) found.1)

    in_range : (d k : ℕ) → IsLivePointer root size d k → node image root d k < block_count image
    in_range zero k live = rw (top_at k) joins.in_range
    in_range (suc d) k live =
        let found = live_in d k live in
        rw (node_in d k found.0) ((joins.sound (slot_of d k) found.0).in_range d (rest_of d k) found.1)

    not_top : (d k : ℕ) → IsLivePointer root size (suc d) k → node image root (suc d) k ≢ 0 → node image root (suc d) k ≡ block_of root → ⊥
    not_top d k live present same =
        joins.own (slot_of d k) (live_in d k live).0 (subst (HasBlock image (child image (block_of root) level (slot_of d k)) (piece size level (slot_of d k))) same (has_in d k live present))

    once : (d k e l : ℕ) → IsLivePointer root size d k → IsLivePointer root size e l → node image root d k ≢ 0 → node image root d k ≡ node image root e l → (d ≡ e) × (k ≡ l)
    once zero k zero l live also present same = (refl, first_index root size k wide live ∙ sym (first_index root size l wide also))
    once zero k (suc e) l live also present same = absurd (not_top e l also (λ null. present (same ∙ null)) (sym same ∙ top_at k))
    once (suc d) k zero l live also present same = absurd (not_top d k live present (same ∙ top_at l))
    once (suc d) k (suc e) l live also present same =
        let one = live_in d k live in
        let two = live_in e l also in
        let slots : slot_of d k ≡ slot_of e l =
        joins.apart (slot_of d k) (slot_of e l) (node image root (suc d) k) one.0 two.0 (has_in d k live present)
        (subst (HasBlock image (child image (block_of root) level (slot_of e l)) (piece size level (slot_of e l))) (sym same) (has_in e l also (λ null. present (same ∙ null)))) in
        let there : IsLivePointer (child image (block_of root) level (slot_of d k)) (piece size level (slot_of d k)) e (rest_of e l) =
        subst (λ c. IsLivePointer (child image (block_of root) level c) (piece size level c) e (rest_of e l)) (sym slots) two.1 in
        let equal : node image (child image (block_of root) level (slot_of d k)) d (rest_of d k) ≡ node image (child image (block_of root) level (slot_of d k)) e (rest_of e l) =
        sym (node_in d k one.0) ∙ same ∙ node_in e l two.0 ∙ ap (λ c. node image (child image (block_of root) level c) e (rest_of e l)) (sym slots) in
        let both = (joins.sound (slot_of d k) one.0).once d (rest_of d k) e (rest_of e l) one.1 there (λ null. present (node_in d k one.0 ∙ null)) equal in
        (ap suc both.0, number both.0 slots both.1)
      where
        number : d ≡ e → slot_of d k ≡ slot_of e l → rest_of d k ≡ rest_of e l → k ≡ l
        number depths slots rests =
            same_number d k l (slots ∙ ap (λ f. slot_of f l) (sym depths)) (rests ∙ ap (λ f. rest_of f l) (sym depths))

    pub joined_sound : IsSound image root size
    joined_sound = record {
      low = λ some. omega (arith, shape.height, shape.low);
      root_bits = λ some. joins.bits;
      pointer_bits = pointer_bits;
      in_range = in_range;
      once = once;
      fits = wide;
    }

  -- and the slots of a sound tree hold sound trees, with no block in two of them
  module _ (sound : IsSound image root size) (some : 0 < size) (present : block_of root ≢ 0) where
    top_live : IsLivePointer root size 0 0
    top_live = record { level = height_of root; height = omega arith; live = omega (arith, some) }

    word_out : (c d k : ℕ) → StandsIn c (suc d) k → tree_word image root (suc (suc d)) (back (suc d) c k) ≡ tree_word image (child image (block_of root) level c) (suc d) k
    word_out c d k there = word_in d (back (suc d) c k) there.below ∙ rw (there.slot, there.rest) refl

    child_once : (c d k e l : ℕ) → c * span level < size → IsLivePointer (child image (block_of root) level c) (piece size level c) d k →
        IsLivePointer (child image (block_of root) level c) (piece size level c) e l → node image (child image (block_of root) level c) d k ≢ 0 →
        node image (child image (block_of root) level c) d k ≡ node image (child image (block_of root) level c) e l → (d ≡ e) × (k ≡ l)
    child_once c d k e l below live also not_null same =
        let one : StandsIn c d k = stands_in c d k below live in
        let two : StandsIn c e l = stands_in c e l below also in
        let both : (suc d ≡ suc e) × (back d c k ≡ back e c l) =
        sound.once (suc d) (back d c k) (suc e) (back e c l) one.live two.live (λ null. not_null (sym one.node_is ∙ null)) (one.node_is ∙ same ∙ sym two.node_is) in
        let depths : d ≡ e = omega (arith, both.0) in
        (depths, sym one.rest ∙ ap (λ f. rest_of f (back d c k)) depths ∙ ap (rest_of e) both.1 ∙ two.rest)

    child_sound : (c : ℕ) → c * span level < size → IsSound image (child image (block_of root) level c) (piece size level c)
    child_sound c below = record {
      low = λ _. omega (arith, height_at c below, shape.low);
      root_bits = λ _. omega (arith, shape.words c below, shape.low);
      pointer_bits = λ d k live.
          let there : StandsIn c (suc d) k = stands_in c (suc d) k below live in
          ap (λ w. w % 4096) (sym (word_out c d k there)) ∙ sound.pointer_bits (suc d) (back (suc d) c k) there.live;
      in_range = λ d k live.
          let there : StandsIn c d k = stands_in c d k below live in
          subst (λ x. x < block_count image) there.node_is (sound.in_range (suc d) (back d c k) there.live);
      once = λ d k e l. child_once c d k e l below;
      fits = let s : ℕ = span level in rw (height_at c below) (omega arith);
    }

    pub splits : Joins image root size level
    splits = record {
      bits = sound.root_bits some;
      in_range = subst (λ x. x < block_count image) (top_at 0) (sound.in_range 0 0 top_live);
      sound = child_sound;
      own = λ c below has.
          let there : StandsIn c has.depth has.index = stands_in c has.depth has.index below has.pointer in
          let both = sound.once 0 0 (suc has.depth) (back has.depth c has.index) top_live there.live (λ null. present (sym (top_at 0) ∙ null)) (top_at 0 ∙ sym has.named ∙ sym there.node_is) in
          omega (arith, both.0);
      apart = λ c e x below low has also.
          let one : StandsIn c has.depth has.index = stands_in c has.depth has.index below has.pointer in
          let two : StandsIn e also.depth also.index = stands_in e also.depth also.index low also.pointer in
          let both : (suc has.depth ≡ suc also.depth) × (back has.depth c has.index ≡ back also.depth e also.index) =
          sound.once (suc has.depth) (back has.depth c has.index) (suc also.depth) (back also.depth e also.index) one.live two.live
          (λ null. has.not_null (sym has.named ∙ sym one.node_is ∙ null)) (one.node_is ∙ has.named ∙ sym also.named ∙ sym two.node_is) in
          let depths : has.depth ≡ also.depth = omega (arith, both.0) in
          sym one.slot ∙ ap (λ f. slot_of f (back has.depth c has.index)) depths ∙ ap (slot_of also.depth) both.1 ∙ two.slot;
    }

-- a sound tree above the leaves has such a shape
pub sound_shape : (image : Image) (root size level : ℕ) → IsSound image root size → 0 < size → height_of root ≡ suc level → HasChildren image root size level
sound_shape image root size level sound some height =
    let fits : size ≤ span (suc level) = subst (λ h. size ≤ span h) height sound.fits in
    record {
      height = height;
      low = subst (λ h. h ≤ max_height) height (sound.low some);
      fits = fits;
      words = λ c below.
          let s : ℕ = span level in
          let wide : span (suc level) ≡ 512 * s = covered-more (suc level) in
          let less : c * s < 512 * s = omega (arith, below, fits, wide) in
          let low : c < 512 = lt_of_mul-lt-mul_right s less in
          let column : c % 512 ≡ c = omega (arith, low) in
          let word : tree_word image root 1 c ≡ slot_word image (block_of root) c =
          tree_word-suc image root 0 c ∙ ap (λ p. slot_word image (block_of p) (c % 512)) (tree_word-zero image root (c / 512)) ∙ ap (slot_word image (block_of root)) column in
          ap (λ w. w % 4096) (sym word) ∙ sound.pointer_bits 0 c (record { level = level; height = omega (arith, height); live = below });
    }
