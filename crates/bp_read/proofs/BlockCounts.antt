-- The blocks of a tree: its topmost one and those of the trees below it.
use Rattle.std.proofs.Common.{◌≡◌, ◌≢◌, ◌⊎◌, ℕ, suc, ◌+◌, ◌*◌, ◌<◌, ◌≤◌, length, Bool, true, false, ◌||◌, refl, sym, ◌∙◌, ap, ap₂, subst, inl, inr, arith}
use Rattle.std.proofs.Math.Dec.{eqb}
use Rattle.std.proofs.lemmas.Bool.{eqb-true, eq-eqb}
use Rattle.std.proofs.lemmas.Bool.{cases_lt}
use Rattle.bp_layout.specs.Words.{Image, block_count, block_of, height_of}
use Rattle.bp_layout.specs.Tree.{node, span, IsLivePointer, HasBlock, IsSound}
use Rattle.bp_layout.specs.Free.{numbers_below}
use Rattle.bp_layout.specs.Pieces.{piece, child, HasChildren, Joins}
use Rattle.bp_layout.proofs.TreeLaws.{tree_word-zero}
use Rattle.bp_layout.proofs.Pieces.{InChild, joined_block, child_block, top_has, splits}
use Rattle.bp_read.specs.Counts.{HasBlockCount}
use Rattle.bp_read.proofs.Below.{below, null_below}
use Rattle.bp_read.proofs.SetSizes.{size_within, size_union, size_none, size_one}

-- a tree with no block
no_block : (image : Image) (root size : ℕ) → ((b : ℕ) → HasBlock image root size b → ⊥) → HasBlockCount image root size 0
no_block image root size none = record {
  set = λ b. false;
  are = record { has = λ b is. absurd (cc); all = λ b has. absurd (none b has) };
  number = size_none (block_count image);
}

pub empty_count : (image : Image) (root size : ℕ) → size ≡ 0 → HasBlockCount image root size 0
empty_count image root size empty = no_block image root size (λ b has. omega (arith, has.pointer.live, empty))

pub null_count : (image : Image) (root size : ℕ) → block_of root ≡ 0 → HasBlockCount image root size 0
null_count image root size null = no_block image root size (λ b has. has.not_null (sym has.named ∙ null_below image root null has.depth has.index))

pub count_within : (image : Image) (root size count : ℕ) → HasBlockCount image root size count → count ≤ block_count image
count_within image root size count has = subst (λ n. n ≤ block_count image) has.number (size_within has.set (block_count image))

-- a block of a tree below one of the first slots
pub record InSlots (image : Image) (root size level slots block : ℕ) : Type 0 where
  pub slot : ℕ
  pub low : slot < slots
  pub live : slot * span level < size
  pub has : HasBlock image (child image (block_of root) level slot) (piece size level slot) block

-- as many are the topmost block and those below the first slots
pub record CountsUpTo (image : Image) (root size level slots count : ℕ) : Type 0 where
  pub set : ℕ → Bool
  pub has : (b : ℕ) → set b ≡ true → (b ≡ block_of root) ⊎ InSlots image root size level slots b
  pub top : set (block_of root) ≡ true
  pub all : (b : ℕ) → InSlots image root size level slots b → set b ≡ true
  pub number : length (numbers_below (block_count image) set) ≡ count

pub so_far_within : (image : Image) (root size level slots count : ℕ) → CountsUpTo image root size level slots count → count ≤ block_count image
so_far_within image root size level slots count so_far = subst (λ n. n ≤ block_count image) so_far.number (size_within so_far.set (block_count image))

top_in_range : (image : Image) (root size : ℕ) → IsSound image root size → 0 < size → block_of root < block_count image
top_in_range image root size sound some =
    subst (λ b. b < block_count image) (ap block_of (tree_word-zero image root 0)) (sound.in_range 0 0 (record { level = height_of root; height = omega arith; live = omega (arith, some) }))

-- the topmost block alone
pub first_count : (image : Image) (root size level : ℕ) → IsSound image root size → 0 < size → CountsUpTo image root size level 0 1
first_count image root size level sound some = record {
  set = λ b. eqb b (block_of root);
  has = λ b is. inl (eqb-true b (block_of root) is);
  top = eq-eqb (block_of root) (block_of root) refl;
  all = λ b slots. let low = slots.low in absurd (omega (arith, low));
  number = size_one (block_of root) (block_count image) (top_in_range image root size sound some);
}

-- and those below one slot more
pub more_counts : (image : Image) (root size level slot sub part count more : ℕ) → IsSound image root size → height_of root ≡ suc level → block_of root ≢ 0 → slot * span level < size →
    sub ≡ child image (block_of root) level slot → part ≡ piece size level slot → CountsUpTo image root size level slot count → HasBlockCount image sub part more →
    CountsUpTo image root size level (slot + 1) (count + more)
more_counts image root size level slot sub part count more sound height present live root_is size_is so_far found = record {
  set = λ b. so_far.set b || found.set b;
  has = λ b is. cases b (so_far.set b) refl (found.set b) refl is;
  top = rw so_far.top refl;
  all = λ b in_slots. old_or_new b in_slots (cases_lt in_slots.slot slot);
  number = size_union so_far.set found.set (block_count image) apart ∙ ap₂ (λ m n. m + n) so_far.number found.number;
}
  where
    shape : HasChildren image root size level
    shape = (below image root size level slot sound height present live).shape

    joins : Joins image root size level
    joins = splits image root size level shape sound (omega (arith, live)) present

    here : (b : ℕ) → found.set b ≡ true → HasBlock image (child image (block_of root) level slot) (piece size level slot) b
    here b is = subst (λ s. HasBlock image (child image (block_of root) level slot) s b) size_is (subst (λ r. HasBlock image r part b) root_is (found.are.has b is))

    back : (b : ℕ) → HasBlock image (child image (block_of root) level slot) (piece size level slot) b → found.set b ≡ true
    back b has = found.are.all b (subst (λ s. HasBlock image sub s b) (sym size_is) (subst (λ r. HasBlock image r (piece size level slot) b) (sym root_is) has))

    wider : (b : ℕ) → (b ≡ block_of root) ⊎ InSlots image root size level slot b → (b ≡ block_of root) ⊎ InSlots image root size level (slot + 1) b
    wider b (inl top) = inl top
    wider b (inr in_slots) = inr (record { slot = in_slots.slot; low = omega (arith, in_slots.low); live = in_slots.live; has = in_slots.has })

    cases : (b : ℕ) (p : Bool) → so_far.set b ≡ p → (q : Bool) → found.set b ≡ q → p || q ≡ true → (b ≡ block_of root) ⊎ InSlots image root size level (slot + 1) b
    cases b true old q new is = wider b (so_far.has b old)
    cases b false old true new is = inr (record { slot = slot; low = omega arith; live = live; has = here b new })
    cases b false old false new is = absurd (cc)

    old_or_new : (b : ℕ) (in_slots : InSlots image root size level (slot + 1) b) → (in_slots.slot < slot) ⊎ (slot ≤ in_slots.slot) → so_far.set b || found.set b ≡ true
    old_or_new b in_slots (inl old) =
        rw (so_far.all b (record { slot = in_slots.slot; low = old; live = in_slots.live; has = in_slots.has })) refl
    old_or_new b in_slots (inr over) =
        let same : in_slots.slot ≡ slot = omega (arith, over, in_slots.low) in
        rw (back b (subst (λ c. HasBlock image (child image (block_of root) level c) (piece size level c) b) same in_slots.has)) (or_true (so_far.set b))
      where
        or_true : (p : Bool) → p || true ≡ true
        or_true true = refl
        or_true false = refl

    apart : (b : ℕ) → so_far.set b ≡ true → found.set b ≡ true → ⊥
    apart b old new = no (so_far.has b old)
      where
        no : (b ≡ block_of root) ⊎ InSlots image root size level slot b → ⊥
        no (inl top) = joins.own slot live (subst (HasBlock image (child image (block_of root) level slot) (piece size level slot)) top (here b new))
        no (inr in_slots) =
            let same : in_slots.slot ≡ slot = joins.apart in_slots.slot slot b in_slots.live live in_slots.has (here b new) in
            omega (arith, same, in_slots.low)

-- a leaf is the one block of its tree
pub leaf_count : (image : Image) (root size : ℕ) → IsSound image root size → 0 < size → height_of root ≡ 0 → block_of root ≢ 0 → HasBlockCount image root size 1
leaf_count image root size sound some flat present = record {
  set = λ b. eqb b (block_of root);
  are = record {
    has = λ b is. subst (HasBlock image root size) (sym (eqb-true b (block_of root) is)) top;
    all = λ b has. eq-eqb b (block_of root) (only b has.depth has.index has.pointer has.named);
  };
  number = size_one (block_of root) (block_count image) (top_in_range image root size sound some);
}
  where
    top : HasBlock image root size (block_of root)
    top = record {
      depth = 0;
      index = 0;
      pointer = record { level = height_of root; height = omega arith; live = omega (arith, some) };
      named = ap block_of (tree_word-zero image root 0);
      not_null = present;
    }

    only : (b d k : ℕ) → IsLivePointer root size d k → node image root d k ≡ b → b ≡ block_of root
    only b d k live named =
        let none : d ≡ 0 = omega (arith, live.height, flat) in
        sym named ∙ ap (λ n. node image root n k) none ∙ ap block_of (tree_word-zero image root k)

-- all blocks of a tree that is higher than a leaf
pub all_counted : (image : Image) (root size level slots count : ℕ) → IsSound image root size → height_of root ≡ suc level → block_of root ≢ 0 → 0 < size →
    ((slot : ℕ) → slot * span level < size → slot < slots) → CountsUpTo image root size level slots count → HasBlockCount image root size count
all_counted image root size level slots count sound height present some all so_far = record {
  set = so_far.set;
  are = record { has = λ b is. out b (so_far.has b is); all = λ b has. back b (joined_block image root size level shape b has) };
  number = so_far.number;
}
  where
    shape : HasChildren image root size level
    shape = (below image root size level 0 sound height present (omega (arith, some))).shape

    out : (b : ℕ) → (b ≡ block_of root) ⊎ InSlots image root size level slots b → HasBlock image root size b
    out b (inl top) = subst (HasBlock image root size) (sym top) (top_has image root size level shape some present)
    out b (inr in_slots) = child_block image root size level shape in_slots.slot b in_slots.live in_slots.has

    back : (b : ℕ) → (b ≡ block_of root) ⊎ InChild image root size level shape b → so_far.set b ≡ true
    back b (inl top) = ap so_far.set top ∙ so_far.top
    back b (inr in_child) = so_far.all b (record { slot = in_child.slot; low = all in_child.slot in_child.below; live = in_child.below; has = in_child.has })
