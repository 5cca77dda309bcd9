-- Counts of the stores into blocks that a tree has.
use Rattle.std.proofs.Common.{◌≡◌, ℕ, zero, suc, ◌+◌, ◌-◌, ◌*◌, ◌/◌, ◌≤◌, min, ap, Bool, true, false, ◌==◌, nat_le, refl, arith, leb-true, eq-eqb, eqb-true, le-leb}
use Rattle.std.proofs.lemmas.Bool.{and_parts}
use Rattle.bp_layout.specs.Tree.{span}
use Rattle.bp_append.specs.Stores.{is_near, is_one_leaf, near_stores, room_past_end, stores_past_end}
use Rattle.bp_append.proofs.TallyLaws.{span-leaf, span-rising}

-- bytes in one leaf from the size on end no more than a leaf after it
one_leaf_ends : (size from to : ℕ) → is_one_leaf size from to ≡ true → to ≤ size + span 0
one_leaf_ends size from to is =
    let both = and_parts (size == from) (nat_le to (from / 4096 * 4096 + 4096)) is in
    let same : size ≡ from = eqb-true size from both.0 in
    let near : to ≤ from / 4096 * 4096 + 4096 = leb-true to (from / 4096 * 4096 + 4096) both.1 in
    omega (arith, same, near)

-- and near ones no more than a node above the leaves
near_ends : (size from to : ℕ) → is_near size from to ≡ true → to ≤ size + span 1
near_ends size from to is =
    let both = and_parts (size == from) (nat_le to (from + 4096 * 512)) is in
    let same : size ≡ from = eqb-true size from both.0 in
    let near : to ≤ from + 4096 * 512 = leb-true to (from + 4096 * 512) both.1 in
    omega (arith, same, near)

pub past_end_leaf : (size from to : ℕ) → stores_past_end size from to 0 ≡ 512
past_end_leaf size from to = go (is_one_leaf size from to) refl (is_near size from to) refl
  where
    go : (one : Bool) → is_one_leaf size from to ≡ one → (two : Bool) → is_near size from to ≡ two → stores_past_end size from to 0 ≡ 512
    go true is two also = rw is refl
    go false is true also = rw (is, also) refl
    go false is false also = rw (is, also) refl

-- one node more, whose words from an offset after the size on get stores
pub past_end_node : (size from to height low own : ℕ) → size ≤ low → own ≤ 512 → (to ≤ low + span height → own ≤ 1) → stores_past_end size from to height + own ≤ stores_past_end size from to (suc height)
past_end_node size from to height low own past_end few one = go (is_one_leaf size from to) refl (is_near size from to) refl
  where
    near : (level : ℕ) → to ≤ size + span 1 → (to ≤ low + span level → own ≤ 1) → near_stores level + own ≤ near_stores (suc level)
    near zero ends less = omega (arith, few)
    near (suc level) ends less =
        let up = span-rising 1 (suc level) (omega arith) in
        let small : own ≤ 1 = less (omega (arith, ends, past_end, up)) in
        omega (arith, small)

    go : (leaf : Bool) → is_one_leaf size from to ≡ leaf → (two : Bool) → is_near size from to ≡ two → stores_past_end size from to height + own ≤ stores_past_end size from to (suc height)
    go true is two also =
        let ends = one_leaf_ends size from to is in
        let small : own ≤ 1 = one (omega (arith, ends, past_end, span-leaf height)) in
        rw is (omega (arith, small))
    go false is true also = rw (is, also) (near height (near_ends size from to also) one)
    go false is false also = rw (is, also) (omega (arith, few))

-- and the stores that each node put over the tree has besides its new words
pub past_end_higher : (size from to height more : ℕ) → height ≤ more → stores_past_end size from to height + (more - height) ≤ stores_past_end size from to more
past_end_higher size from to height more order = go (is_one_leaf size from to) refl (is_near size from to) refl
  where
    near : (low high : ℕ) → low ≤ high → near_stores low + (high - low) ≤ near_stores high
    near zero zero less = omega arith
    near zero (suc high) less = omega arith
    near (suc low) zero less = absurd (omega (arith, less))
    near (suc low) (suc high) less = omega (arith, less)

    go : (leaf : Bool) → is_one_leaf size from to ≡ leaf → (two : Bool) → is_near size from to ≡ two → stores_past_end size from to height + (more - height) ≤ stores_past_end size from to more
    go true is two also = rw is (omega (arith, order))
    go false is true also = rw (is, also) (near height more order)
    go false is false also = rw (is, also) (omega (arith, order))

near_few : (height : ℕ) → near_stores height ≤ 512 * suc height
near_few zero = omega arith
near_few (suc height) = omega arith

-- all words of as many blocks are more
pub past_end_whole : (size from to height : ℕ) → stores_past_end size from to height ≤ 512 * suc height
past_end_whole size from to height = go (is_one_leaf size from to) refl (is_near size from to) refl
  where
    go : (leaf : Bool) → is_one_leaf size from to ≡ leaf → (two : Bool) → is_near size from to ≡ two → stores_past_end size from to height ≤ 512 * suc height
    go true is two also = rw is (omega arith)
    go false is true also = rw (is, also) (near_few height)
    go false is false also = rw (is, also) (omega arith)

-- those of near bytes are fewer
pub past_end_near : (size to height : ℕ) → to ≤ size + 2097152 → stores_past_end size size to height ≤ 1024 + height
past_end_near size to height ends = go (is_one_leaf size size to) refl
  where
    near : (height : ℕ) → near_stores height ≤ 1024 + height
    near zero = omega arith
    near (suc height) = omega arith

    is : is_near size size to ≡ true
    is = rw (eq-eqb size size refl, le-leb to (size + 2097152) ends) refl

    go : (one : Bool) → is_one_leaf size size to ≡ one → stores_past_end size size to height ≤ 1024 + height
    go true one = rw one (omega arith)
    go false one = rw (one, is) (near height)

-- and those of bytes in one leaf
pub past_end_one : (size to height : ℕ) → to ≤ size / 4096 * 4096 + 4096 → stores_past_end size size to height ≡ 512 + height
past_end_one size to height ends =
    let is : is_one_leaf size size to ≡ true = rw (eq-eqb size size refl, le-leb to (size / 4096 * 4096 + 4096) ends) refl in
    rw is refl

-- ---- the room for them

least_of : (a b c : ℕ) → c ≤ a → c ≤ b → c ≤ min a b
least_of a b c one two = omega (arith, one, two)

pub room_past_end_leaf : (size from to : ℕ) → room_past_end size from to 0 ≡ 512
room_past_end_leaf size from to = ap (λ n. min 512 (n + 512)) (past_end_leaf size from to)

pub room_past_end_whole : (size from to height : ℕ) → room_past_end size from to height ≤ 512 * suc height
room_past_end_whole size from to height = go (512 * suc height) (stores_past_end size from to height + 512)
  where
    go : (a b : ℕ) → min a b ≤ a
    go a b = omega arith

-- it holds those after the size up to a lower level, with one store for each level above it
pub room_past_end_higher : (size from to height more : ℕ) → height ≤ more → stores_past_end size from to height + (more - height) ≤ room_past_end size from to more
room_past_end_higher size from to height more order =
    least_of (512 * suc more) (stores_past_end size from to more + 512) (stores_past_end size from to height + (more - height))
    (levels (stores_past_end size from to height) (past_end_whole size from to height)) (with_block (stores_past_end size from to height) (stores_past_end size from to more) (past_end_higher size from to height more order))
  where
    levels : (past_end : ℕ) → past_end ≤ 512 * suc height → past_end + (more - height) ≤ 512 * suc more
    levels past_end few = omega (arith, few, order)

    with_block : (past_end all : ℕ) → past_end + (more - height) ≤ all → past_end + (more - height) ≤ all + 512
    with_block past_end all few = omega (arith, few)

-- and with all words of the node above
pub room_past_end_next : (size from to height : ℕ) → stores_past_end size from to height + 512 ≤ room_past_end size from to (suc height)
room_past_end_next size from to height =
    least_of (512 * suc (suc height)) (stores_past_end size from to (suc height) + 512) (stores_past_end size from to height + 512)
    (levels (stores_past_end size from to height) (past_end_whole size from to height)) (with_block (stores_past_end size from to height) (stores_past_end size from to (suc height)) (past_end_higher size from to height (suc height) (omega arith)))
  where
    levels : (past_end : ℕ) → past_end ≤ 512 * suc height → past_end + 512 ≤ 512 * suc (suc height)
    levels past_end few = omega (arith, few)

    with_block : (past_end all : ℕ) → past_end + (suc height - height) ≤ all → past_end + 512 ≤ all + 512
    with_block past_end all few = omega (arith, few)

-- a higher tree asks for no less
pub room_past_end_rises : (size from to height : ℕ) → room_past_end size from to height ≤ room_past_end size from to (suc height)
room_past_end_rises size from to height =
    go (512 * suc height) (512 * suc (suc height)) (stores_past_end size from to height) (stores_past_end size from to (suc height)) (omega arith) (past_end_higher size from to height (suc height) (omega arith))
  where
    go : (a b c d : ℕ) → a ≤ b → c + (suc height - height) ≤ d → min a (c + 512) ≤ min b (d + 512)
    go a b c d one two = omega (arith, one, two)

pub room_past_end_most : (size from to height more : ℕ) → height ≤ more → room_past_end size from to height ≤ room_past_end size from to more
room_past_end_most size from to height more order =
    go (512 * suc height) (512 * suc more) (stores_past_end size from to height) (stores_past_end size from to more) (omega (arith, order)) (past_end_higher size from to height more order)
  where
    go : (a b c d : ℕ) → a ≤ b → c + (more - height) ≤ d → min a (c + 512) ≤ min b (d + 512)
    go a b c d one two = omega (arith, one, two)

-- for bytes in one leaf it is that of two blocks
pub room_past_end_one : (size to height : ℕ) → to ≤ size / 4096 * 4096 + 4096 → room_past_end size size to height ≤ 1024 + height
room_past_end_one size to height ends = go (512 * suc height) (stores_past_end size size to height) (past_end_one size to height ends)
  where
    go : (a b : ℕ) → b ≡ 512 + height → min a (b + 512) ≤ 1024 + height
    go a b e = omega (arith, e)
