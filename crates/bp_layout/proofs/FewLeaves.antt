-- A tree without a null has fewer leaves than the image has blocks. So the inodes and the entries of a directory fit into what a scan was given.
use Rattle.std.proofs.Common.{◌≡◌, ℕ, zero, suc, ◌+◌, ◌*◌, ◌/◌, ◌%◌, ◌-◌, ◌<◌, ◌≤◌, List, [], ◌∷◌, length, refl, sym, ap, subst, arith, inl, inr}
use Rattle.bp_layout.specs.Words.{Image, block_count, height_of}
use Rattle.bp_layout.specs.Tree.{node, IsLivePointer, IsSound, IsFull}
use Rattle.bp_layout.specs.Inode.{inode_count, root_of, size_of}
use Rattle.bp_layout.specs.Reached.IsReached.{inode_file}
use Rattle.bp_layout.specs.WellFormed.{IsWellFormed}
use Rattle.bp_limits.specs.Limits.{block_inodes, max_blocks}
use Rattle.bp_layout.specs.Members.{Has, AreApart}
use Rattle.bp_layout.proofs.MemberLaws.{apart-more}
use Rattle.bp_layout.proofs.Existence.{at_most}

abbrev values : (ℕ → ℕ) → ℕ → ℕ → List ℕ
values f a zero = []
values f a (suc n) = f a ∷ values f (a + 1) n

length_values : (f : ℕ → ℕ) (a n : ℕ) → length (values f a n) ≡ n
length_values f a zero = refl
length_values f a (suc n) = ap suc (length_values f (a + 1) n)

record Value (f : ℕ → ℕ) (a n q : ℕ) : Type 0 where
  number : ℕ
  low : a ≤ number
  high : number < a + n
  value : f number ≡ q

value_of : (f : ℕ → ℕ) (a n q : ℕ) → Has (values f a n) q → Value f a n q
value_of f a zero q h = absurd h
value_of f a (suc n) q (inl e) = record { number = a; low = omega arith; high = omega arith; value = e }
value_of f a (suc n) q (inr h) =
    let v : Value f (a + 1) n q = value_of f (a + 1) n q h in record { number = v.number; low = omega (arith, v.low); high = omega (arith, v.high); value = v.value }

all_differ : (f : ℕ → ℕ) (a n : ℕ) → ((k l : ℕ) → k < a + n → l < a + n → f k ≡ f l → k ≡ l) → AreApart (values f a n)
all_differ f a zero apart = tt
all_differ f a (suc n) apart = apart-more (f a) (values f (a + 1) n) (λ h. fresh (value_of f (a + 1) n (f a) h)) (all_differ f (a + 1) n (λ k l low less same. apart k l (omega (arith, low)) (omega (arith, less)) same))
  where
    fresh : Value f (a + 1) n (f a) → ⊥
    fresh v = let same : a ≡ v.number = apart a v.number (omega arith) (omega (arith, v.high)) (sym v.value) in omega (arith, same, v.low)

leaf_live : (root size k : ℕ) → 4096 * k < size → IsLivePointer root size (height_of root) k
leaf_live root size k low = record { level = 0; height = omega arith; live = omega (arith, low) }

pub few_leaves : (image : Image) (root size : ℕ) → IsSound image root size → IsFull image root size → 1 ≤ block_count image → (n : ℕ) → ((k : ℕ) → k < n → 4096 * k < size) → n < block_count image
few_leaves image root size sound full some n live =
    let all : length (0 ∷ values (node image root (height_of root)) 0 n) ≤ block_count image =
    at_most (0 ∷ values (node image root (height_of root)) 0 n) (block_count image)
    (apart-more 0 (values (node image root (height_of root)) 0 n) (λ h. not_null (value_of (node image root (height_of root)) 0 n 0 h)) (all_differ (node image root (height_of root)) 0 n apart)) low in
    let count : length (values (node image root (height_of root)) 0 n) ≡ n = length_values (node image root (height_of root)) 0 n in
    omega (arith, all, count)
  where
    at : (k : ℕ) → k < 0 + n → IsLivePointer root size (height_of root) k
    at k high = leaf_live root size k (live k (omega (arith, high)))

    not_null : Value (node image root (height_of root)) 0 n 0 → ⊥
    not_null v = full (height_of root) v.number (at v.number v.high) v.value

    apart : (k l : ℕ) → k < 0 + n → l < 0 + n → node image root (height_of root) k ≡ node image root (height_of root) l → k ≡ l
    apart k l high less same = (sound.once (height_of root) k (height_of root) l (at k high) (at l less) (full (height_of root) k (at k high)) same).1

    low : (q : ℕ) → Has (0 ∷ values (node image root (height_of root)) 0 n) q → q < block_count image
    low q (inl e) = omega (arith, e, some)
    low q (inr h) =
        let v : Value (node image root (height_of root)) 0 n q = value_of (node image root (height_of root)) 0 n q h in
        subst (λ (x : ℕ). x < block_count image) v.value (sound.in_range (height_of root) v.number (at v.number v.high))

-- so the inodes are at most 64 to a block, and block 0 has none
pub fewer_inodes : (image : Image) (root size : ℕ) → IsSound image root size → IsFull image root size → 1 ≤ block_count image → size % 4096 ≡ 0 → size / 64 + 64 ≤ 64 * block_count image
fewer_inodes image root size sound full some whole =
    let few : size / 4096 < block_count image = few_leaves image root size sound full some (size / 4096) (λ k low. omega (arith, low)) in
    omega (arith, few, whole)

pub few_inodes : (image : Image) (root size : ℕ) → IsSound image root size → IsFull image root size → 1 ≤ block_count image → size % 4096 ≡ 0 → size / 64 ≤ 64 * block_count image
few_inodes image root size sound full some whole = omega (arith, fewer_inodes image root size sound full some whole)

-- the same of a well-formed image, by its number of blocks and by the limit
pub inodes_fit : (image : Image) → IsWellFormed image → inode_count image ≤ block_inodes * (block_count image - 1)
inodes_fit image wf =
    let few : size_of image 0 / 64 + 64 ≤ 64 * block_count image = fewer_inodes image (root_of image 0) (size_of image 0) (wf.sound 0 inode_file) wf.full_inode_file (omega (arith, wf.formatted.sized.at_least)) wf.inode_blocks in
    omega (arith, few)

pub inodes_low : (image : Image) → IsWellFormed image → inode_count image + block_inodes ≤ block_inodes * max_blocks
inodes_low image wf = omega (arith, inodes_fit image wf, wf.formatted.sized.at_least, wf.formatted.sized.at_most)

-- and the entries of a directory at most 16 to a block
pub few_entries : (image : Image) (root size : ℕ) → IsSound image root size → IsFull image root size → 1 ≤ block_count image → size / 256 ≤ 16 * block_count image
few_entries image root size sound full some =
    let few : (size + 4095) / 4096 < block_count image = few_leaves image root size sound full some ((size + 4095) / 4096) (λ k low. omega (arith, low)) in
    omega (arith, few)
