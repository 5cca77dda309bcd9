-- One step down a tree, by the digits of a number from the highest on.
use Rattle.std.proofs.Common.{◌≡◌, ℕ, zero, suc, ◌+◌, ◌-◌, ◌*◌, ◌/◌, ◌%◌, ◌^◌, ◌<◌, ◌≤◌, refl, sym, ◌∙◌, ap, ap₂, arith, pow-suc, pow-add, mul_assoc, mul-le-mul_right, lt_of_le_of_lt, le_trans, le_of_eq}
use Rattle.std.proofs.Math.Nat.{div-div-eq-div-mul, div-mul-le_self}
use Rattle.bp_layout.specs.Words.{Image, block_of, height_of, slot_word}
use Rattle.bp_layout.specs.Tree.{tree_word, covered, IsLiveWord, IsLivePointer, IsSound}
use Rattle.bp_limits.specs.Limits.{max_height}
use Rattle.pm_words.specs.Digits.{digit}
use Rattle.bp_layout.proofs.TreeLaws.{tree_word-zero, tree_word-suc}

pub shift : (index level : ℕ) → index / 2 ^ (9 * level) ≡ index / 512 ^ level
shift index level = ap (λ n. index / n) (power level)
  where
    power : (l : ℕ) → 2 ^ (9 * l) ≡ 512 ^ l
    power zero = refl
    power (suc l) =
        let more : 9 * suc l ≡ 9 * l + 9 = omega arith in
        ap (λ n. 2 ^ n) more ∙ pow-add 2 (9 * l) 9 ∙ ap (λ n. n * 512) (power l) ∙ sym (pow-suc 512 l)

pub quotient : (index l : ℕ) → index / 512 ^ suc l ≡ index / 512 ^ l / 512
quotient index l = rw pow-suc (sym (div-div-eq-div-mul index (512 ^ l) 512))

pub at_root : (image : Image) (root index depth : ℕ) → root ≡ tree_word image root (depth - depth) (index / 512 ^ depth)
at_root image root index depth =
    let none : depth - depth ≡ 0 = omega arith in
    rw none (sym (tree_word-zero image root (index / 512 ^ depth)))

pub at_end : (image : Image) (root depth index levels word : ℕ) → levels ≤ 0 →
    word ≡ tree_word image root (depth - levels) (index / 512 ^ levels) → word ≡ tree_word image root depth index
at_end image root depth index zero word none at =
    let here : depth - 0 ≡ depth = omega arith in
    let all : index / 512 ^ 0 ≡ index = omega arith in
    at ∙ ap₂ (tree_word image root) here all
at_end image root depth index (suc l) word none at = absurd (omega arith)

-- a live word of a sound tree stands no deeper than the greatest height and one
pub few_levels : (image : Image) (root size depth index : ℕ) → IsSound image root size → IsLiveWord root size depth index → depth ≤ suc max_height
few_levels image root size depth index sound live =
    let some : 0 < size = omega (arith, live.live) in
    omega (arith, live.height, sound.low some)

covered-add : (rank levels : ℕ) → covered (rank + levels) ≡ 512 ^ levels * covered rank
covered-add rank levels = rw pow-add (omega (arith, mul_assoc (512 ^ levels) 8 (512 ^ rank), mul_comm' (512 ^ levels) (512 ^ rank)))
  where
    mul_comm' : (a b : ℕ) → a * b ≡ b * a
    mul_comm' a b = omega arith

-- the word from which this many levels are left to go is a live pointer
pub on_the_way : (root size depth index levels : ℕ) → IsLiveWord root size depth index → 0 < levels → levels ≤ depth →
    IsLivePointer root size (depth - levels) (index / 512 ^ levels)
on_the_way root size depth index levels live some within = record {
  level = live.rank + levels - 1;
  height = omega (arith, live.height);
  live =
      let back : suc (live.rank + levels - 1) ≡ live.rank + levels = omega arith in
      rw (back, covered-add live.rank levels)
      (lt_of_le_of_lt (le_trans (le_of_eq (sym (mul_assoc (index / 512 ^ levels) (512 ^ levels) (covered live.rank)))) (mul-le-mul_right (covered live.rank) (div-mul-le_self index (512 ^ levels)))) live.live);
}

one_down : (image : Image) (root depth index levels : ℕ) → 0 < levels → levels ≤ depth →
    slot_word image (block_of (tree_word image root (depth - levels) (index / 512 ^ levels))) (index / 512 ^ (levels - 1) % 512)
    ≡ tree_word image root (depth - (levels - 1)) (index / 512 ^ (levels - 1))
one_down image root depth index levels some within =
    let l : ℕ = levels - 1 in
    let up : levels ≡ suc l = omega arith in
    let deeper : depth - l ≡ suc (depth - levels) = omega arith in
    rw deeper (rw (tree_word-suc image root (depth - levels) (index / 512 ^ l))
    (ap (λ k. slot_word image (block_of (tree_word image root (depth - levels) k)) (index / 512 ^ l % 512)) (ap (λ n. index / 512 ^ n) up ∙ quotient index l)))

-- the same as the code has it
pub step_down : (image : Image) (root depth index levels word result : ℕ) → 0 < levels → levels ≤ depth →
    word ≡ tree_word image root (depth - levels) (index / 512 ^ levels) →
    result ≡ slot_word image (block_of word) (digit index (levels - 1)) →
    result ≡ tree_word image root (depth - (levels - 1)) (index / 512 ^ (levels - 1))
step_down image root depth index levels word result some within at is =
    is ∙ ap (λ p. slot_word image (block_of p) (digit index (levels - 1))) at ∙ one_down image root depth index levels some within

-- a block of a sound tree is one of the region's
pub pointer_at : (root size level index : ℕ) → level ≤ height_of root → index * covered (suc level) < size → IsLivePointer root size (height_of root - level) index
pointer_at root size level index within live = record { level = level; height = omega arith; live = live }
