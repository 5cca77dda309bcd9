-- The bytes of a word that is shifted, cut or joined with another one.
use Rattle.std.proofs.Common.{◌≡◌, ℕ, ◌+◌, ◌-◌, ◌*◌, ◌/◌, ◌%◌, ◌^◌, ◌<◌, ◌≤◌, min, sym, ◌∙◌, ap, ap₂, arith, mod-lt, pow-add}
use Rattle.std.specs.Int.Bits.{bit_or, or_zero_l, or_zero_r}
use Rattle.std.proofs.Math.Nat.{mul_assoc, zero-div}
use Rattle.std.proofs.lemmas.Nat.{mod-pow-add, mod_low, or_mod, or_shr, pow_pos, shl-shr, shr_below, shr-shr, shr_high}
use Rattle.pm_words.specs.Bytes.{byte_of}
use Rattle.pm_words.proofs.LowBytes.{as_bits}

shifted : (w c : ℕ) → byte_of w c ≡ w / 2 ^ (8 * c) % 2 ^ 8
shifted w c = ap (λ n. w / n % 256) (as_bits c)

pub or-byte : (a b c : ℕ) → byte_of (bit_or a b) c ≡ bit_or (byte_of a c) (byte_of b c)
or-byte a b c =
    shifted (bit_or a b) c ∙ ap (λ x. x % 2 ^ 8) (or_shr a b (8 * c)) ∙ or_mod (a / 2 ^ (8 * c)) (b / 2 ^ (8 * c)) 8 ∙ sym (ap₂ bit_or (shifted a c) (shifted b c))

-- ---- the lowest bytes

lowest : (w bits : ℕ) → w % 2 ^ (bits + 8) % 2 ^ 8 ≡ w % 2 ^ 8
lowest w bits = ap (λ n. n % 2 ^ 8) (mod-pow-add w bits 8) ∙ mod_low (w / 2 ^ 8 % 2 ^ bits) 8 (w % 2 ^ 8) (omega arith)

cut : (w high low : ℕ) → w % 2 ^ (high + low) / 2 ^ low ≡ w / 2 ^ low % 2 ^ high
cut w high low = ap (λ n. n / 2 ^ low) (mod-pow-add w high low) ∙ shr_high (w / 2 ^ low % 2 ^ high) low (w % 2 ^ low) (mod-lt w (pow_pos low))

pub low-byte : (w count c : ℕ) → c < count → byte_of (w % 256 ^ count) c ≡ byte_of w c
low-byte w count c low =
    let split : 8 * count ≡ 8 * (count - c - 1) + 8 + 8 * c = omega (arith, low) in
    shifted (w % 256 ^ count) c
    ∙ ap (λ n. w % n / 2 ^ (8 * c) % 2 ^ 8) (as_bits count ∙ ap (λ n. 2 ^ n) split)
    ∙ ap (λ n. n % 2 ^ 8) (cut w (8 * (count - c - 1) + 8) (8 * c))
    ∙ lowest (w / 2 ^ (8 * c)) (8 * (count - c - 1))
    ∙ sym (shifted w c)

-- a byte after those that a number has
pub past-byte : (w count c : ℕ) → w < 256 ^ count → count ≤ c → byte_of w c ≡ 0
past-byte w count c few past =
    let split : 8 * count ≡ 0 + 8 * count = omega arith in
    let more : 8 * c ≡ 8 * count + 8 * (c - count) = omega (arith, past) in
    let none : w / 2 ^ (8 * count) < 2 ^ 0 = shr_below w 0 (8 * count) (rw (sym split) (rw (as_bits count) at few)) in
    let all : w / 2 ^ (8 * count) ≡ 0 = omega (arith, none) in
    shifted w c
    ∙ ap (λ n. w / 2 ^ n % 2 ^ 8) more
    ∙ ap (λ n. n % 2 ^ 8) (sym (shr-shr w (8 * count) (8 * (c - count))) ∙ ap (λ n. n / 2 ^ (8 * (c - count))) all ∙ zero-div (2 ^ (8 * (c - count))))

pub past-low : (w count c : ℕ) → count ≤ c → byte_of (w % 256 ^ count) c ≡ 0
past-low w count c past =
    let small : w % 256 ^ count < 256 ^ count = rw (as_bits count) (mod-lt w (pow_pos (8 * count))) in
    past-byte (w % 256 ^ count) count c small past

-- ---- shifts

pub right-byte : (w count c : ℕ) → byte_of (w / 2 ^ (8 * count)) c ≡ byte_of w (count + c)
right-byte w count c =
    let sum : 8 * count + 8 * c ≡ 8 * (count + c) = omega arith in
    shifted (w / 2 ^ (8 * count)) c ∙ ap (λ n. n % 2 ^ 8) (shr-shr w (8 * count) (8 * c) ∙ ap (λ n. w / 2 ^ n) sum) ∙ sym (shifted w (count + c))

-- the bytes of a word after those that a shift puts before them
pub left-byte : (w count c : ℕ) → c < 8 → count ≤ c → byte_of (w * 2 ^ (8 * count) % 18446744073709551616) c ≡ byte_of w (c - count)
left-byte w count c few late =
    let sum : count + (c - count) ≡ c = omega (arith, late) in
    low-byte (w * 2 ^ (8 * count)) 8 c few
    ∙ sym (ap (λ n. byte_of (w * 2 ^ (8 * count)) n) sum)
    ∙ sym (right-byte (w * 2 ^ (8 * count)) count (c - count))
    ∙ ap (λ n. byte_of n (c - count)) (shl-shr w (8 * count))

-- those that it puts before them
pub zero-byte : (w count c : ℕ) → c < 8 → c < count → byte_of (w * 2 ^ (8 * count) % 18446744073709551616) c ≡ 0
zero-byte w count c few early =
    let split : 8 * count ≡ 8 * (count - c - 1) + 8 + 8 * c = omega (arith, early) in
    let factors : w * 2 ^ (8 * count) ≡ w * 2 ^ (8 * (count - c - 1)) * 256 * 2 ^ (8 * c) =
    ap (λ n. w * 2 ^ n) split ∙ ap (λ n. w * n) (pow-add 2 (8 * (count - c - 1) + 8) (8 * c) ∙ ap (λ n. n * 2 ^ (8 * c)) (pow-add 2 (8 * (count - c - 1)) 8))
    ∙ sym (mul_assoc w (2 ^ (8 * (count - c - 1)) * 256) (2 ^ (8 * c))) ∙ ap (λ n. n * 2 ^ (8 * c)) (sym (mul_assoc w (2 ^ (8 * (count - c - 1))) 256)) in
    let none : w * 2 ^ (8 * (count - c - 1)) * 256 % 2 ^ 8 ≡ 0 = omega arith in
    low-byte (w * 2 ^ (8 * count)) 8 c few
    ∙ shifted (w * 2 ^ (8 * count)) c
    ∙ ap (λ n. n / 2 ^ (8 * c) % 2 ^ 8) factors
    ∙ ap (λ n. n % 2 ^ 8) (shl-shr (w * 2 ^ (8 * (count - c - 1)) * 256) (8 * c))
    ∙ none

-- ---- the lowest bytes of one word, and those after them of another one

pub joined-low : (old new count c : ℕ) → c < 8 → c < count → byte_of (bit_or (old % 256 ^ min 8 count) (new / 2 ^ (8 * count) * 2 ^ (8 * count) % 18446744073709551616)) c ≡ byte_of old c
joined-low old new count c few low =
    or-byte (old % 256 ^ min 8 count) (new / 2 ^ (8 * count) * 2 ^ (8 * count) % 18446744073709551616) c
    ∙ ap₂ bit_or (low-byte old (min 8 count) c (omega (arith, few, low))) (zero-byte (new / 2 ^ (8 * count)) count c few low)
    ∙ or_zero_r (byte_of old c)

pub joined-high : (old new count c : ℕ) → c < 8 → count ≤ c → byte_of (bit_or (old % 256 ^ min 8 count) (new / 2 ^ (8 * count) * 2 ^ (8 * count) % 18446744073709551616)) c ≡ byte_of new c
joined-high old new count c few late =
    let sum : count + (c - count) ≡ c = omega (arith, late) in
    or-byte (old % 256 ^ min 8 count) (new / 2 ^ (8 * count) * 2 ^ (8 * count) % 18446744073709551616) c
    ∙ ap₂ bit_or (past-low old (min 8 count) c (omega (arith, late)))
    (left-byte (new / 2 ^ (8 * count)) count c few late ∙ right-byte new count (c - count) ∙ ap (λ n. byte_of new n) sum)
    ∙ or_zero_l (byte_of new c)
