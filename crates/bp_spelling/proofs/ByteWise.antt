-- What a word's bits say of each of its bytes.
use Rattle.std.proofs.Common.{◌≡◌, ◌≢◌, ◌⊎◌, ℕ, zero, suc, ◌+◌, ◌*◌, ◌/◌, ◌%◌, ◌^◌, ◌<◌, ◌≤◌, ◌↔◌, min, Bool, true, false, ◌==◌, ◌&&◌, ◌||◌, refl, sym, ◌∙◌, ap, ap₂, arith, inl, inr, pow-add, pow-suc, true≢false}
use Rattle.std.specs.Int.Bits.{bit_and, bit_or, bit_xor, xor_zero_r, xor_zero_l, xor_self, xor_assoc}
use Rattle.std.proofs.Math.Nat.{div-div-eq-div-mul, pow-succ', zero-div, zero-mod}
use Rattle.std.proofs.lemmas.Bool.{eqb-true, cases_eq}
use Rattle.std.proofs.lemmas.Nat.{and_le_r, le_or_l, le_or_r, and_mod, or_mod, xor_mod, and_shr, or_shr, xor_shr}
use Rattle.bp_layout.specs.Words.{byte_of}
use Rattle.bp_spelling.proofs.KeyNames.{same_low, same_bytes}

as_bits : (count : ℕ) → 256 ^ count ≡ 2 ^ (8 * count)
as_bits zero = refl
as_bits (suc count) =
    let more : 8 * suc count ≡ 8 * count + 8 = omega arith in
    pow-suc 256 count ∙ ap (λ n. n * 256) (as_bits count) ∙ sym (pow-add 2 (8 * count) 8) ∙ sym (ap (λ n. 2 ^ n) more)

shifted : (w o : ℕ) → byte_of w o ≡ w / 2 ^ (8 * o) % 2 ^ 8
shifted w o = ap (λ n. w / n % 256) (as_bits o)

-- ---- a byte of what two words give is what their bytes give

and-byte : (a b o : ℕ) → byte_of (bit_and a b) o ≡ bit_and (byte_of a o) (byte_of b o)
and-byte a b o =
    shifted (bit_and a b) o ∙ ap (λ x. x % 2 ^ 8) (and_shr a b (8 * o)) ∙ and_mod (a / 2 ^ (8 * o)) (b / 2 ^ (8 * o)) 8 ∙ sym (ap₂ bit_and (shifted a o) (shifted b o))

or-byte : (a b o : ℕ) → byte_of (bit_or a b) o ≡ bit_or (byte_of a o) (byte_of b o)
or-byte a b o =
    shifted (bit_or a b) o ∙ ap (λ x. x % 2 ^ 8) (or_shr a b (8 * o)) ∙ or_mod (a / 2 ^ (8 * o)) (b / 2 ^ (8 * o)) 8 ∙ sym (ap₂ bit_or (shifted a o) (shifted b o))

xor-byte : (a b o : ℕ) → byte_of (bit_xor a b) o ≡ bit_xor (byte_of a o) (byte_of b o)
xor-byte a b o =
    shifted (bit_xor a b) o ∙ ap (λ x. x % 2 ^ 8) (xor_shr a b (8 * o)) ∙ xor_mod (a / 2 ^ (8 * o)) (b / 2 ^ (8 * o)) 8 ∙ sym (ap₂ bit_xor (shifted a o) (shifted b o))

-- ---- words of eight equal bytes

eight : (P : ℕ → Type 0) → P 0 → P 1 → P 2 → P 3 → P 4 → P 5 → P 6 → P 7 → (o : ℕ) → o < 8 → P o
eight P a b c d e f g h zero low = a
eight P a b c d e f g h (suc zero) low = b
eight P a b c d e f g h (suc (suc zero)) low = c
eight P a b c d e f g h (suc (suc (suc zero))) low = d
eight P a b c d e f g h (suc (suc (suc (suc zero)))) low = e
eight P a b c d e f g h (suc (suc (suc (suc (suc zero))))) low = f
eight P a b c d e f g h (suc (suc (suc (suc (suc (suc zero)))))) low = g
eight P a b c d e f g h (suc (suc (suc (suc (suc (suc (suc zero))))))) low = h
eight P a b c d e f g h (suc (suc (suc (suc (suc (suc (suc (suc o)))))))) low = absurd (omega (arith, low))

each_127 : (o : ℕ) → o < 8 → byte_of 9187201950435737471 o ≡ 127
each_127 = eight (λ (o : ℕ). byte_of 9187201950435737471 o ≡ 127) refl refl refl refl refl refl refl refl

each_128 : (o : ℕ) → o < 8 → byte_of 9259542123273814144 o ≡ 128
each_128 = eight (λ (o : ℕ). byte_of 9259542123273814144 o ≡ 128) refl refl refl refl refl refl refl refl

each_slash : (o : ℕ) → o < 8 → byte_of 3399988123389603631 o ≡ 47
each_slash = eight (λ (o : ℕ). byte_of 3399988123389603631 o ≡ 47) refl refl refl refl refl refl refl refl

-- ---- a sum that carries nothing from one byte to the next

sevens : ℕ → ℕ
sevens zero = 0
sevens (suc n) = 127 + 256 * sevens n

further : (w o : ℕ) → byte_of (w / 256) o ≡ byte_of w (suc o)
further w o = ap (λ n. n % 256) (div-div-eq-div-mul w 256 (256 ^ o) ∙ ap (λ n. w / n) (sym (pow-succ' 256 o)))

lowest : (w : ℕ) → byte_of w 0 ≡ w % 256
lowest w = let whole : w / 256 ^ 0 ≡ w = omega arith in ap (λ n. n % 256) whole

no_carry : (n o x : ℕ) → o < n → ((i : ℕ) → i < n → byte_of x i ≤ 127) → byte_of (x + sevens n) o ≡ byte_of x o + 127
unfolding sevens
no_carry zero o x low small = absurd (omega (arith, low))
no_carry (suc n) zero x low small =
    let first : x % 256 ≤ 127 = omega (arith, small 0 (omega arith), lowest x) in
    let sum : (x + (127 + 256 * sevens n)) % 256 ≡ x % 256 + 127 = omega (arith, first) in
    lowest (x + (127 + 256 * sevens n)) ∙ sum ∙ ap (λ b. b + 127) (sym (lowest x))
no_carry (suc n) (suc o) x low small =
    let first : x % 256 ≤ 127 = omega (arith, small 0 (omega arith), lowest x) in
    let rest : (x + (127 + 256 * sevens n)) / 256 ≡ x / 256 + sevens n = omega (arith, first) in
    sym (further (x + (127 + 256 * sevens n)) o) ∙ ap (λ w. byte_of w o) rest
    ∙ no_carry n o (x / 256) (omega (arith, low)) (λ i h. omega (arith, further x i, small (suc i) (omega (arith, h))))
    ∙ ap (λ b. b + 127) (further x o)

eight_sevens : sevens 8 ≡ 9187201950435737471
unfolding sevens
eight_sevens = refl

-- ---- which bytes are 0

-- what is left of a byte: its highest bit, set where the byte is 0
mark : ℕ → ℕ
mark b = bit_xor (bit_and (bit_or (bit_and b 127 + 127) b) 128) 128

all_below : (ℕ → Bool) → ℕ → Bool
all_below p zero = true
all_below p (suc n) = p n && all_below p n

at_below : (p : ℕ → Bool) (n k : ℕ) → all_below p n ≡ true → k < n → p k ≡ true
unfolding all_below
at_below p zero k all low = absurd (omega (arith, low))
at_below p (suc n) k all low = go (p n) refl (λ rest l. at_below p n k rest l)
  where
    go : (b : Bool) → p n ≡ b → (all_below p n ≡ true → k < n → p k ≡ true) → p k ≡ true
    go true here rest = other (cases_eq k n)
      where
        other : (k ≡ n) ⊎ (k ≡ n → ⊥) → p k ≡ true
        other (inl same) = ap p same ∙ here
        other (inr differ) = rest (rw here at all) (omega (arith, low, differ))
    go false here rest = let never : false ≡ true = rw here at all in absurd (true≢false (sym never))

marked : (b : ℕ) → b < 256 → b ≢ 0 → mark b ≡ 0
unfolding mark all_below
marked b low some = go (b == 0) refl (at_below (λ x. (x == 0) || (mark x == 0)) 256 b refl low)
  where
    go : (t : Bool) → (b == 0) ≡ t → ((b == 0) || (mark b == 0)) ≡ true → mark b ≡ 0
    go true none is = absurd (some (eqb-true _ _ none))
    go false other is = eqb-true _ _ (rw other at is)

mark-none : mark 0 ≡ 128
unfolding mark
mark-none = refl

-- the marks of a word
abbrev pub zero_marks : ℕ → ℕ
zero_marks w = bit_xor (bit_and (bit_or (bit_and w 9187201950435737471 + 9187201950435737471) w) 9259542123273814144) 9259542123273814144

mark-at : (w o : ℕ) → o < 8 → byte_of (zero_marks w) o ≡ mark (byte_of w o)
unfolding mark
mark-at w o low =
    let seven : (i : ℕ) → i < 8 → byte_of (bit_and w 9187201950435737471) i ≡ bit_and (byte_of w i) 127 =
    λ i l. and-byte w 9187201950435737471 i ∙ ap (bit_and (byte_of w i)) (each_127 i l) in
    let sum : byte_of (bit_and w 9187201950435737471 + 9187201950435737471) o ≡ bit_and (byte_of w o) 127 + 127 =
    ap (λ s. byte_of (bit_and w 9187201950435737471 + s) o) (sym eight_sevens)
    ∙ no_carry 8 o (bit_and w 9187201950435737471) low (λ i l. omega (arith, seven i l, and_le_r (byte_of w i) 127))
    ∙ ap (λ b. b + 127) (seven o low) in
    xor-byte (bit_and (bit_or (bit_and w 9187201950435737471 + 9187201950435737471) w) 9259542123273814144) 9259542123273814144 o
    ∙ ap₂ bit_xor (
    and-byte (bit_or (bit_and w 9187201950435737471 + 9187201950435737471) w) 9259542123273814144 o
    ∙ ap₂ bit_and (or-byte (bit_and w 9187201950435737471 + 9187201950435737471) w o ∙ ap (λ s. bit_or s (byte_of w o)) sum) (each_128 o low)) (each_128 o low)

pub mark-some : (w o : ℕ) → o < 8 → byte_of w o ≢ 0 → byte_of (zero_marks w) o ≡ 0
mark-some w o low some = mark-at w o low ∙ marked (byte_of w o) (omega arith) some

pub some-mark : (w o : ℕ) → o < 8 → byte_of (zero_marks w) o ≡ 0 → byte_of w o ≢ 0
some-mark w o low unmarked none =
    let e : 0 ≡ 128 = sym unmarked ∙ mark-at w o low ∙ ap mark none ∙ mark-none in omega (arith, e)

-- ---- which bytes are `/`

turned : (w o : ℕ) → o < 8 → byte_of (bit_xor w 3399988123389603631) o ≡ bit_xor (byte_of w o) 47
turned w o low = xor-byte w 3399988123389603631 o ∙ ap (bit_xor (byte_of w o)) (each_slash o low)

pub turned-other : (w o : ℕ) → o < 8 → byte_of w o ≢ 47 → byte_of (bit_xor w 3399988123389603631) o ≢ 0
turned-other w o low other none = other (slash (byte_of w o) (sym (turned w o low) ∙ none))
  where
    slash : (b : ℕ) → bit_xor b 47 ≡ 0 → b ≡ 47
    slash b none = sym (xor_zero_r b) ∙ ap (bit_xor b) (sym (xor_self 47)) ∙ sym (xor_assoc b 47 47) ∙ ap (λ x. bit_xor x 47) none ∙ xor_zero_l 47

pub other-turned : (w o : ℕ) → o < 8 → byte_of (bit_xor w 3399988123389603631) o ≢ 0 → byte_of w o ≢ 47
other-turned w o low some same = some (turned w o low ∙ ap (λ b. bit_xor b 47) same ∙ xor_self 47)

-- ---- the lowest bytes of a word are 0

pub byte-zero : (o : ℕ) → byte_of 0 o ≡ 0
byte-zero o = ap (λ n. n % 256) (zero-div (256 ^ o))

pub low-none : (w count : ℕ) → (w % 256 ^ min 8 count ≡ 0) ↔ ((o : ℕ) → o < min 8 count → byte_of w o ≡ 0)
low-none w count = (
  λ none o low. same_bytes w 0 (min 8 count) (none ∙ sym (zero-mod (256 ^ min 8 count))) o low ∙ byte-zero o,
  λ each. same_low w 0 (min 8 count) (λ o low. each o low ∙ sym (byte-zero o)) ∙ zero-mod (256 ^ min 8 count),
)

pub none : (w : ℕ) → w < 18446744073709551616 → (w ≡ 0) ↔ ((o : ℕ) → o < 8 → byte_of w o ≡ 0)
none w fits = (
  λ zero o low. ap (λ x. byte_of x o) zero ∙ byte-zero o,
  λ each. let low : w % 256 ^ 8 ≡ 0 = same_low w 0 8 (λ o low. each o low ∙ sym (byte-zero o)) ∙ zero-mod (256 ^ 8) in omega (arith, low, fits),
)

pub or-none : (a b o : ℕ) → (byte_of (bit_or a b) o ≡ 0) ↔ (byte_of a o ≡ 0) × (byte_of b o ≡ 0)
or-none a b o = (
  λ none. let both : bit_or (byte_of a o) (byte_of b o) ≡ 0 = sym (or-byte a b o) ∙ none in
      (omega (arith, le_or_l (byte_of a o) (byte_of b o), both), omega (arith, le_or_r (byte_of a o) (byte_of b o), both)),
  λ both. or-byte a b o ∙ ap₂ bit_or both.0 both.1,
)
