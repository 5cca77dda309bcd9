-- The lowest bytes of a word, by a mask.
use Rattle.std.proofs.Common.{◌≡◌, ℕ, zero, suc, ◌+◌, ◌-◌, ◌*◌, ◌%◌, ◌^◌, ◌<◌, min, bit_and, refl, sym, ◌∙◌, ap, arith, pow-suc, pow-add}
use Rattle.std.proofs.lemmas.Nat.{and_mask}

power : (count : ℕ) → count < 8 → 1 * 2 ^ (8 * count) % 18446744073709551616 ≡ 256 ^ count
power zero low = refl
power (suc zero) low = refl
power (suc (suc zero)) low = refl
power (suc (suc (suc zero))) low = refl
power (suc (suc (suc (suc zero)))) low = refl
power (suc (suc (suc (suc (suc zero))))) low = refl
power (suc (suc (suc (suc (suc (suc zero)))))) low = refl
power (suc (suc (suc (suc (suc (suc (suc zero))))))) low = refl
power (suc (suc (suc (suc (suc (suc (suc (suc count)))))))) low = absurd (omega (arith, low))

pub as_bits : (count : ℕ) → 256 ^ count ≡ 2 ^ (8 * count)
as_bits zero = refl
as_bits (suc count) =
    let more : 8 * suc count ≡ 8 * count + 8 = omega arith in
    pow-suc 256 count ∙ ap (λ n. n * 256) (as_bits count) ∙ sym (pow-add 2 (8 * count) 8) ∙ sym (ap (λ n. 2 ^ n) more)

pub masked : (word count : ℕ) → count < 8 → bit_and word (1 * 2 ^ (8 * count) % 18446744073709551616 - 1) ≡ word % 256 ^ min 8 count
masked word count low =
    let least : min 8 count ≡ count = omega arith in
    rw (power count low, least, as_bits count) (and_mask word (8 * count))
