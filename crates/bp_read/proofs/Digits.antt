-- The digits of a number, the highest first.
use Rattle.std.proofs.Common.{◌≡◌, ℕ, zero, suc, ◌-◌, ◌*◌, ◌/◌, ◌%◌, ◌^◌, ◌<◌, ◌≤◌, List, [], ◌∷◌, ◌++◌, length, bit_and, refl, ◌∙◌, ap, ap₂, arith, length-append}
use Rattle.std.proofs.lemmas.Nat.{and_mask}
use Rattle.bp_layout.specs.WordPaths.{digits}
use Rattle.bp_read.proofs.StepDown.{shift, quotient}

pub length-digits : (count index : ℕ) → length (digits count index) ≡ count
length-digits zero index = refl
length-digits (suc count) index = length-append (digits count (index / 512)) (index % 512 ∷ []) ∙ omega (arith, length-digits count (index / 512))

pub all_digits : (count index levels : ℕ) (path : List ℕ) → levels ≤ 0 → path ≡ digits (count - levels) (index / 512 ^ levels) → path ≡ digits count index
all_digits count index zero path none so_far =
    let here : count - 0 ≡ count = omega arith in
    let all : index / 512 ^ 0 ≡ index = omega arith in
    so_far ∙ ap₂ digits here all
all_digits count index (suc l) path none so_far = absurd (omega arith)

-- one digit more, as the code has it
pub next_digit : (count index levels : ℕ) (path : List ℕ) → 0 < levels → levels ≤ count → path ≡ digits (count - levels) (index / 512 ^ levels) →
    path ++ bit_and (index / 2 ^ (9 * (levels - 1))) 511 ∷ [] ≡ digits (count - (levels - 1)) (index / 512 ^ (levels - 1))
next_digit count index levels path some within so_far =
    let l : ℕ = levels - 1 in
    let up : levels ≡ suc l = omega arith in
    let more : count - l ≡ suc (count - levels) = omega arith in
    let digit : bit_and (index / 2 ^ (9 * l)) 511 ≡ index / 512 ^ l % 512 =
    and_mask (index / 2 ^ (9 * l)) 9 ∙ ap (λ n. n % 512) (shift index l) in
    let prefix : path ≡ digits (count - levels) (index / 512 ^ l / 512) =
    so_far ∙ ap (digits (count - levels)) (ap (λ n. index / 512 ^ n) up ∙ quotient index l) in
    rw more (ap₂ (λ p d. p ++ d ∷ []) prefix digit)
