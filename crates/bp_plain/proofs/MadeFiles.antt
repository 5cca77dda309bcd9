-- The bytes of a file while its stretches are reported.
use Rattle.std.proofs.Common.{◌≡◌, ℕ, zero, suc, ◌+◌, ◌-◌, ◌*◌, ◌<◌, ◌≤◌, ◌==◌, true, false, List, [], ◌∷◌, ◌++◌, length, take, drop, replicate, refl, sym, ◌∙◌, ap, ap₂, arith, true≢false, append_assoc, append-nil, take-add, length-append, length-take, take_all, drop_of_length-le}
use Rattle.std.specs.Cmp.{first_so, second_so}
use Rattle.std.proofs.lemmas.Bool.{eqb-true}
use Rattle.bp_limits.specs.Limits.{block_size}
use Rattle.bp_plain.specs.Plain.{written}
use Rattle.bp_plain.specs.Export.{is_zeros, stretch}

-- What a file has once as many stretches are reported: their bytes, except for zeros at their end.
pub record Made (content : List ℕ) (k : ℕ) (made : List ℕ) : Type 0 where
  pub short : length made ≤ length (take (block_size * k) content)
  pub padded : made ++ replicate (length (take (block_size * k) content) - length made) 0 ≡ take (block_size * k) content
  pub whole : is_zeros (stretch content (k - 1)) ≡ false → made ≡ take (block_size * k) content

pub take_next : (content : List ℕ) (k : ℕ) → take (block_size * (k + 1)) content ≡ take (block_size * k) content ++ stretch content k
take_next content k =
    let e : 4096 * (k + 1) ≡ 4096 * k + 4096 = omega arith in
    ap (λ n. take n content) e ∙ take-add (4096 * k) 4096 content

replicate-add : (m n : ℕ) → replicate {A = ℕ} (m + n) 0 ≡ replicate m 0 ++ replicate n 0
replicate-add zero n = let e : 0 + n ≡ n = omega arith in ap (λ j. replicate {A = ℕ} j 0) e
replicate-add (suc m) n =
    let e : suc m + n ≡ suc (m + n) = omega arith in
    ap (λ j. replicate {A = ℕ} j 0) e ∙ ap (λ xs. 0 ∷ xs) (replicate-add m n)

zeros_are : (bytes : List ℕ) → is_zeros bytes ≡ true → bytes ≡ replicate (length bytes) 0
zeros_are [] all = refl
zeros_are (b ∷ bytes) all =
    ap₂ (λ x xs. x ∷ xs) (eqb-true b 0 (first_so (b == 0) (is_zeros bytes) all)) (zeros_are bytes (second_so (b == 0) (is_zeros bytes) all))

-- a stretch of zeros
pub made_zeros : (content made : List ℕ) (k : ℕ) → Made content k made → is_zeros (stretch content k) ≡ true → Made content (k + 1) made
made_zeros content made k m zeros = record { short = omega (arith, m.short, long); padded = padded; whole = whole }
  where
    prefix : List ℕ
    prefix = take (block_size * k) content

    next : List ℕ
    next = stretch content k

    long : length (take (block_size * (k + 1)) content) ≡ length prefix + length next
    long = ap length (take_next content k) ∙ length-append prefix next

    more : length (take (block_size * (k + 1)) content) - length made ≡ (length prefix - length made) + length next
    more = omega (arith, long, m.short)

    padded : made ++ replicate (length (take (block_size * (k + 1)) content) - length made) 0 ≡ take (block_size * (k + 1)) content
    padded =
        ap (λ n. made ++ replicate n 0) more
        ∙ ap (λ xs. made ++ xs) (replicate-add (length prefix - length made) (length next))
        ∙ sym (append_assoc made (replicate (length prefix - length made) 0) (replicate (length next) 0))
        ∙ ap₂ (λ xs ys. xs ++ ys) m.padded (sym (zeros_are next zeros))
        ∙ sym (take_next content k)

    whole : is_zeros (stretch content ((k + 1) - 1)) ≡ false → made ≡ take (block_size * (k + 1)) content
    whole other =
        let same : (k + 1) - 1 ≡ k = omega arith in
        absurd (true≢false (sym zeros ∙ ap (λ j. is_zeros (stretch content j)) (sym same) ∙ other))

-- a stretch that is written
pub made_written : (content made : List ℕ) (k : ℕ) → Made content k made → block_size * k < length content
    → written made (block_size * k) (stretch content k) ≡ take (block_size * (k + 1)) content
made_written content made k m low =
    ap₂ (λ xs ys. xs ++ stretch content k ++ ys) prefix none
    ∙ append-nil (take (4096 * k) content ++ stretch content k)
    ∙ sym (take_next content k)
  where
    long : length (take (4096 * k) content) ≡ 4096 * k
    long = omega (arith, length-take (4096 * k) content, low)

    prefix : take (4096 * k) (made ++ replicate (4096 * k - length made) 0) ≡ take (4096 * k) content
    prefix =
        ap (λ n. take (4096 * k) (made ++ replicate (n - length made) 0)) (sym long)
        ∙ ap (take (4096 * k)) m.padded
        ∙ take_all (4096 * k) (take (4096 * k) content) (omega (arith, long))

    none : drop (4096 * k + length (stretch content k)) made ≡ []
    none = let inside : length made ≤ 4096 * k + length (stretch content k) = omega (arith, m.short, long) in drop_of_length-le made inside

pub made_whole : (content : List ℕ) (k : ℕ) → Made content k (take (block_size * k) content)
made_whole content k = record {
  short = omega arith;
  padded =
      let none : length (take (block_size * k) content) - length (take (block_size * k) content) ≡ 0 = omega arith in
      ap (λ n. take (block_size * k) content ++ replicate n 0) none ∙ append-nil (take (block_size * k) content);
  whole = λ other. refl;
}
