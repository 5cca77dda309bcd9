-- Two runs of digits in a row.
use Rattle.std.proofs.Common.{◌≡◌, ℕ, ◌+◌, ◌*◌, ◌≤◌, List, length, take, drop, Some, sym, ap, ◌∙◌, arith}
use Rattle.std.proofs.lemmas.Simd.{length-put_chunk}
use lib.Lanes.{put_chunk}
use Rattle.bp_script.proofs.DigitRuns.{bytes, run_added}

pub two_added : (s out q r : List ℕ) (i : ℕ) → length q ≡ 16 → length r ≡ 16 → 32 * i + 32 ≤ length out → 64 * i + 64 ≤ length s
    → bytes (take 32 (drop (32 * (2 * i)) s)) ≡ Some q
    → bytes (take 32 (drop (32 * (2 * i + 1)) s)) ≡ Some r
    → bytes (take (32 * (2 * i)) s) ≡ Some (take (16 * (2 * i)) out)
    → bytes (take (32 * (2 * (i + 1))) s) ≡ Some (take (16 * (2 * (i + 1))) (put_chunk (16 * (2 * i + 1)) (put_chunk (16 * (2 * i)) out q) r))
two_added s out q r i long_q long_r room fits is_q is_r so_far =
    let prefix = put_chunk (16 * (2 * i)) out q in
    let both = put_chunk (16 * (2 * i + 1)) prefix r in
    let same = length-put_chunk (16 * (2 * i)) out q in
    let next : 2 * i + 1 + 1 ≡ 2 * (i + 1) = omega arith in
    let first = run_added s out q (2 * i) long_q (omega arith) (omega arith) is_q so_far in
    ap (λ (k : ℕ). bytes (take (32 * k) s)) (sym next)
    ∙ run_added s prefix r (2 * i + 1) long_r (omega (arith, same)) (omega arith) is_r first
    ∙ ap (λ (k : ℕ). Some (take (16 * k) both)) next

-- one more run after i turns
pub one_added : (s out q : List ℕ) (i k : ℕ) → i ≡ k → length q ≡ 16 → 32 * k + 16 ≤ length out → 64 * k + 32 ≤ length s
    → bytes (take 32 (drop (32 * (2 * k)) s)) ≡ Some q
    → bytes (take (32 * (2 * i)) s) ≡ Some (take (16 * (2 * i)) out)
    → bytes (take (32 * (2 * k + 1)) s) ≡ Some (take (16 * (2 * k + 1)) (put_chunk (16 * (2 * k)) out q))
one_added s out q i k same long room fits is so_far =
    let prefix = ap (λ (j : ℕ). bytes (take (32 * (2 * j)) s)) (sym same) ∙ so_far ∙ ap (λ (j : ℕ). Some (take (16 * (2 * j)) out)) same in
    run_added s out q (2 * k) long (omega (arith, room)) (omega (arith, fits)) is prefix
