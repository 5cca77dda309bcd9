-- The answer of a read, by bytes that lie at the start of others.
use Rattle.std.proofs.Common.{◌≡◌, ℕ, ◌≤◌, List, ◌++◌, length, take, drop, Result, Ok, Err, IfOk, refl, sym, ◌∙◌, ap, arith}
use Rattle.std.specs.List.{refill}
use Rattle.std.proofs.Math.Seq.{take-append_seam}
use Rattle.std.proofs.lemmas.List.{take-append-le}
use Rattle.bp_plain.specs.Calls.Answer.{bytes}
use Rattle.bp_plain.specs.declared.errors.FsError.{FsError}
use Rattle.bp_volume.specs.Seen.{read_answer_of}

pub read_answer_of-prefix : (reported : Result ℕ FsError) (prefix rest : List ℕ) → IfOk reported (λ count. count ≤ length prefix) → read_answer_of reported (prefix ++ rest) ≡ read_answer_of reported prefix
read_answer_of-prefix (Ok count) prefix rest fits = ap bytes (take-append-le count prefix rest fits)
read_answer_of-prefix (Err error) prefix rest fits = refl

pub fits-prefix : (reported : Result ℕ FsError) (most : ℕ) (prefix : List ℕ) → length prefix ≡ most → IfOk reported (λ count. count ≤ length prefix) → IfOk reported (λ count. count ≤ most)
fits-prefix (Ok count) most prefix is fits = omega (arith, is, fits)
fits-prefix (Err error) most prefix is fits = tt

-- memory that was lent whole is what it was at last
pub refill-whole : (before last : List ℕ) → length last ≡ length before → refill (length before) before last ≡ last
refill-whole before last same = ap (λ n. take n (last ++ drop (length last) before)) (sym same) ∙ take-append_seam last (drop (length last) before)
