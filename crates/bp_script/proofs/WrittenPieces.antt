-- A text that is written piece by piece, after what stood in the buffer.
use Rattle.std.proofs.Common.{◌≡◌, ℕ, ◌+◌, ◌≤◌, List, [], ◌++◌, length, take, drop, sym, ◌∙◌, ap, arith, length-append, append-nil}
use Rattle.std.proofs.lemmas.List.{append_assoc, take_at, take-append-drop, length-take-le}
use Rattle.bp_script.proofs.Joining.{piece_placed}

-- What is written up to `end` and what is left make up the whole, and the bytes after it are still those of `first`.
pub record IsWritten (first whole left into : List ℕ) (end : ℕ) : Type 0 where
  pub text : take end into ++ left ≡ whole
  pub rest : into ≡ take end into ++ drop end first
  pub inside : end ≤ length into

pub nothing_written : (first left text : List ℕ) (at : ℕ) → left ≡ text → at ≤ length first → IsWritten first (take at first ++ text) left first at
nothing_written first left text at is inside = record {
  text = ap (λ xs. take at first ++ xs) is;
  rest = sym (take-append-drop at first);
  inside = inside;
}

module _ (first whole left into : List ℕ) (end : ℕ) (written : IsWritten first whole left into end) where
  lengths : end + length left ≡ length whole
  lengths = omega (arith, length-take-le end into written.inside, length-append (take end into) left, ap length written.text)

  -- the next piece has room where the whole has
  pub next_fits : (piece later : List ℕ) → left ≡ piece ++ later → length whole ≤ length into → end + length piece ≤ length into
  next_fits piece later cut room = omega (arith, lengths, room, ap length cut, length-append piece later)

  pub one_more : (piece later new : List ℕ) (next : ℕ) → left ≡ piece ++ later → new ≡ take end into ++ piece ++ drop (end + length piece) into →
      next ≡ end + length piece → next ≤ length new → IsWritten first whole later new next
  one_more piece later new next cut put ends inside = record {
    text = ap (λ xs. xs ++ later) prefix ∙ append_assoc before piece later ∙ ap (λ xs. before ++ xs) (sym cut) ∙ written.text;
    rest = placed ∙ ap (λ xs. xs ++ drop next first) (sym prefix);
    inside = inside;
  }
    where
      before : List ℕ
      before = take end into

      long : length before ≡ end
      long = length-take-le end into written.inside

      placed : new ≡ before ++ piece ++ drop next first
      placed = piece_placed before piece into first new end next written.rest (sym long) put ends

      prefix : take next new ≡ before ++ piece
      prefix = ap (take next) placed ∙ take_at (before ++ piece) (drop next first) next (omega (arith, length-append before piece, long, ends))

-- all is written
module _ (first whole left into : List ℕ) (end : ℕ) (written : IsWritten first whole left into end) (none : left ≡ []) where
  prefix : take end into ≡ whole
  prefix = sym (append-nil (take end into)) ∙ ap (λ xs. take end into ++ xs) (sym none) ∙ written.text

  pub end_is : end ≡ length whole
  end_is = omega (arith, length-take-le end into written.inside, ap length prefix)

  pub text_is : into ≡ whole ++ drop end first
  text_is = written.rest ∙ ap (λ xs. xs ++ drop end first) prefix
