-- Parts of a piece with no newline in them.
use Rattle.std.proofs.Common.{refl, sym, subst, ◌∙◌, ap, arith, ◌≡◌, ℕ, ◌+◌, ◌-◌, ◌<◌, ◌≤◌, List, [], ◌∷◌, ◌++◌, Bool, true, false, length, take, drop, get_or, nat_eq, length-take, length-drop, get_or-drop}
use Rattle.std.proofs.lemmas.List.{get_or-take}
use Rattle.std.proofs.Math.Seq.{take-add}
use Rattle.std.specs.Prelude.{Some, None, Option}
use Rattle.bp_fs.specs.Behaviour.{Behaviour}
use Rattle.bp_limits.specs.Limits.{max_line}
use Rattle.memchr.specs.Find.{IsFirst, IsFirstByte, Nowhere, Passes, is_byte}
use Rattle.bp_session.specs.Lines.{commands_from}
use Rattle.bp_script.specs.Commands.{command_of}
use Rattle.bp_session.specs.Gathering.{LineGathers}
use Rattle.bp_session.specs.Serving.{Moment, PieceOutcome}
use Rattle.bp_session.specs.declared.broken.Broken.{Broken}
use Rattle.bp_session.proofs.AheadLaws.{Waits, line_ends, line_waits, waits_run}
use Rattle.bp_session.proofs.OutcomeLaws.{piece_stops}
use Rattle.bp_session.proofs.ServingLaws.{commands_at_run, commands_kept, take_more, take_next}

module _ (xs : List ℕ) (from to : ℕ) where
  -- a byte of a part
  at_part : (k : ℕ) → k < to - from → get_or (take (to - from) (drop from xs)) k 0 ≡ get_or xs (from + k) 0
  at_part k low = get_or-take (to - from) (drop from xs) k 0 low ∙ get_or-drop from xs k 0

  module _ (order : from ≤ to) where
    pub take_part : take from xs ++ take (to - from) (drop from xs) ≡ take to xs
    take_part = let all : from + (to - from) ≡ to = omega (arith, order) in sym (take-add from (to - from) xs) ∙ ap (λ n. take n xs) all

  module _ (inside : to ≤ length xs) where
    size : length (take (to - from) (drop from xs)) ≡ to - from
    size = omega (arith, inside, length-take (to - from) (drop from xs), length-drop from xs)

    module _ (test : ℕ → Bool) where
      passes_not : (k : ℕ) → from ≤ k → k < to → ¬ Passes test (take (to - from) (drop from xs)) (k - from) → ¬ Passes test xs k
      passes_not k low high fails holds =
          let place : from + (k - from) ≡ k = omega (arith, low) in
          fails (ap test (at_part (k - from) (omega (arith, low, high)) ∙ ap (λ n. get_or xs n 0) place) ∙ holds)

      pub none_in : IsFirstByte test (take (to - from) (drop from xs)) None → IsFirst (Passes test xs) from to None
      none_in nowhere k low high = passes_not k low high (nowhere (k - from) (omega arith) (omega (arith, size, low, high)))

      pub found_in : (i : ℕ) → IsFirstByte test (take (to - from) (drop from xs)) (Some i) → IsFirst (Passes test xs) from to (Some (from + i))
      found_in i found = (
        record {
          low = omega arith;
          high = omega (arith, size, found.0.high);
          before = λ k low high. passes_not k low (omega (arith, size, found.0.high, high)) (found.0.before (k - from) (omega arith) (omega (arith, low, high)));
        },
        ap test (sym (at_part i (omega (arith, size, found.0.high)))) ∙ found.1,
      )

    -- what a part with no newline adds to a line
    pub commands_of_part : (held rest : List ℕ) → Nowhere (Passes (is_byte 10) xs) from to
        → commands_from held (take (to - from) (drop from xs) ++ rest) ≡ commands_from (take (max_line + 1) (held ++ take (to - from) (drop from xs))) rest
    commands_of_part held rest nowhere = commands_at_run held (take (to - from) (drop from xs)) rest quiet ∙ commands_kept (held ++ take (to - from) (drop from xs)) rest
      where
        quiet : (k : ℕ) → k < length (take (to - from) (drop from xs)) → nat_eq (get_or (take (to - from) (drop from xs)) k 0) 10 ≡ false
        quiet k low = go (nat_eq (get_or (take (to - from) (drop from xs)) k 0) 10) refl
          where
            inner : k < to - from
            inner = omega (arith, size, low)

            go : (b : Bool) → nat_eq (get_or (take (to - from) (drop from xs)) k 0) 10 ≡ b → nat_eq (get_or (take (to - from) (drop from xs)) k 0) 10 ≡ false
            go true e = absurd (nowhere (from + k) (omega arith) (omega (arith, inner)) (ap (λ b. nat_eq b 10) (sym (at_part k inner)) ∙ e))
            go false e = e

-- a line that a fault ends
pub line_stops : {S : Type 0} (it : Behaviour S) (ended : Option Broken) (most : ℕ) (xs held keeps : List ℕ) (next count : ℕ) (a b : Moment S) → ¬ (ended ≡ None) → next ≤ count → PieceOutcome it ended most held (take next xs) keeps a b → PieceOutcome it ended most held (take count xs) keeps a b
line_stops it ended most xs held keeps next count a b other low one =
    subst (λ (l : List ℕ). PieceOutcome it ended most held l keeps a b) (take_more xs next count low)
    (piece_stops it ended most held (take next xs) (drop next (take count xs)) keeps keeps a b other one)

-- ---- a piece, run by run

module _ {S : Type 0} (it : Behaviour S) (start : Moment S) (most : ℕ) (xs held middle kept a : List ℕ) (at end : ℕ) (now : Moment S) (order : at ≤ end) (one : Waits it start most held (take at xs) middle a now)
    (same : (rest : List ℕ) → commands_from middle (take (end - at) (drop at xs) ++ rest) ≡ commands_from kept rest) where
  pub run_waits : Waits it start most held (take end xs) kept a now
  run_waits = subst (λ (l : List ℕ). Waits it start most held l kept a now) (take_part xs at end order) (waits_run it start most held (take at xs) middle a now one (take (end - at) (drop at xs)) kept same)

  module _ (low : end < length xs) (newline : get_or xs end 0 ≡ 10) (b : List ℕ) (new : Moment S) where
    next : take end xs ++ 10 ∷ [] ≡ take (end + 1) xs
    next = sym (take_next xs end 10 low (sym newline))

    pub next_waits : (most ≡ 0 → b ≡ []) → LineGathers it None (command_of kept) a b now new → Waits it start most held (take (end + 1) xs) [] b new
    next_waits few line = subst (λ (l : List ℕ). Waits it start most held l [] b new) next (line_waits it start most held (take end xs) kept a now run_waits new b few line)

    pub next_ends : (ended : Option Broken) (count : ℕ) (keeps : List ℕ) → ¬ (ended ≡ None) → end + 1 ≤ count → LineGathers it ended (command_of kept) a b now new → PieceOutcome it ended most held (take count xs) keeps start new
    next_ends ended count keeps other inside line =
        line_stops it ended most xs held keeps (end + 1) count start new other inside
        (subst (λ (l : List ℕ). PieceOutcome it ended most held l keeps start new) next (line_ends it start most held (take end xs) kept a now run_waits new ended b keeps other line))
