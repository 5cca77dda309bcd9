-- Slots of a leaf over which a run is laid, one after the other.
use Rattle.std.proofs.Common.{◌≡◌, ◌⊎◌, ℕ, List, ◌+◌, ◌-◌, ◌*◌, ◌<◌, ◌≤◌, length, map, get_or, set, ◌∙◌, refl, sym, ap, arith, inl, inr, get_or-set_other, get_or-set_same}
use Rattle.std.specs.List.{range_with_len}
use Rattle.std.proofs.lemmas.List.FromFn.{get_or-map-range_with_len, length-map-range_with_len}
use Rattle.std.proofs.lemmas.Bool.{cases_eq, cases_lt}
use Rattle.bp_cow.specs.declared.touched.Run.{Run}
use Rattle.bp_cow.specs.Touched.{LaysSlots, run_end, run_word}
use Rattle.bp_cow.proofs.RunLaws.{run_word-inside}

pub lays_none : (run : Run) (first at : ℕ) (old : List ℕ) → LaysSlots run first at at old old
lays_none run first at old = record {
  laid = λ slot low high. absurd (omega (arith, low, high));
  rest = λ slot any. refl;
}

-- one slot more
pub lays_one_more : (run : Run) (first from at value : ℕ) (old before : List ℕ) → at < length before → from ≤ at → value ≡ run_word run (first + at) (get_or old at 0) → LaysSlots run first from at old before →
    LaysSlots run first from (at + 1) old (set before at value)
lays_one_more run first from at value old before inside begun is lays = record {
  laid = λ slot low high. go slot low high (cases_eq slot at);
  rest = λ slot any.
      get_or-set_other before at slot value 0 (λ e. elim any [
        | inl early ↦ omega (arith, early, begun, e)
        | inr late ↦ omega (arith, late, e)
      ])
      ∙ lays.rest slot (elim any [
        | inl early ↦ inl early
        | inr late ↦ inr (omega (arith, late))
      ]);
}
  where
    go : (slot : ℕ) → from ≤ slot → slot < at + 1 → (slot ≡ at) ⊎ (slot ≡ at → ⊥) → get_or (set before at value) slot 0 ≡ run_word run (first + slot) (get_or old slot 0)
    go slot low high (inl e) = rw e (get_or-set_same before at value 0 inside ∙ is)
    go slot low high (inr other) = get_or-set_other before at slot value 0 other ∙ lays.laid slot low (omega (arith, high, other))

-- some slots, and then those that follow
pub lays_then : (run : Run) (first from middle to : ℕ) (old between new : List ℕ) → from ≤ middle → middle ≤ to → LaysSlots run first from middle old between → LaysSlots run first middle to between new →
    LaysSlots run first from to old new
lays_then run first from middle to old between new begun order one two = record {
  laid = λ slot low high. elim (cases_lt slot middle) [
    | inl early ↦ two.rest slot (inl early) ∙ one.laid slot low early
    | inr late ↦ two.laid slot late high ∙ ap (run_word run (first + slot)) (one.rest slot (inr late))
  ];
  rest = λ slot any. elim any [
    | inl early ↦ two.rest slot (inl (omega (arith, early, begun))) ∙ one.rest slot (inl early)
    | inr late ↦ two.rest slot (inr late) ∙ one.rest slot (inr (omega (arith, late, order)))
  ];
}

pub lays_empty : (run : Run) (first from to : ℕ) (old : List ℕ) → to ≤ from → LaysSlots run first from to old old
lays_empty run first from to old none = record {
  laid = λ slot low high. absurd (omega (arith, low, high, none));
  rest = λ slot any. refl;
}

-- what becomes of a word that lies in the run does not depend on what it was
pub run_word-covered : (run : Run) (k one other : ℕ) → run.offset ≤ 8 * k → 8 * k + 8 ≤ run_end run → run_word run k one ≡ run_word run k other
run_word-covered run k one other low high = sym (run_word-inside run k one bytes low high size item) ∙ run_word-inside run k other bytes low high size item
  where
    byte : ℕ → ℕ
    byte i = get_or run.bytes.now (8 * k - run.offset + i) 0

    bytes : List ℕ
    bytes = map byte (range_with_len 0 8)

    size : length bytes ≡ 8
    size = length-map-range_with_len byte 0 8

    item : (i : ℕ) → i < 8 → get_or bytes i 0 ≡ byte i
    item i few = get_or-map-range_with_len byte 0 8 i i 0 few (omega arith)
