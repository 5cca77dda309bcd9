-- Words over which bytes lie.
use Rattle.std.proofs.Common.{◌≡◌, ℕ, ◌+◌, ◌-◌, ◌*◌, ◌/◌, ◌%◌, ◌^◌, ◌<◌, ◌≤◌, List, length, get_or, slice_index, refl, sym, ◌∙◌, ap, arith, inl, inr}
use Rattle.std.proofs.lemmas.Bool.{cases_lt, le-leb, le-ltb, lt-leb, lt-ltb}
use Rattle.std.proofs.lemmas.List.{get_or_past}
use Rattle.pm_words.specs.Bytes.{byte_of}
use Rattle.pm_words.specs.Overlay.{byte_over}
use Rattle.pm_words.proofs.ShiftLaws.{left-byte, past-byte, right-byte}

-- ---- one byte

module _ (from : ℕ) (bytes : List ℕ) (offset old : ℕ) where
  pub over_before : offset < from → byte_over from bytes offset old ≡ old
  over_before before = rw (lt-leb from offset before) refl

  pub over_there : from ≤ offset → offset < from + length bytes → byte_over from bytes offset old ≡ slice_index bytes (offset - from)
  over_there begun inside = rw (le-leb from offset begun, lt-ltb offset (from + length bytes) inside) refl

  pub over_past : from + length bytes ≤ offset → byte_over from bytes offset old ≡ old
  over_past past = rw (le-leb from offset (omega (arith, past)), le-ltb offset (from + length bytes) past) refl

-- the same, where a place among the bytes is reported in place of an offset
module _ (bytes : List ℕ) (at old : ℕ) where
  pub over_item : at < length bytes → byte_over 0 bytes at old ≡ slice_index bytes at
  over_item inside =
      let place : at - 0 ≡ at = omega arith in
      over_there 0 bytes at old (omega arith) (omega (arith, inside)) ∙ ap (slice_index bytes) place

  pub over_none : length bytes ≤ at → byte_over 0 bytes at old ≡ old
  over_none past = over_past 0 bytes at old (omega (arith, past))

pub over_moved : (from : ℕ) (bytes : List ℕ) (at offset old : ℕ) → offset ≡ from + at → byte_over 0 bytes at old ≡ byte_over from bytes offset old
over_moved from bytes at offset old is = elim (cases_lt at (length bytes)) [
  | inl inside ↦
      let place : at ≡ offset - from = omega (arith, is) in
      over_item bytes at old inside ∙ ap (slice_index bytes) place ∙ sym (over_there from bytes offset old (omega (arith, is)) (omega (arith, is, inside)))
  | inr past ↦ over_none bytes at old past ∙ sym (over_past from bytes offset old (omega (arith, is, past)))
]

-- ---- words

-- the last eight bytes, shifted down to a place among them
pub last-there : (word at c : ℕ) (bytes : List ℕ) → word < 18446744073709551616 → 8 ≤ length bytes → at < length bytes → length bytes < at + 8 →
    ((i : ℕ) → i < 8 → byte_of word i ≡ get_or bytes (length bytes - 8 + i) 0) → byte_of (word / 2 ^ (8 * (at + 8 - length bytes))) c ≡ get_or bytes (at + c) 0
last-there word at c bytes small enough inside ends is = right-byte word (at + 8 - length bytes) c ∙ elim (cases_lt (at + 8 - length bytes + c) 8) [
  | inl few ↦
      let index : length bytes - 8 + (at + 8 - length bytes + c) ≡ at + c = omega (arith, enough, ends) in
      is (at + 8 - length bytes + c) few ∙ ap (λ n. get_or bytes n 0) index
  | inr past ↦ past-byte word 8 (at + 8 - length bytes + c) small past ∙ sym (get_or_past bytes (at + c) 0 (omega (arith, past, enough, ends)))
]

-- the word at the offset from which the bytes lie, shifted up into one that begins before it
pub shifted_over : (result word old start from c : ℕ) (bytes : List ℕ) → start < from → ((i : ℕ) → i < from - start → byte_of result i ≡ byte_of old i) →
    ((i : ℕ) → from - start ≤ i → i < 8 → byte_of result i ≡ byte_of (word * 2 ^ (8 * (from - start)) % 18446744073709551616) i) →
    ((i : ℕ) → i < 8 → byte_of word i ≡ byte_over 0 bytes (0 + i) (byte_of (old / 2 ^ (8 * (from - start))) i)) → c < 8 → byte_of result c ≡ byte_over from bytes (start + c) (byte_of old c)
shifted_over result word old start from c bytes before kept rest is few = elim (cases_lt c (from - start)) [
  | inl early ↦ kept c early ∙ sym (over_before from bytes (start + c) (byte_of old c) (omega (arith, early)))
  | inr late ↦
      let sum : from - start + (c - (from - start)) ≡ c = omega (arith, late) in
      let place : start + c ≡ from + (0 + (c - (from - start))) = omega (arith, late, before) in
      rest c late few
      ∙ left-byte word (from - start) c few late
      ∙ is (c - (from - start)) (omega (arith, few))
      ∙ ap (byte_over 0 bytes (0 + (c - (from - start)))) (right-byte old (from - start) (c - (from - start)) ∙ ap (byte_of old) sum)
      ∙ over_moved from bytes (0 + (c - (from - start))) (start + c) (byte_of old c) place
]
