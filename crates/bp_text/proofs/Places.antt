-- The first place of a text at which a byte passes.
use Rattle.std.proofs.Common.{◌≡◌, ℕ, ◌+◌, ◌-◌, ◌<◌, ◌≤◌, Bool, true, false, ◌||◌, ◌==◌, List, length, take, drop, position, slice_index, Option, None, Some, refl, sym, ap, ◌∙◌, arith, inl, inr}
use Rattle.std.specs.List.{position_or_len}
use Rattle.std.proofs.lemmas.Bool.{cases_lt, le-ltb, lt-ltb}
use Rattle.std.proofs.lemmas.List.{get_or-drop, get_or-take}
use Rattle.std.proofs.lemmas.List.Sums.{position_or_len_is}
use Rattle.memchr.specs.Find.{IsFirst, IsFirstByte, Nowhere, Passes, is_byte, is_byte2}

module _ (p : ℕ → Bool) where
  -- a place where the test does not hold
  fails_there : (xs : List ℕ) (k : ℕ) → ¬ Passes p xs k → p (slice_index xs k) ≡ false
  fails_there xs k fails = go (p (slice_index xs k)) refl
    where
      go : (b : Bool) → p (slice_index xs k) ≡ b → p (slice_index xs k) ≡ false
      go true e = absurd (fails e)
      go false e = e

  pub first_is_position : (xs : List ℕ) (found : Option ℕ) → IsFirstByte p xs found → found ≡ position p xs
  first_is_position xs None nowhere =
      let all : position_or_len p xs ≡ length xs =
      position_or_len_is p xs (length xs) 0 (omega arith) (λ k low. fails_there xs k (nowhere k (omega arith) low)) (λ low. absurd (omega (arith, low))) in
      rw (le-ltb (position_or_len p xs) (length xs) (omega (arith, all))) refl
  first_is_position xs (Some i) found =
      let at : position_or_len p xs ≡ i =
      position_or_len_is p xs i 0 (omega (arith, found.0.high)) (λ k low. fails_there xs k (found.0.before k (omega arith) low)) (λ low. found.1) in
      rw (lt-ltb (position_or_len p xs) (length xs) (omega (arith, at, found.0.high))) (ap Some (sym at))

  -- ---- after a place

  abbrev pub Here : List ℕ → ℕ → Type 0
  Here xs k = Passes p xs k

  moved : (xs : List ℕ) (at k : ℕ) → at + k < length xs → slice_index (take (length xs - at) (drop at xs)) k ≡ slice_index xs (at + k)
  moved xs at k inside = get_or-take (length xs - at) (drop at xs) k 0 (omega (arith, inside)) ∙ get_or-drop at xs k 0

  passes_after : (xs : List ℕ) (at k : ℕ) → at ≤ k → k < length xs → Passes p xs k → Passes p (take (length xs - at) (drop at xs)) (k - at)
  passes_after xs at k low high passes =
      let back : at + (k - at) ≡ k = omega (arith, low) in
      ap p (moved xs at (k - at) (omega (arith, low, high)) ∙ ap (slice_index xs) back) ∙ passes

  before_too : (xs : List ℕ) (i at n k : ℕ) → at + k ≤ length xs → Nowhere (Here xs) i at → Nowhere (Here (take (length xs - at) (drop at xs))) 0 k → Nowhere (Here xs) i (at + k)
  before_too xs i at n k room quiet beyond j low high passes =
      elim (cases_lt j at) [
        | inl early ↦ quiet j low early passes
        | inr late ↦ beyond (j - at) (omega arith) (omega (arith, late, high)) (passes_after xs at j late (omega (arith, high, room)) passes)
      ]

  pub none_after : (xs : List ℕ) (i at n : ℕ) → at + n ≤ length xs → Nowhere (Here xs) i at → IsFirst (Here (take (length xs - at) (drop at xs))) 0 n None → Nowhere (Here xs) i (at + n)
  none_after xs i at n room quiet nowhere = before_too xs i at n n room quiet nowhere

  pub found_after : (xs : List ℕ) (i at n k : ℕ) → i ≤ at → at + n ≤ length xs → Nowhere (Here xs) i at → IsFirst (Here (take (length xs - at) (drop at xs))) 0 n (Some k)
      → IsFirst (Here xs) i (length xs) (Some (at + k))
  found_after xs i at n k low room quiet found =
      let inside : at + k < length xs = omega (arith, room, found.0.high) in (
        record {
          low = omega (arith, low);
          high = inside;
          before = before_too xs i at n k (omega (arith, inside)) quiet found.0.before;
        },
        sym (ap p (moved xs at k inside)) ∙ found.1,
      )

  pub further : (xs : List ℕ) (at n : ℕ) (found : Option ℕ) → Nowhere (Here xs) 0 at → IsFirst (Here xs) at n found → IsFirst (Here xs) 0 n found
  further xs at n None quiet nowhere = λ j low high passes. elim (cases_lt j at) [ inl early ↦ quiet j low early passes | inr late ↦ nowhere j late high passes ]
  further xs at n (Some k) quiet found = (
    record {
      low = omega arith;
      high = found.0.high;
      before = λ j low high passes. elim (cases_lt j at) [ inl early ↦ quiet j low early passes | inr late ↦ found.0.before j late high passes ];
    },
    found.1,
  )

-- a byte of one kind is one of either of two that are the same
either_self : (t : Bool) → (t || t) ≡ t
either_self true = refl
either_self false = refl

pub of_one : (byte i j : ℕ) (xs : List ℕ) (found : Option ℕ) → IsFirst (Passes (is_byte2 byte byte) xs) i j found → IsFirst (Passes (is_byte byte) xs) i j found
of_one byte i j xs None nowhere = λ k low high passes. nowhere k low high (either_self _ ∙ passes)
of_one byte i j xs (Some k) found =
    (record { low = found.0.low; high = found.0.high; before = λ n low high passes. found.0.before n low high (either_self _ ∙ passes) }, sym (either_self _) ∙ found.1)

pub of_both : (byte i j : ℕ) (xs : List ℕ) (found : Option ℕ) → IsFirst (Passes (is_byte byte) xs) i j found → IsFirst (Passes (is_byte2 byte byte) xs) i j found
of_both byte i j xs None nowhere = λ k low high passes. nowhere k low high (sym (either_self _) ∙ passes)
of_both byte i j xs (Some k) found =
    (record { low = found.0.low; high = found.0.high; before = λ n low high passes. found.0.before n low high (sym (either_self _) ∙ passes) }, either_self _ ∙ found.1)

-- where a search that takes the byte for both kinds finds it
pub one_is_position : (byte : ℕ) (xs : List ℕ) (found : Option ℕ) → IsFirst (Passes (is_byte2 byte byte) xs) 0 (length xs) found → found ≡ position (λ b. b == byte) xs
one_is_position byte xs found first = first_is_position (is_byte byte) xs found (of_one byte 0 (length xs) xs found first)
