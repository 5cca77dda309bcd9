-- The calls that make a file, reported stretch by stretch.
use Rattle.std.proofs.Common.{◌≡◌, ◌⊎◌, ℕ, zero, suc, ◌+◌, ◌-◌, ◌*◌, ◌/◌, ◌<◌, ◌≤◌, ◌==◌, ◌&&◌, List, [], ◌∷◌, ◌++◌, length, Bool, true, false, nat_lt, min, Option, None, Some, if◌then◌else◌, refl, sym, ◌∙◌, subst, ap, ap₂, arith, inl, inr, true≢false, eq-eqb, append-nil}
use Rattle.std.specs.Option.{unwrap_or}
use Rattle.std.proofs.lemmas.Bool.{cases_lt, eqb-true, ltb-false, ltb-true}
use Rattle.bp_limits.specs.Limits.{block_size}
use Rattle.bp_plain.specs.Calls.{Call}
use Rattle.bp_plain.specs.Calls.Call.{truncate, write}
use Rattle.bp_plain.specs.Export.{is_zeros, size_call, stretch, stretches, write_of, writes_of}
use Rattle.bp_export.specs.Report.{size_after, write_end}
use Rattle.bp_export.proofs.CallsInRow.{calls_from, calls_until, one_more, split_after}

-- ---- the writes of the first stretches

module _ (text bytes : List ℕ) where
  abbrev pub writes_until : ℕ → List Call
  writes_until k = calls_until (write_of text bytes) k

  -- a stretch of zeros has no write, and each other one has its own
  pub no_write : (k : ℕ) → is_zeros (stretch bytes k) ≡ true → write_of text bytes k ≡ []
  no_write k zeros = rw zeros refl

  pub one_write : (k : ℕ) (part : List ℕ) → part ≡ stretch bytes k → is_zeros (stretch bytes k) ≡ false → write text (block_size * k) part ∷ [] ≡ write_of text bytes k
  one_write k part is other = rw (is, other) refl

  passed : (k n : ℕ) → ((j : ℕ) → k ≤ j → j < k + n → is_zeros (stretch bytes j) ≡ true) → writes_until (k + n) ≡ writes_until k
  passed k zero zeros = let same : k + 0 ≡ k = omega arith in ap writes_until same
  passed k (suc n) zeros =
      let same : k + suc n ≡ k + n + 1 = omega arith in
      ap writes_until same ∙ one_more (write_of text bytes) (k + n)
      ∙ ap₂ (λ xs ys. xs ++ ys) (passed k n (λ j low high. zeros j low (omega (arith, high)))) (no_write (k + n) (zeros (k + n) (omega arith) (omega arith)))
      ∙ append-nil (writes_until k)

  pub passed_to : (k m : ℕ) → k ≤ m → ((j : ℕ) → k ≤ j → j < m → is_zeros (stretch bytes j) ≡ true) → writes_until m ≡ writes_until k
  passed_to k m low zeros =
      let same : m ≡ k + (m - k) = omega (arith, low) in
      ap writes_until same ∙ passed k (m - k) (λ j following before. zeros j following (omega (arith, before, low)))

  -- up to a stretch after stretches of zeros
  pub written_to : (k leaf : ℕ) → k ≤ leaf → ((j : ℕ) → k ≤ j → j < leaf → is_zeros (stretch bytes j) ≡ true) → writes_until (leaf + 1) ≡ writes_until k ++ write_of text bytes leaf
  written_to k leaf low zeros = one_more (write_of text bytes) leaf ∙ ap (λ calls. calls ++ write_of text bytes leaf) (passed_to k leaf low zeros)

  abbrev pub following : ℕ → List Call
  following leaf = calls_from (write_of text bytes) (leaf + 1) (stretches bytes - (leaf + 1))

  pub written_whole : (k leaf : ℕ) → k ≤ leaf → leaf < stretches bytes → ((j : ℕ) → k ≤ j → j < leaf → is_zeros (stretch bytes j) ≡ true) → (writes_until k ++ write_of text bytes leaf) ++ following leaf ≡ writes_of text bytes
  written_whole k leaf low live zeros = sym (split_after (write_of text bytes) leaf (stretches bytes) live ∙ ap (λ calls. calls ++ following leaf) (written_to k leaf low zeros))

-- ---- where the last stretch that was reported ends

-- Once the first stretches are reported: the reported one ends with the file just where the last stretch isn't zeros, if all are reported.
pub record ReportedTo (bytes : List ℕ) (k noted : ℕ) : Type 0 where
  pub whole : noted ≡ length bytes → 0 < length bytes → is_zeros (stretch bytes (stretches bytes - 1)) ≡ false
  pub low : noted ≤ length bytes
  pub last : stretches bytes ≤ k → is_zeros (stretch bytes (stretches bytes - 1)) ≡ false → noted ≡ length bytes

pub reported_none : (bytes : List ℕ) → ReportedTo bytes 0 0
reported_none bytes = record {
  low = omega arith;
  whole = λ is some. absurd (omega (arith, is, some));
  last = λ low other. omega (arith, low);
}

pub reported_zeros : (bytes : List ℕ) (k leaf noted : ℕ) → block_size * leaf < length bytes → ReportedTo bytes k noted → is_zeros (stretch bytes leaf) ≡ true → ReportedTo bytes (leaf + 1) noted
reported_zeros bytes k leaf noted live before zeros = record { whole = before.whole; low = before.low; last = last }
  where
    last : stretches bytes ≤ leaf + 1 → is_zeros (stretch bytes (stretches bytes - 1)) ≡ false → noted ≡ length bytes
    last low other =
        let here : (length bytes + 4095) / 4096 - 1 ≡ leaf = omega (arith, live, low) in
        absurd (true≢false (sym zeros ∙ ap (λ j. is_zeros (stretch bytes j)) (sym here) ∙ other))

pub reported_written : (bytes : List ℕ) (leaf : ℕ) → block_size * leaf < length bytes → is_zeros (stretch bytes leaf) ≡ false → ReportedTo bytes (leaf + 1) (min (block_size * leaf + block_size) (length bytes))
reported_written bytes leaf live other = record { whole = whole; low = omega arith; last = λ low more. omega (arith, low) }
  where
    whole : min (4096 * leaf + 4096) (length bytes) ≡ length bytes → 0 < length bytes → is_zeros (stretch bytes (stretches bytes - 1)) ≡ false
    whole is some =
        let here : (length bytes + 4095) / 4096 - 1 ≡ leaf = omega (arith, live, is) in
        ap (λ j. is_zeros (stretch bytes j)) here ∙ other

pub end_known : (bytes : List ℕ) (leaf size : ℕ) (b : Bool) → is_zeros (stretch bytes leaf) ≡ b → write_end bytes leaf size ≡ (if b then None else Some (min (block_size * leaf + block_size) size))
end_known bytes leaf size b is = ap (λ (t : Bool). if t then None else Some (min (4096 * leaf + 4096) size)) is

pub reported_next : (bytes : List ℕ) (k leaf noted size : ℕ) (end : Option ℕ) → length bytes ≡ size → block_size * leaf < size → ReportedTo bytes k noted → end ≡ write_end bytes leaf size → ReportedTo bytes (leaf + 1) (unwrap_or end noted)
reported_next bytes k leaf noted size end len live before is = go (is_zeros (stretch bytes leaf)) refl
  where
    low : 4096 * leaf < length bytes
    low = omega (arith, len, live)

    go : (b : Bool) → is_zeros (stretch bytes leaf) ≡ b → ReportedTo bytes (leaf + 1) (unwrap_or end noted)
    go true at = subst (λ e. ReportedTo bytes (leaf + 1) (unwrap_or e noted)) (sym (is ∙ end_known bytes leaf size true at)) (reported_zeros bytes k leaf noted low before at)
    go false at =
        subst (λ e. ReportedTo bytes (leaf + 1) (unwrap_or e noted)) (sym (is ∙ end_known bytes leaf size false at))
        (subst (λ n. ReportedTo bytes (leaf + 1) (min (4096 * leaf + 4096) n)) len (reported_written bytes leaf low at))

-- after the last leaf that is there
pub size_reported : (text bytes : List ℕ) (k noted : ℕ) → ReportedTo bytes k noted → ((j : ℕ) → k ≤ j → block_size * j < length bytes → is_zeros (stretch bytes j) ≡ true) → size_after text noted (length bytes) ≡ size_call text bytes
size_reported text bytes k noted before zeros = go (noted == length bytes) refl (nat_lt 0 (length bytes)) refl (is_zeros (stretch bytes (stretches bytes - 1))) refl
  where
    following : 0 < length bytes → is_zeros (stretch bytes (stretches bytes - 1)) ≡ false → noted ≡ length bytes
    following some other = by (cases_lt k (stretches bytes))
      where
        by : (k < stretches bytes) ⊎ (stretches bytes ≤ k) → noted ≡ length bytes
        by (inl early) = absurd (true≢false (sym (zeros (stretches bytes - 1) (omega (arith, early)) (omega (arith, some))) ∙ other))
        by (inr all) = before.last all other

    go : (d : Bool) → (noted == length bytes) ≡ d → (c : Bool) → nat_lt 0 (length bytes) ≡ c → (b : Bool) → is_zeros (stretch bytes (stretches bytes - 1)) ≡ b
        → (if d then [] else truncate text (length bytes) ∷ []) ≡ (if c && b then truncate text (length bytes) ∷ [] else [])
    go true is false none b at = refl
    go true is true some false at = refl
    go true is true some true at = absurd (true≢false (sym at ∙ before.whole (eqb-true noted (length bytes) is) (ltb-true 0 (length bytes) some)))
    go false is false none b at =
        let same : noted ≡ length bytes = omega (arith, before.low, ltb-false 0 (length bytes) none) in
        absurd (true≢false (sym (eq-eqb noted (length bytes) same) ∙ is))
    go false is true some true at = refl
    go false is true some false at = absurd (true≢false (sym (eq-eqb noted (length bytes) (following (ltb-true 0 (length bytes) some) at)) ∙ is))
