-- A list into which bytes were written, byte by byte.
use Rattle.std.proofs.Common.{◌≡◌, ℕ, ◌+◌, ◌-◌, ◌<◌, ◌≤◌, max, List, ◌++◌, length, take, drop, replicate, get_or, ◌∙◌, ap, arith}
use Rattle.std.proofs.lemmas.List.{get_or-append_right, get_or-drop, get_or-take, get_or_append_left, length-append, length-drop, length-replicate, length-take}
use Rattle.bp_plain.specs.Plain.{written}

module _ (had : List ℕ) (offset : ℕ) (bytes : List ℕ) where
  abbrev pub zeros : List ℕ
  zeros = replicate (offset - length had) 0

  abbrev pub prefix : List ℕ
  prefix = take offset (had ++ zeros)

  abbrev pub rest : List ℕ
  rest = drop (offset + length bytes) had

  prefix_length : length prefix ≡ offset
  prefix_length = omega (arith, length-take offset (had ++ zeros), length-append had zeros, length-replicate {A = ℕ} (offset - length had) 0)

  both_length : length (prefix ++ bytes) ≡ offset + length bytes
  both_length = length-append prefix bytes ∙ ap (λ n. n + length bytes) prefix_length

  pub written_length : length (written had offset bytes) ≡ max (length had) (offset + length bytes)
  written_length = omega (arith, length-append (prefix ++ bytes) rest, both_length, length-drop (offset + length bytes) had)

  pub in_prefix : (o : ℕ) → o < offset → get_or (written had offset bytes) o 0 ≡ get_or (had ++ zeros) o 0
  in_prefix o before =
      get_or_append_left (prefix ++ bytes) rest 0 o (omega (arith, before, both_length))
      ∙ get_or_append_left prefix bytes 0 o (omega (arith, before, prefix_length))
      ∙ get_or-take offset (had ++ zeros) o 0 before

  -- where a byte stood
  pub in_prefix_had : (o : ℕ) → o < offset → o < length had → get_or (written had offset bytes) o 0 ≡ get_or had o 0
  in_prefix_had o before below = in_prefix o before ∙ get_or_append_left had zeros 0 o below

  pub in_bytes : (o : ℕ) → offset ≤ o → o < offset + length bytes → get_or (written had offset bytes) o 0 ≡ get_or bytes (o - offset) 0
  in_bytes o low high = get_or_append_left (prefix ++ bytes) rest 0 o (omega (arith, high, both_length)) ∙ get_or-append_right prefix bytes offset o 0 prefix_length low

  pub in_rest : (o : ℕ) → offset + length bytes ≤ o → get_or (written had offset bytes) o 0 ≡ get_or had o 0
  in_rest o past =
      let number : offset + length bytes + (o - (offset + length bytes)) ≡ o = omega (arith, past) in
      get_or-append_right (prefix ++ bytes) rest (offset + length bytes) o 0 both_length past
      ∙ get_or-drop (offset + length bytes) had (o - (offset + length bytes)) 0
      ∙ ap (λ k. get_or had k 0) number
