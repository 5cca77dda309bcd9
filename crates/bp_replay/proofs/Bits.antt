-- The places of a mask, and those up to the last true one.
use Rattle.std.proofs.Common.{◌≡◌, ℕ, zero, suc, ◌+◌, ◌*◌, ◌/◌, ◌%◌, ◌^◌, ◌<◌, Bool, true, false, cond, Some, List, [], ◌∷◌, ◌++◌, length, take, get_or, refl, sym, ◌∙◌, ap, arith}
use Rattle.std.specs.List.{slice_get}
use Rattle.std.proofs.lemmas.List.{length-take, take_all, take_more}
use Rattle.std.proofs.lemmas.Option.{slice_get_within, get_or_from_slice_get}
use Rattle.bp_replay.specs.Wanted.{bit, bits, cons_trimmed, trimmed}

pub length-bits : (bytes : List ℕ) → length (bits bytes) ≡ 8 * length bytes
length-bits [] = omega arith
length-bits (byte ∷ bytes) = let more = length-bits bytes in omega arith

-- the bit of a place: of its byte, the one with its value
pub bit_at : (bytes : List ℕ) (place : ℕ) → place < 8 * length bytes → slice_get (bits bytes) place ≡ Some (bit (get_or bytes (place / 8) 0) (2 ^ (place % 8)))
bit_at [] place low = absurd (omega arith)
bit_at (byte ∷ bytes) zero low = refl
bit_at (byte ∷ bytes) (suc zero) low = refl
bit_at (byte ∷ bytes) (suc (suc zero)) low = refl
bit_at (byte ∷ bytes) (suc (suc (suc zero))) low = refl
bit_at (byte ∷ bytes) (suc (suc (suc (suc zero)))) low = refl
bit_at (byte ∷ bytes) (suc (suc (suc (suc (suc zero))))) low = refl
bit_at (byte ∷ bytes) (suc (suc (suc (suc (suc (suc zero)))))) low = refl
bit_at (byte ∷ bytes) (suc (suc (suc (suc (suc (suc (suc zero))))))) low = refl
bit_at (byte ∷ bytes) (suc (suc (suc (suc (suc (suc (suc (suc place)))))))) low =
    let whole : suc (suc (suc (suc (suc (suc (suc (suc place))))))) / 8 ≡ suc (place / 8) = omega arith in
    let rest : suc (suc (suc (suc (suc (suc (suc (suc place))))))) % 8 ≡ place % 8 = omega arith in
    rw (whole, rest) (bit_at bytes place (omega arith))

-- what is left of a prefix
trimmed_is_prefix : (places : List Bool) → trimmed places ≡ take (length (trimmed places)) places
trimmed_is_prefix [] = refl
trimmed_is_prefix (false ∷ places) = go (trimmed places) (trimmed_is_prefix places)
  where
    go : (rest : List Bool) → rest ≡ take (length rest) places → cons_trimmed false rest ≡ take (length (cons_trimmed false rest)) (false ∷ places)
    go [] is = refl
    go (place ∷ rest) is = ap (λ ps. false ∷ ps) is
trimmed_is_prefix (true ∷ places) = ap (λ ps. true ∷ ps) (trimmed_is_prefix places)

pub trimmed_from : (places : List Bool) (count : ℕ) → count ≡ length (trimmed places) → take count places ≡ trimmed places
trimmed_from places count is = rw is (sym (trimmed_is_prefix places))

-- one more place
trimmed-false : (places : List Bool) → trimmed (places ++ false ∷ []) ≡ trimmed places
trimmed-false [] = refl
trimmed-false (place ∷ places) = ap (cons_trimmed place) (trimmed-false places)

length-cons_trimmed : (place : Bool) (rest : List Bool) → 0 < length rest → length (cons_trimmed place rest) ≡ suc (length rest)
length-cons_trimmed true rest some = refl
length-cons_trimmed false [] some = absurd (omega arith)
length-cons_trimmed false (next ∷ rest) some = refl

length-trimmed-true : (places : List Bool) → length (trimmed (places ++ true ∷ [])) ≡ length places + 1
length-trimmed-true [] = omega arith
length-trimmed-true (place ∷ places) =
    let more = length-trimmed-true places in
    length-cons_trimmed place (trimmed (places ++ true ∷ [])) (omega (arith, more)) ∙ omega (arith, more)

pub length-trimmed-more : (places : List Bool) (last : Bool) → length (trimmed (places ++ last ∷ [])) ≡ cond last (length places + 1) (length (trimmed places))
length-trimmed-more places true = length-trimmed-true places
length-trimmed-more places false = ap length (trimmed-false places)

-- the places below an index, and that one
pub take_next : (places : List Bool) (i : ℕ) (place : Bool) → slice_get places i ≡ Some place → take (i + 1) places ≡ take i places ++ place ∷ []
take_next places i place is =
    take_more places i place (slice_get_within places i place is)
    ∙ ap (λ p. take i places ++ p ∷ []) (get_or_from_slice_get places i place place is)

pub length-trimmed-next : (places : List Bool) (i : ℕ) (place : Bool) → slice_get places i ≡ Some place → length (trimmed (take (i + 1) places)) ≡ cond place (i + 1) (length (trimmed (take i places)))
length-trimmed-next places i place is =
    let low = slice_get_within places i place is in
    let count : length (take i places) ≡ i = omega (arith, length-take i places) in
    ap (λ ps. length (trimmed ps)) (take_next places i place is) ∙ length-trimmed-more (take i places) place ∙ ap (λ n. cond place (n + 1) (length (trimmed (take i places)))) count

pub places_of_bytes : (bytes : List ℕ) → take (8 * length bytes) (bits bytes) ≡ bits bytes
places_of_bytes bytes = take_all (8 * length bytes) (bits bytes) (omega (arith, length-bits bytes))
