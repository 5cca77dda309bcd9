-- Pieces written one after the other.
use Rattle.std.proofs.Common.{◌≡◌, ℕ, ◌+◌, ◌<◌, ◌≤◌, List, [], ◌∷◌, ◌++◌, flat_map, length, length-append, get_or, take, drop, sym, ◌∙◌, ap, ap₂, arith, Bor}
use Rattle.std.proofs.lemmas.List.{take_more, append-nil, append_assoc, length-take-le, take_at}
use Rattle.std.proofs.lemmas.Slice.{drop-append-drop}
use Rattle.std.proofs.lemmas.List.Concat.{flat_map-append}
use Rattle.std.proofs.lemmas.List.Folds.{length-flat_map-take}

abbrev pub joined : List (Bor (List ℕ)) → List ℕ
joined pieces = flat_map (λ piece. piece.now) pieces

pub joined_more : (pieces : List (Bor (List ℕ))) (i : ℕ) (d : Bor (List ℕ)) → i < length pieces → joined (take (i + 1) pieces) ≡ joined (take i pieces) ++ (get_or pieces i d).now
joined_more pieces i d low =
    ap joined (take_more pieces i d low) ∙ flat_map-append (λ piece. piece.now) (take i pieces) (get_or pieces i d ∷ [])
    ∙ ap (λ x. joined (take i pieces) ++ x) (append-nil (get_or pieces i d).now)

-- there is room for the next piece
pub piece_fits : (pieces : List (Bor (List ℕ))) (i at : ℕ) (d : Bor (List ℕ)) (into first : List ℕ) → i < length pieces → length (joined pieces) ≤ length into →
    at ≡ length (joined (take i pieces)) → at + length (get_or pieces i d).now ≤ length into
piece_fits pieces i at d into first low room end = omega (arith, length-flat_map-take (λ (piece : Bor (List ℕ)). piece.now) pieces i d low)

-- a piece after what was written
pub piece_placed : (before piece into first new : List ℕ) (at end : ℕ) → into ≡ before ++ drop at first → at ≡ length before →
    new ≡ take at into ++ piece ++ drop (at + length piece) into → end ≡ at + length piece → new ≡ (before ++ piece) ++ drop end first
piece_placed before piece into first new at end is len put ends =
    let same : length before ≡ at = sym len in
    let prefix : take at into ≡ before = ap (take at) is ∙ take_at before (drop at first) at same in
    let back : drop (at + length piece) into ≡ drop end first =
    ap (drop (at + length piece)) is ∙ drop-append-drop at first before (at + length piece) (omega arith) same ∙ ap (λ n. drop n first) (sym ends) in
    put ∙ ap₂ (λ x y. x ++ piece ++ y) prefix back

-- two pieces at a place
pub two_placed : (first one two middle new : List ℕ) (at mid end : ℕ) → at ≤ length first → middle ≡ take at first ++ one ++ drop (at + length one) first → mid ≡ at + length one →
    new ≡ take mid middle ++ two ++ drop (mid + length two) middle → end ≡ mid + length two → new ≡ take at first ++ one ++ two ++ drop (at + length one + length two) first
two_placed first one two middle new at mid end inside put mid_is also end_is =
    let long : length (take at first) ≡ at = length-take-le at first inside in
    let last : end ≡ at + length one + length two = omega (arith, mid_is, end_is) in
    piece_placed (take at first ++ one) two middle first new mid end (put ∙ ap (λ n. take at first ++ one ++ drop n first) (sym mid_is)) (omega (arith, mid_is, long, length-append (take at first) one)) also end_is
    ∙ ap (λ n. take at first ++ one ++ two ++ drop n first) last

-- a space and a piece after what was written to the prefix
pub spaced_placed : (before piece into first new : List ℕ) (at end : ℕ) → into ≡ before ++ drop at first → at ≡ length before →
    new ≡ take at into ++ 32 ∷ [] ++ piece ++ drop (at + 1 + length piece) into → end ≡ at + 1 + length piece → new ≡ before ++ 32 ∷ [] ++ piece ++ drop end first
spaced_placed before piece into first new at end is len put ends =
    let more : at + 1 + length piece ≡ at + length (32 ∷ piece) = omega arith in
    piece_placed before (32 ∷ piece) into first new at end is len
    (put ∙ ap (λ xs. xs ++ drop (at + 1 + length piece) into) (append_assoc (take at into) (32 ∷ []) piece) ∙ ap (λ n. take at into ++ (32 ∷ piece) ++ drop n into) more)
    (ends ∙ more)
    ∙ ap (λ xs. xs ++ drop end first) (sym (append_assoc before (32 ∷ []) piece))
