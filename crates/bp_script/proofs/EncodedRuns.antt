-- Bytes that are written as hexadecimal digits many at a time.
use Rattle.std.proofs.Common.{◌≡◌, ℕ, zero, suc, ◌+◌, ◌-◌, ◌*◌, ◌/◌, ◌%◌, ◌<◌, ◌≤◌, cond, get_or, List, [], ◌∷◌, ◌++◌, map, length, take, drop, replicate, slice_index, Bool, false, refl, sym, ap, ◌∙◌, arith, Fits, w8}
use Rattle.std.specs.List.{range_with_len}
use Rattle.std.proofs.lemmas.Bool.{lt-leb}
use Rattle.std.proofs.lemmas.List.{append_assoc, append-nil, drop_all, take_all, take-append-drop, length-drop}
use Rattle.std.proofs.lemmas.Simd.{pick_l_whole, length-put_chunk, take_more_put_chunk, swz_l, SwzOk, SwzOk-from_below}
use Rattle.std.proofs.Math.Seq.{drop-drop}
use Rattle.hex.specs.Hex.{encode_lower, encode_with, lower_digits}
use lib.Lanes.{Each1, zip2, pick_l, put_chunk}
use mir.Val.{zeroes}

-- a table of sixteen, read at places of its own
pub low_places : (vs : List ℕ) → length vs ≡ 16 → Each1 (λ v. v < 16) vs → SwzOk w8 16 16 0 vs
low_places vs long low = SwzOk-from_below w8 16 1 16 0 vs refl (omega (arith, long)) low

looked_up : (i : ℕ) (vs : List ℕ) → i + length vs ≤ 16 → Each1 (λ v. v < 16) vs
    → swz_l w8 16 lower_digits i vs ≡ map (λ v. slice_index lower_digits v) vs
looked_up i [] fits low = refl
looked_up i (v ∷ vs) fits low =
    let whole : zeroes 16 w8 v ≡ false = lt-leb 128 v (omega (arith, low.0)) in
    let first : 16 * (i / 16) + v ≡ v = omega (arith, fits) in
    ap (λ (t : Bool). cond t 0 (get_or lower_digits (16 * (i / 16) + v) 0) ∷ swz_l w8 16 lower_digits (suc i) vs) whole
    ∙ ap (λ (k : ℕ). get_or lower_digits k 0 ∷ swz_l w8 16 lower_digits (suc i) vs) first
    ∙ ap (λ (ds : List ℕ). slice_index lower_digits v ∷ ds) (looked_up (suc i) vs (omega (arith, fits)) low.1)

pub digits_are : (vs : List ℕ) → length vs ≡ 16 → Each1 (λ v. v < 16) vs
    → swz_l w8 16 lower_digits 0 vs ≡ map (λ v. slice_index lower_digits v) vs
digits_are vs long low = looked_up 0 vs (omega (arith, long)) low

pub highs_low : (n : ℕ) (w : List ℕ) → Each1 (Fits w8) w → Each1 (λ v. v < 16) (zip2 (λ a b. a / b) w (replicate n 16))
highs_low zero [] fits = tt
highs_low zero (b ∷ w) fits = tt
highs_low (suc n) [] fits = tt
highs_low (suc n) (b ∷ w) fits = (omega (arith, fits.0.fits), highs_low n w fits.1)

pub lows_low : (n : ℕ) (w : List ℕ) → Each1 (λ v. v < 16) (zip2 (λ a b. a % b) w (replicate n 16))
lows_low zero [] = tt
lows_low zero (b ∷ w) = tt
lows_low (suc n) [] = tt
lows_low (suc n) (b ∷ w) = (omega arith, lows_low n w)

abbrev as_digits : List ℕ → List ℕ
as_digits vs = map (λ v. slice_index lower_digits v) vs

-- the digits of a run, in order
abbrev woven : List ℕ → List ℕ → List ℕ
woven h l =
    pick_l 0 (h ++ l) (0 ∷ 16 ∷ 1 ∷ 17 ∷ 2 ∷ 18 ∷ 3 ∷ 19 ∷ 4 ∷ 20 ∷ 5 ∷ 21 ∷ 6 ∷ 22 ∷ 7 ∷ 23 ∷ [])
    ++ pick_l 0 (h ++ l) (8 ∷ 24 ∷ 9 ∷ 25 ∷ 10 ∷ 26 ∷ 11 ∷ 27 ∷ 12 ∷ 28 ∷ 13 ∷ 29 ∷ 14 ∷ 30 ∷ 15 ∷ 31 ∷ [])

woven_is : (e : List ℕ) (w : List ℕ) → e ≡ pick_l 0 w (range_with_len 0 16)
    → woven (as_digits (zip2 (λ a b. a / b) e (replicate 16 16))) (as_digits (zip2 (λ a b. a % b) e (replicate 16 16))) ≡ encode_with lower_digits e
unfolding encode_with
woven_is e w is = rw is refl

pub run_encoded : (w h l : List ℕ) → length w ≡ 16
    → h ≡ as_digits (zip2 (λ a b. a / b) w (replicate 16 16)) → l ≡ as_digits (zip2 (λ a b. a % b) w (replicate 16 16))
    → woven h l ≡ encode_with lower_digits w
run_encoded w h l long is_h is_l = ap (λ x. woven x l) is_h ∙ ap (λ x. woven (as_digits (zip2 (λ a b. a / b) w (replicate 16 16))) x) is_l ∙ woven_is w w (sym (pick_l_whole 0 w 16 long))

encoded_joined : (t xs ys : List ℕ) → encode_with t (xs ++ ys) ≡ encode_with t xs ++ encode_with t ys
unfolding encode_with
encoded_joined t [] ys = refl
encoded_joined t (x ∷ xs) ys = ap (λ r. slice_index t (x / 16) ∷ slice_index t (x % 16) ∷ r) (encoded_joined t xs ys)

pub encoded_parted : (n : ℕ) (s : List ℕ) → encode_lower (take n s) ++ encode_lower (drop n s) ≡ encode_lower s
encoded_parted n s = sym (encoded_joined lower_digits (take n s) (drop n s)) ∙ ap encode_lower (take-append-drop n s)

pub run_written : (s out f g : List ℕ) (i : ℕ) → length f ≡ 16 → length g ≡ 16 → 32 * i + 32 ≤ length out → 16 * i + 16 ≤ length s
    → f ++ g ≡ encode_lower (take 16 (take (length s - 16 * i) (drop (16 * i) s)))
    → take (32 * i) out ++ encode_lower (drop (16 * i) s) ≡ encode_lower s
    → take (32 * (i + 1)) (put_chunk (32 * i + 16) (put_chunk (32 * i) out f) g) ++ encode_lower (drop (16 * (i + 1)) s) ≡ encode_lower s
run_written s out f g i long_f long_g room fits is so_far =
    let whole = take_all (length s - 16 * i) (drop (16 * i) s) (omega (arith, length-drop (16 * i) s)) in
    let reported : f ++ g ≡ encode_lower (take 16 (drop (16 * i) s)) = rw whole at is in
    let len = length-put_chunk (32 * i) out f in
    let second = take_more_put_chunk (32 * i + 16) (put_chunk (32 * i) out f) g (32 * (i + 1)) (omega (arith, long_g)) (omega (arith, len)) in
    let first = take_more_put_chunk (32 * i) out f (32 * i + 16) (omega (arith, long_f)) (omega arith) in
    let on : drop 16 (drop (16 * i) s) ≡ drop (16 * (i + 1)) s = drop-drop 16 (16 * i) s ∙ ap (λ (k : ℕ). drop k s) (omega arith) in
    let prefix : take (32 * (i + 1)) (put_chunk (32 * i + 16) (put_chunk (32 * i) out f) g) ≡ take (32 * i) out ++ (f ++ g) = second ∙ ap (λ (t : List ℕ). t ++ g) first ∙ append_assoc (take (32 * i) out) f g in
    let rest : (f ++ g) ++ encode_lower (drop (16 * (i + 1)) s) ≡ encode_lower (drop (16 * i) s) = ap (λ (t : List ℕ). t ++ encode_lower (drop (16 * (i + 1)) s)) reported ∙ ap (λ (t : List ℕ). encode_lower (take 16 (drop (16 * i) s)) ++ encode_lower t) (sym on) ∙ encoded_parted 16 (drop (16 * i) s) in
    ap (λ (t : List ℕ). t ++ encode_lower (drop (16 * (i + 1)) s)) prefix
    ∙ append_assoc (take (32 * i) out) (f ++ g) (encode_lower (drop (16 * (i + 1)) s))
    ∙ ap (λ (t : List ℕ). take (32 * i) out ++ t) rest ∙ so_far

pub runs_written : (s out : List ℕ) (i : ℕ) → length out ≤ 32 * i → length s ≤ 16 * i
    → take (32 * i) out ++ encode_lower (drop (16 * i) s) ≡ encode_lower s → out ≡ encode_lower s
unfolding encode_with
runs_written s out i all none so_far =
    let d = drop_all (16 * i) s none in
    let t = take_all (32 * i) out all in
    rw (d, t, append-nil) at so_far
