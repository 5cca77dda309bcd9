-- Hexadecimal digits that are decoded many at a time.
use Rattle.std.proofs.Common.{◌≡◌, ◌⊎◌, ℕ, zero, suc, ◌+◌, ◌-◌, ◌*◌, ◌%◌, ◌^◌, ◌<◌, ◌≤◌, ltb, leb, cond, List, [], ◌∷◌, ◌++◌, ◌==◌, map, length, take, drop, replicate, Bool, true, false, if◌then◌else◌, nat_eq, Option, Some, None, Result, Ok, Err, refl, sym, ap, ◌∙◌, arith, bit_or, inl, inr, Fits, w8}
use Rattle.std.specs.Option.{unwrap_or}
use Rattle.std.specs.Result.{result_ok}
use Rattle.std.proofs.lemmas.Bool.{cases_eq, cases_lt, eq-eqb, eqb-true, le-leb, lt-leb, ne_eqb}
use Rattle.std.proofs.lemmas.List.{append-nil, drop_all, take_all, take-append-drop, length-drop, length-take}
use Rattle.std.proofs.lemmas.Simd.{mask_l-mod, pick_l_whole, take_more_put_chunk}
use Rattle.std.proofs.Math.Seq.{take-add}
use Rattle.hex.specs.Hex.{decode_of, decode_pairs, digit_or_error, hex_digit_value, ◌>>=◌}
use Rattle.hex.specs.declared.error.FromHexError.{FromHexError}
use Rattle.hex.proofs.HexLemmas.{decode_of-even}
use borrow.Rule.Slice.PartMut.{post_of, put_mid}
use lib.Lanes.{Each1, zip2, sel_l, mask_l, pick_l, put_chunk, top}
use Rattle.bp_script.proofs.DigitPairs.{below_none, value_or_none}
use Rattle.bp_script.proofs.EachByte.{all_below, from_all_below}

-- ---- the bytes of a text, without what is wrong with it

-- a byte of two digits, before other bytes
unfoldable pub one : Option ℕ → Option ℕ → Option (List ℕ) → Option (List ℕ)
one None low rest = None
one (Some h) None rest = None
one (Some h) (Some l) None = None
one (Some h) (Some l) (Some rest) = Some ((h * 16 + l) ∷ rest)

unfoldable pub bytes : List ℕ → Option (List ℕ)
bytes [] = Some []
bytes (digit ∷ []) = None
bytes (high ∷ low ∷ rest) = one (hex_digit_value high) (hex_digit_value low) (bytes rest)

-- the bytes of two texts
abbrev pub both : Option (List ℕ) → Option (List ℕ) → Option (List ℕ)
both None back = None
both (Some prefix) None = None
both (Some prefix) (Some back) = Some (prefix ++ back)

one_is : (a b i : ℕ) (h l : Option ℕ) (r : Result (List ℕ) FromHexError)
    → result_ok ((digit_or_error a i h >>= (λ x. digit_or_error b (i + 1) l >>= (λ y. Ok (x * 16 + y)))) >>= (λ byte. r >>= (λ rest. Ok (byte ∷ rest)))) ≡ one h l (result_ok r)
unfolding one
one_is a b i None l r = refl
one_is a b i (Some h) None r = refl
one_is a b i (Some h) (Some l) (Ok rest) = refl
one_is a b i (Some h) (Some l) (Err e) = refl

bytes_is : (i : ℕ) (s : List ℕ) → result_ok (decode_pairs i s) ≡ bytes s
unfolding bytes decode_pairs
bytes_is i [] = refl
bytes_is i (digit ∷ []) = refl
bytes_is i (a ∷ b ∷ rest) =
    one_is a b i (hex_digit_value a) (hex_digit_value b) (decode_pairs (i + 2) rest)
    ∙ ap (one (hex_digit_value a) (hex_digit_value b)) (bytes_is (i + 2) rest)

pub decoded_is : (s : List ℕ) → length s % 2 ≡ 0 → result_ok (decode_of s) ≡ bytes s
decoded_is s even = ap result_ok (decode_of-even s even) ∙ bytes_is 0 s

one_both : (h l : Option ℕ) (p q : Option (List ℕ)) → one h l (both p q) ≡ both (one h l p) q
unfolding one
one_both None l p q = refl
one_both (Some h) None p q = refl
one_both (Some h) (Some l) None q = refl
one_both (Some h) (Some l) (Some p) None = refl
one_both (Some h) (Some l) (Some p) (Some q) = refl

pub both_nil : (q : Option (List ℕ)) → q ≡ both (Some []) q
both_nil None = refl
both_nil (Some q) = refl

pub bytes_joined : (n : ℕ) (xs ys : List ℕ) → length xs ≡ 2 * n → bytes (xs ++ ys) ≡ both (bytes xs) (bytes ys)
unfolding bytes
bytes_joined n [] ys long = both_nil (bytes ys)
bytes_joined n (a ∷ []) ys long = absurd (omega (arith, long))
bytes_joined zero (a ∷ b ∷ xs) ys long = absurd (omega (arith, long))
bytes_joined (suc n) (a ∷ b ∷ xs) ys long =
    ap (one (hex_digit_value a) (hex_digit_value b)) (bytes_joined n xs ys (omega (arith, long)))
    ∙ one_both (hex_digit_value a) (hex_digit_value b) (bytes xs) (bytes ys)

bytes_parted : (n : ℕ) (s : List ℕ) → 2 * n ≤ length s → bytes s ≡ both (bytes (take (2 * n) s)) (bytes (drop (2 * n) s))
bytes_parted n s fits =
    ap bytes (sym (take-append-drop (2 * n) s)) ∙ bytes_joined n (take (2 * n) s) (drop (2 * n) s) (omega (arith, length-take (2 * n) s))

-- a text of two, where the first has bytes
pub prefix_decoded : (n : ℕ) (s f b u v : List ℕ) (y : Bool) → length s % 2 ≡ 0 → 2 * n ≤ length s → f ≡ take (2 * n) s → b ≡ drop (2 * n) s
    → result_ok (decode_of f) ≡ Some u → result_ok (decode_of b) ≡ (if y then Some v else None)
    → result_ok (decode_of s) ≡ (if y then Some (u ++ v) else None)
prefix_decoded n s f b u v y even fits is_f is_b prefix back =
    let first : bytes (take (2 * n) s) ≡ Some u = ap bytes (sym is_f) ∙ sym (decoded_is f (omega (arith, ap length is_f, length-take (2 * n) s))) ∙ prefix in
    let second : bytes (drop (2 * n) s) ≡ (if y then Some v else None) = ap bytes (sym is_b) ∙ sym (decoded_is b (omega (arith, ap length is_b, length-drop (2 * n) s))) ∙ back in
    decoded_is s even ∙ bytes_parted n s fits ∙ rw (first, second) (go y)
  where
    go : (y : Bool) → both (Some u) (if y then Some v else None) ≡ (if y then Some (u ++ v) else None)
    go true = refl
    go false = refl

pub prefix_refused : (n : ℕ) (s f : List ℕ) → length s % 2 ≡ 0 → 2 * n ≤ length s → f ≡ take (2 * n) s
    → result_ok (decode_of f) ≡ None → result_ok (decode_of s) ≡ None
prefix_refused n s f even fits is_f prefix =
    let first : bytes (take (2 * n) s) ≡ None = ap bytes (sym is_f) ∙ sym (decoded_is f (omega (arith, ap length is_f, length-take (2 * n) s))) ∙ prefix in
    decoded_is s even ∙ bytes_parted n s fits ∙ rw first refl

-- the same where the rest goes into what is left of a memory of just their length
pub rest_decoded : (n : ℕ) (s out v : List ℕ) (y : Bool) → length s ≡ 2 * length out → 2 * n ≤ length s
    → result_ok (decode_of (take (2 * n) s)) ≡ Some (take n out)
    → result_ok (decode_of (take (length s - 2 * n) (drop (2 * n) s))) ≡ (if y then Some v else None)
    → result_ok (decode_of s) ≡ (if y then Some (put_mid n (length out - n) out v) else None)
rest_decoded n s out v y pairs within prefix back =
    let whole = take_all (length s - 2 * n) (drop (2 * n) s) (omega (arith, length-drop (2 * n) s)) in
    let none : post_of n (length out - n) out ≡ [] = drop_all (length out - n) (drop n out) (omega (arith, length-drop n out)) in
    rw (none, append-nil v) (prefix_decoded n s _ _ (take n out) v y (omega (arith, pairs)) within refl refl prefix (rw whole at back))

-- ---- the loop over runs

pub run_reported : (s : List ℕ) (at : ℕ) (r : Option (List ℕ)) → at + 32 ≤ length s
    → result_ok (decode_of (take 32 (take (length s - at) (drop at s)))) ≡ r → bytes (take 32 (drop at s)) ≡ r
run_reported s at r fits reported =
    let whole = take_all (length s - at) (drop at s) (omega (arith, length-drop at s)) in
    sym (decoded_is (take 32 (drop at s)) (omega (arith, length-take 32 (drop at s), length-drop at s))) ∙ rw whole at reported

pub run_added : (s out r : List ℕ) (i : ℕ) → length r ≡ 16 → 16 * i + 16 ≤ length out → 32 * i + 32 ≤ length s
    → bytes (take 32 (drop (32 * i) s)) ≡ Some r
    → bytes (take (32 * i) s) ≡ Some (take (16 * i) out)
    → bytes (take (32 * (i + 1)) s) ≡ Some (take (16 * (i + 1)) (put_chunk (16 * i) out r))
run_added s out r i long room fits is so_far =
    let more : 32 * (i + 1) ≡ 32 * i + 32 = omega arith in
    let prefix = take_more_put_chunk (16 * i) out r (16 * (i + 1)) (omega (arith, long)) (omega arith) in
    ap (λ n. bytes (take n s)) more ∙ ap bytes (take-add (32 * i) 32 s)
    ∙ bytes_joined (16 * i) (take (32 * i) s) (take 32 (drop (32 * i) s)) (omega (arith, fits, length-take (32 * i) s))
    ∙ rw (so_far, is, prefix) refl

-- n bytes after i runs
pub prefix_reported : (s out : List ℕ) (i n : ℕ) → n ≡ 16 * i → 32 * i ≤ length s → bytes (take (32 * i) s) ≡ Some (take (16 * i) out)
    → result_ok (decode_of (take (2 * n) s)) ≡ Some (take n out)
prefix_reported s out i n is fits so_far =
    let digits : 2 * n ≡ 32 * i = omega (arith, is) in
    rw (digits, is) (decoded_is (take (32 * i) s) (omega (arith, fits, length-take (32 * i) s)) ∙ so_far)

-- after a prefix that has bytes
pub run_refused : (n : ℕ) (s u : List ℕ) → length s % 2 ≡ 0 → 2 * n + 32 ≤ length s → result_ok (decode_of (take (2 * n) s)) ≡ Some u
    → result_ok (decode_of (take 32 (drop (2 * n) s))) ≡ None
    → result_ok (decode_of s) ≡ None
run_refused n s u even fits prefix is =
    let rest = drop (2 * n) s in
    let long : 32 ≤ length rest = omega (arith, fits, length-drop (2 * n) s) in
    let first : bytes (take (2 * n) s) ≡ Some u = sym (decoded_is (take (2 * n) s) (omega (arith, fits, length-take (2 * n) s))) ∙ prefix in
    let run : bytes (take 32 rest) ≡ None = sym (decoded_is (take 32 rest) (omega (arith, long, length-take 32 rest))) ∙ is in
    let second : bytes rest ≡ None = bytes_parted 16 rest long ∙ ap (λ (b : Option (List ℕ)). both b (bytes (drop 32 rest))) run in
    decoded_is s even ∙ bytes_parted n s (omega (arith, fits)) ∙ rw (first, second) refl

-- ---- the values of a run, lane by lane

abbrev above : ℕ → ℕ → ℕ
above a b = (a + (256 - b)) % 256

abbrev below : ℕ → ℕ → ℕ
below a b = cond (ltb a b) 255 0

abbrev plus : ℕ → ℕ → ℕ
plus a b = (a + b) % 256

abbrev less_down : ℕ → ℕ → ℕ
less_down a b = above (cond (top 7 (below a b)) b a) b

abbrev most : ℕ → ℕ → ℕ
most a b = cond (top 7 (below a b)) b a

abbrev least : ℕ → ℕ → ℕ
least a b = cond (top 7 (below a b)) a b

lane_value : ℕ → ℕ
lane_value d = least (above (most (less_down (plus d 198) 6) (plus (bit_or (above d 1) 32) 154)) 240) 16

lane_agrees : ℕ → Bool
lane_agrees d = lane_value d == value_or_none d

lanes_agree : all_below lane_agrees 256 ≡ true
unfolding all_below lane_agrees lane_value
lanes_agree = refl

lane_is : (d : ℕ) → d < 256 → lane_value d ≡ value_or_none d
unfolding lane_agrees
lane_is d byte = eqb-true (lane_value d) (value_or_none d) (from_all_below lane_agrees 256 d lanes_agree byte)

-- numbers above 240, and letters
abbrev numbers : ℕ → List ℕ → List ℕ
numbers n ds =
    let raised = zip2 plus ds (replicate n 198) in
    zip2 above (sel_l (map (top 7) (zip2 below raised (replicate n 6))) (replicate n 6) raised) (replicate n 6)

abbrev letters : ℕ → List ℕ → List ℕ
letters n ds = zip2 plus (zip2 bit_or (zip2 above ds (replicate n 1)) (replicate n 32)) (replicate n 154)

abbrev values : ℕ → List ℕ → List ℕ
values n ds = zip2 above (sel_l (map (top 7) (zip2 below (numbers n ds) (letters n ds))) (letters n ds) (numbers n ds)) (replicate n 240)

pub lanes_are : (n : ℕ) (ds : List ℕ) → length ds ≡ n → Each1 (Fits w8) ds
    → sel_l (map (top 7) (zip2 below (values n ds) (replicate n 16))) (values n ds) (replicate n 16) ≡ map value_or_none ds
unfolding lane_value
lanes_are zero [] same fits = refl
lanes_are (suc n) [] same fits = absurd (omega (arith, same))
lanes_are zero (d ∷ ds) same fits = absurd (omega (arith, same))
lanes_are (suc n) (d ∷ ds) same fits = λ i. lane_is d fits.0.fits i ∷ lanes_are n ds (omega (arith, same)) fits.1 i

-- ---- the bytes of a run

weave : List ℕ → List ℕ → List ℕ
weave [] ys = []
weave (a ∷ xs) [] = []
weave (a ∷ xs) (b ∷ ys) = a ∷ b ∷ weave xs ys

abbrev pub at_most : ℕ → ℕ → ℕ
at_most a b = cond (leb a b) 255 0

abbrev foreign : List ℕ → List ℕ → ℕ
foreign xs ys = mask_l (map (top 7) (zip2 bit_or (zip2 at_most (replicate (length xs) 16) (map value_or_none xs)) (zip2 at_most (replicate (length xs) 16) (map value_or_none ys))))

abbrev joined : List ℕ → List ℕ → List ℕ
joined xs ys = zip2 (λ a b. (a + b) % 256) (zip2 (λ a b. (a * b) % 256) (map value_or_none xs) (replicate (length xs) 16)) (map value_or_none ys)

digit_read : (o : Option ℕ) → unwrap_or o 16 < 16 → o ≡ Some (unwrap_or o 16)
digit_read None low = absurd (omega (arith, low))
digit_read (Some v) low = refl

digit_foreign : (d : ℕ) (o : Option ℕ) → hex_digit_value d ≡ o → 16 ≤ unwrap_or o 16 → o ≡ None
digit_foreign d None is high = refl
digit_foreign d (Some v) is high = absurd (omega (arith, below_none d v is, high))

one_foreign : (h l : Option ℕ) (rest : Option (List ℕ)) → (h ≡ None) ⊎ (l ≡ None) → one h l rest ≡ None
unfolding one
one_foreign None l rest which = refl
one_foreign (Some h) None rest which = refl
one_foreign (Some h) (Some l) rest (inl e) = absurd (grind (arith, e))
one_foreign (Some h) (Some l) rest (inr e) = absurd (grind (arith, e))

pub one_none : (h l : Option ℕ) → one h l None ≡ None
unfolding one
one_none None l = refl
one_none (Some h) None = refl
one_none (Some h) (Some l) = refl

-- whether one of two values is that of no digit
abbrev flag : ℕ → ℕ → Bool
flag x y = top 7 (bit_or (at_most 16 x) (at_most 16 y))

flag_low : (x y : ℕ) → x < 16 → y < 16 → flag x y ≡ false
flag_low x y low_x low_y = rw (lt-leb 16 x low_x, lt-leb 16 y low_y) refl

flag_high : (x y : ℕ) → (16 ≤ x) ⊎ (16 ≤ y) → flag x y ≡ true
flag_high x y (inl high) = rw (le-leb 16 x high) (go (leb 16 y))
  where
    go : (t : Bool) → top 7 (bit_or 255 (cond t 255 0)) ≡ true
    go true = refl
    go false = refl
flag_high x y (inr high) = rw (le-leb 16 y high) (go (leb 16 x))
  where
    go : (t : Bool) → top 7 (bit_or (cond t 255 0) 255) ≡ true
    go true = refl
    go false = refl

sides : (x y : ℕ) → ((x < 16) × (y < 16)) ⊎ ((16 ≤ x) ⊎ (16 ≤ y))
sides x y =
    elim (cases_lt x 16) [
      | inl low_x ↦ elim (cases_lt y 16) [ inl low_y ↦ inl (low_x, low_y) | inr high ↦ inr (inr high) ]
      | inr high ↦ inr (inl high)
    ]

all_read : (xs ys : List ℕ) → length xs ≡ length ys → foreign xs ys ≡ 0 → bytes (weave xs ys) ≡ Some (joined xs ys)
unfolding bytes weave one
all_read [] ys same none = refl
all_read (a ∷ xs) [] same none = absurd (omega (arith, same))
all_read (a ∷ xs) (b ∷ ys) same none =
    elim (sides (value_or_none a) (value_or_none b)) [
      | inl low ↦
          let test = flag_low (value_or_none a) (value_or_none b) low.0 low.1 in
          let rest : foreign xs ys ≡ 0 = omega (arith, rw test at none) in
          let first = digit_read (hex_digit_value a) low.0 in
          let second = digit_read (hex_digit_value b) low.1 in
          let byte : value_or_none a * 16 + value_or_none b ≡ (value_or_none a * 16 % 256 + value_or_none b) % 256 = omega (arith, low.0, low.1) in
          ap (λ h. one h (hex_digit_value b) (bytes (weave xs ys))) first
          ∙ ap (λ l. one (Some (value_or_none a)) l (bytes (weave xs ys))) second
          ∙ ap (one (Some (value_or_none a)) (Some (value_or_none b))) (all_read xs ys (omega (arith, same)) rest)
          ∙ ap (λ v. Some (v ∷ joined xs ys)) byte
      | inr high ↦
          let test = flag_high (value_or_none a) (value_or_none b) high in
          absurd (omega (arith, rw test at none))
    ]

some_foreign : (xs ys : List ℕ) → length xs ≡ length ys → 1 ≤ foreign xs ys → bytes (weave xs ys) ≡ None
unfolding bytes weave
some_foreign [] ys same some = absurd (omega (arith, some))
some_foreign (a ∷ xs) [] same some = absurd (omega (arith, same))
some_foreign (a ∷ xs) (b ∷ ys) same some =
    elim (sides (value_or_none a) (value_or_none b)) [
      | inl low ↦
          let test = flag_low (value_or_none a) (value_or_none b) low.0 low.1 in
          let rest : 1 ≤ foreign xs ys = omega (arith, rw test at some) in
          ap (one (hex_digit_value a) (hex_digit_value b)) (some_foreign xs ys (omega (arith, same)) rest) ∙ one_none (hex_digit_value a) (hex_digit_value b)
      | inr high ↦
          elim high [
            | inl first ↦ one_foreign (hex_digit_value a) (hex_digit_value b) (bytes (weave xs ys)) (inl (digit_foreign a (hex_digit_value a) refl first))
            | inr second ↦ one_foreign (hex_digit_value a) (hex_digit_value b) (bytes (weave xs ys)) (inr (digit_foreign b (hex_digit_value b) refl second))
          ]
    ]

by_mask : (xs ys : List ℕ) (m : ℕ) → length xs ≡ length ys → foreign xs ys ≡ m
    → bytes (weave xs ys) ≡ (if nat_eq m 0 then Some (joined xs ys) else None)
by_mask xs ys m same is =
    elim (cases_eq m 0) [
      | inl none ↦ rw (eq-eqb m 0 none) (all_read xs ys same (omega (arith, is, none)))
      | inr some ↦ rw (ne_eqb m 0 some) (some_foreign xs ys same (omega (arith, is, some)))
    ]

-- the digits of a run at even places, and those at odd ones
abbrev pub evens : List ℕ → List ℕ
evens w = pick_l 0 w (0 ∷ 2 ∷ 4 ∷ 6 ∷ 8 ∷ 10 ∷ 12 ∷ 14 ∷ 16 ∷ 18 ∷ 20 ∷ 22 ∷ 24 ∷ 26 ∷ 28 ∷ 30 ∷ [])

abbrev pub odds : List ℕ → List ℕ
odds w = pick_l 0 w (1 ∷ 3 ∷ 5 ∷ 7 ∷ 9 ∷ 11 ∷ 13 ∷ 15 ∷ 17 ∷ 19 ∷ 21 ∷ 23 ∷ 25 ∷ 27 ∷ 29 ∷ 31 ∷ [])

woven : (w : List ℕ) → length w ≡ 32 → w ≡ weave (evens w) (odds w)
unfolding weave
woven w long = sym (pick_l_whole 0 w 32 long)

pub run_decoded : (w h l : List ℕ) → length w ≡ 32 → h ≡ map value_or_none (evens w) → l ≡ map value_or_none (odds w)
    → result_ok (decode_of w)
    ≡ (if nat_eq (mask_l (map (top 7) (zip2 bit_or (zip2 at_most (replicate 16 16) h) (zip2 at_most (replicate 16 16) l))) % 2 ^ 64) 0
    then Some (zip2 (λ a b. (a + b) % 256) (zip2 (λ a b. (a * b) % 256) h (replicate 16 16)) l) else None)
run_decoded w h l long is_h is_l =
    let small = mask_l-mod (map (top 7) (zip2 bit_or (zip2 at_most (replicate 16 16) (map value_or_none (evens w))) (zip2 at_most (replicate 16 16) (map value_or_none (odds w))))) 64 (omega arith) in
    rw (is_h, is_l) (decoded_is w (omega (arith, long)) ∙ ap bytes (woven w long) ∙ by_mask (evens w) (odds w) _ refl (sym small))

-- ---- the same of a short run

abbrev pub few_evens : List ℕ → List ℕ
few_evens w = pick_l 0 w (0 ∷ 2 ∷ 4 ∷ 6 ∷ 8 ∷ 10 ∷ 12 ∷ 14 ∷ [])

abbrev pub few_odds : List ℕ → List ℕ
few_odds w = pick_l 0 w (1 ∷ 3 ∷ 5 ∷ 7 ∷ 9 ∷ 11 ∷ 13 ∷ 15 ∷ [])

few_woven : (w : List ℕ) → length w ≡ 16 → w ≡ weave (few_evens w) (few_odds w)
unfolding weave
few_woven w long = sym (pick_l_whole 0 w 16 long)

few_decoded : (w h l : List ℕ) → length w ≡ 16 → h ≡ map value_or_none (few_evens w) → l ≡ map value_or_none (few_odds w)
    → result_ok (decode_of w)
    ≡ (if nat_eq (mask_l (map (top 7) (zip2 bit_or (zip2 at_most (replicate 8 16) h) (zip2 at_most (replicate 8 16) l))) % 2 ^ 64) 0
    then Some (zip2 (λ a b. (a + b) % 256) (zip2 (λ a b. (a * b) % 256) h (replicate 8 16)) l) else None)
few_decoded w h l long is_h is_l =
    let small = mask_l-mod (map (top 7) (zip2 bit_or (zip2 at_most (replicate 8 16) (map value_or_none (few_evens w))) (zip2 at_most (replicate 8 16) (map value_or_none (few_odds w))))) 64 (omega arith) in
    rw (is_h, is_l) (decoded_is w (omega (arith, long)) ∙ ap bytes (few_woven w long) ∙ by_mask (few_evens w) (few_odds w) _ refl (sym small))

put_whole : (xs ys : List ℕ) → length xs ≡ length ys → put_chunk 0 xs ys ≡ ys
put_whole [] [] same = refl
put_whole [] (y ∷ ys) same = absurd (omega (arith, same))
put_whole (x ∷ xs) [] same = absurd (omega (arith, same))
put_whole (x ∷ xs) (y ∷ ys) same = ap (λ rest. y ∷ rest) (put_whole xs ys (omega (arith, same)))

-- in memory of just their length
pub few_stored : (w h l out : List ℕ) → length w ≡ 16 → length out ≡ 8 → h ≡ map value_or_none (few_evens w) → l ≡ map value_or_none (few_odds w)
    → result_ok (decode_of w)
    ≡ (if nat_eq (mask_l (map (top 7) (zip2 bit_or (zip2 at_most (replicate 8 16) h) (zip2 at_most (replicate 8 16) l))) % 2 ^ 64) 0
    then Some (put_chunk 0 out (zip2 (λ a b. (a + b) % 256) (zip2 (λ a b. (a * b) % 256) h (replicate 8 16)) l)) else None)
few_stored w h l out long room is_h is_l =
    let bytes = zip2 (λ a b. (a + b) % 256) (zip2 (λ a b. (a * b) % 256) h (replicate 8 16)) l in
    let eight : length bytes ≡ 8 = rw (is_h, is_l) refl in
    rw (put_whole out bytes (omega (arith, room, eight))) (few_decoded w h l long is_h is_l)
