-- Lists of a function's values from a number on, and slices that are written part by part.
use Rattle.std.proofs.Common.{◌≡◌, ℕ, zero, suc, ◌+◌, ◌-◌, ◌<◌, ◌≤◌, List, [], ◌∷◌, ◌++◌, length, take, drop, map, get_or, refl, sym, ◌∙◌, ap, ap₂, arith, length-drop, length-append, append-nil}
use Rattle.std.specs.List.{range_with_len}
use Rattle.std.proofs.lemmas.List.{ext_get_or, drop_all, drop-drop, take_at}
use Rattle.std.proofs.lemmas.List.FromFn.{length-map-range_with_len, get_or-map-range_with_len}
use Rattle.std.proofs.lemmas.Slice.{take-put_mid, drop-put_mid}
use borrow.Rule.Slice.PartMut.{put_mid}

-- two parts in a row
pub in_a_row : (f : ℕ → ℕ) (a n m b : ℕ) → a + n ≡ b → map f (range_with_len a n) ++ map f (range_with_len b m) ≡ map f (range_with_len a (n + m))
in_a_row f a zero m b e =
    let same : b ≡ a = omega (arith, e) in
    let none : 0 + m ≡ m = omega arith in
    rw (same, none) refl
in_a_row f a (suc n) m b e =
    let more : suc n + m ≡ suc (n + m) = omega arith in
    rw more (ap (λ xs. f a ∷ xs) (in_a_row f (a + 1) n m b (omega (arith, e))))

-- a list is stated by its elements
pub from_elements : (f : ℕ → ℕ) (a n : ℕ) (xs : List ℕ) → length xs ≡ n → ((i : ℕ) → i < n → get_or xs i 0 ≡ f (a + i)) → xs ≡ map f (range_with_len a n)
from_elements f a n xs len each =
    ext_get_or 0 xs (map f (range_with_len a n)) (len ∙ sym (length-map-range_with_len f a n))
    (λ i low. let below : i < n = omega (arith, low, len) in each i below ∙ sym (get_or-map-range_with_len f a n i (a + i) 0 below refl))

-- the same values of two functions
pub same_values : (f g : ℕ → ℕ) (a b n : ℕ) → ((i : ℕ) → i < n → f (a + i) ≡ g (b + i)) → map f (range_with_len a n) ≡ map g (range_with_len b n)
same_values f g a b n same =
    from_elements g b n (map f (range_with_len a n)) (length-map-range_with_len f a n) (λ i low. get_or-map-range_with_len f a n i (a + i) 0 low refl ∙ same i low)

-- after a write of a part whose prefix was there
pub grown : (f : ℕ → ℕ) (a b done to : ℕ) (old part : List ℕ) → done ≤ to → to ≤ length old → take done old ≡ map f (range_with_len a done) → a + done ≡ b →
    part ≡ map f (range_with_len b (to - done)) → take to (put_mid done (to - done) old part) ≡ map f (range_with_len a to)
grown f a b done to old part up within prefix e is =
    let count : length part ≡ to - done = ap length is ∙ length-map-range_with_len f b (to - done) in
    let whole : done + (to - done) ≡ to = omega (arith, up) in
    take-put_mid done (to - done) old part to (omega (arith, count, up)) (omega (arith, up, within))
    ∙ ap₂ (λ xs ys. xs ++ ys) prefix is
    ∙ in_a_row f a done (to - done) b e
    ∙ ap (λ n. map f (range_with_len a n)) whole

-- what lies after the part
pub rest_stays : (f : ℕ → ℕ) (b done to : ℕ) (old first part : List ℕ) → done ≤ to → to ≤ length old → drop done old ≡ drop done first →
    part ≡ map f (range_with_len b (to - done)) → drop to (put_mid done (to - done) old part) ≡ drop to first
rest_stays f b done to old first part up within rest is =
    let count : length part ≡ to - done = ap length is ∙ length-map-range_with_len f b (to - done) in
    drop-put_mid done (to - done) old part to (omega (arith, up)) (omega (arith, up, within)) count
    ∙ further to up rest
  where
    split : (xs : List ℕ) (to : ℕ) → done ≤ to → drop to xs ≡ drop (to - done) (drop done xs)
    split xs to up = let whole : done + (to - done) ≡ to = omega (arith, up) in sym (drop-drop (to - done) done xs ∙ ap (λ n. drop n xs) whole)

    further : (to : ℕ) → done ≤ to → drop done old ≡ drop done first → drop to old ≡ drop to first
    further to up rest = split old to up ∙ ap (drop (to - done)) rest ∙ sym (split first to up)

-- after a write of the last part
pub filled : (f : ℕ → ℕ) (a b done n : ℕ) (old part : List ℕ) → done ≤ n → length old ≡ n → take done old ≡ map f (range_with_len a done) → a + done ≡ b →
    part ≡ map f (range_with_len b (n - done)) → put_mid done (n - done) old part ≡ map f (range_with_len a n)
filled f a b done n old part up len prefix e is =
    let whole : done + (n - done) ≡ n = omega (arith, up) in
    let none : drop (n - done) (drop done old) ≡ [] = drop-drop (n - done) done old ∙ drop_all (done + (n - done)) old (omega (arith, whole, len)) in
    ap₂ (λ xs ys. take done old ++ (xs ++ ys)) is none
    ∙ ap₂ (λ xs ys. xs ++ ys) prefix (append-nil (map f (range_with_len b (n - done))))
    ∙ in_a_row f a done (n - done) b e
    ∙ ap (λ n. map f (range_with_len a n)) whole

-- the same of a slice in two parts, of which the first was written at its start
pub filled_in_two : (f : ℕ → ℕ) (a b head n : ℕ) (old first part : List ℕ) → head ≤ n → length old ≡ n → first ≡ map f (range_with_len a head) → a + head ≡ b →
    part ≡ map f (range_with_len b (n - head)) → put_mid head (n - head) (first ++ drop head old) part ≡ map f (range_with_len a n)
filled_in_two f a b head n old first part up len is e rest =
    let count : length first ≡ head = ap length is ∙ length-map-range_with_len f a head in
    filled f a b head n (first ++ drop head old) part up (length-append first (drop head old) ∙ omega (arith, count, length-drop head old, up, len)) (take_at first (drop head old) head count ∙ is) e rest

-- such a list, by its length; where it starts is free if it is empty
pub counted : (f : ℕ → ℕ) (a b m n : ℕ) (xs : List ℕ) → xs ≡ map f (range_with_len a m) → length xs ≡ n → (0 < n → a ≡ b) → xs ≡ map f (range_with_len b n)
counted f a b m n xs is len from =
    let count : m ≡ n = sym (length-map-range_with_len f a m) ∙ ap length (sym is) ∙ len in
    is ∙ ap (λ k. map f (range_with_len a k)) count ∙ moved n from
  where
    moved : (n : ℕ) → (0 < n → a ≡ b) → map f (range_with_len a n) ≡ map f (range_with_len b n)
    moved zero from = refl
    moved (suc n) from = ap (λ k. map f (range_with_len k (suc n))) (from (omega arith))
