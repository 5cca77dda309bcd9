-- Words from runs of words in a row.
use Rattle.std.proofs.Common.{◌≡◌, ℕ, zero, suc, ◌+◌, ◌-◌, ◌^◌, ◌<◌, ◌≤◌, inl, inr, List, [], ◌∷◌, ◌++◌, length, take, drop, get_or, nat_lt, if◌then◌else◌, refl, sym, ◌∙◌, ap, arith, subst}
use Rattle.std.specs.List.{range_with_len}
use Rattle.std.proofs.lemmas.Bool.{lt-ltb, le-ltb}
use Rattle.std.proofs.lemmas.Bool.Decides.{eqb_tells, leb_tells}
use Rattle.std.proofs.lemmas.List.{get_or-drop, get_or-take, get_or_append_left, get_or_push, length-append, length-drop, length-take-le, take_at, drop_at}
use Rattle.pm_raw.specs.RunWords.{AreRuns, run_word_at, words_from}

-- ## One word

-- runs that have begun before the last one that has play no part
pub run_word_at-drop : (k : ℕ) (firsts starts : List ℕ) (i : ℕ) → length firsts ≡ length starts → k < length starts → ((j : ℕ) → j ≤ k → get_or starts j 0 ≤ i) → run_word_at firsts starts i ≡ run_word_at (drop k firsts) (drop k starts) i
run_word_at-drop zero firsts starts i same low begun = refl
run_word_at-drop (suc k) firsts [] i same low begun = absurd (omega arith)
run_word_at-drop (suc k) [] (start ∷ starts) i same low begun = absurd (omega arith)
run_word_at-drop (suc k) (first ∷ firsts) (start ∷ []) i same low begun = absurd (omega arith)
run_word_at-drop (suc k) (first ∷ firsts) (start ∷ next ∷ starts) i same low begun =
    rw (le-ltb i next (begun 1 (omega arith))) (run_word_at-drop k firsts (next ∷ starts) i (omega arith) (omega arith) (λ j below. begun (suc j) (omega arith)))

-- nor do those that have not begun
pub run_word_at-take : (k : ℕ) (firsts starts : List ℕ) (i : ℕ) → 0 < k → (k < length starts → i < get_or starts k 0) → run_word_at (take k firsts) (take k starts) i ≡ run_word_at firsts starts i
run_word_at-take zero firsts starts i some later = absurd (omega arith)
run_word_at-take (suc k) [] starts i some later = refl
run_word_at-take (suc k) (first ∷ firsts) [] i some later = refl
run_word_at-take (suc zero) (first ∷ firsts) (start ∷ []) i some later = refl
run_word_at-take (suc (suc k)) (first ∷ firsts) (start ∷ []) i some later = refl
run_word_at-take (suc zero) (first ∷ firsts) (start ∷ next ∷ starts) i some later = rw (lt-ltb i next (later (omega arith))) refl
run_word_at-take (suc (suc k)) (first ∷ firsts) (start ∷ next ∷ starts) i some later =
    ap (λ w. if nat_lt i next then first + (i - start) else w) (run_word_at-take (suc k) firsts (next ∷ starts) i (omega arith) (λ low. later (omega arith)))

-- the word of an event of the run with this number
pub run_word_at-found : (k : ℕ) (firsts starts : List ℕ) (i : ℕ) → length firsts ≡ length starts → k < length starts → ((j : ℕ) → j ≤ k → get_or starts j 0 ≤ i) → (suc k < length starts → i < get_or starts (suc k) 0)
    → run_word_at firsts starts i ≡ get_or firsts k 0 + (i - get_or starts k 0)
run_word_at-found k firsts [] i same low begun later = absurd (omega arith)
run_word_at-found k [] (start ∷ starts) i same low begun later = absurd (omega arith)
run_word_at-found zero (first ∷ firsts) (start ∷ []) i same low begun later = refl
run_word_at-found zero (first ∷ firsts) (start ∷ next ∷ starts) i same low begun later = rw (lt-ltb i next (later (omega arith))) refl
run_word_at-found (suc k) (first ∷ firsts) (start ∷ []) i same low begun later = absurd (omega arith)
run_word_at-found (suc k) (first ∷ firsts) (start ∷ next ∷ starts) i same low begun later =
    rw (le-ltb i next (begun 1 (omega arith)))
    (run_word_at-found k firsts (next ∷ starts) i (omega arith) (omega arith) (λ j below. begun (suc j) (omega arith)) (λ more. later (omega arith)))

-- ## Words in order

pub length-words_from : (firsts starts : List ℕ) (at n : ℕ) → length (words_from firsts starts at n) ≡ n
length-words_from firsts starts at zero = refl
length-words_from firsts starts at (suc n) = ap suc (length-words_from firsts starts (suc at) n)

pub words_from-add : (firsts starts : List ℕ) (at m n : ℕ) → words_from firsts starts at (m + n) ≡ words_from firsts starts at m ++ words_from firsts starts (at + m) n
words_from-add firsts starts at zero n =
    let none : 0 + n ≡ n = omega arith in
    let here : at ≡ at + 0 = omega arith in
    ap (words_from firsts starts at) none ∙ ap (λ i. words_from firsts starts i n) here
words_from-add firsts starts at (suc m) n =
    let more : suc m + n ≡ suc (m + n) = omega arith in
    let there : suc at + m ≡ at + suc m = omega arith in
    ap (words_from firsts starts at) more
    ∙ ap (λ ws. run_word_at firsts starts at ∷ ws) (words_from-add firsts starts (suc at) m n ∙ ap (λ i. words_from firsts starts (suc at) m ++ words_from firsts starts i n) there)

pub take-words_from : (firsts starts : List ℕ) (at k n : ℕ) → k ≤ n → take k (words_from firsts starts at n) ≡ words_from firsts starts at k
take-words_from firsts starts at k n fits =
    let all : n ≡ k + (n - k) = omega arith in
    ap (λ m. take k (words_from firsts starts at m)) all
    ∙ ap (take k) (words_from-add firsts starts at k (n - k))
    ∙ take_at (words_from firsts starts at k) (words_from firsts starts (at + k) (n - k)) k (length-words_from firsts starts at k)

pub drop-words_from : (firsts starts : List ℕ) (at k n : ℕ) → k ≤ n → drop k (words_from firsts starts at n) ≡ words_from firsts starts (at + k) (n - k)
drop-words_from firsts starts at k n fits =
    let all : n ≡ k + (n - k) = omega arith in
    ap (λ m. drop k (words_from firsts starts at m)) all
    ∙ ap (drop k) (words_from-add firsts starts at k (n - k))
    ∙ drop_at (words_from firsts starts at k) (words_from firsts starts (at + k) (n - k)) k (length-words_from firsts starts at k)

pub get_or-words_from : (firsts starts : List ℕ) (at n i : ℕ) → i < n → get_or (words_from firsts starts at n) i 0 ≡ run_word_at firsts starts (at + i)
get_or-words_from firsts starts at zero i low = absurd (omega arith)
get_or-words_from firsts starts at (suc n) zero low = let here : at ≡ at + 0 = omega arith in ap (run_word_at firsts starts) here
get_or-words_from firsts starts at (suc n) (suc i) low =
    let there : suc at + i ≡ at + suc i = omega arith in
    get_or-words_from firsts starts (suc at) n i (omega arith) ∙ ap (run_word_at firsts starts) there

pub words_from-same : (firsts starts others begins : List ℕ) (at n : ℕ) → ((i : ℕ) → at ≤ i → i < at + n → run_word_at firsts starts i ≡ run_word_at others begins i) → words_from firsts starts at n ≡ words_from others begins at n
words_from-same firsts starts others begins at zero each = refl
words_from-same firsts starts others begins at (suc n) each =
    ap (λ w. w ∷ words_from firsts starts (suc at) n) (each at (omega arith) (omega arith))
    ∙ ap (λ ws. run_word_at others begins at ∷ ws) (words_from-same firsts starts others begins (suc at) n (λ i low high. each i (omega arith) (omega arith)))

pub words_from-range : (firsts starts : List ℕ) (at first n : ℕ) → ((i : ℕ) → at ≤ i → i < at + n → run_word_at firsts starts i ≡ first + (i - at)) → words_from firsts starts at n ≡ range_with_len first n
words_from-range firsts starts at first zero each = refl
words_from-range firsts starts at first (suc n) each =
    let here : first + (at - at) ≡ first = omega arith in
    ap (λ w. w ∷ words_from firsts starts (suc at) n) (each at (omega arith) (omega arith) ∙ here)
    ∙ ap (λ ws. first ∷ ws) (words_from-range firsts starts (suc at) (first + 1) n (λ i low high. let there : first + (i - at) ≡ (first + 1) + (i - suc at) = omega arith in each i (omega arith) (omega arith) ∙ there))

-- the same runs
module _ (firsts starts others begins : List ℕ) (same_firsts : others ≡ firsts) (same_starts : begins ≡ starts) where
  pub runs-same : (at end : ℕ) → AreRuns firsts starts at end → AreRuns others begins at end
  runs-same at end runs = subst (λ fs. AreRuns fs begins at end) (sym same_firsts) (subst (λ ss. AreRuns firsts ss at end) (sym same_starts) runs)

  pub word-same : (i : ℕ) → run_word_at others begins i ≡ run_word_at firsts starts i
  word-same i = ap (λ fs. run_word_at fs begins i) same_firsts ∙ ap (λ ss. run_word_at firsts ss i) same_starts

  pub words-same : (at n : ℕ) → words_from others begins at n ≡ words_from firsts starts at n
  words-same at n = ap (λ fs. words_from fs begins at n) same_firsts ∙ ap (λ ss. words_from firsts ss at n) same_starts

-- no runs
pub runs-none : AreRuns [] [] 0 0
runs-none = record {
  same = refl;
  some = λ more. absurd (omega (arith, more));
  begun = omega arith;
  first = λ more. absurd (omega (arith, more));
  taken = λ i inside. absurd (omega (arith, inside));
  rises = λ i j less inside. absurd (omega (arith, inside));
  fits = λ i low high. absurd (omega (arith, high));
}

-- ## Parts of runs

module _ (firsts starts : List ℕ) (at end : ℕ) (runs : AreRuns firsts starts at end) where
  -- a run that has begun has all before it begun
  pub begun_by : (k j i : ℕ) → j ≤ k → k < length starts → get_or starts k 0 ≤ i → get_or starts j 0 ≤ i
  begun_by k j i below low begun = elim (eqb_tells j k) [
    | inl same ↦ rw same.1 begun
    | inr differ ↦ omega (arith, runs.rises j k (omega (arith, differ.1)) low)
  ]

  -- the word of an event of a run
  pub word_in : (k i : ℕ) → k < length starts → get_or starts k 0 ≤ i → (k + 1 < length starts → i < get_or starts (k + 1) 0) → run_word_at firsts starts i ≡ get_or firsts k 0 + (i - get_or starts k 0)
  word_in k i low begun later =
      let next : suc k ≡ k + 1 = omega arith in
      run_word_at-found k firsts starts i runs.same low (λ j below. begun_by k j i below low begun) (λ more. rw next (later (omega arith)))

  pub words-suffix : (k next n : ℕ) → k < length starts → get_or starts k 0 ≤ next → words_from (drop k firsts) (drop k starts) next n ≡ words_from firsts starts next n
  words-suffix k next n low begun =
      words_from-same (drop k firsts) (drop k starts) firsts starts next n (λ i above under. sym (run_word_at-drop k firsts starts i runs.same low (λ j below. begun_by k j i below low (omega arith))))

  pub runs-suffix : (k next : ℕ) → at ≤ next → next ≤ end → k < length starts → get_or starts k 0 ≤ next → (k + 1 < length starts → next < get_or starts (k + 1) 0) → AreRuns (drop k firsts) (drop k starts) next end
  runs-suffix k next above under low begun last =
      let many = length-drop k starts in
      record {
        same = length-drop k firsts ∙ ap (λ n. n - k) runs.same ∙ sym many;
        some = λ more. omega (arith, many);
        begun = let here : k + 0 ≡ k = omega arith in omega (arith, get_or-drop k starts 0 0, ap (λ n. get_or starts n 0) here);
        first = λ more. omega (arith, get_or-drop k starts 1 0, last (omega (arith, many)));
        taken = λ i inside. omega (arith, get_or-drop k starts i 0, runs.taken (k + i) (omega (arith, many)));
        rises = λ i j less inside. omega (arith, get_or-drop k starts i 0, get_or-drop k starts j 0, runs.rises (k + i) (k + j) (omega arith) (omega (arith, many)));
        fits = λ i low_i high_i. omega (arith, run_word_at-drop k firsts starts i runs.same low (λ j below. begun_by k j i below low (omega arith)), runs.fits i (omega arith) high_i);
      }

  pub words-prefix : (k n : ℕ) → (0 < n → 0 < k) → (0 < n → k < length starts → at + n ≤ get_or starts k 0) → words_from (take k firsts) (take k starts) at n ≡ words_from firsts starts at n
  words-prefix k n some later =
      words_from-same (take k firsts) (take k starts) firsts starts at n (λ i above under. run_word_at-take k firsts starts i (some (omega arith)) (λ more. omega (arith, later (omega arith) more)))

  pub runs-prefix : (k last : ℕ) → at ≤ last → last ≤ end → k ≤ length starts → (at < last → 0 < k) → ((i : ℕ) → i < k → get_or starts i 0 < last) → (at < last → k < length starts → last ≤ get_or starts k 0) → AreRuns (take k firsts) (take k starts) at last
  runs-prefix k last above under within some taken later =
      let many = length-take-le k starts within in
      record {
        same = length-take-le k firsts (omega (arith, runs.same)) ∙ sym many;
        some = λ more. omega (arith, many, some more);
        begun = elim (eqb_tells k 0) [
          | inl none ↦ rw none.1 (omega arith)
          | inr more ↦ omega (arith, get_or-take k starts 0 0 (omega (arith, more.1)), runs.begun)
        ];
        first = λ more. omega (arith, get_or-take k starts 1 0 (omega (arith, many)), runs.first (omega (arith, many)));
        taken = λ i inside. omega (arith, get_or-take k starts i 0 (omega (arith, many)), taken i (omega (arith, many)));
        rises = λ i j less inside. omega (arith, get_or-take k starts i 0 (omega (arith, many)), get_or-take k starts j 0 (omega (arith, many)), runs.rises i j less (omega (arith, many)));
        fits = λ i low_i high_i. omega (arith, run_word_at-take k firsts starts i (some (omega arith)) (λ more. omega (arith, later (omega arith) more)), runs.fits i low_i (omega arith));
      }

-- what is read of the run of an event
module _ (firsts starts : List ℕ) (count : ℕ) (runs : AreRuns firsts starts 0 count) (i run : ℕ) (low : i < count) (inside : run < length starts) (begun : get_or starts run 0 ≤ i) (last : run + 1 < length starts → i < get_or starts (run + 1) 0) where
  pub word-read : get_or firsts run 0 + (i - get_or starts run 0) ≡ get_or (words_from firsts starts 0 count) i 0
  word-read =
      let here : i ≡ 0 + i = omega arith in
      sym (word_in firsts starts 0 count runs run i inside begun last) ∙ ap (run_word_at firsts starts) here ∙ sym (get_or-words_from firsts starts 0 count i low)

  pub word-low : get_or firsts run 0 + (i - get_or starts run 0) < 2 ^ 41
  word-low = omega (arith, word_in firsts starts 0 count runs run i inside begun last, runs.fits i (omega arith) low)

-- ## Words after others

module _ (firsts starts : List ℕ) (count first n : ℕ) (runs : AreRuns firsts starts 0 count) (fits : first + n ≤ 2 ^ 41) where
  -- a run more
  abbrev more_firsts : List ℕ
  more_firsts = firsts ++ first ∷ []

  abbrev more_starts : List ℕ
  more_starts = starts ++ count ∷ []

  begun_more : (j i : ℕ) → j ≤ length starts → count ≤ i → get_or more_starts j 0 ≤ i
  begun_more j i within above = elim (eqb_tells j (length starts)) [
    | inl same ↦ omega (arith, get_or_push starts count 0 j (sym same.1))
    | inr differ ↦ let inside : j < length starts = omega (arith, differ.1) in omega (arith, get_or_append_left starts (count ∷ []) 0 j inside, runs.taken j inside)
  ]

  word_more : (i : ℕ) → count ≤ i → run_word_at more_firsts more_starts i ≡ first + (i - count)
  word_more i above =
      let many = length-append starts (count ∷ []) in
      run_word_at-found (length starts) more_firsts more_starts i (omega (arith, many, length-append firsts (first ∷ []), runs.same)) (omega (arith, many)) (λ j within. begun_more j i within above) (λ more. omega (arith, many, more))
      ∙ ap (λ w. w + (i - get_or more_starts (length starts) 0)) (get_or_push firsts first 0 (length starts) runs.same)
      ∙ ap (λ s. first + (i - s)) (get_or_push starts count 0 (length starts) refl)

  word_before : (i : ℕ) → i < count → run_word_at more_firsts more_starts i ≡ run_word_at firsts starts i
  word_before i under =
      sym (run_word_at-take (length starts) more_firsts more_starts i (runs.some (omega arith)) (λ more. omega (arith, get_or_push starts count 0 (length starts) refl)))
      ∙ ap (λ fs. run_word_at fs (take (length starts) more_starts) i) (take_at firsts (first ∷ []) (length starts) runs.same)
      ∙ ap (λ ss. run_word_at firsts ss i) (take_at starts (count ∷ []) (length starts) refl)

  pub words-begun : words_from more_firsts more_starts 0 (count + n) ≡ words_from firsts starts 0 count ++ range_with_len first n
  words-begun =
      words_from-add more_firsts more_starts 0 count n
      ∙ ap (λ ws. ws ++ words_from more_firsts more_starts (0 + count) n) (words_from-same more_firsts more_starts firsts starts 0 count (λ i low high. word_before i (omega arith)))
      ∙ ap (λ ws. words_from firsts starts 0 count ++ ws)
      (words_from-range more_firsts more_starts (0 + count) first n (λ i low high. let same : first + (i - count) ≡ first + (i - (0 + count)) = omega arith in word_more i (omega arith) ∙ same))

  pub next-begun : run_word_at more_firsts more_starts (count + n) ≡ first + n
  next-begun = omega (arith, word_more (count + n) (omega arith))

  pub runs-begun : 0 < n → AreRuns more_firsts more_starts 0 (count + n)
  runs-begun some =
      let many = length-append starts (count ∷ []) in
      record {
        same = omega (arith, many, length-append firsts (first ∷ []), runs.same);
        some = λ more. omega (arith, many);
        begun = elim (eqb_tells (length starts) 0) [
          | inl none ↦ elim (eqb_tells count 0) [
            | inl nothing ↦ omega (arith, get_or_push starts count 0 0 none.1, nothing.1)
            | inr more ↦ absurd (omega (arith, runs.some (omega (arith, more.1)), none.1))
          ]
          | inr more ↦ omega (arith, get_or_append_left starts (count ∷ []) 0 0 (omega (arith, more.1)), runs.begun)
        ];
        first = λ more. elim (eqb_tells (length starts) 1) [
          | inl one ↦ omega (arith, get_or_push starts count 0 1 one.1, runs.taken 0 (omega (arith, one.1)))
          | inr others ↦ let inside : 1 < length starts = omega (arith, many, others.1) in omega (arith, get_or_append_left starts (count ∷ []) 0 1 inside, runs.first inside)
        ];
        taken = λ i inside. omega (arith, begun_more i count (omega (arith, many)) (omega arith));
        rises = λ i j less inside. let left : i < length starts = omega (arith, many) in elim (eqb_tells j (length starts)) [
          | inl same ↦ omega (arith, get_or_push starts count 0 j (sym same.1), get_or_append_left starts (count ∷ []) 0 i left, runs.taken i left)
          | inr differ ↦ let right : j < length starts = omega (arith, many, differ.1) in omega (arith, get_or_append_left starts (count ∷ []) 0 i left, get_or_append_left starts (count ∷ []) 0 j right, runs.rises i j less right)
        ];
        fits = λ i low high. elim (leb_tells count i) [
          | inl above ↦ omega (arith, word_more i above.1)
          | inr under ↦ omega (arith, word_before i under.1, runs.fits i low under.1)
        ];
      }

  -- more words of the last run
  module _ (goes_on : first ≡ run_word_at firsts starts count) (some : first < 2 ^ 41) where
    is_some : 0 < length starts
    is_some = there firsts starts runs.same goes_on some
      where
        there : (fs ss : List ℕ) → length fs ≡ length ss → first ≡ run_word_at fs ss count → first < 2 ^ 41 → 0 < length ss
        there [] [] same is low = absurd (omega (arith, is))
        there [] (s ∷ ss) same is low = omega arith
        there (f ∷ fs) [] same is low = absurd (omega arith)
        there (f ∷ fs) (s ∷ ss) same is low = omega arith

    word_on : (i : ℕ) → count ≤ i → run_word_at firsts starts i ≡ first + (i - count)
    word_on i above =
        let last = length starts - 1 in
        let low : last < length starts = omega (arith, is_some) in
        let taken = runs.taken last low in
        let here = word_in firsts starts 0 count runs last count low (omega arith) (λ more. omega arith) in
        let there = word_in firsts starts 0 count runs last i low (omega arith) (λ more. omega arith) in
        omega (arith, here, there, goes_on, taken)

    pub words-joined : words_from firsts starts 0 (count + n) ≡ words_from firsts starts 0 count ++ range_with_len first n
    words-joined =
        words_from-add firsts starts 0 count n
        ∙ ap (λ ws. words_from firsts starts 0 count ++ ws)
        (words_from-range firsts starts (0 + count) first n (λ i low high. let same : first + (i - count) ≡ first + (i - (0 + count)) = omega arith in word_on i (omega arith) ∙ same))

    pub next-joined : run_word_at firsts starts (count + n) ≡ first + n
    next-joined = omega (arith, word_on (count + n) (omega arith))

    pub runs-joined : AreRuns firsts starts 0 (count + n)
    runs-joined = record {
      same = runs.same;
      some = λ more. is_some;
      begun = runs.begun;
      first = runs.first;
      taken = λ i inside. omega (arith, runs.taken i inside);
      rises = runs.rises;
      fits = λ i low high. elim (leb_tells count i) [
        | inl above ↦ omega (arith, word_on i above.1)
        | inr under ↦ runs.fits i low under.1
      ];
    }

-- ---- how far a run goes on after one of its events

pub record IsRowEnd (starts : List ℕ) (count run i end : ℕ) : Type 0 where
  pub past : i < end
  pub within : end ≤ count
  pub last : (k : ℕ) → k < end → run + 1 < length starts → k < get_or starts (run + 1) 0

pub row_words : (firsts starts : List ℕ) (count run i end : ℕ) → AreRuns firsts starts 0 count → run < length starts → get_or starts run 0 ≤ i → IsRowEnd starts count run i end
    → (j : ℕ) → j < end - i → get_or (words_from firsts starts 0 count) (i + j) 0 ≡ get_or (words_from firsts starts 0 count) i 0 + j
row_words firsts starts count run i end runs inside begun ends j low =
    let past = ends.past in
    let within = ends.within in
    let here = word-read firsts starts count runs i run (omega (arith, past, within)) inside begun (ends.last i past) in
    let there = word-read firsts starts count runs (i + j) run (omega (arith, past, within, low)) inside (omega (arith, begun)) (ends.last (i + j) (omega (arith, past, low))) in
    omega (arith, here, there, begun)

-- the words of a run up to one of its events
pub row_words_before : (firsts starts : List ℕ) (count run from last n word : ℕ) → AreRuns firsts starts 0 count → run < length starts → get_or starts run 0 ≤ from → from ≤ last → last < count
    → (run + 1 < length starts → last < get_or starts (run + 1) 0) → n ≡ (last + 1) - from → word + (last - from) ≡ get_or firsts run 0 + (last - get_or starts run 0)
    → take n (drop from (words_from firsts starts 0 count)) ≡ range_with_len word n
row_words_before firsts starts count run from last n word runs inside begun within low before many is =
    ap (take n) (drop-words_from firsts starts 0 from count (omega arith))
    ∙ take-words_from firsts starts (0 + from) n (count - from) (omega arith)
    ∙ words_from-range firsts starts (0 + from) word n (λ i least less.
    let here = word_in firsts starts 0 count runs run i inside (omega arith) (λ more. omega (arith, before more)) in
    omega (arith, here, is))
