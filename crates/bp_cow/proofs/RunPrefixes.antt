-- The prefixes of the paths of a run.
use Rattle.std.proofs.Common.{◌≡◌, ◌⊎◌, ℕ, zero, suc, ◌+◌, ◌-◌, ◌*◌, ◌/◌, ◌%◌, ◌^◌, ◌<◌, ◌≤◌, List, [], ◌∷◌, ◌++◌, length, take, refl, sym, ◌∙◌, ap, subst, arith, inl, inr, mul_comm, pow-suc, le_trans, append_assoc}
use Rattle.std.specs.List.{slice_index}
use Rattle.std.proofs.Math.ListN.{get_or-append}
use Rattle.std.proofs.Math.Seq.{get_or-append_right}
use Rattle.std.proofs.Math.Nat.{div-div-eq-div-mul, div-mul-le_self, le-div_iff_mul-le, one-le-pow}
use Rattle.std.proofs.lemmas.List.{get_or-take}
use Rattle.std.proofs.lemmas.Bool.{cases_lt}
use Rattle.bp_changes.specs.Trail.{Trail, trail_of}
use Rattle.bp_layout.specs.WordPaths.{digits}
use Rattle.bp_changes.specs.Forest.{along}
use Rattle.bp_changes.proofs.ForestLaws.{HasFewDigits, same_along}
use Rattle.bp_changes.proofs.PathTrails.{trail_of-next}
use Rattle.bp_read.proofs.StepDown.{quotient}
use Rattle.bp_cow.specs.declared.touched.Run.{Run}
use Rattle.bp_cow.specs.Touched.{run_path, run_way}
use Rattle.bp_cow.proofs.RunLaws.{slot-digits, slot-run_path, length-run_path, length-run_way}

cons : {s t : ℕ} {p q : Trail} → s ≡ t → p ≡ q → s ∷ p ≡ t ∷ q
cons e f = cc

pub trail_of-append : (p q : List ℕ) (d : ℕ) → d ≤ length p → trail_of (p ++ q) d ≡ trail_of p d
trail_of-append p q zero low = refl
trail_of-append p q (suc d) low = cons (get_or-append p q 0 d (omega (arith, low))) (trail_of-append p q d (omega (arith, low)))

pub trail_of-take : (p : List ℕ) (n d : ℕ) → d ≤ n → trail_of (take n p) d ≡ trail_of p d
trail_of-take p n zero low = refl
trail_of-take p n (suc d) low = cons (get_or-take n p d 0 (omega (arith, low))) (trail_of-take p n d (omega (arith, low)))

-- a prefix that reaches into the digits
pub prefix-digits : (root : List ℕ) (count k e : ℕ) → e ≤ count → trail_of (root ++ digits count k) (length root + e) ≡ along (trail_of root (length root)) e (k / 512 ^ (count - e))
prefix-digits root count k zero low =
    let here : length root + 0 ≡ length root = omega arith in
    ap (trail_of (root ++ digits count k)) here ∙ trail_of-append root (digits count k) (length root) (omega arith)
prefix-digits root count k (suc e) low =
    let next : length root + suc e ≡ suc (length root + e) = omega arith in
    let at : (length root + e) - length root ≡ e = omega arith in
    let level : count - 1 - e ≡ count - suc e = omega arith in
    let up : count - e ≡ suc (count - suc e) = omega (arith, low) in
    ap (trail_of (root ++ digits count k)) next
    ∙ cons
    (get_or-append_right root (digits count k) (length root + e) 0 (omega arith) ∙ ap (slice_index (digits count k)) at ∙ slot-digits count k e (omega (arith, low)) ∙ ap (λ l. k / 512 ^ l % 512) level)
    (prefix-digits root count k e (omega (arith, low)) ∙ ap (along (trail_of root (length root)) e) (ap (λ l. k / 512 ^ l) up ∙ quotient k (count - suc e)))

-- ---- numbers of few digits

pub short-power : (count k : ℕ) → k < 512 ^ count → HasFewDigits count k
short-power zero k low = omega (arith, low)
short-power (suc count) k low = short-power count (k / 512) (quotient_low (512 ^ count) (rw pow-suc at low))
  where
    quotient_low : (n : ℕ) → k < n * 512 → k / 512 < n
    quotient_low n low = omega (arith, low)

pub short-over : (e c k : ℕ) → HasFewDigits (e + c) k → HasFewDigits e (k / 512 ^ c)
short-over e zero k short =
    let none : e + 0 ≡ e = omega arith in
    let whole : k / 512 ^ 0 ≡ k = omega arith in
    subst (HasFewDigits e) (sym whole) (subst (λ n. HasFewDigits n k) none short)
short-over e (suc c) k short =
    let next : e + suc c ≡ suc (e + c) = omega arith in
    let more : HasFewDigits (e + c) (k / 512) = subst (λ n. HasFewDigits n k) next short in
    subst (HasFewDigits e) (div-div-eq-div-mul k 512 (512 ^ c) ∙ ap (λ n. k / n) (mul_comm 512 (512 ^ c) ∙ sym (pow-suc 512 c))) (short-over e c (k / 512) more)

-- words between two that begin alike begin alike with them
pub between-run : (run : Run) (first k last d : ℕ) → first ≤ k → k ≤ last → last < 512 ^ suc run.height → d ≤ length run.root.items + suc run.height →
    trail_of (run_path run first) d ≡ trail_of (run_path run last) d → trail_of (run_path run k) d ≡ trail_of (run_path run first) d
between-run run first k last d low high covered long same = go (cases_lt (length run.root.items) d)
  where
    root : List ℕ
    root = run.root.items

    go : (length root < d) ⊎ (d ≤ length root) → trail_of (run_path run k) d ≡ trail_of (run_path run first) d
    go (inr small) = trail_of-append root (digits (suc run.height) k) d small ∙ sym (trail_of-append root (digits (suc run.height) first) d small)
    go (inl past) =
        let e : ℕ = d - length root in
        let at : d ≡ length root + e = omega (arith, past) in
        let few : e ≤ suc run.height = omega (arith, long, at) in
        let c : ℕ = suc run.height - e in
        let sum : e + c ≡ suc run.height = omega (arith, few) in
        let of : (n : ℕ) → trail_of (run_path run n) d ≡ along (trail_of root (length root)) e (n / 512 ^ c) = λ n. ap (trail_of (run_path run n)) at ∙ prefix-digits root (suc run.height) n e few in
        let short : (n : ℕ) → n ≤ last → HasFewDigits e (n / 512 ^ c) = λ n small. short-over e c n (subst (λ m. HasFewDigits m n) (sym sum) (short-power (suc run.height) n (lower n small covered))) in
        let ends = same_along (trail_of root (length root)) (trail_of root (length root)) e (first / 512 ^ c) (last / 512 ^ c) (short first (le_trans low high)) (short last (omega arith)) (sym (of first) ∙ same ∙ of last) in
        of k ∙ ap (along (trail_of root (length root)) e) (squeeze (512 ^ c) (one-le-pow c 512 (omega arith)) ends.1) ∙ sym (of first)
      where
        lower : (n : ℕ) → n ≤ last → last < 512 ^ suc run.height → n < 512 ^ suc run.height
        lower n small covered = omega (arith, small, covered)

        rising : (n a b : ℕ) → 0 < n → a ≤ b → a / n ≤ b / n
        rising n a b some small = (le-div_iff_mul-le some).1 (le_trans (div-mul-le_self a n) small)

        squeeze : (n : ℕ) → 0 < n → first / n ≡ last / n → k / n ≡ first / n
        squeeze n some same = omega (arith, same, rising n first k some low, rising n k last some high)

-- the way to a leaf begins as the paths of its words
pub prefix-run_way : (run : Run) (j k d : ℕ) → k / 512 ≡ run.offset / 4096 + j → d ≤ length (run_way run j) → trail_of (run_way run j) d ≡ trail_of (run_path run k) d
prefix-run_way run j k d leaf low =
    sym
    (ap (λ p. trail_of p d) (ap (λ n. run.root.items ++ (digits run.height n ++ k % 512 ∷ [])) leaf ∙ sym (append_assoc run.root.items (digits run.height (run.offset / 4096 + j)) (k % 512 ∷ [])))
    ∙ trail_of-append (run_way run j) (k % 512 ∷ []) d low)

-- the whole way
pub end-run_way : (run : Run) (j : ℕ) → trail_of (run_way run j) (length (run_way run j)) ≡ along (trail_of run.root.items (length run.root.items)) run.height (run.offset / 4096 + j)
end-run_way run j =
    let none : run.height - run.height ≡ 0 = omega arith in
    let n : ℕ = run.offset / 4096 + j in
    let whole : n / 512 ^ 0 ≡ n = omega arith in
    ap (trail_of (run_way run j)) (length-run_way run j)
    ∙ prefix-digits run.root.items run.height n run.height (omega arith)
    ∙ ap (along (trail_of run.root.items (length run.root.items)) run.height) (ap (λ l. n / 512 ^ l) none ∙ whole)

-- the paths of different words are different
pub same-run_path : (run : Run) (a b : ℕ) → a < 512 ^ suc run.height → b < 512 ^ suc run.height → trail_of (run_path run a) (length (run_path run a)) ≡ trail_of (run_path run b) (length (run_path run a)) → a ≡ b
same-run_path run a b low high same = (same_along (trail_of root (length root)) (trail_of root (length root)) (suc run.height) a b (short-power (suc run.height) a low) (short-power (suc run.height) b high) (sym (of a) ∙ same ∙ of b)).1
  where
    root : List ℕ
    root = run.root.items

    of : (n : ℕ) → trail_of (run_path run n) (length (run_path run a)) ≡ along (trail_of root (length root)) (suc run.height) n
    of n =
        let none : suc run.height - suc run.height ≡ 0 = omega arith in
        let whole : n / 512 ^ 0 ≡ n = omega arith in
        let at : length (run_path run a) ≡ length root + suc run.height = omega (arith, length-run_path run a) in
        ap (trail_of (run_path run n)) at
        ∙ prefix-digits root (suc run.height) n (suc run.height) (omega arith)
        ∙ ap (along (trail_of root (length root)) (suc run.height)) (ap (λ l. n / 512 ^ l) none ∙ whole)

-- the trail of a word of a tree, by its leaf
pub leaf-trail-of : (run : Run) (j k : ℕ) → k / 512 ≡ run.offset / 4096 + j → trail_of (run_path run k) (length (run_path run k)) ≡ k % 512 ∷ trail_of (run_way run j) (length (run_way run j))
leaf-trail-of run j k leaf =
    let count : ℕ = length (run_way run j) in
    let size : length (run_path run k) ≡ count + 1 = omega (arith, length-run_path run k, length-run_way run j) in
    ap (trail_of (run_path run k)) size ∙ trail_of-next (run_path run k) count
    ∙ cons (last run k count (length-run_way run j)) (sym (prefix-run_way run j k count leaf (omega arith)))
  where
    last : (run : Run) (k count : ℕ) → count ≡ length run.root.items + run.height → slice_index (run_path run k) count ≡ k % 512
    last run k count is =
        let level : run.height - (count - length run.root.items) ≡ 0 = omega (arith, is) in
        let whole : k / 512 ^ 0 ≡ k = omega arith in
        slot-run_path run k count (omega (arith, is)) (omega (arith, is, length-run_path run k)) ∙ ap (λ l. k / 512 ^ l % 512) level ∙ ap (λ n. n % 512) whole

-- of a run's words, and of the first
pub run-trail : (run : Run) (k : ℕ) → run.offset / 8 ≤ k →
    trail_of (run_path run k) (length (run_path run k)) ≡ k % 512 ∷ trail_of (run_way run (k / 512 - run.offset / 4096)) (length (run_way run (k / 512 - run.offset / 4096)))
run-trail run k low = leaf-trail-of run (k / 512 - run.offset / 4096) k (omega (arith, low))

pub first-trail : (run : Run) → trail_of (run_path run (run.offset / 8)) (length (run_path run (run.offset / 8))) ≡ run.offset / 8 % 512 ∷ trail_of (run_way run 0) (length (run_way run 0))
first-trail run = leaf-trail-of run 0 (run.offset / 8) (omega arith)
