-- With how many slots the paths that report begin alike.
use Rattle.std.proofs.Common.{◌≡◌, ◌≢◌, ◌⊎◌, ℕ, zero, suc, ◌+◌, ◌-◌, ◌*◌, ◌/◌, ◌^◌, ◌<◌, ◌≤◌, List, ◌∷◌, length, min, sym, ◌∙◌, ap, subst, arith, inl, inr, pow-suc}
use Rattle.std.specs.Prelude.{◌↔◌}
use Rattle.std.specs.List.{slice_index}
use Rattle.std.proofs.Math.Nat.{div-eq_of_lt}
use Rattle.std.proofs.lemmas.Bool.{cases_eq, cases_lt}
use Rattle.bp_layout.specs.WordPaths.{WordPath}
use Rattle.bp_changes.specs.Forest.{along}
use Rattle.bp_changes.specs.Trail.{Trail, trail_of}
use Rattle.bp_changes.proofs.ForestLaws.{HasFewDigits, same_along}
use Rattle.bp_changes.proofs.PathTrails.{prefix-trail_of, slot-trail_of, trail_of-next}
use Rattle.bp_cow.specs.declared.touched.Run.{Run}
use Rattle.bp_cow.specs.declared.touched.Touched.{Touched}
use Rattle.bp_cow.specs.Cover.{end_path, ends, BeginAlike, BothBegin}
use Rattle.bp_cow.specs.Touched.{IsRun, run_end, run_path}
use Rattle.bp_cow.proofs.RunPrefixes.{prefix-digits, short-over, short-power}
use Rattle.bp_cow.proofs.RunLaws.{length-run_path}

-- a shorter prefix is alike too
pub begin-less : (path other : WordPath) (n m : ℕ) → m ≤ n → BothBegin path other n → BothBegin path other m
begin-less path other n m low both = record {
  here = omega (arith, low, both.here);
  there = omega (arith, low, both.there);
  same = prefix-trail_of path other n m both.same low;
}

-- as many slots, where these are alike and no more
pub begin-upto : (path other : WordPath) (n : ℕ) → BothBegin path other n → ¬ BothBegin path other (suc n) → (m : ℕ) → (m ≤ n) ↔ BothBegin path other m
begin-upto path other n both not m = (λ low. begin-less path other n m low both, λ more. go more (cases_lt n m))
  where
    go : BothBegin path other m → (n < m) ⊎ (m ≤ n) → m ≤ n
    go more (inl high) = absurd (not (begin-less path other m (suc n) (omega (arith, high)) more))
    go more (inr low) = low

-- ---- the paths of two words of a run

module _ (run : Run) (a b : ℕ) (a_low : a < 512 ^ suc run.height) (b_low : b < 512 ^ suc run.height) where
  abbrev root : List ℕ
  root = run.root.items

  abbrev top : ℕ
  top = suc run.height

  trail-at : (k l : ℕ) → l ≤ top → trail_of (run_path run k) (length root + (top - l)) ≡ along (trail_of root (length root)) (top - l) (k / 512 ^ l)
  trail-at k l low =
      let back : top - (top - l) ≡ l = omega (arith, low) in
      prefix-digits root top k (top - l) (omega arith) ∙ ap (λ c. along (trail_of root (length root)) (top - l) (k / 512 ^ c)) back

  few-digits : (k l : ℕ) → l ≤ top → k < 512 ^ top → HasFewDigits (top - l) (k / 512 ^ l)
  few-digits k l low small =
      let whole : (top - l) + l ≡ top = omega (arith, low) in
      short-over (top - l) l k (subst (λ n. HasFewDigits n k) (sym whole) (short-power top k small))

  -- the same number above a level is the same prefix
  level-alike : (l : ℕ) → l ≤ top → a / 512 ^ l ≡ b / 512 ^ l → BothBegin (run_path run a) (run_path run b) (length root + (top - l))
  level-alike l low same = record {
    here = omega (arith, length-run_path run a);
    there = omega (arith, length-run_path run b);
    same = trail-at a l low ∙ ap (along (trail_of root (length root)) (top - l)) same ∙ sym (trail-at b l low);
  }

  alike-level : (l : ℕ) → l ≤ top → BothBegin (run_path run a) (run_path run b) (length root + (top - l)) → a / 512 ^ l ≡ b / 512 ^ l
  alike-level l low both =
      (same_along (trail_of root (length root)) (trail_of root (length root)) (top - l) (a / 512 ^ l) (b / 512 ^ l) (few-digits a l low a_low) (few-digits b l low b_low)
      (sym (trail-at a l low) ∙ both.same ∙ trail-at b l low)).1

  -- the lowest level above which the numbers are the same reports how many slots are alike
  pub level-upto : (l : ℕ) → l ≤ top → a / 512 ^ l ≡ b / 512 ^ l → ((k : ℕ) → k < l → a / 512 ^ k ≢ b / 512 ^ k) → (n : ℕ) → (n ≤ length root + (top - l)) ↔ BothBegin (run_path run a) (run_path run b) n
  level-upto zero low same lower = begin-upto (run_path run a) (run_path run b) _ (level-alike zero low same) (λ more. let here = more.here in omega (arith, here, length-run_path run a))
  level-upto (suc l) low same lower =
      let next : suc (length root + (top - suc l)) ≡ length root + (top - l) = omega (arith, low) in
      begin-upto (run_path run a) (run_path run b) _ (level-alike (suc l) low same)
      (λ more. lower l (omega arith) (alike-level l (omega (arith, low)) (subst (BothBegin (run_path run a) (run_path run b)) next more)))

  -- above all levels nothing is left
  pub level-top : a / 512 ^ top ≡ b / 512 ^ top
  level-top = div-eq_of_lt a_low ∙ sym (div-eq_of_lt b_low)

-- both numbers are below what the tree covers
pub ends-low : (run : Run) → IsRun run → (run.offset / 8 < 512 ^ suc run.height) × ((run_end run - 1) / 8 < 512 ^ suc run.height)
ends-low run is = rw pow-suc (low (512 ^ run.height) is.covered)
  where
    low : (n : ℕ) → run_end run ≤ 4096 * n → (run.offset / 8 < n * 512) × ((run_end run - 1) / 8 < n * 512)
    low n covered = (omega (arith, covered, is.some), omega (arith, covered, is.some))

-- ---- all of them

-- the first of them begin with the same slots, as many
abbrev pub FirstAlike : Touched → ℕ → ℕ → Type 0
FirstAlike touched count n = (k : ℕ) → k < count → BothBegin (end_path touched k) (end_path touched 0) n

pub first-next : (touched : Touched) (count most next : ℕ) → ((n : ℕ) → (n ≤ most) ↔ FirstAlike touched count n) →
    ((n : ℕ) → (n ≤ next) ↔ (n ≤ most) × BothBegin (end_path touched count) (end_path touched 0) n) → (n : ℕ) → (n ≤ next) ↔ FirstAlike touched (suc count) n
first-next touched count most next before also n = (λ low k here. each (also n).0 low k here (cases_eq k count), λ all. (also n).1 ((before n).1 (λ k here. all k (omega (arith, here))), all count (omega arith)))
  where
    each : (n ≤ next → (n ≤ most) × BothBegin (end_path touched count) (end_path touched 0) n) → n ≤ next → (k : ℕ) → k < suc count → (k ≡ count) ⊎ (k ≡ count → ⊥) → BothBegin (end_path touched k) (end_path touched 0) n
    each both low k here (inl e) = subst (λ i. BothBegin (end_path touched i) (end_path touched 0) n) (sym e) (both low).1
    each both low k here (inr other) = (before n).0 (both low).0 k (omega (arith, here, other))

pub all-alike : (touched : Touched) (count n : ℕ) → count ≡ ends touched → FirstAlike touched count n ↔ BeginAlike touched n
all-alike touched count n all = rw all (
  λ (each : (k : ℕ) → k < ends touched → BothBegin (end_path touched k) (end_path touched 0) n). record { long = λ i here. (each i here).here; same = λ i here. (each i here).same },
  λ (alike : BeginAlike touched n) k here. record { here = alike.long k here; there = first alike (omega (arith, here)); same = alike.same k here },
)
  where
    first : BeginAlike touched n → 0 < ends touched → n ≤ length (end_path touched 0)
    first alike some = alike.long 0 some

-- the last word of a run, where its first one is alike with the first path as far as is asked
pub begin-through : (first middle last : WordPath) (most own : ℕ) → BothBegin middle first most → ((n : ℕ) → (n ≤ own) ↔ BothBegin middle last n) → (least : ℕ) → (least ≤ most) × (least ≤ own) →
    ((n : ℕ) → n ≤ most → n ≤ own → n ≤ least) → (n : ℕ) → (n ≤ least) ↔ (n ≤ most) × BothBegin last first n
begin-through first middle last most own before alike least low greatest n = (to, of)
  where
    to : n ≤ least → (n ≤ most) × BothBegin last first n
    to few =
        let here = begin-less middle first most n (omega (arith, few, low.0)) before in
        let both = (alike n).0 (omega (arith, few, low.1)) in
        (omega (arith, few, low.0), record { here = both.there; there = here.there; same = sym both.same ∙ here.same })

    of : (n ≤ most) × BothBegin last first n → n ≤ least
    of both =
        let here = begin-less middle first most n both.0 before in
        greatest n both.0 ((alike n).1 (record { here = here.here; there = both.1.here; same = here.same ∙ sym both.1.same }))

-- of as many at most
pub begin-least : (path other : WordPath) (most own least n : ℕ) → (n ≤ own) ↔ BothBegin path other n → least ≡ min most own → (n ≤ least) ↔ (n ≤ most) × BothBegin path other n
begin-least path other most own least n alike is = (
  λ few. (omega (arith, few, is), alike.0 (omega (arith, few, is))),
  λ both. let low = both.0 in let here = alike.1 both.1 in omega (arith, is, low, here),
)

-- slot by slot, up to the first that differs or to the end
pub begin-slots : (path first : WordPath) (most count : ℕ) → most ≤ length first → count ≤ most → count ≤ length path → trail_of path count ≡ trail_of first count →
    ((count ≡ most) ⊎ (count ≡ length path)) ⊎ (slice_index path count ≢ slice_index first count) → (n : ℕ) → (n ≤ count) ↔ (n ≤ most) × BothBegin path first n
begin-slots path first most count inside few short same end n = (to, λ both. of both.0 both.1 end (cases_lt count n))
  where
    to : n ≤ count → (n ≤ most) × BothBegin path first n
    to low = (omega (arith, low, few), begin-less path first count n low (record { here = short; there = omega (arith, few, inside); same = same }))

    of : n ≤ most → BothBegin path first n → ((count ≡ most) ⊎ (count ≡ length path)) ⊎ (slice_index path count ≢ slice_index first count) → (count < n) ⊎ (n ≤ count) → n ≤ count
    of low both end (inr small) = small
    of low both (inl (inl e)) (inl more) = omega (arith, e, low)
    of low both (inl (inr e)) (inl more) = omega (arith, e, both.here)
    of low both (inr differ) (inl more) = absurd (differ (slot-trail_of path first n count both.same more))

pub next-alike : (path first : WordPath) (count : ℕ) → trail_of path count ≡ trail_of first count → slice_index path count ≡ slice_index first count → trail_of path (count + 1) ≡ trail_of first (count + 1)
next-alike path first count same slot = trail_of-next path count ∙ cons slot same ∙ sym (trail_of-next first count)
  where
    cons : {s t : ℕ} {p q : Trail} → s ≡ t → p ≡ q → s ∷ p ≡ t ∷ q
    cons e f = cc
