-- The leaves of a run stand side by side, so few blocks are copied for it.
use Rattle.std.proofs.Common.{◌≡◌, ◌⊎◌, ℕ, zero, suc, ◌+◌, ◌-◌, ◌*◌, ◌/◌, ◌%◌, ◌<◌, ◌≤◌, List, [], ◌∷◌, ◌++◌, ◌&&◌, length, Bool, true, false, refl, sym, ◌∙◌, ap, subst, arith, inl, inr, append_assoc}
use Rattle.std.specs.Prelude.{nat_le, bytes_eq}
use Rattle.std.proofs.lemmas.Bool.{cases_eq, cases_lt, le-leb, leb-true, or_right}
use Rattle.std.proofs.lemmas.List.{length-append}
use Rattle.bp_layout.proofs.Below.{bytes_eq_self}
use Rattle.bp_layout.specs.Members.{Has}
use Rattle.bp_layout.specs.WellFormed.{IsWellFormed}
use Rattle.bp_layout.specs.WordPaths.{digits}
use Rattle.bp_layout.specs.Words.{Image}
use Rattle.bp_read.proofs.Digits.{length-digits}
use Rattle.bp_changes.specs.Trail.{trail_of}
use Rattle.bp_changes.proofs.PathTrails.{length-trail_of}
use Rattle.bp_cow.specs.CanCommit.{CanCommit}
use Rattle.bp_cow.specs.Cover.{commit_cover, copied_count}
use Rattle.bp_cow.specs.Job.{Job, prefix, ways, begins, copies_at, turned_for, turned_upto}
use Rattle.bp_cow.specs.Touched.{IsRun, IsTouched, NoneBegins, all_paths, run_leaves, run_way, leaves_of, way_of, word_paths, job_of}
use Rattle.bp_cow.specs.declared.touched.Run.{Run}
use Rattle.bp_cow.specs.declared.touched.Touched.{Touched}
use Rattle.bp_cow.proofs.CopiesNeed.{none-begins}
use Rattle.bp_cow.proofs.CoverOf.{cover_has, count_is}
use Rattle.bp_cow.proofs.RunPrefixes.{trail_of-append}
use Rattle.bp_cow.proofs.RunLaws.{length-run_way}
use Rattle.bp_cow.proofs.RunsLaws.{way-after, way-leaf, way-short}
use Rattle.bp_cow.proofs.CommitTaking.{turned_few}

-- a way that begins as the ways before it do has no more pointers of its own than its other slots
turned_rest : (job : Job) (from i keep : ℕ) → ((d : ℕ) → from ≤ d → d ≤ keep → begins job from i (prefix job i d) ≡ true) → (depth : ℕ) → turned_for job from i depth ≤ depth - keep
turned_rest job from i keep before zero = omega arith
turned_rest job from i keep before (suc depth) = go (nat_le from depth) refl (begins job from i (prefix job i (suc depth))) refl (turned_rest job from i keep before depth) (cases_lt depth keep)
  where
    clash : begins job from i (prefix job i (suc depth)) ≡ true → begins job from i (prefix job i (suc depth)) ≡ false → ⊥
    clash one two = absurd (cc)

    go : (x : Bool) → nat_le from depth ≡ x → (y : Bool) → begins job from i (prefix job i (suc depth)) ≡ y → turned_for job from i depth ≤ depth - keep → (depth < keep) ⊎ (keep ≤ depth) →
        turned_for job from i (suc depth) ≤ suc depth - keep
    go false e y f rest where_is = rw e (omega (arith, rest))
    go true e true f rest where_is = rw (e, f) (omega (arith, rest))
    go true e false f rest (inl low) = let at : from ≤ depth = leb-true from depth e in absurd (clash (before (suc depth) (omega (arith, at)) (omega (arith, low))) f)
    go true e false f rest (inr past) = rw (e, f) (omega (arith, rest, past))

-- the way before begins with what both ways begin with
begins_before : (job : Job) (from i d : ℕ) → from ≤ d → d ≤ length (job.way i) → prefix job (suc i) d ≡ prefix job i d → begins job from (suc i) (prefix job (suc i) d) ≡ true
begins_before job from i d low high same = or_right (begins job from i (prefix job (suc i) d)) _ here
  where
    size : length (prefix job (suc i) d) ≡ d
    size = length-trail_of (job.way (suc i)) d

    equal : bytes_eq (prefix job (suc i) d) (prefix job i (length (prefix job (suc i) d))) ≡ true
    equal = ap (bytes_eq (prefix job (suc i) d)) (ap (prefix job i) size ∙ sym same) ∙ bytes_eq_self (prefix job (suc i) d)

    here : (nat_le from (length (prefix job (suc i) d)) && nat_le (length (prefix job (suc i) d)) (length (job.way i)) && bytes_eq (prefix job (suc i) d) (prefix job i (length (prefix job (suc i) d)))) ≡ true
    here = rw (le-leb from (length (prefix job (suc i) d)) (omega (arith, size, low)), le-leb (length (prefix job (suc i) d)) (length (job.way i)) (omega (arith, size, high)), equal) refl

-- neighbours with one parent differ in their last digit
near_digits : (root : List ℕ) (height k d : ℕ) → d ≤ length root + height - 1 → (suc k % 512 ≡ 0 → ⊥) → trail_of (root ++ digits height (suc k)) d ≡ trail_of (root ++ digits height k) d
near_digits root zero k d low other = refl
near_digits root (suc height) k d low other =
    let parent : suc k / 512 ≡ k / 512 = omega (arith, other) in
    let short : d ≤ length (root ++ digits height (k / 512)) = omega (arith, low, length-append root (digits height (k / 512)), length-digits height (k / 512)) in
    let one : root ++ (digits height (suc k / 512) ++ suc k % 512 ∷ []) ≡ (root ++ digits height (k / 512)) ++ suc k % 512 ∷ [] =
    ap (λ p. root ++ (digits height p ++ suc k % 512 ∷ [])) parent ∙ sym (append_assoc root (digits height (k / 512)) (suc k % 512 ∷ [])) in
    let two : root ++ (digits height (k / 512) ++ k % 512 ∷ []) ≡ (root ++ digits height (k / 512)) ++ k % 512 ∷ [] = sym (append_assoc root (digits height (k / 512)) (k % 512 ∷ [])) in
    ap (λ p. trail_of p d) one ∙ trail_of-append (root ++ digits height (k / 512)) (suc k % 512 ∷ []) d short
    ∙ sym (ap (λ p. trail_of p d) two ∙ trail_of-append (root ++ digits height (k / 512)) (k % 512 ∷ []) d short)

module _ (touched : Touched) (shape : IsTouched touched) (from : ℕ) where
  abbrev job : Job
  job = job_of touched

  -- the ways of one run, after those of the runs before it
  module _ (run : Run) (start : ℕ) (is : IsRun run) (ways_are : (i : ℕ) → i < run_leaves run → (start + i < ways (job_of touched)) × ((job_of touched).way (start + i) ≡ run_way run i)) where
    abbrev first : ℕ
    first = run.offset / 4096

    way-long : (i : ℕ) → i < run_leaves run → length ((job_of touched).way (start + i)) ≤ 11
    way-long i low = way-short touched shape (start + i) (ways_are i low).0

    way-length : (i : ℕ) → i < run_leaves run → length ((job_of touched).way (start + i)) ≡ length run.root.items + run.height
    way-length i low = ap (λ (w : List ℕ). length w) (ways_are i low).1 ∙ length-run_way run i

    -- a way takes all of its pointers at most, and one where it has the parent of the way before
    whole-way : (i : ℕ) → i < run_leaves run → turned_for (job_of touched) from (start + i) (length ((job_of touched).way (start + i))) ≤ 11
    whole-way i low =
        let all = turned_few (job_of touched) from (start + i) (length ((job_of touched).way (start + i))) in
        omega (arith, all, way-long i low)

    next-way : (i : ℕ) → suc i < run_leaves run → ((first + suc i) % 512 ≡ 0 → ⊥) → turned_for (job_of touched) from (suc (start + i)) (length ((job_of touched).way (suc (start + i)))) ≤ 1
    next-way i low other =
        let some = turned_rest (job_of touched) from (suc (start + i)) (length ((job_of touched).way (suc (start + i))) - 1)
        (λ d above short. begins_before (job_of touched) from (start + i) d above (omega (arith, short, way-length i (omega (arith, low)), long)) (same d short))
        (length ((job_of touched).way (suc (start + i)))) in
        omega (arith, some)
      where
        number : first + suc i ≡ suc (first + i)
        number = omega arith

        at : start + suc i ≡ suc (start + i)
        at = omega arith

        way : (job_of touched).way (suc (start + i)) ≡ run_way run (suc i)
        way = ap (job_of touched).way (sym at) ∙ (ways_are (suc i) low).1

        long : length ((job_of touched).way (suc (start + i))) ≡ length run.root.items + run.height
        long = ap (λ (w : List ℕ). length w) way ∙ length-run_way run (suc i)

        same : (d : ℕ) → d ≤ length ((job_of touched).way (suc (start + i))) - 1 → trail_of ((job_of touched).way (suc (start + i))) d ≡ trail_of ((job_of touched).way (start + i)) d
        same d short =
            ap (λ (w : List ℕ). trail_of w d) (way ∙ ap (λ k. run.root.items ++ digits run.height k) number)
            ∙ near_digits run.root.items run.height (first + i) d (omega (arith, short, long)) (subst (λ n. n % 512 ≡ 0 → ⊥) number other)
            ∙ sym (ap (λ (w : List ℕ). trail_of w d) (ways_are i (omega (arith, low))).1)

    run-upto : (n : ℕ) → n < run_leaves run → turned_upto (job_of touched) from (suc (start + n)) ≤ turned_upto (job_of touched) from start + 11 + n + 11 * ((first + n) / 512 - first / 512)
    run-upto zero low =
        let none : start + 0 ≡ start = omega arith in
        let whole = subst (λ i. turned_for (job_of touched) from i (length ((job_of touched).way i)) ≤ 11) none (whole-way 0 low) in
        rw none (omega (arith, whole))
    run-upto (suc n) low = go (cases_eq ((first + suc n) % 512) 0) (run-upto n (omega (arith, low)))
      where
        at : start + suc n ≡ suc (start + n)
        at = omega arith

        whole : turned_for (job_of touched) from (suc (start + n)) (length ((job_of touched).way (suc (start + n)))) ≤ 11
        whole = subst (λ i. turned_for (job_of touched) from i (length ((job_of touched).way i)) ≤ 11) at (whole-way (suc n) low)

        go : ((first + suc n) % 512 ≡ 0) ⊎ ((first + suc n) % 512 ≡ 0 → ⊥) → turned_upto (job_of touched) from (suc (start + n)) ≤ turned_upto (job_of touched) from start + 11 + n + 11 * ((first + n) / 512 - first / 512) →
            turned_upto (job_of touched) from (suc (start + suc n)) ≤ turned_upto (job_of touched) from start + 11 + suc n + 11 * ((first + suc n) / 512 - first / 512)
        go (inl e) rest = let redirect : (first + suc n) / 512 ≡ (first + n) / 512 + 1 = omega (arith, e) in rw at (omega (arith, rest, redirect, whole))
        go (inr other) rest = let stay : (first + suc n) / 512 ≡ (first + n) / 512 = omega (arith, other) in rw at (omega (arith, rest, stay, next-way n low other))

    -- all ways of the run
    run-few : turned_upto (job_of touched) from (start + run_leaves run) ≤ turned_upto (job_of touched) from start + run_leaves run + 21
    run-few =
        let all = run-upto (run_leaves run - 1) (omega arith) in
        let count : suc (start + (run_leaves run - 1)) ≡ start + run_leaves run = omega arith in
        let few : run_leaves run ≤ 257 = omega (arith, is.few, is.some) in
        let near : (first + (run_leaves run - 1)) / 512 - first / 512 ≤ 1 = omega (arith, few) in
        subst (λ n. turned_upto (job_of touched) from n ≤ turned_upto (job_of touched) from start + run_leaves run + 21) count (omega (arith, all, near))

  -- the ways of some runs, after those of the runs before them
  runs-few : (runs : List Run) (start : ℕ) → ((run : Run) → Has runs run → IsRun run) →
      ((i : ℕ) → i < leaves_of runs → (start + i < ways (job_of touched)) × ((job_of touched).way (start + i) ≡ way_of runs (word_paths touched) i)) →
      turned_upto (job_of touched) from (start + leaves_of runs) ≤ turned_upto (job_of touched) from start + leaves_of runs + 21 * length runs
  runs-few [] start are ways_are = let none : start + 0 ≡ start = omega arith in rw none (omega arith)
  runs-few (run ∷ runs) start are ways_are =
      let one = run-few run start (are run (inl refl)) (λ i low. let way = ways_are i (omega (arith, low)) in (way.0, way.1 ∙ way-leaf run runs (word_paths touched) i low)) in
      let rest = runs-few runs (start + run_leaves run) (λ r has. are r (inr has)) beyond in
      let sum : start + run_leaves run + leaves_of runs ≡ start + (run_leaves run + leaves_of runs) = omega arith in
      subst (λ n. turned_upto (job_of touched) from n ≤ turned_upto (job_of touched) from start + (run_leaves run + leaves_of runs) + 21 * suc (length runs)) sum (omega (arith, one, rest))
    where
      beyond : (i : ℕ) → i < leaves_of runs → (start + run_leaves run + i < ways (job_of touched)) × ((job_of touched).way (start + run_leaves run + i) ≡ way_of runs (word_paths touched) i)
      beyond i low =
          let way = ways_are (run_leaves run + i) (omega (arith, low)) in
          let sum : start + (run_leaves run + i) ≡ start + run_leaves run + i = omega arith in
          let back : run_leaves run + i - run_leaves run ≡ i = omega arith in (
            subst (λ n. n < ways (job_of touched)) sum way.0,
            ap (job_of touched).way (sym sum) ∙ way.1 ∙ way-after run runs (word_paths touched) (run_leaves run + i) (omega arith) ∙ ap (way_of runs (word_paths touched)) back,
          )

  words-upto : (m : ℕ) → m ≤ length touched.words.now → turned_upto (job_of touched) from (leaves_of touched.runs.now + m) ≤ turned_upto (job_of touched) from (leaves_of touched.runs.now) + 11 * m
  words-upto zero low = let e : leaves_of touched.runs.now + 0 ≡ leaves_of touched.runs.now = omega arith in rw e (omega arith)
  words-upto (suc m) low =
      let e : leaves_of touched.runs.now + suc m ≡ suc (leaves_of touched.runs.now + m) = omega arith in
      let all = turned_few (job_of touched) from (leaves_of touched.runs.now + m) (length ((job_of touched).way (leaves_of touched.runs.now + m))) in
      let short : length ((job_of touched).way (leaves_of touched.runs.now + m)) ≤ 11 = way-short touched shape (leaves_of touched.runs.now + m) (omega (arith, low)) in
      rw e (omega (arith, words-upto m (omega (arith, low)), all, short))

  all-few : turned_upto (job_of touched) from (ways (job_of touched)) ≤ leaves_of touched.runs.now + 21 * length touched.runs.now + 11 * length touched.words.now
  all-few =
      let leaves = runs-few touched.runs.now 0 shape.runs (λ i low. let none : 0 + i ≡ i = omega arith in (omega (arith, low), ap (job_of touched).way none)) in
      let none : 0 + leaves_of touched.runs.now ≡ leaves_of touched.runs.now = omega arith in
      let few : turned_upto (job_of touched) from (leaves_of touched.runs.now) ≤ leaves_of touched.runs.now + 21 * length touched.runs.now = subst (λ n. turned_upto (job_of touched) from n ≤ leaves_of touched.runs.now + 21 * length touched.runs.now) none (omega (arith, leaves)) in
      omega (arith, words-upto (length touched.words.now) (omega arith), few)

-- Runs, with some words beside them, copy few blocks more than they have leaves.
pub runs_copies : (image : Image) (touched : Touched) → IsTouched touched → NoneBegins (all_paths touched) → copied_count image touched ≤ leaves_of touched.runs.now + 21 * length touched.runs.now + 1 + 11 * length touched.words.now
runs_copies image touched shape apart =
    subst (λ n. n ≤ leaves_of touched.runs.now + 21 * length touched.runs.now + 1 + 11 * length touched.words.now)
    (count_is touched shape image apart (length (commit_cover image touched)) (cover_has touched shape image))
    (go (nat_le (length (commit_cover image touched)) (length ((job_of touched).way 0))) refl)
  where
    all : turned_upto (job_of touched) (length (commit_cover image touched)) (ways (job_of touched)) ≤ leaves_of touched.runs.now + 21 * length touched.runs.now + 11 * length touched.words.now
    all = all-few touched shape (length (commit_cover image touched))

    go : (x : Bool) → nat_le (length (commit_cover image touched)) (length ((job_of touched).way 0)) ≡ x →
        copies_at (job_of touched) (length (commit_cover image touched)) ≤ leaves_of touched.runs.now + 21 * length touched.runs.now + 1 + 11 * length touched.words.now
    go true e = rw e (omega (arith, all))
    go false e = rw e (omega arith)

-- one run
pub run_copies : (image : Image) (touched : Touched) → IsTouched touched → NoneBegins (all_paths touched) → (run : Run) → touched.runs.now ≡ run ∷ [] → copied_count image touched ≤ run_leaves run + 22 + 11 * length touched.words.now
run_copies image touched shape apart run one =
    let all = runs_copies image touched shape apart in
    let leaves : leaves_of touched.runs.now ≡ run_leaves run + 0 = ap leaves_of one in
    let count : length touched.runs.now ≡ 1 = ap (λ (runs : List Run). length runs) one in
    omega (arith, all, leaves, count)

-- the same where they can be committed
pub few_copies : {in_snapshot : ℕ → Bool} (image : Image) (bound : ℕ → ℕ) (touched : Touched) (free : ℕ → Bool) (wf : IsWellFormed image) (can : CanCommit image bound in_snapshot touched free) (run : Run) → touched.runs.now ≡ run ∷ [] →
    copied_count image touched ≤ run_leaves run + 22 + 11 * length touched.words.now
few_copies image bound touched free wf can run one = run_copies image touched can.shape (none-begins image bound touched free wf can) run one
