-- How much of a path some ways share.
use Rattle.std.proofs.Common.{◌≡◌, ◌≢◌, ◌⊎◌, ℕ, suc, ◌+◌, ◌-◌, ◌*◌, ◌/◌, ◌%◌, ◌^◌, ◌<◌, ◌≤◌, List, [], ◌∷◌, ◌++◌, length, min, max, refl, sym, ◌∙◌, ap, subst, arith, inl, inr, le_trans}
use Rattle.std.specs.List.{slice_index}
use Rattle.std.specs.Prelude.{◌↔◌}
use Rattle.std.proofs.Math.Nat.{div-mul-le_self, le-div_iff_mul-le, mul-div_left, one-le-pow}
use Rattle.std.proofs.Math.ListN.{get_or-append}
use Rattle.std.proofs.Math.Seq.{get_or-append_seam}
use Rattle.std.proofs.lemmas.Bool.{cases_eq, cases_lt}
use Rattle.std.proofs.lemmas.List.{length-append}
use Rattle.bp_layout.specs.WordPaths.{WordPath, digits}
use Rattle.bp_changes.specs.Forest.{along}
use Rattle.bp_changes.specs.Trail.{Trail, trail_of}
use Rattle.bp_changes.proofs.ForestLaws.{HasFewDigits, same_along}
use Rattle.bp_changes.proofs.PathTrails.{prefix-trail_of, slot-trail_of, trail_of-next}
use Rattle.bp_cow.specs.declared.touched.Run.{Run}
use Rattle.bp_cow.specs.declared.touched.Touched.{Touched}
use Rattle.bp_cow.specs.Job.{ways}
use Rattle.bp_cow.specs.Touched.{IsRun, IsTouched, job_of, path_of, run_leaves, run_way, way_of, word_paths}
use Rattle.bp_cow.specs.Ways.{AreFresh, IsShared}
use Rattle.bp_cow.proofs.CoverLaws.{run-slots}
use Rattle.bp_cow.proofs.RunLaws.{length-run_path, length-run_way, slot-run_way}
use Rattle.bp_cow.proofs.RunsLaws.{length-above, slot-above, way-after, way-leaf, ways-by}
use Rattle.bp_cow.proofs.RunPrefixes.{prefix-digits, short-over, short-power, trail_of-append}

-- ---- any ways

pub shared-less : (way : ℕ → WordPath) (count : ℕ) (path : WordPath) (d e : ℕ) → e ≤ d → IsShared way count path d → IsShared way count path e
shared-less way count path d e low is = record {
  which = is.which;
  early = is.early;
  here = omega (arith, low, is.here);
  there = omega (arith, low, is.there);
  same = prefix-trail_of path (way is.which) d e is.same low;
}

-- as many prefixes, where the one with a slot less is shared and the next is not
pub shared-upto : (way : ℕ → WordPath) (count : ℕ) (path : WordPath) (n : ℕ) → IsShared way count path n → (IsShared way count path (n + 1) → ⊥) → (d : ℕ) → (d < n + 1) ↔ IsShared way count path d
shared-upto way count path n is not d =
    (λ low. shared-less way count path n d (omega (arith, low)) is, λ shared. below shared (cases_lt n d))
  where
    below : IsShared way count path d → (n < d) ⊎ (d ≤ n) → d < n + 1
    below shared (inl more) = absurd (not (shared-less way count path d (n + 1) (omega (arith, more)) shared))
    below shared (inr few) = omega (arith, few)

pub shared-none : (way : ℕ → WordPath) (path : WordPath) (d : ℕ) → (d < 0) ↔ IsShared way 0 path d
shared-none way path d = (λ none. absurd (omega (arith, none)), λ is. let early = is.early in omega (arith, early))

-- two paths that go together for as many slots
pub record AreAlike (path other : WordPath) (n : ℕ) : Type 0 where
  pub here : n ≤ length path
  pub there : n ≤ length other
  pub same : trail_of path n ≡ trail_of other n
  pub most : n < length path → n < length other → slice_index path n ≢ slice_index other n

pub alike-most : (path other : WordPath) (n d : ℕ) → AreAlike path other n → d ≤ length path → d ≤ length other → trail_of path d ≡ trail_of other d → d ≤ n
alike-most path other n d alike here there same = go (cases_lt n d)
  where
    go : (n < d) ⊎ (d ≤ n) → d ≤ n
    go (inl more) = absurd (alike.most (omega (arith, more, here)) (omega (arith, more, there)) (slot-trail_of path other d n same more))
    go (inr few) = few

-- one way more
pub shared-next : (way : ℕ → WordPath) (k : ℕ) (path other : WordPath) (shared n : ℕ) → way k ≡ other → ((d : ℕ) → (d < shared) ↔ IsShared way k path d) → AreAlike path other n →
    (d : ℕ) → (d < max shared (n + 1)) ↔ IsShared way (k + 1) path d
shared-next way k path other shared n is before alike d = (to (cases_lt d shared), from)
  where
    more : IsShared way k path d → IsShared way (k + 1) path d
    more s = record { which = s.which; early = omega (arith, s.early); here = s.here; there = s.there; same = s.same }

    to : (d < shared) ⊎ (shared ≤ d) → d < max shared (n + 1) → IsShared way (k + 1) path d
    to (inl few) low = more ((before d).0 few)
    to (inr past) low =
        let small : d ≤ n = omega (arith, low, past) in
        record {
          which = k;
          early = omega arith;
          here = omega (arith, small, alike.here);
          there = rw is (omega (arith, small, alike.there));
          same = rw is (prefix-trail_of path other n d alike.same small);
        }

    from : IsShared way (k + 1) path d → d < max shared (n + 1)
    from s = go (cases_eq s.which k)
      where
        go : (s.which ≡ k) ⊎ (s.which ≡ k → ⊥) → d < max shared (n + 1)
        go (inl here) =
            let one : way s.which ≡ other = ap way here ∙ is in
            let low = alike-most path other n d alike s.here (subst (λ (p : WordPath). d ≤ length p) one s.there) (s.same ∙ ap (λ p. trail_of p d) one) in
            omega (arith, low)
        go (inr other_way) =
            let low = (before d).1 (record { which = s.which; early = omega (arith, s.early, other_way); here = s.here; there = s.there; same = s.same }) in
            omega (arith, low)

-- what some ways share, and then others
pub shared-either : (shared n d : ℕ) (One All : Type 0) → ((d < shared) ⊎ One) ↔ All → (d < n) ↔ One → (d < max shared n) ↔ All
shared-either shared n d One All all one = (λ low. to low (cases_lt d shared), λ has. from (all.1 has))
  where
    to : d < max shared n → (d < shared) ⊎ (shared ≤ d) → All
    to low (inl few) = all.0 (inl few)
    to low (inr past) = all.0 (inr (one.0 (omega (arith, low, past))))

    from : (d < shared) ⊎ One → d < max shared n
    from (inl few) = omega (arith, few)
    from (inr has) = let low = one.1 has in omega (arith, low)

-- the first leaves of a run, and then those after
module _ (run : Run) (runs : List Run) (paths : List WordPath) (path : WordPath) (rest leaves d : ℕ) (is : leaves ≡ min (run_leaves run) rest) where
  split : IsShared (way_of (run ∷ runs) paths) rest path d → IsShared (run_way run) leaves path d ⊎ IsShared (way_of runs paths) (rest - leaves) path d
  split s = go (cases_lt s.which (run_leaves run))
    where
      go : (s.which < run_leaves run) ⊎ (run_leaves run ≤ s.which) → IsShared (run_way run) leaves path d ⊎ IsShared (way_of runs paths) (rest - leaves) path d
      go (inl low) =
          let here = way-leaf run runs paths s.which low in
          inl (record {
            which = s.which;
            early = omega (arith, is, low, s.early);
            here = s.here;
            there = subst (λ (p : WordPath). d ≤ length p) here s.there;
            same = s.same ∙ ap (λ p. trail_of p d) here;
          })
      go (inr past) =
          let there = way-after run runs paths s.which past in
          inr (record {
            which = s.which - run_leaves run;
            early = omega (arith, is, past, s.early);
            here = s.here;
            there = subst (λ (p : WordPath). d ≤ length p) there s.there;
            same = s.same ∙ ap (λ p. trail_of p d) there;
          })

  joined : IsShared (run_way run) leaves path d ⊎ IsShared (way_of runs paths) (rest - leaves) path d → IsShared (way_of (run ∷ runs) paths) rest path d
  joined (inl s) =
      let here = way-leaf run runs paths s.which (omega (arith, is, s.early)) in
      record {
        which = s.which;
        early = omega (arith, is, s.early);
        here = s.here;
        there = subst (λ (p : WordPath). d ≤ length p) (sym here) s.there;
        same = s.same ∙ ap (λ p. trail_of p d) (sym here);
      }
  joined (inr s) =
      let back : run_leaves run + s.which - run_leaves run ≡ s.which = omega arith in
      let there : way_of (run ∷ runs) paths (run_leaves run + s.which) ≡ way_of runs paths s.which = way-after run runs paths (run_leaves run + s.which) (omega arith) ∙ ap (way_of runs paths) back in
      record {
        which = run_leaves run + s.which;
        early = omega (arith, is, s.early);
        here = s.here;
        there = subst (λ (p : WordPath). d ≤ length p) (sym there) s.there;
        same = s.same ∙ ap (λ p. trail_of p d) (sym there);
      }

  pub shared-run : (shared n : ℕ) (All : Type 0) → ((d < shared) ⊎ IsShared (way_of (run ∷ runs) paths) rest path d) ↔ All → (d < n) ↔ IsShared (run_way run) leaves path d →
      ((d < max shared n) ⊎ IsShared (way_of runs paths) (rest - leaves) path d) ↔ All
  shared-run shared n All all one = (to, λ has. from (all.1 has))
    where
      near : d < max shared n → (d < shared) ⊎ (shared ≤ d) → All
      near low (inl few) = all.0 (inl few)
      near low (inr past) = all.0 (inr (joined (inl (one.0 (omega (arith, low, past))))))

      to : (d < max shared n) ⊎ IsShared (way_of runs paths) (rest - leaves) path d → All
      to (inl low) = near low (cases_lt d shared)
      to (inr s) = all.0 (inr (joined (inr s)))

      sorted : IsShared (run_way run) leaves path d ⊎ IsShared (way_of runs paths) (rest - leaves) path d → (d < max shared n) ⊎ IsShared (way_of runs paths) (rest - leaves) path d
      sorted (inl s) = let low = one.1 s in inl (omega (arith, low))
      sorted (inr s) = inr s

      from : (d < shared) ⊎ IsShared (way_of (run ∷ runs) paths) rest path d → (d < max shared n) ⊎ IsShared (way_of runs paths) (rest - leaves) path d
      from (inl few) = inl (omega (arith, few))
      from (inr s) = sorted (split s)

-- ---- the ways to the first leaves of a run

-- The path begins with the root of a run and then with as many digits of a number, with which those of some of its first
-- leaves begin.
pub record IsInside (run : Run) (leaves : ℕ) (path : WordPath) (e number : ℕ) : Type 0 where
  pub low_level : e ≤ run.height
  pub here : length run.root.items + e ≤ length path
  pub trail : trail_of path (length run.root.items + e) ≡ along (trail_of run.root.items (length run.root.items)) e number
  pub digits : HasFewDigits e number
  pub low : run.offset / 4096 / 512 ^ (run.height - e) ≤ number
  pub high : number ≤ (run.offset / 4096 + (leaves - 1)) / 512 ^ (run.height - e)

module _ (run : Run) (leaves : ℕ) (path : WordPath) (some : 0 < leaves) where
  abbrev pub root : List ℕ
  root = run.root.items

  abbrev pub base : Trail
  base = trail_of root (length root)

  prefix-root : (j d : ℕ) → d ≤ length root → trail_of (run_way run j) d ≡ trail_of root d
  prefix-root j d low = trail_of-append root (digits run.height (run.offset / 4096 + j)) d low

  -- the path leaves that of the root
  pub shared-root : (n : ℕ) → AreAlike path root n → n < length root → (d : ℕ) → (d < n + 1) ↔ IsShared (run_way run) leaves path d
  shared-root n alike short = shared-upto (run_way run) leaves path n
      (record { which = 0; early = some; here = alike.here; there = omega (arith, short, length-run_way run 0); same = alike.same ∙ sym (prefix-root 0 n (omega (arith, short))) })
      not
    where
      not : IsShared (run_way run) leaves path (n + 1) → ⊥
      not s =
          let low = alike-most path root n (n + 1) alike s.here (omega (arith, short)) (s.same ∙ prefix-root s.which (n + 1) (omega (arith, short))) in
          omega (arith, low)

  module _ (is : IsRun run) (few : leaves ≤ run_leaves run) where
    abbrev pub first : ℕ
    first = run.offset / 4096

    abbrev pub last : ℕ
    last = run.offset / 4096 + (leaves - 1)

    pub inside-start : length root ≤ length path → trail_of path (length root) ≡ base → IsInside run leaves path 0 0
    inside-start long same =
        let at : length root + 0 ≡ length root = omega arith in
        let whole : run.height - 0 ≡ run.height = omega arith in
        record {
          low_level = omega arith;
          here = omega (arith, long);
          trail = ap (trail_of path) at ∙ same;
          digits = refl;
          low = rw whole (small (512 ^ run.height) (one-le-pow run.height 512 (omega arith)) covered);
          high = omega arith;
        }
      where
        covered : first < 512 ^ run.height
        covered = let covers = is.covered in let any = is.some in omega (arith, covers, any)

        small : (p : ℕ) → 0 < p → first < p → first / p ≤ 0
        small p positive low = go (cases_lt 0 (first / p))
          where
            go : (0 < first / p) ⊎ (first / p ≤ 0) → first / p ≤ 0
            go (inl more) =
                let most = div-mul-le_self first p in
                let one : 1 * p ≤ first = (le-div_iff_mul-le positive).0 (omega (arith, more)) in
                absurd (omega (arith, one, low))
            go (inr none) = none

    -- a leaf whose number begins so
    pub inside-shared : (e number : ℕ) → IsInside run leaves path e number → IsShared (run_way run) leaves path (length root + e)
    inside-shared e number at = go (cases_lt first (number * p))
      where
        p : ℕ
        p = 512 ^ (run.height - e)

        positive : 0 < p
        positive = one-le-pow (run.height - e) 512 (omega arith)

        leaf : (j : ℕ) → j < leaves → (first + j) / p ≡ number → IsShared (run_way run) leaves path (length root + e)
        leaf j early number_is = record {
          which = j;
          early = early;
          here = at.here;
          there = omega (arith, at.low_level, length-run_way run j);
          same = at.trail ∙ ap (along base e) (sym number_is) ∙ sym (prefix-digits root run.height (first + j) e at.low_level);
        }

        go : (first < number * p) ⊎ (number * p ≤ first) → IsShared (run_way run) leaves path (length root + e)
        go (inl more) =
            let j : ℕ = number * p - first in
            let there : first + j ≡ number * p = omega (arith, more) in
            let most : number * p ≤ last = (le-div_iff_mul-le positive).0 at.high in
            leaf j (omega (arith, most, more, some)) (ap (λ n. n / p) there ∙ mul-div_left number positive)
        go (inr few_below) =
            let high : number ≤ first / p = (le-div_iff_mul-le positive).1 few_below in
            let at_first : first + 0 ≡ first = omega arith in
            let low : first / p ≤ number = at.low in
            let same : first / p ≡ number = omega (arith, high, low) in
            leaf 0 some (ap (λ n. n / p) at_first ∙ same)

    -- the number with one digit more
    next_trail : (e number slot : ℕ) → IsInside run leaves path e number → slice_index path (length root + e) ≡ slot → slot < 512 →
        trail_of path (length root + (e + 1)) ≡ along base (e + 1) (512 * number + slot)
    next_trail e number slot at here low =
        let next : length root + (e + 1) ≡ length root + e + 1 = omega arith in
        let digit : (512 * number + slot) % 512 ≡ slot = omega (arith, low) in
        let rest : (512 * number + slot) / 512 ≡ number = omega (arith, low) in
        let up : e + 1 ≡ suc e = omega arith in
        rw up (rw (digit, rest) (subst (λ n. trail_of path n ≡ slot ∷ along base e number) (next_again next up) (trail_of-next path (length root + e) ∙ both here at.trail)))
      where
        both : {s t : ℕ} {p q : Trail} → s ≡ t → p ≡ q → s ∷ p ≡ t ∷ q
        both a b = cc

        next_again : length root + (e + 1) ≡ length root + e + 1 → e + 1 ≡ suc e → length root + e + 1 ≡ length root + suc e
        next_again a b = omega arith

    next_few : (e number slot : ℕ) → HasFewDigits e number → slot < 512 → HasFewDigits (e + 1) (512 * number + slot)
    next_few e number slot digits low =
        let rest : (512 * number + slot) / 512 ≡ number = omega (arith, low) in
        let up : suc e ≡ e + 1 = omega arith in
        subst (λ n. HasFewDigits n (512 * number + slot)) up (subst (HasFewDigits e) (sym rest) digits)

    pub inside-next : (e number slot : ℕ) → IsInside run leaves path e number → e < run.height → length root + e < length path → slice_index path (length root + e) ≡ slot → slot < 512 →
        first / 512 ^ (run.height - 1 - e) ≤ 512 * number + slot → 512 * number + slot ≤ last / 512 ^ (run.height - 1 - e) → IsInside run leaves path (e + 1) (512 * number + slot)
    inside-next e number slot at more long here few_slot low high =
        let level : run.height - 1 - e ≡ run.height - (e + 1) = omega arith in
        record {
          low_level = omega (arith, more);
          here = omega (arith, long);
          trail = next_trail e number slot at here few_slot;
          digits = next_few e number slot at.digits few_slot;
          low = subst (λ l. first / 512 ^ l ≤ 512 * number + slot) level low;
          high = subst (λ l. 512 * number + slot ≤ last / 512 ^ l) level high;
        }

    -- no leaf has a number that begins so
    pub inside-most : (e number slot : ℕ) → IsInside run leaves path e number → e < run.height → slice_index path (length root + e) ≡ slot → slot < 512 →
        ((first / 512 ^ (run.height - 1 - e) ≤ 512 * number + slot) × (512 * number + slot ≤ last / 512 ^ (run.height - 1 - e)) → ⊥) →
        (d : ℕ) → (d < length root + e + 1) ↔ IsShared (run_way run) leaves path d
    inside-most e number slot at more here few_slot outside = shared-upto (run_way run) leaves path (length root + e) (inside-shared e number at) not
      where
        c : ℕ
        c = run.height - (e + 1)

        level : run.height - 1 - e ≡ c
        level = omega arith

        rising : (a b : ℕ) → a ≤ b → a / 512 ^ c ≤ b / 512 ^ c
        rising a b small = (le-div_iff_mul-le (one-le-pow c 512 (omega arith))).1 (le_trans (div-mul-le_self a (512 ^ c)) small)

        not : IsShared (run_way run) leaves path (length root + e + 1) → ⊥
        not s =
            let next : length root + e + 1 ≡ length root + (e + 1) = omega arith in
            let leaf : ℕ = first + s.which in
            let sum : e + 1 + c ≡ run.height = omega (arith, more) in
            let trails : along base (e + 1) (512 * number + slot) ≡ along base (e + 1) (leaf / 512 ^ c) =
            sym (next_trail e number slot at here few_slot) ∙ ap (trail_of path) (sym next) ∙ s.same ∙ ap (trail_of (run_way run s.which)) next ∙ prefix-digits root run.height leaf (e + 1) (omega (arith, more)) in
            let early : s.which < leaves = s.early in
            let covers = is.covered in
            let any = is.some in
            let small : leaf < 512 ^ run.height = omega (arith, covers, any, few, early) in
            let short : HasFewDigits (e + 1) (leaf / 512 ^ c) = short-over (e + 1) c leaf (subst (λ n. HasFewDigits n leaf) (sym sum) (short-power run.height leaf small)) in
            let number_is : 512 * number + slot ≡ leaf / 512 ^ c = (same_along base base (e + 1) (512 * number + slot) (leaf / 512 ^ c) (next_few e number slot at.digits few_slot) short trails).1 in
            let low : first / 512 ^ c ≤ 512 * number + slot = rw number_is (rising first leaf (omega arith)) in
            let high : 512 * number + slot ≤ last / 512 ^ c = rw number_is (rising leaf last (omega (arith, early))) in
            outside (subst (λ l. first / 512 ^ l ≤ 512 * number + slot) (sym level) low, subst (λ l. 512 * number + slot ≤ last / 512 ^ l) (sym level) high)

    -- one of the two paths ends there
    pub inside-end : (e number : ℕ) → IsInside run leaves path e number → (length path ≤ length root + e) ⊎ (run.height ≤ e) → (d : ℕ) → (d < length root + e + 1) ↔ IsShared (run_way run) leaves path d
    inside-end e number at ends = shared-upto (run_way run) leaves path (length root + e) (inside-shared e number at) (not ends)
      where
        not : (length path ≤ length root + e) ⊎ (run.height ≤ e) → IsShared (run_way run) leaves path (length root + e + 1) → ⊥
        not (inl short) s = let here = s.here in omega (arith, here, short)
        not (inr short) s = let there = s.there in omega (arith, there, short, length-run_way run s.which)

-- ---- slots

-- a slot of a way
pub way-slots : (touched : Touched) → IsTouched touched → (i d : ℕ) → i < ways (job_of touched) → d < length ((job_of touched).way i) → slice_index ((job_of touched).way i) d < 512
way-slots touched is i d here = ways-by touched (λ p. d < length p → slice_index p d < 512)
    (λ run leaf has low inside. subst (λ n. n < 512) (slot-run_way run leaf d inside)
    (run-slots run (512 * (run.offset / 4096 + leaf)) d (is.runs run has) (omega (arith, inside, length-run_way run leaf, length-run_path run (512 * (run.offset / 4096 + leaf))))))
    (λ k few inside. subst (λ n. n < 512) (sym (slot-above (path_of (word_paths touched) k) d inside)) (is.slots k d few (omega (arith, inside, length-above (path_of (word_paths touched) k)))))
    i here

-- ---- a list of how much the first ways share

-- what is said of one way
pub record IsFresh (touched : Touched) (i fresh : ℕ) : Type 0 where
  pub few : fresh ≤ length ((job_of touched).way i) + 1
  pub right : (d : ℕ) → (d < length ((job_of touched).way i) + 1 - fresh) ↔ IsShared (job_of touched).way i ((job_of touched).way i) d

-- with the next way's after it, it is right of one way more
pub listed-next : (touched : Touched) (before : List ℕ) (fresh : ℕ) → AreFresh touched before → IsFresh touched (length before) fresh → AreFresh touched (before ++ fresh ∷ [])
listed-next touched before fresh are last = record { few = λ i low. (at i low (cases_lt i (length before))).few; right = λ i d low. (at i low (cases_lt i (length before))).right d }
  where
    at : (i : ℕ) → i < length (before ++ fresh ∷ []) → (i < length before) ⊎ (length before ≤ i) → IsFresh touched i (slice_index (before ++ fresh ∷ []) i)
    at i low (inl here) = subst (IsFresh touched i) (sym (get_or-append before (fresh ∷ []) 0 i here)) (record { few = are.few i here; right = λ d. are.right i d here })
    at i low (inr past) =
        let end : length before ≡ i = omega (arith, past, low, length-append before (fresh ∷ [])) in
        subst (λ k. IsFresh touched k (slice_index (before ++ fresh ∷ []) k)) end (subst (IsFresh touched (length before)) (sym (get_or-append_seam before fresh [] 0)) last)

-- the prefixes that begin no earlier way are the rest
pub fresh-rest : (touched : Touched) (i len shared : ℕ) → len ≡ length ((job_of touched).way i) → shared ≤ len + 1
    → ((d : ℕ) → (d < shared) ↔ IsShared (job_of touched).way i ((job_of touched).way i) d) → IsFresh touched i (len + 1 - shared)
fresh-rest touched i len shared is few right = record {
  few = omega (arith, is);
  right = λ d. let back : shared ≡ length ((job_of touched).way i) + 1 - (len + 1 - shared) = omega (arith, is, few) in subst (λ n. (d < n) ↔ IsShared (job_of touched).way i ((job_of touched).way i) d) back (right d);
}

-- no way shares more prefixes than it has
pub shared-few : (touched : Touched) (i shared : ℕ) → ((d : ℕ) → (d < shared) ↔ IsShared (job_of touched).way i ((job_of touched).way i) d) → shared ≤ length ((job_of touched).way i) + 1
shared-few touched i shared right = at (cases_lt (length ((job_of touched).way i) + 1) shared)
  where
    at : (length ((job_of touched).way i) + 1 < shared) ⊎ (shared ≤ length ((job_of touched).way i) + 1) → shared ≤ length ((job_of touched).way i) + 1
    at (inl more) = let s = (right (length ((job_of touched).way i) + 1)).0 more in let here = s.here in absurd (omega (arith, here))
    at (inr few) = few
