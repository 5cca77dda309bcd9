-- As many blocks are copied as there are proper prefixes of touched paths, each once, from the cover on.
use Rattle.std.proofs.Common.{◌≡◌, ◌⊎◌, ℕ, zero, suc, ◌+◌, ◌-◌, ◌*◌, ◌/◌, ◌%◌, ◌<◌, ◌≤◌, List, [], ◌∷◌, ◌++◌, length, take, map, Bool, refl, sym, ◌∙◌, ap, subst, arith, inl, inr, append_assoc, max, ◌^◌, pow-suc}
use Rattle.std.specs.List.{range_with_len}
use Rattle.std.proofs.lemmas.Bool.{cases_eq, cases_lt}
use Rattle.std.proofs.lemmas.List.{length-take, length-map, take-take}
use Rattle.bp_layout.proofs.MemberLaws.{apart-more, apart-within, has-after, has-either, has-flat_map, has-prefix}
use Rattle.bp_layout.specs.Words.{Image}
use Rattle.bp_layout.specs.Members.{AreApart, Has}
use Rattle.bp_layout.specs.Need.{prefixes_of}
use Rattle.bp_changes.specs.Trail.{trail_of}
use Rattle.bp_layout.specs.WordPaths.{digits}
use Rattle.bp_changes.specs.Forest.{IsTreePointer}
use Rattle.bp_layout.specs.WellFormed.{IsWellFormed}
use Rattle.bp_cow.specs.declared.touched.Run.{Run}
use Rattle.bp_cow.specs.declared.touched.Touched.{Touched}
use Rattle.bp_cow.specs.Job.{Job, ways, copies_at}
use Rattle.bp_cow.specs.Touched.{run_path, run_way, run_end, run_leaves, run_paths, paths_of_run, above, path_of, word_paths, all_paths, job_of, NoneBegins, IsRun, IsTouched}
use Rattle.bp_cow.specs.Cover.{BeginAlike, end_path, ends}
use Rattle.bp_cow.specs.CanCommit.{CanCommit}
use Rattle.bp_cow.specs.Leaves.{IsLeaf}
use Rattle.bp_cow.proofs.RunLaws.{length-run_path, length-run_way}
use Rattle.bp_cow.proofs.RunsLaws.{end-first, end-last, end-of-word, ends-count, leaf-of, length-above, way-to}
use Rattle.bp_cow.proofs.RunPrefixes.{trail_of-take, between-run, run-trail}
use Rattle.bp_cow.proofs.RunPointers.{leaf-plain}
use Rattle.bp_cow.proofs.WayPointers.{word-way, ways-prefixes}
use Rattle.bp_cow.proofs.CommonPaths.{begins-self}
use Rattle.bp_cow.proofs.CommitEnd.{copied-some, copied-none}
use Rattle.bp_cow.proofs.Distinct.{same-take, prefixes_sound, prefixes_distinct, prefixes_complete}
use Rattle.bp_cow.proofs.JobPrefixes.{prefixes_upto, length-upto, upto-sound, upto-complete, distinct-upto}

take-prefix : (p q : List ℕ) → take (length p) (p ++ q) ≡ p
take-prefix [] q = refl
take-prefix (x ∷ p) q = ap (λ r. x ∷ r) (take-prefix p q)

-- the members of a list by their numbers
index-of : (xs : List (List ℕ)) (q : List ℕ) → Has xs q → (i : ℕ) × (i < length xs) × (path_of xs i ≡ q)
index-of [] q has = absurd has
index-of (x ∷ xs) q (inl e) = (0, omega arith, e)
index-of (x ∷ xs) q (inr more) = let rest = index-of xs q more in (suc rest.0, omega (arith, rest.1), rest.2)

has-index : (xs : List (List ℕ)) (i : ℕ) → i < length xs → Has xs (path_of xs i)
has-index [] i low = absurd (omega (arith, low))
has-index (x ∷ xs) zero low = inl refl
has-index (x ∷ xs) (suc i) low = inr (has-index xs i (omega (arith, low)))

run-number : (run : Run) (start count : ℕ) (q : List ℕ) → Has (map (run_path run) (range_with_len start count)) q → (k : ℕ) × (start ≤ k) × (k < start + count) × (q ≡ run_path run k)
run-number run start zero q has = absurd has
run-number run start (suc count) q (inl e) = (start, omega arith, omega arith, sym e)
run-number run start (suc count) q (inr more) =
    let rest = run-number run (start + 1) count q more in
    (rest.0, omega (arith, rest.1), omega (arith, rest.2), rest.3)

has-run : (run : Run) (start count k : ℕ) → start ≤ k → k < start + count → Has (map (run_path run) (range_with_len start count)) (run_path run k)
has-run run start zero k low high = absurd (omega (arith, low, high))
has-run run start (suc count) k low high = go (cases_eq start k) (λ less. has-run run (start + 1) count k less (omega (arith, high)))
  where
    go : (start ≡ k) ⊎ (start ≡ k → ⊥) → (start + 1 ≤ k → Has (map (run_path run) (range_with_len (start + 1) count)) (run_path run k)) → Has (map (run_path run) (range_with_len start (suc count))) (run_path run k)
    go (inl e) rest = inl (ap (run_path run) e)
    go (inr n) rest = inr (rest (omega (arith, low, n)))

-- the words of runs, each by its run
record IsRunPath (runs : List Run) (path : List ℕ) : Type 0 where
  pub run : Run
  pub has : Has runs run
  pub number : ℕ
  pub low : run.offset / 8 ≤ number
  pub high : number ≤ (run_end run - 1) / 8
  pub same : path ≡ run_path run number

run-paths : (runs : List Run) → ((run : Run) → Has runs run → IsRun run) → (path : List ℕ) → Has (run_paths runs) path → IsRunPath runs path
run-paths [] are path none = absurd none
run-paths (run ∷ runs) are path has = go (has-either (paths_of_run run) (run_paths runs) path has) (λ more. run-paths runs (λ r also. are r (inr also)) path more)
  where
    go : Has (paths_of_run run) path ⊎ Has (run_paths runs) path → (Has (run_paths runs) path → IsRunPath runs path) → IsRunPath (run ∷ runs) path
    go (inl one) rest =
        let some : 0 < length run.bytes.now = (are run (inl refl)).some in
        let at = run-number run (run.offset / 8) (suc ((run_end run - 1) / 8 - run.offset / 8)) path one in
        record { run = run; has = inl refl; number = at.0; low = at.1; high = omega (arith, at.1, at.2, some); same = at.3 }
    go (inr more) rest = let found = rest more in record { run = found.run; has = inr found.has; number = found.number; low = found.low; high = found.high; same = found.same }

-- a way and its last slot
run-whole : (run : Run) (k j : ℕ) → k / 512 ≡ run.offset / 4096 + j → take (length (run_way run j)) (run_path run k) ≡ run_way run j
run-whole run k j leaf =
    ap (take (length (run_way run j))) (ap (λ n. run.root.items ++ (digits run.height n ++ k % 512 ∷ [])) leaf ∙ sym (append_assoc run.root.items (digits run.height (run.offset / 4096 + j)) (k % 512 ∷ [])))
    ∙ take-prefix (run_way run j) (k % 512 ∷ [])

-- with what the paths that report begin, all touched paths begin
pub alike-all : (touched : Touched) → IsTouched touched → (n : ℕ) → BeginAlike touched n → (path : List ℕ) → Has (all_paths touched) path → (n ≤ length path) × (trail_of path n ≡ trail_of (end_path touched 0) n)
alike-all touched shape n alike path has = go (has-either (run_paths touched.runs.now) (word_paths touched) path has)
  where
    of_run : IsRunPath touched.runs.now path → (n ≤ length path) × (trail_of path n ≡ trail_of (end_path touched 0) n)
    of_run at =
        let run = at.run in
        let is : IsRun run = shape.runs run at.has in
        let some : 0 < length run.bytes.now = is.some in
        let covers : run_end run ≤ 4096 * 512 ^ run.height = is.covered in
        let first = end-first touched.runs.now (word_paths touched) run at.has in
        let last = end-last touched.runs.now (word_paths touched) run at.has in
        let start : trail_of (run_path run (run.offset / 8)) n ≡ trail_of (end_path touched 0) n = ap (λ p. trail_of p n) (sym first.is) ∙ alike.same first.which (first.here (length touched.words.now)) in
        let end : trail_of (run_path run ((run_end run - 1) / 8)) n ≡ trail_of (end_path touched 0) n = ap (λ p. trail_of p n) (sym last.is) ∙ alike.same last.which (last.here (length touched.words.now)) in
        let whole : n ≤ length (run_path run (run.offset / 8)) = subst (λ p. n ≤ length p) first.is (alike.long first.which (first.here (length touched.words.now))) in
        let long : n ≤ length run.root.items + suc run.height = omega (arith, whole, length-run_path run (run.offset / 8)) in
        let few : (run_end run - 1) / 8 < 512 ^ suc run.height = rw pow-suc (omega (arith, covers, some)) in
        subst (λ p. (n ≤ length p) × (trail_of p n ≡ trail_of (end_path touched 0) n)) (sym at.same)
        (omega (arith, long, length-run_path run at.number), between-run run (run.offset / 8) at.number ((run_end run - 1) / 8) n at.low at.high few long (start ∙ sym end) ∙ start)

    of_word : (i : ℕ) → i < length touched.words.now → (n ≤ length (path_of (word_paths touched) i)) × (trail_of (path_of (word_paths touched) i) n ≡ trail_of (end_path touched 0) n)
    of_word i here =
        let at : 2 * length touched.runs.now + i < ends touched = omega (arith, here, ends-count touched.runs.now (length touched.words.now)) in
        let is : end_path touched (2 * length touched.runs.now + i) ≡ path_of (word_paths touched) i = end-of-word touched.runs.now (word_paths touched) i in
        (subst (λ p. n ≤ length p) is (alike.long (2 * length touched.runs.now + i) at), ap (λ p. trail_of p n) (sym is) ∙ alike.same (2 * length touched.runs.now + i) at)

    go : Has (run_paths touched.runs.now) path ⊎ Has (word_paths touched) path → (n ≤ length path) × (trail_of path n ≡ trail_of (end_path touched 0) n)
    go (inl one) = of_run (run-paths touched.runs.now shape.runs path one)
    go (inr two) =
        let at = index-of (word_paths touched) path two in
        subst (λ p. (n ≤ length p) × (trail_of p n ≡ trail_of (end_path touched 0) n)) at.2
        (of_word at.0 (omega (arith, at.1, length-map touched.words.now (λ word. word.0.items))))

module _ (touched : Touched) (shape : IsTouched touched) where
  abbrev job : Job
  job = job_of touched

  is-run : (run : Run) → Has touched.runs.now run → IsRun run
  is-run run has = shape.runs run has

  -- a touched path and the way to its word
  record IsWayOf (i : ℕ) (path : List ℕ) : Type 0 where
    pub here : i < ways job
    pub long : length path ≡ length (job.way i) + 1
    pub same : take (length (job.way i)) path ≡ job.way i

  words-count : length (word_paths touched) ≡ length touched.words.now
  words-count = length-map touched.words.now (λ word. word.0.items)

  word-is : (i : ℕ) → i < length touched.words.now → IsWayOf (job.leaves + i) (path_of (word_paths touched) i)
  word-is i here =
      let path = path_of (word_paths touched) i in
      let way : job.way (job.leaves + i) ≡ above path = word-way touched i in
      let some : 1 ≤ length path = shape.words i here in
      let size : length (above path) ≡ length path - 1 = length-above path in
      record {
        here = omega (arith, here);
        long = omega (arith, some, size) ∙ ap (λ (p : List ℕ). length p + 1) (sym way);
        same = ap (λ (p : List ℕ). take (length p) path) way ∙ ap (λ d. take d path) size ∙ sym way;
      }

  way-of-leaf : (run : Run) (k i j : ℕ) → k / 512 ≡ run.offset / 4096 + j → IsLeaf touched.runs.now touched.runs.now (word_paths touched) i run j → IsWayOf i (run_path run k)
  way-of-leaf run k i j leaf is =
      let way : job.way i ≡ run_way run j = is.way in
      let low : i < job.leaves = is.here in
      record {
        here = omega (arith, low);
        long = omega (arith, length-run_path run k, length-run_way run j) ∙ ap (λ (p : List ℕ). length p + 1) (sym way);
        same = ap (λ (p : List ℕ). take (length p) (run_path run k)) way ∙ run-whole run k j leaf ∙ sym way;
      }

  -- each touched path has a way
  record HasWay (path : List ℕ) : Type 0 where
    pub which : ℕ
    pub is : IsWayOf which path

  leaf-is : (run : Run) (k : ℕ) → Has touched.runs.now run → run.offset / 8 ≤ k → k ≤ (run_end run - 1) / 8 → HasWay (run_path run k)
  leaf-is run k has low high =
      let j : ℕ = k / 512 - run.offset / 4096 in
      let way = way-to touched.runs.now touched.runs.now (word_paths touched) run j has (omega (arith, low, high)) in
      record { which = way.which; is = way-of-leaf run k way.which j (omega (arith, low)) way.is }

  -- by cases: a word of a run, or another word
  pub paths-by : (P : List ℕ → Type 0) → ((run : Run) (k : ℕ) → Has touched.runs.now run → run.offset / 8 ≤ k → k ≤ (run_end run - 1) / 8 → P (run_path run k)) →
      ((i : ℕ) → i < length touched.words.now → P (path_of (word_paths touched) i)) → (path : List ℕ) → Has (all_paths touched) path → P path
  paths-by P of_run of_word path has = go (has-either (run_paths touched.runs.now) (word_paths touched) path has)
    where
      go : Has (run_paths touched.runs.now) path ⊎ Has (word_paths touched) path → P path
      go (inl one) = let at = run-paths touched.runs.now shape.runs path one in subst P (sym at.same) (of_run at.run at.number at.has at.low at.high)
      go (inr two) = let at = index-of (word_paths touched) path two in subst P at.2 (of_word at.0 (omega (arith, at.1, words-count)))

  pub has-word : (i : ℕ) → i < length touched.words.now → Has (all_paths touched) (path_of (word_paths touched) i)
  has-word i here = has-after (run_paths touched.runs.now) (word_paths touched) _ (has-index (word_paths touched) i (omega (arith, here, words-count)))

  pub has-of-run : (run : Run) (k : ℕ) → Has touched.runs.now run → run.offset / 8 ≤ k → k ≤ (run_end run - 1) / 8 → Has (all_paths touched) (run_path run k)
  has-of-run run k has low high =
      has-prefix (run_paths touched.runs.now) (word_paths touched) (run_path run k)
      (has-flat_map paths_of_run touched.runs.now run (run_path run k) has (has-run run (run.offset / 8) (suc ((run_end run - 1) / 8 - run.offset / 8)) k low (omega (arith, low, high))))

  way-of : (path : List ℕ) → Has (all_paths touched) path → HasWay path
  way-of = paths-by HasWay leaf-is (λ i here. record { which = job.leaves + i; is = word-is i here })

  -- each way is that to a touched word
  record HasPath (i : ℕ) : Type 0 where
    pub path : List ℕ
    pub has : Has (all_paths touched) path
    pub is : IsWayOf i path

  path-of : (i : ℕ) → i < ways job → HasPath i
  path-of i here = go (cases_lt i job.leaves)
    where
      leaf : i < job.leaves → HasPath i
      leaf low =
          let at = leaf-of touched.runs.now touched.runs.now (word_paths touched) i low in
          let run = at.run in
          let few : at.leaf < run_leaves run = at.is.low in
          let some : 0 < length run.bytes.now = (is-run run at.is.has).some in
          let k : ℕ = max (run.offset / 8) (512 * (run.offset / 4096 + at.leaf)) in
          let first : run.offset / 8 ≤ k = omega arith in
          let last : k ≤ (run_end run - 1) / 8 = omega (arith, few, some) in
          record { path = run_path run k; has = has-of-run run k at.is.has first last; is = way-of-leaf run k i at.leaf (omega arith) at.is }

      go : (i < job.leaves) ⊎ (job.leaves ≤ i) → HasPath i
      go (inl low) = leaf low
      go (inr past) =
          let few : i - job.leaves < length touched.words.now = omega (arith, here, past) in
          let back : job.leaves + (i - job.leaves) ≡ i = omega (arith, past) in
          record { path = path_of (word_paths touched) (i - job.leaves); has = has-word (i - job.leaves) few; is = subst (λ n. IsWayOf n (path_of (word_paths touched) (i - job.leaves))) back (word-is (i - job.leaves) few) }

  -- ---- the count

  module _ (apart : NoneBegins (all_paths touched)) (n : ℕ) (alike : BeginAlike touched n) where
    first : HasPath 0
    first = path-of 0 shape.some

    like_first : (path : List ℕ) → Has (all_paths touched) path → (n ≤ length path) × (take n path ≡ take n first.path)
    unfolding first
    like_first path has =
        let one = alike-all touched shape n alike path has in
        let two = alike-all touched shape n alike first.path first.has in
        (one.0, same-take path first.path n one.0 two.0 (one.1 ∙ sym two.1))

    some-copies : n ≤ length (job.way 0) → length (prefixes_of n [] (all_paths touched)) ≡ copies_at job n
    some-copies short = omega (arith, apart-within P F (prefixes_distinct n [] (all_paths touched)) to, apart-within F P distinct back, length-upto job n (ways job), copied-some job n short)
      where
        P : List (List ℕ)
        P = prefixes_of n [] (all_paths touched)

        F : List (List ℕ)
        F = take n (job.way 0) ∷ prefixes_upto job n (ways job)

        prefix-way : (i : ℕ) (path : List ℕ) → IsWayOf i path → n ≤ length (job.way i) → take n (job.way i) ≡ take n path
        prefix-way i path is low = ap (take n) (sym is.same) ∙ take-take n (length (job.way i)) path low

        begin : (i : ℕ) → i < ways job → take n (job.way i) ≡ take n (job.way 0)
        begin i here = prefix-way i one.path one.is proper ∙ like.1 ∙ sym (prefix-way 0 first.path first.is short)
          where
            one : HasPath i
            one = path-of i here

            like : (n ≤ length one.path) × (take n one.path ≡ take n first.path)
            like = like_first one.path one.has

            proper : n ≤ length (job.way i)
            proper = go (cases_eq n (length one.path))
              where
                go : (n ≡ length one.path) ⊎ (n ≡ length one.path → ⊥) → n ≤ length (job.way i)
                go (inl e) =
                    absurd (apart one.path first.path one.has first.has n (omega (arith, short, first.is.long)) (sym like.1 ∙ ap (λ k. take k one.path) e ∙ (begins-self one.path).same))
                go (inr other) = omega (arith, like.0, other, one.is.long)

        to : (q : List ℕ) → Has P q → Has F q
        to q has =
            let f = (prefixes_sound n [] (all_paths touched) q has).0 in
            let way = way-of f.path f.has in
            let low : f.count ≤ length (job.way way.which) = omega (arith, f.high, way.is.long) in
            let at : q ≡ take f.count (job.way way.which) = f.same ∙ sym (take-take f.count (length (job.way way.which)) f.path low) ∙ ap (take f.count) way.is.same in
            go f.count way.which way.is.here f.low low at (cases_eq f.count n)
          where
            go : (c i : ℕ) → i < ways job → n ≤ c → c ≤ length (job.way i) → q ≡ take c (job.way i) → (c ≡ n) ⊎ (c ≡ n → ⊥) → Has F q
            go c i here low high at (inl e) = inl (sym (at ∙ ap (λ d. take d (job.way i)) e ∙ begin i here))
            go c i here low high at (inr more) = inr (subst (Has (prefixes_upto job n (ways job))) (sym at) (upto-complete job n (ways job) i c here (omega (arith, low, more)) high))

        prefix-of : (c i : ℕ) → i < ways job → n ≤ c → c ≤ length (job.way i) → Has P (take c (job.way i))
        prefix-of c i here low high =
            let one = path-of i here in
            prefixes_complete n [] (all_paths touched) (take c (job.way i)) apart
            (record { path = one.path; has = one.has; count = c; low = low; high = omega (arith, high, one.is.long); same = ap (take c) (sym one.is.same) ∙ take-take c (length (job.way i)) one.path high }) refl

        back : (q : List ℕ) → Has F q → Has P q
        back q (inl e) = subst (Has P) e (prefix-of n 0 shape.some (omega arith) short)
        back q (inr more) =
            let f = upto-sound job n (ways job) q more in
            subst (Has P) (sym f.same) (prefix-of f.depth f.which f.early (omega (arith, f.low)) f.high)

        distinct : AreApart F
        distinct = apart-more (take n (job.way 0)) (prefixes_upto job n (ways job))
            (λ has.
            let f = upto-sound job n (ways job) (take n (job.way 0)) has in
            omega (arith, short, f.low, f.high, length-take n (job.way 0), length-take f.depth (job.way f.which), ap (λ (p : List ℕ). length p) f.same))
            (distinct-upto job n (ways job))

    -- the cover is the only touched word
    no-copies : length (job.way 0) < n → length (prefixes_of n [] (all_paths touched)) ≡ copies_at job n
    no-copies past = omega (arith, apart-within (prefixes_of n [] (all_paths touched)) [] (prefixes_distinct n [] (all_paths touched)) none, copied-none job n past)
      where
        whole : n ≡ length first.path
        whole = omega (arith, past, (like_first first.path first.has).0, first.is.long)

        short : (path : List ℕ) → Has (all_paths touched) path → length path ≤ n
        short path has = go (cases_lt n (length path))
          where
            go : (n < length path) ⊎ (length path ≤ n) → length path ≤ n
            go (inl more) = absurd (apart first.path path first.has has n more ((like_first path has).1 ∙ ap (λ k. take k first.path) whole ∙ (begins-self first.path).same))
            go (inr few) = few

        none : (q : List ℕ) → Has (prefixes_of n [] (all_paths touched)) q → ⊥
        none q has =
            let f = (prefixes_sound n [] (all_paths touched) q has).0 in
            omega (arith, f.low, f.high, short f.path f.has)

    pub copied-need : length (prefixes_of n [] (all_paths touched)) ≡ copies_at job n
    copied-need = go (cases_lt (length (job.way 0)) n)
      where
        go : (length (job.way 0) < n) ⊎ (n ≤ length (job.way 0)) → length (prefixes_of n [] (all_paths touched)) ≡ copies_at job n
        go (inl past) = no-copies past
        go (inr short) = some-copies short

-- ---- of touched words that can be committed

module _ {in_snapshot : ℕ → Bool} (old : Image) (bound : ℕ → ℕ) (touched : Touched) (free : ℕ → Bool) (wf : IsWellFormed old) (can : CanCommit old bound in_snapshot touched free) where
  prefix-pointer : (other : List ℕ) → Has (all_paths touched) other → (m : ℕ) → m < length other → IsTreePointer old bound (trail_of other m)
  prefix-pointer other has m low =
      let way = way-of touched can.shape other has in
      let short : m ≤ length ((job_of touched).way way.which) = omega (arith, low, way.is.long) in
      subst (IsTreePointer old bound)
      (ap (λ p. trail_of p m) (sym way.is.same) ∙ trail_of-take other (length ((job_of touched).way way.which)) m short)
      (ways-prefixes can way.which way.is.here m short)

  no-pointer : (path : List ℕ) → Has (all_paths touched) path → IsTreePointer old bound (trail_of path (length path)) → ⊥
  no-pointer = paths-by touched can.shape (λ path. IsTreePointer old bound (trail_of path (length path)) → ⊥)
      (λ run k has low high one. leaf-plain old bound can.forest run (is-run touched can.shape run has) (can.runs run has) (k / 512 - run.offset / 4096) (k % 512) (omega (arith, low, high))
      (subst (IsTreePointer old bound) (run-trail run k low) one))
      (λ i here one. can.contents i here one)

  -- no touched path is a proper prefix of another
  pub none-begins : NoneBegins (all_paths touched)
  none-begins path other has also m low same =
      let size : length path ≡ m = ap (λ (p : List ℕ). length p) (sym same) ∙ length-take m other ∙ omega (arith, low) in
      no-pointer path has
      (subst (IsTreePointer old bound) (sym (ap (trail_of path) size ∙ ap (λ p. trail_of p m) (sym same) ∙ trail_of-take other m m (omega arith))) (prefix-pointer other also m low))
