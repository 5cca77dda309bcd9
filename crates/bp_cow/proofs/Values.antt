-- The values after a commit: those of the touched words are the given ones, and the others are as they were.
use Rattle.std.proofs.Common.{◌≡◌, ◌≢◌, ◌⊎◌, ℕ, zero, suc, ◌+◌, ◌-◌, ◌*◌, ◌/◌, ◌%◌, ◌<◌, ◌≤◌, List, ◌∷◌, length, Bool, true, false, None, Some, unwrap_or, refl, sym, ◌∙◌, ap, arith, inl, inr}
use Rattle.std.specs.Prelude.{bytes_eq}
use Rattle.std.proofs.lemmas.Bool.{cases_eq, cases_lt}
use Rattle.std.proofs.lemmas.Slice.Eq.{bytes_eq-Decides}
use Rattle.bp_layout.specs.Words.{Image}
use Rattle.bp_layout.specs.Members.{Has}
use Rattle.bp_layout.specs.WellFormed.{IsWellFormed}
use Rattle.bp_changes.specs.Trail.{Trail, word_on, trail_of}
use Rattle.bp_changes.proofs.TrailLaws.{cases_trail}
use Rattle.bp_cow.specs.declared.touched.Run.{Run}
use Rattle.bp_cow.specs.declared.touched.Touched.{Touched}
use Rattle.bp_cow.specs.Job.{Job, end_of, word_trail, value_upto, laid_on}
use Rattle.bp_cow.specs.Committed.{after_commit}
use Rattle.bp_cow.specs.Touched.{run_path, run_way, run_end, laid_word, path_of, word_paths, job_of}
use Rattle.bp_cow.specs.CanCommit.{CanCommit}
use Rattle.bp_cow.proofs.BuildFacts.{value-none, laid-leaf, laid-other}
use Rattle.bp_cow.proofs.RunLaws.{run_word-outside}
use Rattle.bp_cow.proofs.RunsLaws.{HasLeaf, laid-kept, way-to}
use Rattle.bp_cow.proofs.RunPrefixes.{leaf-trail-of, run-trail}
use Rattle.bp_cow.proofs.RunPointers.{same-path}
use Rattle.bp_cow.proofs.WayPointers.{word-trail, leaf-at, leaf-end, leaves-agree}

-- the value of a word among the first ones, where no other has its trail
value-of : (job : Job) (count i : ℕ) → i < count → ((k : ℕ) → k < count → word_trail job i ≡ word_trail job k → i ≡ k) → value_upto job count (word_trail job i) ≡ Some (job.value i)
value-of job zero i low once = absurd (omega (arith, low))
value-of job (suc n) i low once = go (cases_eq i n) (λ small. value-of job n i small (λ k few. once k (omega (arith, few))))
  where
    go : (i ≡ n) ⊎ (i ≡ n → ⊥) → (i < n → value_upto job n (word_trail job i) ≡ Some (job.value i)) → value_upto job (suc n) (word_trail job i) ≡ Some (job.value i)
    go (inl e) rest =
        let same : bytes_eq (word_trail job i) (word_trail job n) ≡ true = (bytes_eq-Decides (word_trail job i) (word_trail job n)).1 (ap (word_trail job) e) in
        rw same (ap (λ k. Some (job.value k)) (sym e))
    go (inr other) rest = differ (bytes_eq (word_trail job i) (word_trail job n)) refl
      where
        differ : (x : Bool) → bytes_eq (word_trail job i) (word_trail job n) ≡ x → value_upto job (suc n) (word_trail job i) ≡ Some (job.value i)
        differ false e = rw e (rest (omega (arith, low, other)))
        differ true e = absurd (other (once n (omega arith) ((bytes_eq-Decides (word_trail job i) (word_trail job n)).0 e)))

module _ {in_snapshot : ℕ → Bool} (old : Image) (bound : ℕ → ℕ) (touched : Touched) (free : ℕ → Bool) (wf : IsWellFormed old) (can : CanCommit old bound in_snapshot touched free) where
  abbrev path : ℕ → List ℕ
  path i = path_of (word_paths touched) i

  -- a word has the value that it is given
  pub after-word : (i : ℕ) → i < length touched.words.now → after_commit old (job_of touched) (trail_of (path i) (length (path i))) ≡ (job_of touched).value i
  after-word i here =
      let is : word_trail (job_of touched) i ≡ trail_of (path i) (length (path i)) = word-trail can i here in
      let given = value-of (job_of touched) (job_of touched).words i here (λ k few same. can.apart i k here few (sym is ∙ same ∙ word-trail can k few)) in
      ap (after_commit old (job_of touched)) (sym is) ∙ ap (λ v. unwrap_or v (laid_on old (job_of touched) (word_trail (job_of touched) i))) given

  -- a word of a run has the bytes of the runs in that tree, and else those that it had
  pub after-run : (run : Run) (k : ℕ) → Has touched.runs.now run → run.offset / 8 ≤ k → k ≤ (run_end run - 1) / 8 →
      after_commit old (job_of touched) (trail_of (run_path run k) (length (run_path run k))) ≡ laid_word touched.runs.now run.root.items k (word_on old (trail_of (run_path run k) (length (run_path run k))))
  after-run run k has low high =
      let way = way-to touched.runs.now touched.runs.now (word_paths touched) run (k / 512 - run.offset / 4096) has (omega (arith, low, high)) in
      let i : ℕ = way.which in
      let at : trail_of (run_path run k) (length (run_path run k)) ≡ k % 512 ∷ end_of (job_of touched) i =
      run-trail run k low ∙ ap (λ q. k % 512 ∷ q) (sym (leaf-end touched i run (k / 512 - run.offset / 4096) way.is)) in
      let none : value_upto (job_of touched) (job_of touched).words (k % 512 ∷ end_of (job_of touched) i) ≡ None =
      value-none (job_of touched) (job_of touched).words _ (λ n here same. can.beside run n k has here low high (sym (word-trail can n here) ∙ sym same ∙ sym at)) in
      let number : 512 * (run.offset / 4096 + (k / 512 - run.offset / 4096)) + k % 512 ≡ k = omega (arith, low) in
      ap (after_commit old (job_of touched)) at
      ∙ ap (λ v. unwrap_or v (laid_on old (job_of touched) (k % 512 ∷ end_of (job_of touched) i))) none
      ∙ laid-leaf old (job_of touched) (k % 512) i way.is.here (λ l small same w. leaves-agree can i l way.is.here small same (k % 512) w)
      ∙ way.is.patch (k % 512) (word_on old (k % 512 ∷ end_of (job_of touched) i))
      ∙ ap (λ n. laid_word touched.runs.now run.root.items n (word_on old (k % 512 ∷ end_of (job_of touched) i))) number
      ∙ ap (λ q. laid_word touched.runs.now run.root.items k (word_on old q)) (sym at)

  -- each other word is as it was
  pub after-others : (slot : ℕ) (p : Trail) → slot < 512 → ((i : ℕ) → i < length touched.words.now → slot ∷ p ≢ trail_of (path i) (length (path i))) →
      ((run : Run) (k : ℕ) → Has touched.runs.now run → run.offset / 8 ≤ k → k ≤ (run_end run - 1) / 8 → slot ∷ p ≢ trail_of (run_path run k) (length (run_path run k))) →
      after_commit old (job_of touched) (slot ∷ p) ≡ word_on old (slot ∷ p)
  after-others slot p low no_word no_run =
      ap (λ v. unwrap_or v (laid_on old (job_of touched) (slot ∷ p))) none ∙ search_leaf (job_of touched).leaves (λ i few past same. absurd (omega (arith, few, past)))
    where
      none : value_upto (job_of touched) (job_of touched).words (slot ∷ p) ≡ None
      none = value-none (job_of touched) (job_of touched).words (slot ∷ p) (λ i here same. no_word i here (same ∙ word-trail can i here))

      -- a word of a leaf that no run of the tree touches
      in_leaf : (i : ℕ) → i < (job_of touched).leaves → p ≡ end_of (job_of touched) i → laid_on old (job_of touched) (slot ∷ p) ≡ word_on old (slot ∷ p)
      in_leaf i few same =
          ap (λ q. laid_on old (job_of touched) (slot ∷ q)) same
          ∙ laid-leaf old (job_of touched) slot i few (λ l small twice w. leaves-agree can i l few small twice slot w)
          ∙ at.is.patch slot (word_on old (slot ∷ end_of (job_of touched) i))
          ∙ ap (λ q. laid_word touched.runs.now at.run.root.items number (word_on old (slot ∷ q))) (sym same)
          ∙ laid-kept touched.runs.now at.run.root.items number (word_on old (slot ∷ p)) (λ run has roots. run_word-outside run number (word_on old (slot ∷ p)) (split run has roots (cases_lt number (run.offset / 8)) (cases_lt ((run_end run - 1) / 8) number)))
        where
          at : HasLeaf touched.runs.now touched.runs.now (word_paths touched) i
          at = leaf-at touched i few

          number : ℕ
          number = 512 * (at.run.offset / 4096 + at.leaf) + slot

          leaf : number / 512 ≡ at.run.offset / 4096 + at.leaf
          leaf = omega (arith, low)

          last : number % 512 ≡ slot
          last = omega (arith, low)

          -- the word's path in the tree
          trail_is : slot ∷ p ≡ trail_of (run_path at.run number) (length (run_path at.run number))
          trail_is =
              sym (leaf-trail-of at.run at.leaf number leaf ∙ ap (λ s. s ∷ trail_of (run_way at.run at.leaf) (length (run_way at.run at.leaf))) last
              ∙ ap (λ q. slot ∷ q) (sym (leaf-end touched i at.run at.leaf at.is) ∙ sym same))

          split : (run : Run) → Has touched.runs.now run → run.root.items ≡ at.run.root.items → (number < run.offset / 8) ⊎ (run.offset / 8 ≤ number) → ((run_end run - 1) / 8 < number) ⊎ (number ≤ (run_end run - 1) / 8) →
              (8 * number + 8 ≤ run.offset) ⊎ (run_end run ≤ 8 * number)
          split run has roots (inl before) any = inl (omega (arith, before))
          split run has roots (inr first) (inl beyond) = inr (omega (arith, beyond))
          split run has roots (inr first) (inr inside) =
              let same_path : run_path run number ≡ run_path at.run number =
              same-path old bound can.forest run at.run (can.shape.runs run has) (can.shape.runs at.run at.is.has) (can.runs run has) (can.runs at.run at.is.has) roots number in
              absurd (no_run run number has first inside (trail_is ∙ ap (λ (q : List ℕ). trail_of q (length q)) (sym same_path)))

      search_leaf : (n : ℕ) → ((j : ℕ) → j < (job_of touched).leaves → n ≤ j → p ≢ end_of (job_of touched) j) → laid_on old (job_of touched) (slot ∷ p) ≡ word_on old (slot ∷ p)
      search_leaf zero none_left = laid-other old (job_of touched) slot p (λ j few. none_left j few (omega arith))
      search_leaf (suc n) none_left = try_one (cases_lt n (job_of touched).leaves) (cases_trail p (end_of (job_of touched) n)) (λ none_less. search_leaf n none_less)
        where
          try_one : (n < (job_of touched).leaves) ⊎ ((job_of touched).leaves ≤ n) → (p ≡ end_of (job_of touched) n) ⊎ (p ≢ end_of (job_of touched) n) →
              (((j : ℕ) → j < (job_of touched).leaves → n ≤ j → p ≢ end_of (job_of touched) j) → laid_on old (job_of touched) (slot ∷ p) ≡ word_on old (slot ∷ p)) → laid_on old (job_of touched) (slot ∷ p) ≡ word_on old (slot ∷ p)
          try_one (inl here) (inl same) rest = in_leaf n here same
          try_one (inr past) same rest = rest (λ j few at. absurd (omega (arith, few, at, past)))
          try_one (inl here) (inr other) rest = rest (λ j few at. step j few at (cases_eq j n))
            where
              step : (j : ℕ) → j < (job_of touched).leaves → n ≤ j → (j ≡ n) ⊎ (j ≡ n → ⊥) → p ≢ end_of (job_of touched) j
              step j few at (inl e) = λ same. other (same ∙ ap (end_of (job_of touched)) e)
              step j few at (inr more) = none_left j few (omega (arith, at, more))
