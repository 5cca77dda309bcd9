-- The only touched word is given its value in its place.
use Rattle.std.proofs.Common.{◌≡◌, ◌≢◌, ◌⊎◌, ℕ, suc, ◌+◌, ◌*◌, ◌/◌, ◌%◌, ◌<◌, ◌≤◌, List, [], ◌∷◌, Bool, None, Some, set, unwrap_or, refl, sym, ◌∙◌, ap, subst, arith, inl, inr}
use Rattle.std.specs.List.{slice_index}
use Rattle.std.proofs.lemmas.Bool.{cases_lt}
use Rattle.bp_layout.specs.Members.{Has}
use Rattle.bp_layout.specs.Words.{Image, block_count}
use Rattle.bp_layout.specs.WellFormed.{IsWellFormed}
use Rattle.bp_changes.specs.Trail.{Trail, word_on, block_on, trail_of, IsSkeleton}
use Rattle.bp_changes.specs.Trail.IsPlaced.{in_block}
use Rattle.bp_changes.specs.Forest.{IsTreePointer}
use Rattle.bp_changes.proofs.ForestLaws.{pointers, skeleton}
use Rattle.bp_cow.specs.declared.touched.Run.{Run}
use Rattle.bp_cow.specs.declared.touched.Touched.{Touched}
use Rattle.bp_cow.specs.Touched.{run_end, job_of, only_of, only_value, run_word, laid_word}
use Rattle.bp_cow.specs.Job.{word_trail, value_upto, laid_on}
use Rattle.bp_cow.specs.Committed.{IsCommitted, after_commit}
use Rattle.bp_changes.proofs.TrailLaws.{Turns, cases_trail, pointer-turned, word-turned, skeleton-turned}
use Rattle.bp_changes.proofs.StoreLaws.{store_turns}
use Rattle.bp_cow.proofs.BuildFacts.{value-here, value-none, laid-other}
use Rattle.bp_cow.specs.Cover.{end_path}
use Rattle.bp_cow.specs.Counting.{IsTreeWord}
use Rattle.bp_cow.specs.CanCommit.{CanCommit}
use Rattle.bp_cow.proofs.RunLaws.{run_word-outside}
use Rattle.bp_cow.proofs.RunsLaws.{laid-kept}
use Rattle.bp_cow.proofs.RunPointers.{same-leaf}
use Rattle.bp_cow.proofs.WayPointers.{first-has}
use Rattle.bp_cow.proofs.OnlyWord.{IsOnePath, IsOneOfRun, content-here, laid-here, no-value, one-leaf, one-of-run, one-word, slot-low, up-pointer}

module _ {in_snapshot : ℕ → Bool} {old : Image} {bound : ℕ → ℕ} {touched : Touched} {free : ℕ → Bool} {m : ℕ} (can : CanCommit old bound in_snapshot touched free) (alone : IsOnePath touched m) where
  abbrev slot : ℕ
  slot = slice_index (end_path touched 0) m

  abbrev up : Trail
  up = trail_of (end_path touched 0) m

  abbrev here : Trail
  here = slot ∷ up

  -- the word is given its value
  after-here : after_commit old (job_of touched) here ≡ only_value touched (word_on old here)
  after-here = go touched.runs.now refl
    where
      go : (runs : List Run) → touched.runs.now ≡ runs → after_commit old (job_of touched) here ≡ only_value touched (word_on old here)
      go [] e =
          let word_one = one-word can alone e in
          let given : value_upto (job_of touched) (job_of touched).words here ≡ Some ((job_of touched).value 0) =
          ap (λ n. value_upto (job_of touched) n here) word_one.words ∙ ap (value_upto (job_of touched) 1) (sym word_one.trail) ∙ value-here (job_of touched) 0 in
          ap (λ v. unwrap_or v (laid_on old (job_of touched) here)) given ∙ ap (λ r. only_of r ((job_of touched).value 0) (word_on old here)) (sym e)
      go (run ∷ runs) e =
          let has : Has touched.runs.now run = first-has touched run runs e in
          let single : IsOneOfRun can alone run = one-of-run can alone run has in
          let number : 512 * (run.offset / 4096 + 0) + slot ≡ run.offset / 8 = omega (arith, single.last) in
          ap (λ v. unwrap_or v (laid_on old (job_of touched) here)) (no-value can alone run has here)
          ∙ laid-here can alone run runs e slot
          ∙ ap (λ k. laid_word touched.runs.now run.root.items k (word_on old here)) number
          ∙ ap (λ r. laid_word r run.root.items (run.offset / 8) (word_on old here)) e
          ∙ ap (λ r. only_of r ((job_of touched).value 0) (word_on old here)) (sym e)

  -- and no other word
  after-other : (s : ℕ) (q : Trail) → s < 512 → s ∷ q ≢ here → after_commit old (job_of touched) (s ∷ q) ≡ word_on old (s ∷ q)
  after-other s q low other = go touched.runs.now refl
    where
      go : (runs : List Run) → touched.runs.now ≡ runs → after_commit old (job_of touched) (s ∷ q) ≡ word_on old (s ∷ q)
      go [] e =
          let word_one = one-word can alone e in
          let none : value_upto (job_of touched) (job_of touched).words (s ∷ q) ≡ None =
          value-none (job_of touched) (job_of touched).words (s ∷ q) (λ i few same. let first_one : i ≡ 0 = omega (arith, few, word_one.words) in other (same ∙ ap (word_trail (job_of touched)) first_one ∙ word_one.trail)) in
          ap (λ v. unwrap_or v (laid_on old (job_of touched) (s ∷ q))) none ∙ laid-other old (job_of touched) s q (λ j few. absurd (omega (arith, few, word_one.leaves)))
      go (run ∷ runs) e = ap (λ v. unwrap_or v (laid_on old (job_of touched) (s ∷ q))) (no-value can alone run has (s ∷ q)) ∙ either (cases_trail q up)
        where
          has : Has touched.runs.now run
          has = first-has touched run runs e

          single : IsOneOfRun can alone run
          single = one-of-run can alone run has

          -- each run has the one word
          number : (r : Run) → Has touched.runs.now r → r.offset / 8 ≡ run.offset / 8
          number r also =
              let same : IsOneOfRun can alone r = one-of-run can alone r also in
              let leaf = same-leaf old bound can.forest r run (can.shape.runs r also) (can.shape.runs run has) (can.runs r also) (can.runs run has) 0 0 (omega arith) (omega arith) (same.leaf ∙ sym single.leaf) in
              omega (arith, leaf.1, same.last, single.last)

          beside_it : s ≢ slot → (r : Run) → Has touched.runs.now r → run_word r (512 * (run.offset / 4096 + 0) + s) (word_on old (s ∷ up)) ≡ word_on old (s ∷ up)
          beside_it apart r also = run_word-outside r (512 * (run.offset / 4096 + 0) + s) (word_on old (s ∷ up)) (split (cases_lt (512 * (run.offset / 4096 + 0) + s) (run.offset / 8)))
            where
              same : IsOneOfRun can alone r
              same = one-of-run can alone r also

              split : (512 * (run.offset / 4096 + 0) + s < run.offset / 8) ⊎ (run.offset / 8 ≤ 512 * (run.offset / 4096 + 0) + s) →
                  (8 * (512 * (run.offset / 4096 + 0) + s) + 8 ≤ r.offset) ⊎ (run_end r ≤ 8 * (512 * (run.offset / 4096 + 0) + s))
              split (inl before) = inl (omega (arith, before, number r also))
              split (inr beyond) = inr (omega (arith, beyond, apart, single.last, same.one, number r also))

          cons : s ≡ slot → q ≡ up → s ∷ q ≡ slot ∷ up
          cons f g = cc

          either : (q ≡ up) ⊎ (q ≢ up) → laid_on old (job_of touched) (s ∷ q) ≡ word_on old (s ∷ q)
          either (inl at) =
              ap (λ p. laid_on old (job_of touched) (s ∷ p)) at
              ∙ laid-here can alone run runs e s
              ∙ laid-kept touched.runs.now run.root.items (512 * (run.offset / 4096 + 0) + s) (word_on old (s ∷ up)) (λ r also _. beside_it (λ same. other (cons same at)) r also)
              ∙ ap (λ p. word_on old (s ∷ p)) (sym at)
          either (inr away) = laid-other old (job_of touched) s q (λ j few same. away (same ∙ one-leaf can alone j few))

  module _ (wf : IsWellFormed old) (exists : (k : ℕ) → k < suc m → block_on old (trail_of (end_path touched 0) k) ≢ 0) where
    bones : IsSkeleton old (IsTreePointer old bound)
    bones = skeleton old bound can.forest wf.formatted.sized.whole

    some-blocks : 0 < block_count old
    some-blocks = let least = wf.formatted.sized.at_least in omega (arith, least)

    none-past : (q : Trail) → IsTreePointer old bound q → block_on old q ≢ block_count old
    none-past q l e = let range : block_on old q < block_count old = bones.in_range q l in absurd (omega (arith, range, e))

    turned-here : (value : ℕ) → Turns old (set old (512 * block_on old up + slot) value) (IsTreePointer old bound) here value
    turned-here value =
        store_turns old old (IsTreePointer old bound) (pointers old bound can.forest) bones some-blocks (block_count old) (record { whole = refl; others = λ place other. refl }) (λ e. absurd (omega (arith, some-blocks, e)))
        none-past here value (in_block slot up (up-pointer can alone) (exists m (omega arith)) (slot-low can alone)) (λ l. absurd (content-here can alone l))

    pub in_place : (value : ℕ) → value ≡ only_value touched (word_on old here) →
        IsCommitted old (set old (512 * block_on old up + slot) value) (IsTreePointer old bound) (IsTreeWord old bound) (λ q. ⊥) (after_commit old (job_of touched))
    in_place value is =
        let now : Image = set old (512 * block_on old up + slot) value in
        let turns : Turns old now (IsTreePointer old bound) here value = turned-here value in
        let same : (p : Trail) → IsTreePointer old bound p → word_on now p ≡ word_on old p =
        λ p l. pointer-turned old now (IsTreePointer old bound) (pointers old bound can.forest) here value turns p l (λ e. content-here can alone (subst (IsTreePointer old bound) e l)) in
        record {
          whole = turns.whole;
          superblock = turns.superblock;
          skeleton = skeleton-turned old now (IsTreePointer old bound) (pointers old bound can.forest) here value turns bones (λ l. absurd (content-here can alone l));
          kept = λ p l _. same p l;
          bits = λ p l. ap (λ w. w % 4096) (same p l);
          fresh = λ p l none. absurd none;
          words = λ p s l low _ _. words p s l low (cases_trail (s ∷ p) here);
          decide = λ p. inr (λ none. none);
          pointers = λ p none. absurd none;
        }
      where
        words : (p : Trail) (s : ℕ) → IsTreePointer old bound p → s < 512 → (s ∷ p ≡ here) ⊎ (s ∷ p ≢ here) → word_on (set old (512 * block_on old up + slot) value) (s ∷ p) ≡ after_commit old (job_of touched) (s ∷ p)
        words p s l low (inl e) =
            ap (word_on (set old (512 * block_on old up + slot) value)) e ∙ (turned-here value).turned ∙ is ∙ sym after-here ∙ ap (after_commit old (job_of touched)) (sym e)
        words p s l low (inr other) =
            word-turned old (set old (512 * block_on old up + slot) value) (IsTreePointer old bound) (pointers old bound can.forest) here value (turned-here value) p s l low
            (λ e. content-here can alone (subst (IsTreePointer old bound) e l)) other
            ∙ sym (after-other s p low other)
