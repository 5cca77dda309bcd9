-- One touched word, which is the only one: no other word or byte of a run is touched.
use Rattle.std.proofs.Common.{◌≡◌, ◌⊎◌, ℕ, suc, ◌+◌, ◌-◌, ◌*◌, ◌/◌, ◌%◌, ◌^◌, ◌<◌, ◌≤◌, List, [], ◌∷◌, length, Bool, None, refl, sym, ◌∙◌, ap, subst, arith, inl, inr, pow-suc}
use Rattle.std.specs.List.{slice_index}
use Rattle.std.proofs.lemmas.Bool.{cases_eq, cases_lt}
use Rattle.bp_layout.specs.Members.{Has}
use Rattle.bp_layout.specs.Words.{Image}
use Rattle.bp_changes.specs.Trail.{Trail, word_on, trail_of}
use Rattle.bp_changes.specs.Forest.{IsTreePointer}
use Rattle.bp_cow.specs.declared.touched.Run.{Run}
use Rattle.bp_cow.specs.declared.touched.Touched.{Touched}
use Rattle.bp_cow.specs.Touched.{run_path, run_way, run_end, leaves_of, path_of, word_paths, job_of, laid_word}
use Rattle.bp_cow.specs.Job.{end_of, word_trail, value_upto, laid_on}
use Rattle.bp_cow.proofs.BuildFacts.{laid-leaf}
use Rattle.bp_cow.specs.Cover.{end_path, end_path_of, ends, ends_of, BeginAlike}
use Rattle.bp_cow.specs.CanCommit.{CanCommit}
use Rattle.bp_cow.proofs.RunLaws.{length-run_path, length-run_way}
use Rattle.bp_cow.proofs.RunsLaws.{HasEnd, end-first, end-last, end-of-word, ends-count}
use Rattle.bp_cow.proofs.RunPrefixes.{first-trail, prefix-run_way, same-run_path}
use Rattle.bp_cow.proofs.CoverLaws.{end-slots, some-ends}
use Rattle.bp_cow.proofs.RunPointers.{leaf-prefixes, leaf-plain}
use Rattle.bp_cow.proofs.WayPointers.{first-has, first-leaf, leaf-at, leaf-end, leaves-agree, word-trail}
use Rattle.bp_cow.proofs.WaysAlike.{alike-less, first-length, first-pointer}

-- All paths are one path, of one slot more than this: the only touched word is the cover's.
pub record IsOnePath (touched : Touched) (m : ℕ) : Type 0 where
  pub alike : BeginAlike touched (suc m)
  pub long : length ((job_of touched).way 0) ≡ m

module _ {in_snapshot : ℕ → Bool} {old : Image} {bound : ℕ → ℕ} {touched : Touched} {free : ℕ → Bool} {m : ℕ} (can : CanCommit old bound in_snapshot touched free) (alone : IsOnePath touched m) where
  abbrev path : ℕ → List ℕ
  path i = path_of (word_paths touched) i

  abbrev whole : List ℕ
  whole = end_path touched 0

  abbrev slot : ℕ
  slot = slice_index whole m

  abbrev up : Trail
  up = trail_of whole m

  pub up-pointer : IsTreePointer old bound up
  up-pointer = first-pointer can m (alike-less can m alone.alike) (omega (arith, alone.long)) m (omega (arith, alone.long))

  pub slot-low : slot < 512
  slot-low = end-slots touched can.shape 0 m (some-ends touched can.shape) (omega (arith, alone.alike.long 0 (some-ends touched can.shape)))

  abbrev here : Trail
  here = slot ∷ up

  pub content-here : IsTreePointer old bound here → ⊥
  content-here one = go touched.runs.now refl
    where
      go : (runs : List Run) → touched.runs.now ≡ runs → ⊥
      go [] e =
          let some : 0 < 0 + length touched.words.now = subst (λ r. 0 < leaves_of r + length touched.words.now) e can.shape.some in
          let first_is : end_path touched 0 ≡ path 0 = ap (λ r. end_path_of r (word_paths touched) 0) e in
          let size : suc m ≡ length (path 0) = omega (arith, first-length can, alone.long, ap (λ (p : List ℕ). length p) first_is) in
          can.contents 0 (omega (arith, some)) (subst (IsTreePointer old bound) (ap (λ p. trail_of p (suc m)) first_is ∙ ap (trail_of (path 0)) size) one)
      go (run ∷ runs) e =
          let has : Has touched.runs.now run = first-has touched run runs e in
          let first_is : end_path touched 0 ≡ run_path run (run.offset / 8) = ap (λ r. end_path_of r (word_paths touched) 0) e in
          let size : suc m ≡ length (run_path run (run.offset / 8)) = omega (arith, first-length can, alone.long, ap (λ (p : List ℕ). length p) first_is) in
          leaf-plain old bound can.forest run (can.shape.runs run has) (can.runs run has) 0 (run.offset / 8 % 512) (omega arith)
          (subst (IsTreePointer old bound) (ap (λ p. trail_of p (suc m)) first_is ∙ ap (trail_of (run_path run (run.offset / 8))) size ∙ first-trail run) one)

  -- what is known where there is no run
  pub record IsOneWord : Type 0 where
    pub words : length touched.words.now ≡ 1
    pub trail : word_trail (job_of touched) 0 ≡ slot ∷ up
    pub leaves : (job_of touched).leaves ≡ 0

  pub one-word : touched.runs.now ≡ [] → IsOneWord
  one-word none = record {
    words = omega (arith, some, at_most);
    trail = word-trail can 0 (omega (arith, some)) ∙ ap (trail_of (path 0)) size ∙ ap (λ p. trail_of p (suc m)) (sym first_is);
    leaves = ap leaves_of none;
  }
    where
      some : 0 < length touched.words.now
      some = let all : 0 < 0 + length touched.words.now = subst (λ r. 0 < leaves_of r + length touched.words.now) none can.shape.some in omega (arith, all)

      first_is : end_path touched 0 ≡ path 0
      first_is = ap (λ r. end_path_of r (word_paths touched) 0) none

      size : length (path 0) ≡ suc m
      size = omega (arith, first-length can, alone.long, ap (λ (p : List ℕ). length p) first_is)

      same : (i : ℕ) → i < length touched.words.now → i ≡ 0
      same i here = go (cases_eq (length (path i)) (suc m))
        where
          at : i < ends touched
          at = subst (λ r. i < ends_of r (length touched.words.now)) (sym none) here

          is : end_path touched i ≡ path i
          is = ap (λ r. end_path_of r (word_paths touched) i) none

          begins : trail_of (path i) (suc m) ≡ trail_of (path 0) (length (path 0))
          begins = ap (λ p. trail_of p (suc m)) (sym is) ∙ alone.alike.same i at ∙ ap (λ p. trail_of p (suc m)) first_is ∙ ap (trail_of (path 0)) (sym size)

          go : (length (path i) ≡ suc m) ⊎ (length (path i) ≡ suc m → ⊥) → i ≡ 0
          go (inl e) = can.apart i 0 here some (ap (trail_of (path i)) e ∙ begins)
          go (inr n) =
              let low : suc m < length (path i) = omega (arith, n, subst (λ p. suc m ≤ length p) is (alone.alike.long i at)) in
              absurd (can.contents 0 some (subst (IsTreePointer old bound) begins (can.pointers i (suc m) here low)))

      at_most : length touched.words.now ≤ 1
      at_most = go (cases_lt 1 (length touched.words.now))
        where
          go : (1 < length touched.words.now) ⊎ (length touched.words.now ≤ 1) → length touched.words.now ≤ 1
          go (inr few) = few
          go (inl more) = absurd (omega (arith, same 1 more))

  -- and of each run: it has this word alone
  pub record IsOneOfRun (run : Run) : Type 0 where
    pub one : run.offset / 8 ≡ (run_end run - 1) / 8
    pub trail : trail_of (run_path run (run.offset / 8)) (length (run_path run (run.offset / 8))) ≡ slot ∷ up
    pub last : run.offset / 8 % 512 ≡ slot
    pub leaf : trail_of (run_way run 0) (length (run_way run 0)) ≡ up

  pub one-of-run : (run : Run) → Has touched.runs.now run → IsOneOfRun run
  one-of-run run has = record { one = one; trail = trail; last = parts.0; leaf = parts.1 }
    where
      start : HasEnd touched.runs.now (word_paths touched) (run_path run (run.offset / 8))
      start = end-first touched.runs.now (word_paths touched) run has

      end : HasEnd touched.runs.now (word_paths touched) (run_path run ((run_end run - 1) / 8))
      end = end-last touched.runs.now (word_paths touched) run has

      from_start : trail_of (run_path run (run.offset / 8)) (suc m) ≡ slot ∷ up
      from_start = ap (λ p. trail_of p (suc m)) (sym start.is) ∙ alone.alike.same start.which (start.here (length touched.words.now))

      from_end : trail_of (run_path run ((run_end run - 1) / 8)) (suc m) ≡ slot ∷ up
      from_end = ap (λ p. trail_of p (suc m)) (sym end.is) ∙ alone.alike.same end.which (end.here (length touched.words.now))

      full : length (run_path run (run.offset / 8)) ≡ suc m
      full = go (cases_eq (length (run_path run (run.offset / 8))) (suc m))
        where
          whole : suc m ≤ length (run_path run (run.offset / 8))
          whole = subst (λ p. suc m ≤ length p) start.is (alone.alike.long start.which (start.here (length touched.words.now)))

          go : (length (run_path run (run.offset / 8)) ≡ suc m) ⊎ (length (run_path run (run.offset / 8)) ≡ suc m → ⊥) → length (run_path run (run.offset / 8)) ≡ suc m
          go (inl e) = e
          go (inr other) =
              let short : suc m ≤ length (run_way run 0) = omega (arith, whole, other, length-run_path run (run.offset / 8), length-run_way run 0) in
              absurd (content-here (subst (IsTreePointer old bound) (prefix-run_way run 0 (run.offset / 8) (suc m) (omega arith) short ∙ from_start)
              (leaf-prefixes old bound can.forest run (can.shape.runs run has) (can.runs run has) 0 (suc m) (omega arith) short)))

      trail : trail_of (run_path run (run.offset / 8)) (length (run_path run (run.offset / 8))) ≡ slot ∷ up
      trail = ap (trail_of (run_path run (run.offset / 8))) full ∙ from_start

      parts : (run.offset / 8 % 512 ≡ slot) × (trail_of (run_way run 0) (length (run_way run 0)) ≡ up)
      parts = both (sym (first-trail run) ∙ trail)
        where
          both : {s u : ℕ} {p q : Trail} → s ∷ p ≡ u ∷ q → (s ≡ u) × (p ≡ q)
          both e = (cc, cc)

      few : (k : ℕ) → k ≤ (run_end run - 1) / 8 → k < 512 ^ suc run.height
      few k low =
          let covers : run_end run ≤ 4096 * 512 ^ run.height = (can.shape.runs run has).covered in
          let some : 0 < length run.bytes.now = (can.shape.runs run has).some in
          rw pow-suc (omega (arith, covers, some, low))

      one : run.offset / 8 ≡ (run_end run - 1) / 8
      one =
          let some : 0 < length run.bytes.now = (can.shape.runs run has).some in
          same-run_path run (run.offset / 8) ((run_end run - 1) / 8) (few (run.offset / 8) (omega (arith, some))) (few ((run_end run - 1) / 8) (omega arith))
          (trail ∙ sym from_end ∙ ap (trail_of (run_path run ((run_end run - 1) / 8))) (sym full))

  -- so no other word is touched
  no-words : (run : Run) → Has touched.runs.now run → length touched.words.now ≡ 0
  no-words run has = go (cases_eq (length touched.words.now) 0)
    where
      single : IsOneOfRun run
      single = one-of-run run has

      begins : 0 < length touched.words.now → (suc m ≤ length (path 0)) × (trail_of (path 0) (suc m) ≡ slot ∷ up)
      begins some =
          let at : 2 * length touched.runs.now + 0 < ends touched = omega (arith, some, ends-count touched.runs.now (length touched.words.now)) in
          let is : end_path touched (2 * length touched.runs.now + 0) ≡ path 0 = end-of-word touched.runs.now (word_paths touched) 0 in
          (subst (λ p. suc m ≤ length p) is (alone.alike.long (2 * length touched.runs.now + 0) at), ap (λ p. trail_of p (suc m)) (sym is) ∙ alone.alike.same (2 * length touched.runs.now + 0) at)

      none : (some : 0 < length touched.words.now) → (length (path 0) ≡ suc m) ⊎ (length (path 0) ≡ suc m → ⊥) → ⊥
      none some (inl whole) =
          let bytes : 0 < length run.bytes.now = (can.shape.runs run has).some in
          can.beside run 0 (run.offset / 8) has some (omega arith) (omega (arith, bytes)) (ap (trail_of (path 0)) whole ∙ (begins some).1 ∙ sym single.trail)
      none some (inr n) =
          let low : suc m < length (path 0) = omega (arith, n, (begins some).0) in
          content-here (subst (IsTreePointer old bound) (begins some).1 (can.pointers 0 (suc m) some low))

      go : (length touched.words.now ≡ 0) ⊎ (length touched.words.now ≡ 0 → ⊥) → length touched.words.now ≡ 0
      go (inl is) = is
      go (inr some) = absurd (none (omega (arith, some)) (cases_eq (length (path 0)) (suc m)))

  pub no-value : (run : Run) → Has touched.runs.now run → (q : Trail) → value_upto (job_of touched) (job_of touched).words q ≡ None
  no-value run has q = ap (λ n. value_upto (job_of touched) n q) (no-words run has)

  -- all leaves are that of the word
  pub one-leaf : (j : ℕ) → j < (job_of touched).leaves → end_of (job_of touched) j ≡ up
  one-leaf j low =
      let at = leaf-at touched j low in
      let single : IsOneOfRun at.run = one-of-run at.run at.is.has in
      let none : at.leaf ≡ 0 = omega (arith, at.is.low, single.one) in
      leaf-end touched j at.run at.leaf at.is ∙ ap (λ l. trail_of (run_way at.run l) (length (run_way at.run l))) none ∙ single.leaf

  -- what is laid over a word of that leaf
  pub laid-here : (run : Run) (runs : List Run) → touched.runs.now ≡ run ∷ runs → (s : ℕ) → laid_on old (job_of touched) (s ∷ up) ≡ laid_word touched.runs.now run.root.items (512 * (run.offset / 4096 + 0) + s) (word_on old (s ∷ up))
  laid-here run runs e s =
      let leaf = first-leaf touched run runs e in
      let at : end_of (job_of touched) 0 ≡ up = one-leaf 0 leaf.here in
      ap (λ q. laid_on old (job_of touched) (s ∷ q)) (sym at)
      ∙ laid-leaf old (job_of touched) s 0 leaf.here (λ l low same w. leaves-agree can 0 l leaf.here low same s w)
      ∙ leaf.patch s (word_on old (s ∷ end_of (job_of touched) 0))
      ∙ ap (λ q. laid_word touched.runs.now run.root.items (512 * (run.offset / 4096 + 0) + s) (word_on old (s ∷ q))) at
