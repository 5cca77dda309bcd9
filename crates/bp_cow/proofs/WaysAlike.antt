-- All ways begin with the pointers to the cover, so what is asked for its copies holds.
use Rattle.std.proofs.Common.{◌≡◌, ◌≢◌, ◌⊎◌, ℕ, zero, suc, ◌+◌, ◌-◌, ◌*◌, ◌/◌, ◌%◌, ◌^◌, ◌<◌, ◌≤◌, List, [], ◌∷◌, length, max, Bool, refl, sym, ◌∙◌, ap, subst, arith, inl, inr, pow-suc}
use Rattle.std.specs.List.{slice_index}
use Rattle.std.proofs.lemmas.Bool.{cases_eq}
use Rattle.bp_layout.specs.Members.{Has}
use Rattle.bp_layout.specs.Words.{Image, block_count}
use Rattle.bp_layout.specs.WellFormed.{IsWellFormed}
use Rattle.bp_changes.specs.Trail.{block_on, place_on, trail_of, IsPlaced}
use Rattle.bp_changes.specs.Trail.IsPlaced.{at_top, in_block}
use Rattle.bp_changes.specs.Forest.{IsTreePointer}
use Rattle.bp_changes.proofs.ForestLaws.{skeleton}
use Rattle.bp_changes.proofs.ExactSets.{unheld_exact}
use Rattle.bp_changes.proofs.PathTrails.{prefix-trail_of}
use Rattle.bp_cow.specs.declared.touched.Run.{Run}
use Rattle.bp_cow.specs.declared.touched.Touched.{Touched}
use Rattle.bp_cow.specs.Touched.{run_path, run_way, run_end, run_leaves, leaves_of, way_of, above, path_of, word_paths, job_of}
use Rattle.bp_cow.specs.Job.{ways}
use Rattle.bp_cow.specs.Cover.{end_path, end_path_of, ends, BeginAlike}
use Rattle.bp_cow.specs.CanCommit.{CanCommit}
use Rattle.bp_cow.specs.Plan.{IsFeasible}
use Rattle.bp_cow.proofs.RunLaws.{length-run_path, length-run_way}
use Rattle.bp_cow.proofs.RunsLaws.{HasEnd, end-first, end-last, end-of-word, ends-count, length-above, ways-by}
use Rattle.bp_cow.proofs.RunPrefixes.{first-trail, prefix-run_way, between-run}
use Rattle.bp_cow.proofs.CoverLaws.{end-slots, some-ends}
use Rattle.bp_cow.proofs.RunPointers.{leaf-plain}
use Rattle.bp_cow.proofs.WayPointers.{above-trail, first-way, ways-prefixes, ways-short, ways-slots, word-trail, ways-count, leaves-bare, leaves-agree}

module _ {in_snapshot : ℕ → Bool} {old : Image} {bound : ℕ → ℕ} {touched : Touched} {free : ℕ → Bool} (can : CanCommit old bound in_snapshot touched free) where
  abbrev path : ℕ → List ℕ
  path i = path_of (word_paths touched) i

  module _ (n : ℕ) (alike : BeginAlike touched n) (short : n ≤ length ((job_of touched).way 0)) where
    abbrev first : List ℕ
    first = end_path touched 0

    some-ways : 0 < ways (job_of touched)
    some-ways = can.shape.some

    first-prefix : (d : ℕ) → d ≤ length ((job_of touched).way 0) → trail_of ((job_of touched).way 0) d ≡ trail_of first d
    first-prefix d low = go touched.runs.now refl
      where
        go : (runs : List Run) → touched.runs.now ≡ runs → trail_of ((job_of touched).way 0) d ≡ trail_of first d
        go [] e =
            let some : 0 < 0 + length touched.words.now = subst (λ r. 0 < leaves_of r + length touched.words.now) e can.shape.some in
            let way : (job_of touched).way 0 ≡ above (path 0) = ap (λ r. way_of r (word_paths touched) 0) e in
            let len : 1 ≤ length (path 0) = can.shape.words 0 (omega (arith, some)) in
            let less : d < length (path 0) = omega (arith, subst (λ p. d ≤ length p) way low, length-above (path 0), len) in
            ap (λ p. trail_of p d) way ∙ above-trail (path 0) d less ∙ ap (λ r. trail_of (end_path_of r (word_paths touched) 0) d) (sym e)
        go (run ∷ runs) e =
            let way : (job_of touched).way 0 ≡ run_way run 0 = first-way touched run runs e in
            let leaf : run.offset / 8 / 512 ≡ run.offset / 4096 + 0 = omega arith in
            ap (λ p. trail_of p d) way ∙ prefix-run_way run 0 (run.offset / 8) d leaf (subst (λ p. d ≤ length p) way low) ∙ ap (λ r. trail_of (end_path_of r (word_paths touched) 0) d) (sym e)

    pub first-pointer : (d : ℕ) → d ≤ length ((job_of touched).way 0) → IsTreePointer old bound (trail_of first d)
    first-pointer d low = subst (IsTreePointer old bound) (first-prefix d low) (ways-prefixes can 0 some-ways d low)

    -- a word's path, among the paths that report
    end-word : (i : ℕ) → i < length touched.words.now → (n ≤ length (path i)) × (trail_of (path i) n ≡ trail_of first n)
    end-word i here =
        let at : 2 * length touched.runs.now + i < ends touched = omega (arith, here, ends-count touched.runs.now (length touched.words.now)) in
        let is : end_path touched (2 * length touched.runs.now + i) ≡ path i = end-of-word touched.runs.now (word_paths touched) i in
        (subst (λ p. n ≤ length p) is (alike.long (2 * length touched.runs.now + i) at), ap (λ p. trail_of p n) (sym is) ∙ alike.same (2 * length touched.runs.now + i) at)

    begin-word : (i : ℕ) → i < length touched.words.now → (n ≤ length (above (path i))) × (trail_of (above (path i)) n ≡ trail_of first n)
    begin-word i here = go (cases_eq n (length (path i)))
      where
        both : (n ≤ length (path i)) × (trail_of (path i) n ≡ trail_of first n)
        both = end-word i here

        go : (n ≡ length (path i)) ⊎ (n ≡ length (path i) → ⊥) → (n ≤ length (above (path i))) × (trail_of (above (path i)) n ≡ trail_of first n)
        go (inl e) = absurd (can.contents i here (subst (λ d. IsTreePointer old bound (trail_of (path i) d)) e (subst (IsTreePointer old bound) (sym both.1) (first-pointer n short))))
        go (inr other) =
            let low : n ≤ length (path i) = both.0 in
            (omega (arith, low, other, length-above (path i)), above-trail (path i) n (omega (arith, low, other)) ∙ both.1)

    begin-leaf : (run : Run) (j : ℕ) → Has touched.runs.now run → j < run_leaves run → (n ≤ length (run_way run j)) × (trail_of (run_way run j) n ≡ trail_of first n)
    begin-leaf run j has low =
        (long, prefix-run_way run j k n leaf long ∙ between-run run (run.offset / 8) k ((run_end run - 1) / 8) n from_first to_last few (omega (arith, long, length-run_way run j)) (from_start ∙ sym from_end) ∙ from_start)
      where
        start : HasEnd touched.runs.now (word_paths touched) (run_path run (run.offset / 8))
        start = end-first touched.runs.now (word_paths touched) run has

        end : HasEnd touched.runs.now (word_paths touched) (run_path run ((run_end run - 1) / 8))
        end = end-last touched.runs.now (word_paths touched) run has

        from_start : trail_of (run_path run (run.offset / 8)) n ≡ trail_of first n
        from_start = ap (λ p. trail_of p n) (sym start.is) ∙ alike.same start.which (start.here (length touched.words.now))

        from_end : trail_of (run_path run ((run_end run - 1) / 8)) n ≡ trail_of first n
        from_end = ap (λ p. trail_of p n) (sym end.is) ∙ alike.same end.which (end.here (length touched.words.now))

        -- the word itself is no pointer
        long : n ≤ length (run_way run j)
        long = go (cases_eq n (length (run_path run (run.offset / 8))))
          where
            whole : n ≤ length (run_path run (run.offset / 8))
            whole = subst (λ p. n ≤ length p) start.is (alike.long start.which (start.here (length touched.words.now)))

            go : (n ≡ length (run_path run (run.offset / 8))) ⊎ (n ≡ length (run_path run (run.offset / 8)) → ⊥) → n ≤ length (run_way run j)
            go (inl e) =
                absurd (leaf-plain old bound can.forest run (can.shape.runs run has) (can.runs run has) 0 (run.offset / 8 % 512) (omega arith)
                (subst (IsTreePointer old bound) (sym from_start ∙ ap (trail_of (run_path run (run.offset / 8))) e ∙ first-trail run) (first-pointer n short)))
            go (inr other) = omega (arith, whole, other, length-run_path run (run.offset / 8), length-run_way run j)

        some : 0 < length run.bytes.now
        some = (can.shape.runs run has).some

        -- a touched word of the leaf
        k : ℕ
        k = max (run.offset / 8) (512 * (run.offset / 4096 + j))

        leaf : k / 512 ≡ run.offset / 4096 + j
        leaf = omega arith

        from_first : run.offset / 8 ≤ k
        from_first = omega arith

        to_last : k ≤ (run_end run - 1) / 8
        to_last = omega (arith, low, some)

        few : (run_end run - 1) / 8 < 512 ^ suc run.height
        few = let covers : run_end run ≤ 4096 * 512 ^ run.height = (can.shape.runs run has).covered in rw pow-suc (omega (arith, covers, some))

    begin-way : (i : ℕ) → i < ways (job_of touched) → (n ≤ length ((job_of touched).way i)) × (trail_of ((job_of touched).way i) n ≡ trail_of first n)
    begin-way = ways-by touched (λ p. (n ≤ length p) × (trail_of p n ≡ trail_of first n)) begin-leaf begin-word

    placed-first : (d : ℕ) → d ≤ n → ((k : ℕ) → k < n → block_on old (trail_of first k) ≢ 0) → IsPlaced old (IsTreePointer old bound) (trail_of first d)
    placed-first zero low exists = at_top
    placed-first (suc d) low exists =
        in_block (slice_index first d) (trail_of first d) (first-pointer d (omega (arith, low, short))) (exists d low)
        (end-slots touched can.shape 0 d (some-ends touched can.shape) (omega (arith, low, alike.long 0 (some-ends touched can.shape))))

    pub can_build : IsWellFormed old → (place : ℕ) → ((k : ℕ) → k < n → block_on old (trail_of first k) ≢ 0) → place_on old (trail_of first n) ≡ place → IsFeasible old bound (job_of touched) n place in_snapshot free
    can_build wf place exists at = record {
      some = some-ways;
      some_blocks = let least = wf.formatted.sized.at_least in omega (arith, least);
      whole = wf.formatted.sized.whole;
      forest = can.forest;
      exact = unheld_exact old bound can.forest in_snapshot free can.exact;
      below = λ i here. (begin-way i here).0;
      short = ways-short can;
      cover = λ i here. (begin-way i here).1 ∙ sym (first-prefix n short);
      pointers = λ i d here low. ways-prefixes can i here d low;
      slots = λ i d here low. ways-slots can i here d low;
      word_slots = λ i here. let some = can.shape.words i here in can.shape.slots i (length (path i) - 1) here (omega (arith, some));
      contents = λ i here one. can.contents i here (subst (IsTreePointer old bound) (word-trail can i here) one);
      bare = λ j slot low one. leaves-bare can j slot low one;
      agree = λ j l low small same slot w. leaves-agree can j l low small same slot w;
      live = λ i d slot here low small any. ways-count can i d slot here low small any;
      placed = subst (IsPlaced old (IsTreePointer old bound)) (sym (first-prefix n short)) (placed-first n (omega arith) exists);
      at = ap (place_on old) (first-prefix n short) ∙ at;
    }

  pub first-length : length (end_path touched 0) ≡ length ((job_of touched).way 0) + 1
  first-length = go touched.runs.now refl
    where
      go : (runs : List Run) → touched.runs.now ≡ runs → length (end_path touched 0) ≡ length ((job_of touched).way 0) + 1
      go [] e =
          let some : 0 < 0 + length touched.words.now = subst (λ r. 0 < leaves_of r + length touched.words.now) e can.shape.some in
          let way : (job_of touched).way 0 ≡ above (path 0) = ap (λ r. way_of r (word_paths touched) 0) e in
          let len : 1 ≤ length (path 0) = can.shape.words 0 (omega (arith, some)) in
          ap (λ r. length (end_path_of r (word_paths touched) 0)) e ∙ omega (arith, len, length-above (path 0)) ∙ ap (λ (p : List ℕ). length p + 1) (sym way)
      go (run ∷ runs) e =
          let way : (job_of touched).way 0 ≡ run_way run 0 = first-way touched run runs e in
          ap (λ r. length (end_path_of r (word_paths touched) 0)) e ∙ omega (arith, length-run_path run (run.offset / 8), length-run_way run 0) ∙ ap (λ (p : List ℕ). length p + 1) (sym way)

  pub alike-less : (m : ℕ) → BeginAlike touched (suc m) → BeginAlike touched m
  alike-less m alike = record {
    long = λ i here. omega (arith, alike.long i here);
    same = λ i here. prefix-trail_of (end_path touched i) (end_path touched 0) (suc m) m (alike.same i here) (omega arith);
  }

-- the pointers that the way to the cover reads
pub first-range : {in_snapshot : ℕ → Bool} (old : Image) (bound : ℕ → ℕ) (touched : Touched) (free : ℕ → Bool) → IsWellFormed old → CanCommit old bound in_snapshot touched free →
    (d : ℕ) → BeginAlike touched (d + 1) → block_on old (trail_of (end_path touched 0) d) < block_count old
first-range old bound touched free wf can d alike =
    let next : d + 1 ≡ suc d = omega arith in
    let less : BeginAlike touched d = alike-less can d (subst (BeginAlike touched) next alike) in
    let short : d ≤ length ((job_of touched).way 0) = omega (arith, first-length can, alike.long 0 (some-ends touched can.shape)) in
    (skeleton old bound can.forest wf.formatted.sized.whole).in_range _ (first-pointer can d less short d short)
