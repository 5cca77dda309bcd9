-- The ways to touched words: those to the leaves of runs, and those to the blocks of single words.
use Rattle.std.proofs.Common.{◌≡◌, ◌⊎◌, ℕ, ◌+◌, ◌-◌, ◌*◌, ◌/◌, ◌<◌, ◌≤◌, List, ◌∷◌, length, Bool, refl, sym, ◌∙◌, ap, subst, arith, inl, inr}
use Rattle.std.specs.List.{slice_index}
use Rattle.std.proofs.lemmas.Bool.{cases_lt}
use Rattle.std.proofs.lemmas.List.{get_or-take}
use Rattle.bp_layout.specs.Members.{Has}
use Rattle.bp_layout.specs.Words.{Image}
use Rattle.bp_changes.specs.Trail.{trail_of}
use Rattle.bp_changes.specs.Forest.{IsTreePointer}
use Rattle.bp_changes.proofs.ForestLaws.{short}
use Rattle.bp_changes.proofs.PathTrails.{trail_of-next}
use Rattle.bp_cow.specs.declared.touched.Run.{Run}
use Rattle.bp_cow.specs.declared.touched.Touched.{Touched}
use Rattle.bp_cow.specs.Leaves.{IsLeaf}
use Rattle.bp_cow.specs.Touched.{run_way, leaves_of, live_of, way_of, above, path_of, word_paths, last_slot, job_of, laid_word, word_live}
use Rattle.bp_cow.specs.Job.{ways, end_of, word_trail}
use Rattle.bp_cow.specs.Counting.{IsTreeWord}
use Rattle.bp_cow.specs.CanCommit.{CanCommit}
use Rattle.bp_cow.proofs.RunPointers.{leaf-counts, leaf-prefixes, leaf-plain, same-leaf}
use Rattle.bp_cow.proofs.RunLaws.{length-run_path, length-run_way, slot-run_way}
use Rattle.bp_cow.proofs.RunsLaws.{HasLeaf, leaf-here, leaf-of, length-above, live-word, way-leaf, way-short, way-word, ways-by}
use Rattle.bp_cow.proofs.RunPrefixes.{trail_of-take}
use Rattle.bp_cow.proofs.CoverLaws.{run-slots}
use Rattle.bp_cow.proofs.WordLive.{word-counts}

pub above-trail : (path : List ℕ) (d : ℕ) → d < length path → trail_of (above path) d ≡ trail_of path d
above-trail path d low = trail_of-take path (length path - 1) d (omega (arith, low))

-- the way to a word and its last slot
whole-word : (path : List ℕ) → 1 ≤ length path → last_slot path ∷ trail_of (above path) (length (above path)) ≡ trail_of path (length path)
whole-word path some =
    let count : ℕ = length path - 1 in
    let size : length (above path) ≡ count = length-above path in
    let whole : length path ≡ count + 1 = omega (arith, some) in
    ap (λ d. last_slot path ∷ trail_of (above path) d) size
    ∙ ap (λ q. last_slot path ∷ q) (above-trail path count (omega (arith, some)))
    ∙ sym (ap (trail_of path) whole ∙ trail_of-next path count)

module _ (touched : Touched) where
  pub word-way : (i : ℕ) → (job_of touched).way ((job_of touched).leaves + i) ≡ above (path_of (word_paths touched) i)
  word-way i =
      let back : leaves_of touched.runs.now + i - leaves_of touched.runs.now ≡ i = omega arith in
      way-word touched.runs.now (word_paths touched) (leaves_of touched.runs.now + i) (omega arith) ∙ ap (λ k. above (path_of (word_paths touched) k)) back

  pub leaf-end : (i : ℕ) (run : Run) (leaf : ℕ) → IsLeaf touched.runs.now touched.runs.now (word_paths touched) i run leaf → end_of (job_of touched) i ≡ trail_of (run_way run leaf) (length (run_way run leaf))
  leaf-end i run leaf is = ap (λ p. trail_of p (length p)) is.way

  pub leaf-at : (i : ℕ) → i < (job_of touched).leaves → HasLeaf touched.runs.now touched.runs.now (word_paths touched) i
  leaf-at i low = leaf-of touched.runs.now touched.runs.now (word_paths touched) i low

  pub first-way : (run : Run) (runs : List Run) → touched.runs.now ≡ run ∷ runs → (job_of touched).way 0 ≡ run_way run 0
  first-way run runs e = ap (λ r. way_of r (word_paths touched) 0) e ∙ way-leaf run runs (word_paths touched) 0 (omega arith)

  pub first-leaf : (run : Run) (runs : List Run) → touched.runs.now ≡ run ∷ runs → IsLeaf touched.runs.now touched.runs.now (word_paths touched) 0 run 0
  first-leaf run runs e = subst (λ rs. IsLeaf rs rs (word_paths touched) 0 run 0) (sym e) (leaf-here (run ∷ runs) run runs (word_paths touched) 0 (omega arith))

  pub first-has : (run : Run) (runs : List Run) → touched.runs.now ≡ run ∷ runs → Has touched.runs.now run
  first-has run runs e = subst (λ rs. Has rs run) (sym e) (inl refl)

module _ {in_snapshot : ℕ → Bool} {old : Image} {bound : ℕ → ℕ} {touched : Touched} {free : ℕ → Bool} (can : CanCommit old bound in_snapshot touched free) where
  abbrev path : ℕ → List ℕ
  path i = path_of (word_paths touched) i

  pub ways-prefixes : (i : ℕ) → i < ways (job_of touched) → (d : ℕ) → d ≤ length ((job_of touched).way i) → IsTreePointer old bound (trail_of ((job_of touched).way i) d)
  ways-prefixes = ways-by touched (λ p. (d : ℕ) → d ≤ length p → IsTreePointer old bound (trail_of p d))
      (λ run j has low d short. leaf-prefixes old bound can.forest run (can.shape.runs run has) (can.runs run has) j d low short)
      (λ i here d low.
      let some : 1 ≤ length (path i) = can.shape.words i here in
      let less : d < length (path i) = omega (arith, low, length-above (path i), some) in
      subst (IsTreePointer old bound) (sym (above-trail (path i) d less)) (can.pointers i d here less))

  pub ways-short : (i : ℕ) → i < ways (job_of touched) → length ((job_of touched).way i) ≤ 11
  ways-short = way-short touched can.shape

  pub ways-slots : (i : ℕ) → i < ways (job_of touched) → (d : ℕ) → d < length ((job_of touched).way i) → slice_index ((job_of touched).way i) d < 512
  ways-slots = ways-by touched (λ p. (d : ℕ) → d < length p → slice_index p d < 512)
      (λ run j has low d short. subst (λ n. n < 512) (slot-run_way run j d short) (run-slots run (512 * (run.offset / 4096 + j)) d (can.shape.runs run has) (omega (arith, short, length-run_path run (512 * (run.offset / 4096 + j)), length-run_way run j))))
      (λ i here d low.
      let less : d < length (path i) - 1 = omega (arith, low, length-above (path i)) in
      subst (λ n. n < 512) (sym (get_or-take (length (path i) - 1) (path i) d 0 less)) (can.shape.slots i d here (omega (arith, less))))

  pub word-trail : (i : ℕ) → i < length touched.words.now → word_trail (job_of touched) i ≡ trail_of (path i) (length (path i))
  word-trail i here =
      ap (λ p. last_slot (path i) ∷ trail_of p (length p)) (word-way touched i) ∙ whole-word (path i) (can.shape.words i here)

  -- the words of blocks on the ways that count
  pub ways-count : (i depth slot : ℕ) → i < ways (job_of touched) → depth ≤ length ((job_of touched).way i) → slot < 512 →
      IsTreePointer old bound (slot ∷ trail_of ((job_of touched).way i) depth) ⊎ IsTreeWord old bound (slot ∷ trail_of ((job_of touched).way i) depth) → slot < (job_of touched).live i depth
  ways-count i depth slot here short small any = go (cases_lt i (leaves_of touched.runs.now))
    where
      go : (i < leaves_of touched.runs.now) ⊎ (leaves_of touched.runs.now ≤ i) → slot < live_of touched.runs.now touched.trees.now (word_paths touched) i depth
      go (inr past) =
          let counted = word-counts old bound can.forest ((job_of touched).way i) depth (λ d less. ways-slots i here d (omega (arith, less, short))) (ways-prefixes i here depth short) slot small any touched.trees.now can.trees in
          rw (live-word touched.runs.now touched.trees.now (word_paths touched) i depth past)
          (subst (λ p. slot < word_live touched.trees.now p depth) (way-word touched.runs.now (word_paths touched) i past) counted)
      go (inl low) =
          let one = leaf-at touched i low in
          rw (one.is.live touched.trees.now depth)
          (leaf-counts old bound can.forest one.run (can.shape.runs one.run one.is.has) (can.runs one.run one.is.has) one.leaf depth slot one.is.low small
          (subst (λ (p : List ℕ). IsTreePointer old bound (slot ∷ trail_of p depth) ⊎ IsTreeWord old bound (slot ∷ trail_of p depth)) one.is.way any))

  -- the leaves have no pointers
  pub leaves-bare : (i slot : ℕ) → i < (job_of touched).leaves → IsTreePointer old bound (slot ∷ end_of (job_of touched) i) → ⊥
  leaves-bare i slot low one =
      let at = leaf-at touched i low in
      leaf-plain old bound can.forest at.run (can.shape.runs at.run at.is.has) (can.runs at.run at.is.has) at.leaf slot at.is.low
      (subst (λ q. IsTreePointer old bound (slot ∷ q)) (leaf-end touched i at.run at.leaf at.is) one)

  -- and ways to one leaf have one patch
  pub leaves-agree : (i l : ℕ) → i < (job_of touched).leaves → l < (job_of touched).leaves → end_of (job_of touched) i ≡ end_of (job_of touched) l → (slot w : ℕ) → (job_of touched).patch i slot w ≡ (job_of touched).patch l slot w
  leaves-agree i l low small same slot w =
      let one = leaf-at touched i low in
      let two = leaf-at touched l small in
      let both = same-leaf old bound can.forest one.run two.run (can.shape.runs one.run one.is.has) (can.shape.runs two.run two.is.has) (can.runs one.run one.is.has) (can.runs two.run two.is.has) one.leaf two.leaf one.is.low two.is.low
      (sym (leaf-end touched i one.run one.leaf one.is) ∙ same ∙ leaf-end touched l two.run two.leaf two.is) in
      one.is.patch slot w
      ∙ ap (λ (root : List ℕ). laid_word touched.runs.now root (512 * (one.run.offset / 4096 + one.leaf) + slot) w) both.0
      ∙ ap (λ n. laid_word touched.runs.now two.run.root.items (512 * n + slot) w) both.1
      ∙ sym (two.is.patch slot w)
