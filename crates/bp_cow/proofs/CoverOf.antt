-- The cover that is found is the cover by its definition.
use Rattle.std.proofs.Common.{◌≡◌, ◌≢◌, ◌⊎◌, ℕ, zero, suc, ◌+◌, ◌-◌, ◌/◌, ◌<◌, ◌≤◌, List, [], length, take, not, Bool, true, false, refl, sym, ◌∙◌, ap, subst, arith, inl, inr}
use Rattle.std.specs.Prelude.{◌==◌}
use Rattle.std.specs.List.{slice_index}
use Rattle.std.proofs.lemmas.Bool.{cases_eq, cases_lt, eqb-true}
use Rattle.std.proofs.lemmas.List.{length-take}
use Rattle.bp_layout.specs.Members.{Has}
use Rattle.bp_layout.specs.Need.{common_all, prefixes_of}
use Rattle.bp_layout.specs.WordPaths.{WordPath, address, is_pointed}
use Rattle.bp_layout.specs.Words.{Image, word, block_of}
use Rattle.bp_layout.proofs.TreeLaws.{slot_word-at}
use Rattle.bp_changes.specs.Trail.{block_on, word_on, place_on, trail_of}
use Rattle.bp_changes.proofs.PathTrails.{AreNodes, address-on, prefix-trail_of}
use Rattle.bp_changes.proofs.TrailLaws.{word_on-top, word_on-slot}
use Rattle.bp_cow.specs.declared.touched.Touched.{Touched}
use Rattle.bp_cow.specs.Cover.{end_path, ends, BeginAlike, CoverHas, IsCover, commit_cover, copied_count}
use Rattle.bp_cow.specs.Job.{copies_at}
use Rattle.bp_cow.specs.Touched.{IsTouched, NoneBegins, all_paths, run_end, word_paths, job_of}
use Rattle.bp_cow.proofs.CommonPaths.{Begins, HasExistingPrefix, all-begin, all-most, existing}
use Rattle.bp_cow.proofs.CopiesNeed.{alike-all, has-word, has-of-run, copied-need}
use Rattle.bp_cow.proofs.CoverLaws.{some-ends}
use Rattle.bp_cow.proofs.Distinct.{same-take}
use Rattle.bp_cow.proofs.RunPrefixes.{trail_of-take}
use Rattle.bp_cow.proofs.RunsLaws.{ends-by}

-- what begins alike begins alike as far as any shorter prefix
pub alike_prefix : (touched : Touched) (n m : ℕ) → m ≤ n → BeginAlike touched n → BeginAlike touched m
alike_prefix touched n m low alike = record {
  long = λ i here. omega (arith, low, alike.long i here);
  same = λ i here. prefix-trail_of (end_path touched i) (end_path touched 0) n m (alike.same i here) low;
}

-- the cover is the longest
pub cover_once : (image : Image) (touched : Touched) (n m : ℕ) → CoverHas image touched n → CoverHas image touched m → n ≡ m
cover_once image touched n m one two = go (cases_eq n m) (cases_lt n m)
  where
    less : (a b : ℕ) → a < b → CoverHas image touched a → CoverHas image touched b → ⊥
    less a b low first second =
        second.exists a low
        (first.longest (alike_prefix touched b (a + 1) (omega (arith, low)) second.alike))

    go : (n ≡ m) ⊎ (n ≡ m → ⊥) → (n < m) ⊎ (m ≤ n) → n ≡ m
    go (inl e) any = e
    go (inr other) (inl low) = absurd (less n m low one two)
    go (inr other) (inr high) = absurd (less m n (omega (arith, other, high)) two one)

-- ---- words under nodes

pub nodes_of : (image : Image) (path : WordPath) (count : ℕ) → ((d : ℕ) → d < count → block_on image (trail_of path d) ≢ 0) → AreNodes image path count
nodes_of image path zero exists = tt
nodes_of image path (suc count) exists = (exists count (omega arith), nodes_of image path count (λ d low. exists d (omega (arith, low))))

module _ (image : Image) (path : WordPath) where
  word_under : (count : ℕ) → count ≤ length path → AreNodes image path count → word image (address image (take count path)) ≡ word_on image (trail_of path count)
  word_under zero low nodes = sym (word_on-top image)
  word_under (suc count) low nodes =
      let slot : ℕ = slice_index path count in
      let above : List ℕ = trail_of path count in
      ap (word image) (address-on image path (suc count) low nodes) ∙ sym (word_on-slot image slot above ∙ slot_word-at image (block_on image above) slot nodes.0)

  is_pointed-block : (count : ℕ) → count ≤ length path → AreNodes image path count → is_pointed image (take count path) ≡ true → block_on image (trail_of path count) ≢ 0
  is_pointed-block count low nodes is null = go (block_of (word image (address image (take count path)))) refl
    where
      go : (block : ℕ) → block_of (word image (address image (take count path))) ≡ block → ⊥
      go block e =
          let none : block_of (word image (address image (take count path))) ≡ 0 = ap block_of (word_under count low nodes) ∙ null in
          let wrong : false ≡ true = sym (ap (λ b. not (b == 0)) none) ∙ is in
          absurd (cc)

  not_pointed-block : (count : ℕ) → count ≤ length path → AreNodes image path count → is_pointed image (take count path) ≡ false → block_on image (trail_of path count) ≡ 0
  not_pointed-block count low nodes is = sym (ap block_of (word_under count low nodes)) ∙ go (block_of (word image (address image (take count path))) == 0) refl
    where
      go : (b : Bool) → (block_of (word image (address image (take count path))) == 0) ≡ b → block_of (word image (address image (take count path))) ≡ 0
      go true e = eqb-true (block_of (word image (address image (take count path)))) 0 e
      go false e = let wrong : true ≡ false = sym (ap not e) ∙ is in absurd (cc)

  nodes_pointed : (count : ℕ) → count ≤ length path → ((d : ℕ) → d < count → is_pointed image (take d path) ≡ true) → AreNodes image path count
  nodes_pointed zero low pointed = tt
  nodes_pointed (suc count) low pointed =
      let nodes : AreNodes image path count = nodes_pointed count (omega (arith, low)) (λ d few. pointed d (omega (arith, few))) in
      (is_pointed-block count (omega (arith, low)) nodes (pointed count (omega arith)), nodes)

-- ---- with what touched paths begin

module _ (touched : Touched) (shape : IsTouched touched) where
  -- the paths that report are touched
  end-touched : (i : ℕ) → i < ends touched → Has (all_paths touched) (end_path touched i)
  end-touched = ends-by touched.runs.now (word_paths touched) (length touched.words.now) (Has (all_paths touched))
      (λ run has. let some : 0 < length run.bytes.now = (shape.runs run has).some in has-of-run touched shape run (run.offset / 8) has (omega arith) (omega (arith, some)))
      (λ run has. let some : 0 < length run.bytes.now = (shape.runs run has).some in has-of-run touched shape run ((run_end run - 1) / 8) has (omega (arith, some)) (omega arith))
      (λ i here. has-word touched shape i here)

  abbrev shared : WordPath
  shared = common_all (all_paths touched)

  begins-end : (i : ℕ) → i < ends touched → Begins shared (end_path touched i)
  begins-end i here = all-begin (all_paths touched) (end_path touched i) (end-touched i here)

  trail-shared : (i : ℕ) → i < ends touched → (n : ℕ) → n ≤ length shared → trail_of (end_path touched i) n ≡ trail_of shared n
  trail-shared i here n low = sym (trail_of-take (end_path touched i) (length shared) n low) ∙ ap (λ p. trail_of p n) (begins-end i here).same

  alike-shared : (n : ℕ) → n ≤ length shared → BeginAlike touched n
  alike-shared n low = record {
    long = λ i here. omega (arith, low, (begins-end i here).long);
    same = λ i here. trail-shared i here n low ∙ sym (trail-shared 0 (some-ends touched shape) n low);
  }

  shared-alike : (n : ℕ) → BeginAlike touched n → n ≤ length shared
  shared-alike n alike =
      let some : 0 < ends touched = some-ends touched shape in
      let long : n ≤ length (end_path touched 0) = alike.long 0 some in
      let size : length (take n (end_path touched 0)) ≡ n = length-take n (end_path touched 0) ∙ omega (arith, long) in
      let begins : Begins (take n (end_path touched 0)) shared = all-most (all_paths touched) (take n (end_path touched 0)) (end_path touched 0) (end-touched 0 some)
      (λ path has.
      let like = alike-all touched shape n alike path has in
      record { long = omega (arith, size, like.0); same = ap (λ k. take k path) size ∙ same-take path (end_path touched 0) n like.0 long like.1 }) in
      omega (arith, size, begins.long)

  -- ---- the cover

  module _ (image : Image) where
    abbrev found : HasExistingPrefix (is_pointed image) [] shared
    found = existing (is_pointed image) [] shared

    length-found : length (take found.count shared) ≡ found.count
    length-found = length-take found.count shared ∙ omega (arith, found.far.low)

    has_found : CoverHas image touched found.count
    has_found =
        let some : 0 < ends touched = some-ends touched shape in
        let nodes : AreNodes image shared found.count = nodes_pointed image shared found.count found.far.low found.far.exists in
        record {
          alike = alike-shared found.count found.far.low;
          exists = λ d low null.
              is_pointed-block image shared d (omega (arith, low, found.far.low)) (nodes_pointed image shared d (omega (arith, low, found.far.low)) (λ k few. found.far.exists k (omega (arith, few, low)))) (found.far.exists d low)
              (ap (block_on image) (sym (trail-shared 0 some d (omega (arith, low, found.far.low)))) ∙ null);
          longest = λ more.
              let past : found.count + 1 ≤ length shared = shared-alike (found.count + 1) more in
              ap (block_on image) (trail-shared 0 some found.count found.far.low) ∙ not_pointed-block image shared found.count found.far.low nodes (found.far.ends (omega (arith, past)));
        }

    length-cover : length (commit_cover image touched) ≡ found.count
    length-cover = ap (λ (p : WordPath). length p) found.is ∙ length-found

    -- by the definition
    pub cover_has : CoverHas image touched (length (commit_cover image touched))
    cover_has = subst (CoverHas image touched) (sym length-cover) has_found

    -- and so is what has it
    pub cover_length : (n : ℕ) → CoverHas image touched n → n ≡ length (commit_cover image touched)
    cover_length n has = cover_once image touched n (length (commit_cover image touched)) has cover_has

    pub cover_prefix : (n : ℕ) → CoverHas image touched n → take n (end_path touched 0) ≡ commit_cover image touched
    cover_prefix n has =
        let size : n ≡ found.count = cover_length n has ∙ length-cover in
        let some : 0 < ends touched = some-ends touched shape in
        let low : found.count ≤ length shared = found.far.low in
        let long : length shared ≤ length (end_path touched 0) = (begins-end 0 some).long in
        ap (λ k. take k (end_path touched 0)) size
        ∙ same-take (end_path touched 0) shared found.count (omega (arith, low, long)) low (trail-shared 0 some found.count low)
        ∙ sym found.is

    pub cover_determined : (path : WordPath) → IsCover image touched path → path ≡ commit_cover image touched
    cover_determined path is = is.prefix ∙ cover_prefix (length path) is.has

    pub is_cover : IsCover image touched (commit_cover image touched)
    is_cover = record { prefix = sym (cover_prefix (length (commit_cover image touched)) cover_has); has = cover_has }

    -- where its word stands
    pub cover_address : address image (commit_cover image touched) ≡ place_on image (trail_of (end_path touched 0) (length (commit_cover image touched)))
    cover_address =
        let n : ℕ = length (commit_cover image touched) in
        ap (address image) (sym (cover_prefix n cover_has))
        ∙ address-on image (end_path touched 0) n (cover_has.alike.long 0 (some-ends touched shape)) (nodes_of image (end_path touched 0) n cover_has.exists)

    -- how many blocks are copied
    pub count_is : NoneBegins (all_paths touched) → (n : ℕ) → CoverHas image touched n → copies_at (job_of touched) n ≡ copied_count image touched
    count_is apart n has = sym (copied-need touched shape apart n has.alike) ∙ ap (λ k. length (prefixes_of k [] (all_paths touched))) (cover_length n has)
