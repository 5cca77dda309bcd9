-- Lists of runs: their leaves and the ways to these, the paths that report, and the words over which they are laid.
use Rattle.std.proofs.Common.{◌≡◌, ◌⊎◌, ℕ, zero, suc, ◌+◌, ◌-◌, ◌*◌, ◌/◌, ◌%◌, ◌<◌, ◌≤◌, List, [], ◌∷◌, ◌++◌, length, drop, take, min, Bool, true, false, Some, refl, sym, ◌∙◌, ap, subst, add-one, arith, inl, inr}
use Rattle.std.specs.List.{slice_get}
use Rattle.std.specs.Prelude.{nat_lt, bytes_eq, slice_index, slice_index_or, ◌==◌, if◌then◌else◌}
use Rattle.std.proofs.lemmas.Bool.{cases_lt, lt-ltb, ltb-true}
use Rattle.std.proofs.lemmas.List.{get_or-take, length-take, take_all}
use Rattle.std.proofs.Math.ListN.{get_or-append}
use Rattle.std.proofs.Math.Seq.{drop-cons, get_or-append_seam}
use Rattle.std.proofs.lemmas.Slice.Eq.{bytes_eq-Decides}
use Rattle.bp_layout.specs.Members.{Has}
use Rattle.bp_layout.specs.WordPaths.{WordPath}
use Rattle.bp_cow.specs.declared.touched.Run.{Run}
use Rattle.bp_cow.specs.declared.touched.Touched.{Touched}
use Rattle.bp_cow.specs.declared.touched.TreeSize.{TreeSize}
use Rattle.bp_cow.specs.Cover.{end_path_of, ends_of}
use Rattle.bp_cow.specs.Job.{ways}
use Rattle.bp_cow.specs.Leaves.{IsLeaf}
use Rattle.bp_cow.specs.Touched.{IsRun, IsTouched, above, job_of, laid_word, leaves_of, live_of, path_of, run_end, run_leaves, run_path, run_way, run_word, way_of, word_live, word_paths}
use Rattle.bp_cow.proofs.RunLaws.{length-run_way}

pub leaves-few : (runs : List Run) → ((run : Run) → Has runs run → IsRun run) → leaves_of runs ≤ 257 * length runs
leaves-few [] are = omega arith
leaves-few (run ∷ runs) are =
    let is : IsRun run = are run (inl refl) in
    omega (arith, is.few, is.some, leaves-few runs (λ r has. are r (inr has)))

-- ---- one run after the other

pub item-here : {A : Type 0} (runs : List A) (k : ℕ) (run : A) → k < length runs → run ≡ slice_index_or runs k run → drop k runs ≡ run ∷ drop (k + 1) runs
item-here runs k run low is = let next : k + 1 ≡ suc k = omega arith in drop-cons runs k run low ∙ ap (λ r. r ∷ drop (suc k) runs) (sym is) ∙ ap (λ n. run ∷ drop n runs) (sym next)

pub has-item : {A : Type 0} (runs : List A) (k : ℕ) (run : A) → k < length runs → run ≡ slice_index_or runs k run → Has runs run
has-item [] k run low is = absurd (omega (arith, low))
has-item (first ∷ runs) zero run low is = inl (sym is)
has-item (first ∷ runs) (suc k) run low is = inr (has-item runs k run (omega (arith, low)) is)

-- how many ways there are to the leaves of the first runs
pub leaves-take : (runs : List Run) (k : ℕ) (run : Run) → k < length runs → run ≡ slice_index_or runs k run → leaves_of (take (k + 1) runs) ≡ leaves_of (take k runs) + run_leaves run
leaves-take runs k run low is = rw (add-one k) (next runs k low is)
  where
    next : (rs : List Run) (n : ℕ) → n < length rs → run ≡ slice_index_or rs n run → leaves_of (take (suc n) rs) ≡ leaves_of (take n rs) + run_leaves run
    next [] n low is = absurd (omega (arith, low))
    next (first ∷ rs) zero low is = let same : run_leaves run ≡ run_leaves first = ap (λ (r : Run). run_leaves r) is in omega (arith, same)
    next (first ∷ rs) (suc n) low is = omega (arith, next rs n (omega (arith, low)) is)

pub leaves-part : (runs : List Run) (k : ℕ) → leaves_of (take k runs) ≤ leaves_of runs
leaves-part runs zero = omega arith
leaves-part [] (suc k) = omega arith
leaves-part (run ∷ runs) (suc k) = omega (arith, leaves-part runs k)

-- each run has a leaf
pub leaves-some : (runs : List Run) (k : ℕ) → k ≤ length runs → k ≤ leaves_of (take k runs)
leaves-some runs zero low = omega arith
leaves-some [] (suc k) low = absurd (omega (arith, low))
leaves-some (run ∷ runs) (suc k) low = omega (arith, leaves-some runs k (omega (arith, low)))

pub some-runs : (runs : List Run) (i : ℕ) → i < leaves_of runs → 0 < length runs
some-runs [] i low = absurd (omega (arith, low))
some-runs (run ∷ runs) i low = omega arith

-- so the way to a leaf is no way to one after the run with the number of the way
pub run-most : (runs : List Run) (i most : ℕ) → i < leaves_of runs → most ≡ min i (length runs - 1) → i < leaves_of (take (most + 1) runs)
run-most runs i most low is = at (cases_lt i (length runs - 1))
  where
    at : (i < length runs - 1) ⊎ (length runs - 1 ≤ i) → i < leaves_of (take (most + 1) runs)
    at (inl here) = omega (arith, is, here, leaves-some runs (most + 1) (omega (arith, is, here)))
    at (inr past) =
        let whole = ap leaves_of (take_all (most + 1) runs (omega (arith, is, past, some-runs runs i low))) in
        omega (arith, low, whole)

-- the ends of the first runs, and that of one run more
pub ends-next : (runs : List Run) (ends : List ℕ) (end count : ℕ) → length ends ≡ count → ((k : ℕ) → k < count → slice_index ends k ≡ leaves_of (take (k + 1) runs)) → end ≡ leaves_of (take (count + 1) runs) →
    (k : ℕ) → k < count + 1 → slice_index (ends ++ end ∷ []) k ≡ leaves_of (take (k + 1) runs)
ends-next runs ends end count each right last k low = at (cases_lt k count)
  where
    at : (k < count) ⊎ (count ≤ k) → slice_index (ends ++ end ∷ []) k ≡ leaves_of (take (k + 1) runs)
    at (inl here) = get_or-append ends (end ∷ []) 0 k (omega (arith, here, each)) ∙ right k here
    at (inr past) =
        let beyond : k ≡ length ends = omega (arith, past, low, each) in
        let newest : count ≡ k = omega (arith, past, low) in
        ap (λ n. slice_index (ends ++ end ∷ []) n) beyond ∙ get_or-append_seam ends end [] 0 ∙ last ∙ ap (λ n. leaves_of (take (n + 1) runs)) newest

-- what holds of one run alone holds of each
pub one_run : {runs : List Run} → (P : Run → Type 0) (run : Run) → P run → runs ≡ run ∷ [] → (r : Run) → Has runs r → P r
one_run P run is one r has = go (subst (λ (rs : List Run). Has rs r) one has)
  where
    go : (run ≡ r) ⊎ ⊥ → P r
    go (inl e) = subst P e is
    go (inr none) = absurd none

pub has-first : (runs : List Run) (run : Run) → Some run ≡ slice_get runs 0 → Has runs run
has-first [] run is = absurd (cc)
has-first (first ∷ runs) run is = inl (cc)

pub one-run : (runs : List Run) (run : Run) → length runs ≡ 1 → Has runs run → runs ≡ run ∷ []
one-run [] run one has = absurd has
one-run (first ∷ []) run one (inl e) = ap (λ (r : Run). r ∷ []) e
one-run (first ∷ []) run one (inr none) = absurd none
one-run (first ∷ second ∷ runs) run one has = absurd (omega (arith, one))

-- ---- the ways

pub way-leaf : (run : Run) (runs : List Run) (paths : List WordPath) (i : ℕ) → i < run_leaves run → way_of (run ∷ runs) paths i ≡ run_way run i
way-leaf run runs paths i low = let test : nat_lt i (run_leaves run) ≡ true = lt-ltb i (run_leaves run) low in rw test refl

not-less : (a b : ℕ) → b ≤ a → nat_lt a b ≡ false
not-less a b past = go (nat_lt a b) refl
  where
    go : (x : Bool) → nat_lt a b ≡ x → nat_lt a b ≡ false
    go false e = e
    go true e = absurd (omega (arith, past, ltb-true a b e))

pub way-after : (run : Run) (runs : List Run) (paths : List WordPath) (i : ℕ) → run_leaves run ≤ i → way_of (run ∷ runs) paths i ≡ way_of runs paths (i - run_leaves run)
way-after run runs paths i past = let test : nat_lt i (run_leaves run) ≡ false = not-less i (run_leaves run) past in rw test refl

pub way-word : (runs : List Run) (paths : List WordPath) (i : ℕ) → leaves_of runs ≤ i → way_of runs paths i ≡ above (path_of paths (i - leaves_of runs))
way-word [] paths i past = let none : i - 0 ≡ i = omega arith in rw none refl
way-word (run ∷ runs) paths i past =
    let rest : i - run_leaves run - leaves_of runs ≡ i - (run_leaves run + leaves_of runs) = omega arith in
    way-after run runs paths i (omega (arith, past)) ∙ way-word runs paths (i - run_leaves run) (omega (arith, past)) ∙ ap (λ k. above (path_of paths k)) rest

-- the words that count on the way to a word
pub live-word : (runs : List Run) (trees : List TreeSize) (paths : List WordPath) (i depth : ℕ) → leaves_of runs ≤ i → live_of runs trees paths i depth ≡ word_live trees (above (path_of paths (i - leaves_of runs))) depth
live-word [] trees paths i depth past = let none : i - 0 ≡ i = omega arith in rw none refl
live-word (run ∷ runs) trees paths i depth past =
    let test : nat_lt i (run_leaves run) ≡ false = not-less i (run_leaves run) (omega (arith, past)) in
    let rest : i - run_leaves run - leaves_of runs ≡ i - (run_leaves run + leaves_of runs) = omega arith in
    rw test (live-word runs trees paths (i - run_leaves run) depth (omega (arith, past)) ∙ ap (λ k. word_live trees (above (path_of paths k)) depth) rest)

-- ---- the leaves, by their ways

pub leaf-here : (all : List Run) (run : Run) (runs : List Run) (paths : List WordPath) (i : ℕ) → i < run_leaves run → IsLeaf all (run ∷ runs) paths i run i
leaf-here all run runs paths i low = record {
  has = inl refl;
  low = low;
  here = omega (arith, low);
  way = way-leaf run runs paths i low;
  patch = λ slot old. let test : nat_lt i (run_leaves run) ≡ true = lt-ltb i (run_leaves run) low in rw test refl;
  live = λ trees depth. let test : nat_lt i (run_leaves run) ≡ true = lt-ltb i (run_leaves run) low in rw test refl;
}

pub leaf-after : (all : List Run) (first : Run) (runs : List Run) (paths : List WordPath) (i : ℕ) (run : Run) (leaf : ℕ) → run_leaves first ≤ i → IsLeaf all runs paths (i - run_leaves first) run leaf →
    IsLeaf all (first ∷ runs) paths i run leaf
leaf-after all first runs paths i run leaf past is = record {
  has = inr is.has;
  low = is.low;
  here = omega (arith, is.here, past);
  way = way-after first runs paths i past ∙ is.way;
  patch = λ slot old. let test : nat_lt i (run_leaves first) ≡ false = not-less i (run_leaves first) past in rw test (is.patch slot old);
  live = λ trees depth. let test : nat_lt i (run_leaves first) ≡ false = not-less i (run_leaves first) past in rw test (is.live trees depth);
}

-- of one run, given how many ways there are to the leaves of the runs before it
pub leaf-at : (all runs : List Run) (paths : List WordPath) (k i first : ℕ) (run : Run) → k < length runs → run ≡ slice_index_or runs k run → first ≡ leaves_of (take k runs) → first ≤ i → i < first + run_leaves run →
    IsLeaf all runs paths i run (i - first)
leaf-at all [] paths k i first run low is before past here = absurd (omega (arith, low))
leaf-at all (head ∷ runs) paths zero i first run low is before past here =
    let same : run_leaves run ≡ run_leaves head = ap (λ (r : Run). run_leaves r) is in
    let whole : i ≡ i - first = omega (arith, before) in
    subst (λ n. IsLeaf all (head ∷ runs) paths i run n) whole
    (subst (λ (r : Run). IsLeaf all (head ∷ runs) paths i r i) (sym is) (leaf-here all head runs paths i (omega (arith, here, before, same))))
leaf-at all (head ∷ runs) paths (suc k) i first run low is before past here =
    let rest : i - run_leaves head - leaves_of (take k runs) ≡ i - first = omega (arith, before) in
    leaf-after all head runs paths i run (i - first) (omega (arith, before, past))
    (subst (λ n. IsLeaf all runs paths (i - run_leaves head) run n) rest
    (leaf-at all runs paths k (i - run_leaves head) (leaves_of (take k runs)) run (omega (arith, low)) is refl (omega (arith, before, past)) (omega (arith, before, past, here))))

-- each way that is none to a word leads to a leaf
pub record HasLeaf (all runs : List Run) (paths : List WordPath) (i : ℕ) : Type 0 where
  pub run : Run
  pub leaf : ℕ
  pub is : IsLeaf all runs paths i run leaf

pub leaf-of : (all runs : List Run) (paths : List WordPath) (i : ℕ) → i < leaves_of runs → HasLeaf all runs paths i
leaf-of all [] paths i low = absurd (omega (arith, low))
leaf-of all (first ∷ runs) paths i low = go (cases_lt i (run_leaves first)) (λ past. leaf-of all runs paths (i - run_leaves first) (omega (arith, low, past)))
  where
    go : (i < run_leaves first) ⊎ (run_leaves first ≤ i) → (run_leaves first ≤ i → HasLeaf all runs paths (i - run_leaves first)) → HasLeaf all (first ∷ runs) paths i
    go (inl here) rest = record { run = first; leaf = i; is = leaf-here all first runs paths i here }
    go (inr past) rest = let beyond = rest past in record { run = beyond.run; leaf = beyond.leaf; is = leaf-after all first runs paths i beyond.run beyond.leaf past beyond.is }

-- to each leaf there is a way
pub record HasWay (all runs : List Run) (paths : List WordPath) (run : Run) (leaf : ℕ) : Type 0 where
  pub which : ℕ
  pub is : IsLeaf all runs paths which run leaf

pub way-to : (all runs : List Run) (paths : List WordPath) (run : Run) (leaf : ℕ) → Has runs run → leaf < run_leaves run → HasWay all runs paths run leaf
way-to all [] paths run leaf has low = absurd has
way-to all (first ∷ runs) paths run leaf (inl e) low = record {
  which = leaf;
  is = subst (λ (r : Run). IsLeaf all (first ∷ runs) paths leaf r leaf) e (leaf-here all first runs paths leaf (subst (λ (r : Run). leaf < run_leaves r) (sym e) low));
}
way-to all (first ∷ runs) paths run leaf (inr more) low =
    let rest = way-to all runs paths run leaf more low in
    let back : run_leaves first + rest.which - run_leaves first ≡ rest.which = omega arith in
    record {
      which = run_leaves first + rest.which;
      is = leaf-after all first runs paths (run_leaves first + rest.which) run leaf (omega arith) (subst (λ n. IsLeaf all runs paths n run leaf) (sym back) rest.is);
    }

-- by cases: a leaf of a run, or a word
pub ways-by : (touched : Touched) (P : WordPath → Type 0) → ((run : Run) (leaf : ℕ) → Has touched.runs.now run → leaf < run_leaves run → P (run_way run leaf)) →
    ((i : ℕ) → i < length touched.words.now → P (above (path_of (word_paths touched) i))) → (i : ℕ) → i < ways (job_of touched) → P ((job_of touched).way i)
ways-by touched P of_leaf of_word i here = go (cases_lt i (leaves_of touched.runs.now))
  where
    go : (i < leaves_of touched.runs.now) ⊎ (leaves_of touched.runs.now ≤ i) → P (way_of touched.runs.now (word_paths touched) i)
    go (inl low) = let at = leaf-of touched.runs.now touched.runs.now (word_paths touched) i low in subst P (sym at.is.way) (of_leaf at.run at.leaf at.is.has at.is.low)
    go (inr past) = subst P (sym (way-word touched.runs.now (word_paths touched) i past)) (of_word (i - leaves_of touched.runs.now) (omega (arith, here, past)))

pub length-above : (path : WordPath) → length (above path) ≡ length path - 1
length-above path = length-take (length path - 1) path ∙ omega arith

pub slot-above : (path : WordPath) (d : ℕ) → d < length (above path) → slice_index (above path) d ≡ slice_index path d
slot-above path d low = get_or-take (length path - 1) path d 0 (omega (arith, low, length-above path))

-- a way has at most 11 slots
pub way-short : (touched : Touched) → IsTouched touched → (i : ℕ) → i < ways (job_of touched) → length ((job_of touched).way i) ≤ 11
way-short touched is = ways-by touched (λ p. length p ≤ 11)
    (λ run leaf has low. let short = (is.runs run has).short in omega (arith, short, length-run_way run leaf))
    (λ i here. omega (arith, is.short i here, length-above (path_of (word_paths touched) i)))

-- ---- the paths that report

pub record HasEnd (runs : List Run) (paths : List WordPath) (path : WordPath) : Type 0 where
  pub which : ℕ
  pub here : (count : ℕ) → which < ends_of runs count
  pub is : end_path_of runs paths which ≡ path

end-after : (first : Run) (runs : List Run) (paths : List WordPath) (path : WordPath) → HasEnd runs paths path → HasEnd (first ∷ runs) paths path
end-after first runs paths path end = record { which = suc (suc end.which); here = λ count. omega (arith, end.here count); is = end.is }

pub end-first : (runs : List Run) (paths : List WordPath) (run : Run) → Has runs run → HasEnd runs paths (run_path run (run.offset / 8))
end-first [] paths run has = absurd has
end-first (first ∷ runs) paths run (inl e) = record { which = 0; here = λ count. omega arith; is = ap (λ (r : Run). run_path r (r.offset / 8)) e }
end-first (first ∷ runs) paths run (inr more) = end-after first runs paths (run_path run (run.offset / 8)) (end-first runs paths run more)

pub end-last : (runs : List Run) (paths : List WordPath) (run : Run) → Has runs run → HasEnd runs paths (run_path run ((run_end run - 1) / 8))
end-last [] paths run has = absurd has
end-last (first ∷ runs) paths run (inl e) = record { which = 1; here = λ count. omega arith; is = ap (λ (r : Run). run_path r ((run_end r - 1) / 8)) e }
end-last (first ∷ runs) paths run (inr more) = end-after first runs paths (run_path run ((run_end run - 1) / 8)) (end-last runs paths run more)

-- the paths of the words come after those of the runs
pub ends-count : (runs : List Run) (count : ℕ) → ends_of runs count ≡ 2 * length runs + count
ends-count [] count = omega arith
ends-count (run ∷ runs) count = omega (arith, ends-count runs count)

pub end-of-word : (runs : List Run) (paths : List WordPath) (i : ℕ) → end_path_of runs paths (2 * length runs + i) ≡ path_of paths i
end-of-word [] paths i = let none : 0 + i ≡ i = omega arith in ap (path_of paths) none
end-of-word (run ∷ runs) paths i =
    let next : 2 * suc (length runs) + i ≡ suc (suc (2 * length runs + i)) = omega arith in
    ap (end_path_of (run ∷ runs) paths) next ∙ end-of-word runs paths i

pub end-past : (runs : List Run) (paths : List WordPath) (i : ℕ) → 2 * length runs ≤ i → end_path_of runs paths i ≡ path_of paths (i - 2 * length runs)
end-past runs paths i past =
    let back : 2 * length runs + (i - 2 * length runs) ≡ i = omega (arith, past) in
    ap (end_path_of runs paths) (sym back) ∙ end-of-word runs paths (i - 2 * length runs)

-- two paths of each run come before them
pub end-at : (runs : List Run) (paths : List WordPath) (i : ℕ) (run : Run) → i < 2 * length runs → run ≡ slice_index_or runs (i / 2) run → end_path_of runs paths i ≡ run_path run (if i % 2 == 0 then run.offset / 8 else (run_end run - 1) / 8)
end-at [] paths i run low is = absurd (omega (arith, low))
end-at (first ∷ runs) paths zero run low is = ap (λ (r : Run). run_path r (r.offset / 8)) (sym is)
end-at (first ∷ runs) paths (suc zero) run low is = ap (λ (r : Run). run_path r ((run_end r - 1) / 8)) (sym is)
end-at (first ∷ runs) paths (suc (suc i)) run low is =
    let half : suc (suc i) / 2 ≡ suc (i / 2) = omega arith in
    let parity : suc (suc i) % 2 ≡ i % 2 = omega arith in
    end-at runs paths i run (omega (arith, low)) (subst (λ n. run ≡ slice_index_or (first ∷ runs) n run) half is)
    ∙ ap (λ n. run_path run (if n == 0 then run.offset / 8 else (run_end run - 1) / 8)) (sym parity)

-- by cases: the first or the last word of a run, or a word
pub ends-by : (runs : List Run) (paths : List WordPath) (count : ℕ) (P : WordPath → Type 0) → ((run : Run) → Has runs run → P (run_path run (run.offset / 8))) → ((run : Run) → Has runs run → P (run_path run ((run_end run - 1) / 8))) →
    ((i : ℕ) → i < count → P (path_of paths i)) → (i : ℕ) → i < ends_of runs count → P (end_path_of runs paths i)
ends-by [] paths count P of_first of_last of_word i here = of_word i here
ends-by (run ∷ runs) paths count P of_first of_last of_word zero here = of_first run (inl refl)
ends-by (run ∷ runs) paths count P of_first of_last of_word (suc zero) here = of_last run (inl refl)
ends-by (run ∷ runs) paths count P of_first of_last of_word (suc (suc i)) here =
    ends-by runs paths count P (λ r has. of_first r (inr has)) (λ r has. of_last r (inr has)) of_word i (omega (arith, here))

-- ---- the words

-- a run of the tree, and one of another tree
pub laid-under : (run : Run) (runs : List Run) (root : WordPath) (k old : ℕ) → bytes_eq run.root.items root ≡ true → laid_word (run ∷ runs) root k old ≡ laid_word runs root k (run_word run k old)
laid-under run runs root k old test = rw test refl

pub laid-beside : (run : Run) (runs : List Run) (root : WordPath) (k old : ℕ) → bytes_eq run.root.items root ≡ false → laid_word (run ∷ runs) root k old ≡ laid_word runs root k old
laid-beside run runs root k old test = rw test refl

-- a run that leaves the word as it was
pub laid-past : (run : Run) (runs : List Run) (root : WordPath) (k old : ℕ) → run_word run k old ≡ old → laid_word (run ∷ runs) root k old ≡ laid_word runs root k old
laid-past run runs root k old same = go (bytes_eq run.root.items root) refl
  where
    go : (x : Bool) → bytes_eq run.root.items root ≡ x → laid_word (run ∷ runs) root k old ≡ laid_word runs root k old
    go false e = laid-beside run runs root k old e
    go true e = laid-under run runs root k old e ∙ ap (laid_word runs root k) same

-- one run alone
pub laid-one : (run : Run) (k old : ℕ) → laid_word (run ∷ []) run.root.items k old ≡ run_word run k old
laid-one run k old = laid-under run [] run.root.items k old ((bytes_eq-Decides run.root.items run.root.items).1 refl)

-- a word to which no run of the tree gives another value
pub laid-kept : (runs : List Run) (root : WordPath) (k old : ℕ) → ((run : Run) → Has runs run → run.root.items ≡ root → run_word run k old ≡ old) → laid_word runs root k old ≡ old
laid-kept [] root k old kept = refl
laid-kept (run ∷ runs) root k old kept = go (bytes_eq run.root.items root) refl (laid-kept runs root k old (λ r has. kept r (inr has)))
  where
    go : (x : Bool) → bytes_eq run.root.items root ≡ x → laid_word runs root k old ≡ old → laid_word (run ∷ runs) root k old ≡ old
    go false e rest = rw e rest
    go true e rest = rw e (ap (laid_word runs root k) (kept run (inl refl) ((bytes_eq-Decides run.root.items root).0 e)) ∙ rest)

-- a word that one of the runs gives again keeps nothing of what it had
pub laid-covered : (runs : List Run) (run : Run) (k one other : ℕ) → Has runs run → ((old new : ℕ) → run_word run k old ≡ run_word run k new) → laid_word runs run.root.items k one ≡ laid_word runs run.root.items k other
laid-covered [] run k one other has same = absurd has
laid-covered (first ∷ runs) run k one other (inl e) same =
    let here : bytes_eq first.root.items run.root.items ≡ true = (bytes_eq-Decides first.root.items run.root.items).1 (ap (λ (r : Run). r.root.items) e) in
    let word : run_word first k one ≡ run_word first k other = subst (λ (r : Run). run_word r k one ≡ run_word r k other) (sym e) (same one other) in
    laid-under first runs run.root.items k one here ∙ ap (laid_word runs run.root.items k) word ∙ sym (laid-under first runs run.root.items k other here)
laid-covered (first ∷ runs) run k one other (inr more) same = laid-covered runs run k _ _ more same
