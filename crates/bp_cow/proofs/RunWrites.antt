-- What a commit of a run, alone or with the size of its file beside it, makes of an image: the file has the new bytes and that size, and nothing else has changed.
use Rattle.std.proofs.Common.{◌≡◌, ◌⊎◌, ℕ, zero, suc, ◌+◌, ◌-◌, ◌*◌, ◌/◌, ◌%◌, ◌^◌, ◌<◌, ◌≤◌, List, [], ◌∷◌, ◌++◌, length, max, Bool, true, false, ◌&&◌, nat_le, if◌then◌else◌, slice_index, refl, sym, ◌∙◌, ap, subst, arith, inl, inr, lt_of_lt_of_le}
use Rattle.std.proofs.lemmas.Bool.{cases_eq, cases_lt, le-ltb, lt-leb}
use Rattle.bp_layout.specs.Inode.{kind_of, root_of, size_of}
use Rattle.bp_layout.specs.Members.{Has}
use Rattle.bp_layout.specs.Reached.{IsReached}
use Rattle.bp_layout.specs.Reached.IsReached.{inode_file}
use Rattle.bp_layout.specs.Tree.{byte, content_word, IsFull, IsLivePointer}
use Rattle.bp_layout.specs.WellFormed.{IsWellFormed}
use Rattle.bp_layout.specs.WordPaths.{digits, inode_path}
use Rattle.bp_layout.specs.Words.{Image, word, byte_of, height_of}
use Rattle.bp_layout.proofs.TreeLaws.{live_above, live_content}
use Rattle.bp_changes.specs.Commits.{Commits, CommitsOnly, changed_word}
use Rattle.bp_changes.specs.Effects.{ChangesFile}
use Rattle.bp_changes.proofs.Committed.{commit_writes}
use Rattle.bp_changes.specs.Forest.{along, root_trail, tree_trail, IsTreePointer}
use Rattle.bp_changes.specs.Trail.{Trail, trail_of, word_on}
use Rattle.bp_changes.proofs.ForestLaws.{HasFewDigits, same_along, same_trail, short, word-tree}
use Rattle.bp_read.proofs.Digits.{length-digits}
use Rattle.bp_cow.specs.Counting.{IsTreeWord}
use Rattle.bp_cow.specs.declared.touched.Run.{Run}
use Rattle.bp_cow.specs.declared.touched.Touched.{Touched}
use Rattle.bp_cow.specs.CanCommit.{CanCommit}
use Rattle.bp_cow.specs.Committed.{IsCommitted, after_commit, changes_of}
use Rattle.bp_cow.specs.Touched.{job_of, laid_word, run_byte, run_end, run_path, run_word, touched_trail}
use Rattle.bp_cow.proofs.CommitLaws.{committed_commits, size_after}
use Rattle.bp_cow.proofs.RunPrefixes.{prefix-digits}
use Rattle.bp_cow.proofs.RunLaws.{byte-run_word, length-run_path}
use Rattle.bp_cow.proofs.RunsLaws.{laid-one}
use Rattle.bp_cow.proofs.Values.{after-others, after-run, after-word}

-- the whole trail of a path of digits
pub digits_trail : (root : List ℕ) (count k : ℕ) → trail_of (root ++ digits count k) (length root + count) ≡ along (trail_of root (length root)) count k
digits_trail root count k =
    let none : count - count ≡ 0 = omega arith in
    let whole : k / 512 ^ 0 ≡ k = omega arith in
    prefix-digits root count k count (omega arith) ∙ ap (λ c. along (trail_of root (length root)) count (k / 512 ^ c)) none ∙ ap (along (trail_of root (length root)) count) whole

-- the path of the root word of a file leads to it
pub root_path_trail : (height n : ℕ) (path : List ℕ) → path ≡ inode_path height (suc n) 1 → trail_of path (length path) ≡ root_trail height (suc n)
root_path_trail height n path is =
    let size : length (inode_path height (suc n) 1) ≡ 0 + suc height = length-digits (suc height) (8 * suc n + 1) ∙ omega arith in
    ap (λ (p : List ℕ). trail_of p (length p)) is ∙ ap (trail_of (inode_path height (suc n) 1)) size ∙ digits_trail [] (suc height) (8 * suc n + 1)

-- The run lies in the tree of a file, under a bound that only this file has above its size. The touched words beside it are that of the file's size, or there is none.
pub record IsFileRun (old : Image) (bound : ℕ → ℕ) (touched : Touched) (run : Run) (n : ℕ) : Type 0 where
  pub one : touched.runs.now ≡ run ∷ []
  pub words : (i : ℕ) → i < length touched.words.now → touched_trail touched i ≡ tree_trail (height_of (word old 2)) 0 (suc (height_of (root_of old 0))) (8 * suc n + 2)
  pub reached : IsReached old (suc n)
  pub is_file : kind_of old (suc n) ≡ 1
  pub root : run.root.items ≡ inode_path (height_of (root_of old 0)) (suc n) 1
  pub height : run.height ≡ height_of (root_of old (suc n))
  pub some : 0 < length run.bytes.now
  pub below : run_end run ≤ bound (suc n)
  pub small : (i : ℕ) → slice_index run.bytes.now i < 256
  pub others : (t : ℕ) → IsReached old t → (t ≡ suc n → ⊥) → bound t ≡ size_of old t

long_along : (base : Trail) (depth index : ℕ) → length (along base depth index) ≡ depth + length base
long_along base zero index = omega arith
long_along base (suc depth) index = omega (arith, long_along base depth (index / 512))

module _ {in_snapshot : ℕ → Bool} (old new : Image) (bound : ℕ → ℕ) (wf : IsWellFormed old) (touched : Touched) (free : ℕ → Bool) (can : CanCommit old bound in_snapshot touched free) (run : Run) (n : ℕ) (is : IsFileRun old bound touched run n)
    (turned : Trail → Type 0) (stage : IsCommitted old new (IsTreePointer old bound) (IsTreeWord old bound) turned (after_commit old (job_of touched))) where
  -- where the size is touched it is the one that is given
  pub sized_size : (i : ℕ) → i < length touched.words.now → size_of new (suc n) ≡ (job_of touched).value i
  sized_size i here =
      size_after old new bound can.forest turned (job_of touched) stage n is.reached ∙ ap (after_commit old (job_of touched)) (sym (is.words i here)) ∙ after-word old bound touched free wf can i here

  run_trail : (k : ℕ) → trail_of (run_path run k) (length (run_path run k)) ≡ tree_trail (height_of (word old 2)) (suc n) (suc (height_of (root_of old (suc n)))) k
  run_trail k =
      let size : length (run_path run k) ≡ length run.root.items + suc run.height = omega (arith, length-run_path run k) in
      ap (trail_of (run_path run k)) size ∙ digits_trail run.root.items (suc run.height) k
      ∙ ap (λ (base : Trail). along base (suc run.height) k) (root_path_trail (height_of (root_of old 0)) n run.root.items is.root)
      ∙ ap (λ h. along (root_trail (height_of (word old 2)) (suc n)) (suc h) k) is.height

  leaf : (t k : ℕ) → 8 * k < bound t → IsLivePointer (root_of old t) (bound t) (height_of (root_of old t)) (k / 512)
  leaf t k low = live_above _ _ _ _ (live_content (root_of old t) (bound t) k low)

  few_digits : (t k : ℕ) → IsReached old t → 8 * k < bound t → HasFewDigits (suc (height_of (root_of old t))) k
  few_digits t k also low = short old bound can.forest t (height_of (root_of old t)) (k / 512) also (leaf t k low)

  size_low : 8 * (8 * suc n + 2) < bound 0
  size_low = let inside : 64 * suc n + 64 ≤ bound 0 = can.forest.in_file n is.reached in omega (arith, inside)

  -- another word of the inode file is on another trail than the size
  in_inodes : (k : ℕ) → 8 * k < bound 0 → tree_trail (height_of (word old 2)) 0 (suc (height_of (root_of old 0))) k ≡ tree_trail (height_of (word old 2)) 0 (suc (height_of (root_of old 0))) (8 * suc n + 2) → k ≡ 8 * suc n + 2
  in_inodes k low same =
      (same_along [] [] (suc (height_of (root_of old 0))) k (8 * suc n + 2) (few_digits 0 k inode_file low) (few_digits 0 (8 * suc n + 2) inode_file size_low) same).1

  -- a word of the inode file is on another trail than those of an inode's tree
  apart_trees : (m k l : ℕ) → tree_trail (height_of (word old 2)) 0 (suc (height_of (root_of old 0))) k ≡ tree_trail (height_of (word old 2)) (suc m) (suc (height_of (root_of old (suc m)))) l → ⊥
  apart_trees m k l same =
      omega (
        arith,
        ap (λ (x : Trail). length x) same,
        long_along [] (suc (height_of (root_of old 0))) k,
        long_along (root_trail (height_of (word old 2)) (suc m)) (suc (height_of (root_of old (suc m)))) l,
        long_along [] (suc (height_of (word old 2))) (8 * suc m + 1),
      )

  -- a word on another trail than those that are touched stays
  kept_apart : (t k : ℕ) →
      (0 < length touched.words.now → tree_trail (height_of (word old 2)) t (suc (height_of (root_of old t))) k ≡ tree_trail (height_of (word old 2)) 0 (suc (height_of (root_of old 0))) (8 * suc n + 2) → ⊥) →
      ((l : ℕ) → run.offset / 8 ≤ l → l ≤ (run_end run - 1) / 8 → tree_trail (height_of (word old 2)) t (suc (height_of (root_of old t))) k ≡ tree_trail (height_of (word old 2)) (suc n) (suc (height_of (root_of old (suc n)))) l → ⊥) →
      after_commit old (job_of touched) (tree_trail (height_of (word old 2)) t (suc (height_of (root_of old t))) k) ≡ content_word old (root_of old t) k
  kept_apart t k no_size other =
      after-others old bound touched free wf can (k % 512) (along (root_trail (height_of (word old 2)) t) (height_of (root_of old t)) (k / 512)) (omega arith)
      (λ i here same. no_size (omega (arith, here)) (same ∙ is.words i here))
      (λ r l has low high same. apart r l has low high same)
      ∙ word-tree old t (suc (height_of (root_of old t))) k
    where
      one_run : (r : Run) → Has (run ∷ []) r → run ≡ r
      one_run r (inl e) = e
      one_run r (inr none) = absurd none

      apart : (r : Run) (l : ℕ) → Has touched.runs.now r → r.offset / 8 ≤ l → l ≤ (run_end r - 1) / 8 →
          (k % 512) ∷ along (root_trail (height_of (word old 2)) t) (height_of (root_of old t)) (k / 512) ≡ trail_of (run_path r l) (length (run_path r l)) → ⊥
      apart r l has low high same =
          let here : run ≡ r = one_run r (subst (λ runs. Has runs r) is.one has) in
          other l (subst (λ (x : Run). x.offset / 8 ≤ l) (sym here) low) (subst (λ (x : Run). l ≤ (run_end x - 1) / 8) (sym here) high)
          (same ∙ ap (λ (x : Run). trail_of (run_path x l) (length (run_path x l))) (sym here) ∙ run_trail l)

  -- in the file's tree the number reports
  same_number : (m k l : ℕ) → IsReached old (suc m) → 8 * k < bound (suc m) → l ≤ (run_end run - 1) / 8 →
      tree_trail (height_of (word old 2)) (suc m) (suc (height_of (root_of old (suc m)))) k ≡ tree_trail (height_of (word old 2)) (suc n) (suc (height_of (root_of old (suc n)))) l → (suc m ≡ suc n) × (k ≡ l)
  same_number m k l also low last same =
      let all = same_trail old bound can.forest (suc m) (suc (height_of (root_of old (suc m)))) k (suc n) (suc (height_of (root_of old (suc n)))) l also is.reached
      (few_digits (suc m) k also low) (few_digits (suc n) l is.reached (omega (arith, last, is.below, is.some)))
      (omega arith) (omega arith) (λ e _ _. absurd (omega (arith, e))) (λ e _ _. absurd (omega (arith, e))) same in
      (all.0, all.2)

  same_elsewhere : (t k : ℕ) → IsReached old t → 8 * k < bound t → (t ≡ suc n → ⊥) → ((t ≡ 0) → (k ≡ 8 * suc n + 2) → ⊥) →
      after_commit old (job_of touched) (tree_trail (height_of (word old 2)) t (suc (height_of (root_of old t))) k) ≡ content_word old (root_of old t) k
  same_elsewhere zero k also low other no_size = kept_apart 0 k (λ _ same. no_size refl (in_inodes k low same)) (λ l first last same. apart_trees n k l same)
  same_elsewhere (suc m) k also low other no_size =
      kept_apart (suc m) k (λ _ same. apart_trees m (8 * suc n + 2) k (sym same)) (λ l first last same. other (same_number m k l also low last same).0)

  sizes_same : (t : ℕ) → IsReached old t → (t ≡ suc n → ⊥) → size_of new t ≡ size_of old t
  sizes_same zero also other = stage.superblock 3 (omega arith) (λ e. omega (arith, e))
  sizes_same (suc m) also other =
      let inside : 64 * suc m + 64 ≤ bound 0 = can.forest.in_file m also in
      size_after old new bound can.forest turned (job_of touched) stage m also
      ∙ same_elsewhere 0 (8 * suc m + 2) inode_file (omega (arith, inside)) (λ e. omega (arith, e)) (λ _ e. other (omega (arith, e)))

  -- and where it is not, the one that it was
  plain_size : length touched.words.now ≡ 0 → size_of new (suc n) ≡ size_of old (suc n)
  plain_size none =
      size_after old new bound can.forest turned (job_of touched) stage n is.reached
      ∙ kept_apart 0 (8 * suc n + 2) (λ some _. omega (arith, some, none)) (λ l first last same. apart_trees n (8 * suc n + 2) l same)

  module _ (grown : size_of new (suc n) ≤ bound (suc n)) where
    sizes_low : (t : ℕ) → IsReached old t → size_of new t ≤ bound t
    sizes_low t also = go (cases_eq t (suc n))
      where
        go : (t ≡ suc n) ⊎ (t ≡ suc n → ⊥) → size_of new t ≤ bound t
        go (inl e) = subst (λ x. size_of new x ≤ bound x) (sym e) grown
        go (inr other) = omega (arith, sizes_same t also other, can.sizes t also)

    full_under : (t : ℕ) → IsReached old t → (t ≡ suc n → ⊥) → IsFull old (root_of old t) (size_of old t) → IsFull old (root_of old t) (bound t)
    full_under t also other full = subst (IsFull old (root_of old t)) (sym (is.others t also other)) full

    no_file : (t : ℕ) → kind_of old t ≡ 2 → t ≡ suc n → ⊥
    no_file t kind e = let two : kind_of old (suc n) ≡ 2 = subst (λ x. kind_of old x ≡ 2) e kind in omega (arith, two, is.is_file)

    commits : Commits old new (changes_of old (job_of touched))
    commits =
        committed_commits old new bound can.forest turned (job_of touched) stage can.sizes sizes_low (full_under 0 inode_file (λ e. omega (arith, e)) wf.full_inode_file)
        (λ t also kind. full_under t also (no_file t kind) (wf.full_directories t also kind))

    only : CommitsOnly old new (changes_of old (job_of touched)) (λ t l. (t ≡ suc n) ⊎ ((t ≡ 0) × (l ≡ 8 * suc n + 2)))
    only = record {
      commits = commits;
      kept = λ t k also low other. same_elsewhere t k also (lt_of_lt_of_le low (can.sizes t also)) (λ e. other (inl e)) (λ e f. other (inr (e, f)));
    }

    pub sized_changes : ChangesFile old new (suc n)
    sized_changes = commit_writes old new (changes_of old (job_of touched)) (suc n) wf is.reached is.is_file only

    -- each byte of the file is the new one, or else the one that stood there
    pub sized_bytes : (o : ℕ) → o < max (size_of old (suc n)) (size_of new (suc n)) → byte new (root_of new (suc n)) o ≡ run_byte run o (byte old (root_of old (suc n)) o)
    sized_bytes o low =
        commits.bytes (suc n) o is.reached is.is_file low ∙ go (cases_lt (o / 8) (run.offset / 8)) (cases_lt ((run_end run - 1) / 8) (o / 8))
      where
        inside : 8 * (o / 8) < bound (suc n)
        inside = omega (arith, low, grown, can.sizes (suc n) is.reached)

        byte_before : o < run.offset → run_byte run o (byte old (root_of old (suc n)) o) ≡ byte old (root_of old (suc n)) o
        byte_before less = rw (lt-leb run.offset o less) refl

        byte_after : run_end run ≤ o → run_byte run o (byte old (root_of old (suc n)) o) ≡ byte old (root_of old (suc n)) o
        byte_after past = rw (le-ltb o (run_end run) past) (go_any (nat_le run.offset o))
          where
            go_any : (b : Bool) → (if b && false then slice_index run.bytes.now (o - run.offset) else byte old (root_of old (suc n)) o) ≡ byte old (root_of old (suc n)) o
            go_any true = refl
            go_any false = refl

        stays : ((l : ℕ) → run.offset / 8 ≤ l → l ≤ (run_end run - 1) / 8 → o / 8 ≡ l → ⊥) →
            byte_of (changed_word (changes_of old (job_of touched)) old (suc n) (o / 8)) (o % 8) ≡ byte old (root_of old (suc n)) o
        stays other =
            ap (λ w. byte_of w (o % 8))
            (kept_apart (suc n) (o / 8) (λ _ same. apart_trees n (8 * suc n + 2) (o / 8) (sym same)) (λ l first last same. other l first last (same_number n (o / 8) l is.reached inside last same).1))

        go : (o / 8 < run.offset / 8) ⊎ (run.offset / 8 ≤ o / 8) → ((run_end run - 1) / 8 < o / 8) ⊎ (o / 8 ≤ (run_end run - 1) / 8) →
            byte_of (changed_word (changes_of old (job_of touched)) old (suc n) (o / 8)) (o % 8) ≡ run_byte run o (byte old (root_of old (suc n)) o)
        go (inr first) (inr last) =
            let number : 8 * (o / 8) + o % 8 ≡ o = omega arith in
            ap (λ w. byte_of w (o % 8))
            (ap (after_commit old (job_of touched)) (sym (run_trail (o / 8))) ∙ after-run old bound touched free wf can run (o / 8) (subst (λ runs. Has runs run) (sym is.one) (inl refl)) first last
            ∙ ap (λ runs. laid_word runs run.root.items (o / 8) (word_on old (trail_of (run_path run (o / 8)) (length (run_path run (o / 8)))))) is.one ∙ laid-one run (o / 8) (word_on old (trail_of (run_path run (o / 8)) (length (run_path run (o / 8)))))
            ∙ ap (λ q. run_word run (o / 8) (word_on old q)) (run_trail (o / 8)) ∙ ap (run_word run (o / 8)) (word-tree old (suc n) (suc (height_of (root_of old (suc n)))) (o / 8)))
            ∙ byte-run_word run (o / 8) (content_word old (root_of old (suc n)) (o / 8)) (o % 8) (omega arith) is.small
            ∙ ap (λ m. run_byte run m (byte old (root_of old (suc n)) o)) number
        go (inl before) last = stays (λ l first high e. omega (arith, before, first, e)) ∙ sym (byte_before (omega (arith, before)))
        go (inr first) (inl beyond) = stays (λ l low_word high e. omega (arith, beyond, high, e)) ∙ sym (byte_after (omega (arith, beyond)))

-- ---- a run alone

module _ {in_snapshot : ℕ → Bool} (old new : Image) (wf : IsWellFormed old) (touched : Touched) (free : ℕ → Bool) (can : CanCommit old (size_of old) in_snapshot touched free) (run : Run) (n : ℕ) (one : touched.runs.now ≡ run ∷ []) (none : length touched.words.now ≡ 0)
    (reached : IsReached old (suc n)) (is_file : kind_of old (suc n) ≡ 1) (root : run.root.items ≡ inode_path (height_of (root_of old 0)) (suc n) 1) (height : run.height ≡ height_of (root_of old (suc n))) (some : 0 < length run.bytes.now)
    (below : run_end run ≤ size_of old (suc n)) (small : (i : ℕ) → slice_index run.bytes.now i < 256) (turned : Trail → Type 0)
    (stage : IsCommitted old new (IsTreePointer old (size_of old)) (IsTreeWord old (size_of old)) turned (after_commit old (job_of touched))) where
  alone : IsFileRun old (size_of old) touched run n
  alone = record {
    one = one;
    words = λ i here. absurd (omega (arith, here, none));
    reached = reached;
    is_file = is_file;
    root = root;
    height = height;
    some = some;
    below = below;
    small = small;
    others = λ t also other. refl;
  }

  pub run_size : size_of new (suc n) ≡ size_of old (suc n)
  run_size = plain_size old new (size_of old) wf touched free can run n alone turned stage none

  grown : size_of new (suc n) ≤ size_of old (suc n)
  grown = omega (arith, run_size)

  pub run_changes : ChangesFile old new (suc n)
  run_changes = sized_changes old new (size_of old) wf touched free can run n alone turned stage grown

  pub run_bytes : (o : ℕ) → o < size_of old (suc n) → byte new (root_of new (suc n)) o ≡ run_byte run o (byte old (root_of old (suc n)) o)
  run_bytes o low = sized_bytes old new (size_of old) wf touched free can run n alone turned stage grown o (omega (arith, low))
