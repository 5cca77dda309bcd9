-- The words after a commit of patches: each file has their bytes, and nothing else has changed.
use Rattle.std.proofs.Common.{◌≡◌, ◌⊎◌, ℕ, zero, suc, ◌+◌, ◌-◌, ◌*◌, ◌/◌, ◌%◌, ◌<◌, ◌≤◌, ◌==◌, List, [], ◌∷◌, length, Bool, true, false, cond, refl, sym, ◌∙◌, ap, ap₂, subst, inl, inr, arith}
use Rattle.std.specs.Prelude.{bytes_eq}
use Rattle.std.proofs.lemmas.Bool.{cases_eq, cases_lt, eq-eqb}
use Rattle.std.proofs.lemmas.Slice.Eq.{bytes_eq-Decides}
use Rattle.bp_layout.specs.Inode.{inode_count, kind_of, root_of, size_of}
use Rattle.bp_layout.specs.Members.{Each, Has}
use Rattle.bp_layout.specs.Need.{path_number}
use Rattle.bp_layout.specs.Reached.{IsReached}
use Rattle.bp_layout.specs.Reached.IsReached.{inode_file}
use Rattle.bp_layout.specs.Tree.{byte, content_word, IsSound}
use Rattle.bp_layout.specs.WellFormed.{IsWellFormed}
use Rattle.bp_layout.specs.WordPaths.{WordPath, inode_path}
use Rattle.bp_layout.specs.Words.{Image, byte_of, height_of, word}
use Rattle.bp_layout.proofs.Reached.{reached-in_file}
use Rattle.bp_layout.proofs.TreeLaws.{live_content}
use Rattle.bp_changes.specs.Commits.{Commits, CommitsOnly}
use Rattle.bp_changes.specs.Overwrites.{OverwritesFiles, Patch, patched, patched_by}
use Rattle.bp_changes.proofs.Committed.{commit_overwrites}
use Rattle.bp_changes.specs.Forest.{along, root_trail, IsTreePointer}
use Rattle.bp_changes.specs.Trail.{Trail, trail_of, word_on}
use Rattle.bp_changes.proofs.ForestLaws.{word-tree}
use Rattle.pm_words.specs.Overlay.{byte_over}
use Rattle.bp_stands.proofs.OverwriteStands.{byte_before, byte_elsewhere, byte_past}
use Rattle.bp_read.proofs.ExistingPaths.{number-digits}
use Rattle.bp_cow.specs.declared.touched.Run.{Run}
use Rattle.bp_cow.specs.declared.touched.Touched.{Touched}
use Rattle.bp_cow.specs.CanCommit.{CanCommit}
use Rattle.bp_cow.specs.Committed.{IsCommitted, after_commit, changes_of}
use Rattle.bp_cow.specs.Counting.{IsTreeWord}
use Rattle.bp_cow.specs.Touched.{job_of, laid_word, run_end, run_path, run_word}
use Rattle.bp_cow.proofs.CommitLaws.{committed_commits, size_after}
use Rattle.bp_cow.proofs.RunLaws.{byte-run_word, length-run_path, run_word-outside}
use Rattle.bp_cow.proofs.RunWrites.{digits_trail, root_path_trail}
use Rattle.bp_calls.proofs.TreeTrails.{same_word, word_trail}
use Rattle.bp_cow.proofs.Values.{after-others, after-run}
use Rattle.bp_calls.specs.Overwritten.{AreRuns, IsPatchIn}
use Rattle.bp_calls.specs.Overwritten.AreRuns.{none, empty, more}
use Rattle.bp_calls.specs.TouchedBelow.{IsRunFor}
use Rattle.bp_calls.proofs.PatchRuns.{IsInFile}

-- ---- the inode of a root path

module _ (image : Image) (wf : IsWellFormed image) where
  root_number : (i : ℕ) → IsReached image i → path_number (inode_path (height_of (root_of image 0)) i 1) ≡ 8 * i + 1
  root_number i reached =
      let inodes : IsSound image (root_of image 0) (size_of image 0) = wf.sound 0 inode_file in
      let inside : i < inode_count image = reached-in_file image wf i reached in
      number-digits (root_of image 0) (size_of image 0) (suc (height_of (root_of image 0))) (8 * i + 1) inodes.fits
      (live_content (root_of image 0) (size_of image 0) (8 * i + 1) (omega (arith, inside)))

  same_inode : (i j : ℕ) → IsReached image i → IsReached image j → inode_path (height_of (root_of image 0)) i 1 ≡ inode_path (height_of (root_of image 0)) j 1 → i ≡ j
  same_inode i j reached also same = omega (arith, sym (root_number i reached) ∙ ap path_number same ∙ root_number j also)

-- ---- which runs give a word

-- the run lies in the tree with this root path, and this is one of its words
pub record Covers (root : WordPath) (k : ℕ) (run : Run) : Type 0 where
  pub tree : run.root.items ≡ root
  pub low : run.offset / 8 ≤ k
  pub high : k ≤ (run_end run - 1) / 8

module _ (root : WordPath) (k : ℕ) where
  covers : (run : Run) → Covers root k run ⊎ (Covers root k run → ⊥)
  covers run = go (bytes_eq run.root.items root) refl (cases_lt k (run.offset / 8)) (cases_lt ((run_end run - 1) / 8) k)
    where
      go : (b : Bool) → bytes_eq run.root.items root ≡ b → (k < run.offset / 8) ⊎ (run.offset / 8 ≤ k) → ((run_end run - 1) / 8 < k) ⊎ (k ≤ (run_end run - 1) / 8) → Covers root k run ⊎ (Covers root k run → ⊥)
      go true e (inr low) (inr high) = inl (record { tree = (bytes_eq-Decides run.root.items root).0 e; low = low; high = high })
      go false e first last = inr (λ is. differ ((bytes_eq-Decides run.root.items root).1 is.tree) e)
        where
          differ : bytes_eq run.root.items root ≡ true → bytes_eq run.root.items root ≡ false → ⊥
          differ one two = absurd (cc)
      go true e (inl before) last = inr (λ is. omega (arith, before, is.low))
      go true e (inr low) (inl past_end) = inr (λ is. omega (arith, past_end, is.high))

  -- some run does, or none
  pub some_covers : (runs : List Run) → ((run : Run) × Has runs run × Covers root k run) ⊎ ((run : Run) → Has runs run → Covers root k run → ⊥)
  some_covers [] = inr (λ run has is. has)
  some_covers (first ∷ runs) = go (covers first) (some_covers runs)
    where
      go : Covers root k first ⊎ (Covers root k first → ⊥) → ((run : Run) × Has runs run × Covers root k run) ⊎ ((run : Run) → Has runs run → Covers root k run → ⊥) →
          ((run : Run) × Has (first ∷ runs) run × Covers root k run) ⊎ ((run : Run) → Has (first ∷ runs) run → Covers root k run → ⊥)
      go (inl is) later = inl (first, inl refl, is)
      go (inr other) (inl found) = inl (found.0, inr found.1, found.2)
      go (inr other) (inr nowhere) = inr (λ run has is. elim has [
        | inl e ↦ other (subst (Covers root k) (sym e) is)
        | inr past_end ↦ nowhere run past_end is
      ])

  -- where none does the word stays
  pub laid_stays : (runs : List Run) (old : ℕ) → ((run : Run) → Has runs run → Covers root k run → ⊥) → laid_word runs root k old ≡ old
  laid_stays [] old nowhere = refl
  laid_stays (first ∷ runs) old nowhere = ap (laid_word runs root k) (go (bytes_eq first.root.items root) refl (cases_lt k (first.offset / 8)) (cases_lt ((run_end first - 1) / 8) k)) ∙ laid_stays runs old (λ run has. nowhere run (inr has))
    where
      go : (b : Bool) → bytes_eq first.root.items root ≡ b → (k < first.offset / 8) ⊎ (first.offset / 8 ≤ k) → ((run_end first - 1) / 8 < k) ⊎ (k ≤ (run_end first - 1) / 8) →
          cond (bytes_eq first.root.items root) (run_word first k old) old ≡ old
      go false e before past_end = rw e refl
      go true e (inl before) past_end = rw e (run_word-outside first k old (inl (omega (arith, before))))
      go true e (inr low) (inl past_end) = rw e (run_word-outside first k old (inr (omega (arith, past_end))))
      go true e (inr low) (inr high) = absurd (nowhere first (inl refl) (record { tree = (bytes_eq-Decides first.root.items root).0 e; low = low; high = high }))

-- ---- the bytes of a word

module _ (image : Image) (wf : IsWellFormed image) (i : ℕ) (reached : IsReached image i) (k c : ℕ) (low : c < 8) where
  abbrev root : WordPath
  root = inode_path (height_of (root_of image 0)) i 1

  one_laid : (patch : Patch) (run : Run) → IsPatchIn image patch → IsRunFor image patch.inode patch.offset patch.bytes run → (old : ℕ) →
      byte_of (cond (bytes_eq run.root.items (inode_path (height_of (root_of image 0)) i 1)) (run_word run k old) old) c ≡ patched_by patch i (8 * k + c) (byte_of old c)
  one_laid patch run is for_it old = go (cases_eq patch.inode i) (bytes_eq run.root.items root) refl
    where
      go : (patch.inode ≡ i) ⊎ (patch.inode ≡ i → ⊥) → (b : Bool) → bytes_eq run.root.items root ≡ b →
          byte_of (cond (bytes_eq run.root.items root) (run_word run k old) old) c ≡ patched_by patch i (8 * k + c) (byte_of old c)
      go (inl here) b e =
          let same : bytes_eq run.root.items root ≡ true = (bytes_eq-Decides run.root.items root).1 (for_it.root ∙ ap (λ j. inode_path (height_of (root_of image 0)) j 1) here) in
          let there : (patch.inode == i) ≡ true = eq-eqb patch.inode i here in
          rw (same, there) (byte-run_word run k old c low for_it.small ∙ ap₂ (λ offset bytes. byte_over offset bytes (8 * k + c) (byte_of old c)) for_it.from for_it.bytes_are)
      go (inr apart) false e = rw e (sym (byte_elsewhere patch i (8 * k + c) (byte_of old c) apart))
      go (inr apart) true e =
          absurd (apart (same_inode image wf patch.inode i is.reached reached (sym for_it.root ∙ (bytes_eq-Decides run.root.items root).0 e)))

  pub bytes_laid : (patches : List Patch) (runs : List Run) → AreRuns image patches runs → Each (IsPatchIn image) patches → (old : ℕ) →
      byte_of (laid_word runs (inode_path (height_of (root_of image 0)) i 1) k old) c ≡ patched patches i (8 * k + c) (byte_of old c)
  bytes_laid _ _ none each old = refl
  bytes_laid _ _ (empty {patch} {patches} {runs} no_byte rest) each old =
      bytes_laid patches runs rest each.1 old ∙ ap (patched patches i (8 * k + c)) (sym (stays (cases_lt (8 * k + c) patch.offset)))
    where
      stays : (8 * k + c < patch.offset) ⊎ (patch.offset ≤ 8 * k + c) → patched_by patch i (8 * k + c) (byte_of old c) ≡ byte_of old c
      stays (inl before) = byte_before patch i (8 * k + c) (byte_of old c) before
      stays (inr from) = byte_past patch i (8 * k + c) (byte_of old c) (omega (arith, no_byte, from))
  bytes_laid _ _ (more {patch} {patches} {run = first} {runs} some for_it rest) each old =
      bytes_laid patches runs rest each.1 (cond (bytes_eq first.root.items root) (run_word first k old) old)
      ∙ ap (patched patches i (8 * k + c)) (one_laid patch first each.0 for_it old)

-- ---- the words

module _ {in_snapshot : ℕ → Bool} (old new : Image) (wf : IsWellFormed old) (touched : Touched) (free : ℕ → Bool) (can : CanCommit old (size_of old) in_snapshot touched free) (no_word : length touched.words.now ≡ 0)
    (at : (run : Run) → Has touched.runs.now run → IsInFile old run) (turned : Trail → Type 0) (stage : IsCommitted old new (IsTreePointer old (size_of old)) (IsTreeWord old (size_of old)) turned (after_commit old (job_of touched))) where
  -- the trail of a word by the run's path is that of the content word
  run_trail : (run : Run) (has : Has touched.runs.now run) (k : ℕ) → trail_of (run_path run k) (length (run_path run k)) ≡ word_trail old (suc (at run has).inode) k
  run_trail run has k =
      let file = at run has in
      let size : length (run_path run k) ≡ length run.root.items + suc run.height = omega (arith, length-run_path run k) in
      ap (trail_of (run_path run k)) size ∙ digits_trail run.root.items (suc run.height) k
      ∙ ap (λ (base : Trail). along base (suc run.height) k) (root_path_trail (height_of (root_of old 0)) file.inode run.root.items file.of.root)
      ∙ ap (λ h. along (root_trail (height_of (word old 2)) (suc file.inode)) (suc h) k) file.of.height

  -- a word of no run stays
  stays_apart : (t k : ℕ) → ((run : Run) (has : Has touched.runs.now run) (l : ℕ) → run.offset / 8 ≤ l → l ≤ (run_end run - 1) / 8 →
      word_trail old t k ≡ word_trail old (suc (at run has).inode) l → ⊥) →
      after_commit old (job_of touched) (word_trail old t k) ≡ content_word old (root_of old t) k
  stays_apart t k other =
      after-others old (size_of old) touched free wf can (k % 512) (along (root_trail (height_of (word old 2)) t) (height_of (root_of old t)) (k / 512)) (omega arith)
      (λ i here same. omega (arith, here, no_word))
      (λ run l has low high same. other run has l low high (same ∙ run_trail run has l))
      ∙ word-tree old t (suc (height_of (root_of old t))) k

  -- so do all that are of no file
  stays : (t k : ℕ) → IsReached old t → 8 * k < size_of old t → (kind_of old t ≡ 1 → ⊥) → after_commit old (job_of touched) (word_trail old t k) ≡ content_word old (root_of old t) k
  stays t k also low no_file = stays_apart t k apart
    where
      apart : (run : Run) (has : Has touched.runs.now run) (l : ℕ) → run.offset / 8 ≤ l → l ≤ (run_end run - 1) / 8 → word_trail old t k ≡ word_trail old (suc (at run has).inode) l → ⊥
      apart run has l first last same =
          let file = at run has in
          let here = same_word old (size_of old) can.forest t k (suc file.inode) l also file.reached low (omega (arith, last, file.of.below, file.of.some)) same in
          no_file (subst (λ i. kind_of old i ≡ 1) (sym here.0) file.is_file)

  pub sizes_stay : (t : ℕ) → IsReached old t → size_of new t ≡ size_of old t
  sizes_stay zero also = stage.superblock 3 (omega arith) (λ e. omega (arith, e))
  sizes_stay (suc m) also =
      let inside : 64 * suc m + 64 ≤ size_of old 0 = can.forest.in_file m also in
      size_after old new (size_of old) can.forest turned (job_of touched) stage m also ∙ stays 0 (8 * suc m + 2) inode_file (omega (arith, inside)) (λ one. omega (arith, one))

  commits : Commits old new (changes_of old (job_of touched))
  commits =
      committed_commits old new (size_of old) can.forest turned (job_of touched) stage can.sizes (λ t also. omega (arith, sizes_stay t also)) wf.full_inode_file (λ t also kind. wf.full_directories t also kind)

  only : CommitsOnly old new (changes_of old (job_of touched)) (λ t l. kind_of old t ≡ 1)
  only = record { commits = commits; kept = λ t k also low other. stays t k also low other }

  -- a word of a file has the bytes of all runs in the file
  word_laid : (m k : ℕ) → IsReached old (suc m) → 8 * k < size_of old (suc m) →
      after_commit old (job_of touched) (word_trail old (suc m) k) ≡ laid_word touched.runs.now (inode_path (height_of (root_of old 0)) (suc m) 1) k (content_word old (root_of old (suc m)) k)
  word_laid m k also low = go (some_covers (inode_path (height_of (root_of old 0)) (suc m) 1) k touched.runs.now)
    where
      go : ((run : Run) × Has touched.runs.now run × Covers (inode_path (height_of (root_of old 0)) (suc m) 1) k run) ⊎ ((run : Run) → Has touched.runs.now run → Covers (inode_path (height_of (root_of old 0)) (suc m) 1) k run → ⊥) →
          after_commit old (job_of touched) (word_trail old (suc m) k) ≡ laid_word touched.runs.now (inode_path (height_of (root_of old 0)) (suc m) 1) k (content_word old (root_of old (suc m)) k)
      go (inl found) =
          let run = found.0 in
          let has = found.1 in
          let file = at run has in
          let inode : suc file.inode ≡ suc m = same_inode old wf (suc file.inode) (suc m) file.reached also (sym file.of.root ∙ found.2.tree) in
          let trail : trail_of (run_path run k) (length (run_path run k)) ≡ word_trail old (suc m) k = run_trail run has k ∙ ap (λ t. word_trail old t k) inode in
          ap (after_commit old (job_of touched)) (sym trail)
          ∙ after-run old (size_of old) touched free wf can run k has found.2.low found.2.high
          ∙ ap (λ (r : WordPath). laid_word touched.runs.now r k (word_on old (trail_of (run_path run k) (length (run_path run k))))) found.2.tree
          ∙ ap (λ (q : Trail). laid_word touched.runs.now (inode_path (height_of (root_of old 0)) (suc m) 1) k (word_on old q)) trail
          ∙ ap (laid_word touched.runs.now (inode_path (height_of (root_of old 0)) (suc m) 1) k) (word-tree old (suc m) (suc (height_of (root_of old (suc m)))) k)
      go (inr nowhere) = stays_apart (suc m) k apart ∙ sym (laid_stays (inode_path (height_of (root_of old 0)) (suc m) 1) k touched.runs.now (content_word old (root_of old (suc m)) k) nowhere)
        where
          apart : (run : Run) (has : Has touched.runs.now run) (l : ℕ) → run.offset / 8 ≤ l → l ≤ (run_end run - 1) / 8 →
              word_trail old (suc m) k ≡ word_trail old (suc (at run has).inode) l → ⊥
          apart run has l first last same =
              let file = at run has in
              let here = same_word old (size_of old) can.forest (suc m) k (suc file.inode) l also file.reached low (omega (arith, last, file.of.below, file.of.some)) same in
              nowhere run has (record {
                tree = file.of.root ∙ ap (λ i. inode_path (height_of (root_of old 0)) i 1) (sym here.0);
                low = omega (arith, first, here.1);
                high = omega (arith, last, here.1);
              })

  module _ (patches : List Patch) (are : AreRuns old patches touched.runs.now) (each : Each (IsPatchIn old) patches) where
    bytes_are : (i o : ℕ) → IsReached old i → kind_of old i ≡ 1 → o < size_of old i → byte new (root_of new i) o ≡ patched patches i o (byte old (root_of old i) o)
    bytes_are zero o also kind low = absurd (omega (arith, kind))
    bytes_are (suc m) o also kind low =
        let number : 8 * (o / 8) + o % 8 ≡ o = omega arith in
        commits.bytes (suc m) o also kind (omega (arith, low))
        ∙ ap (λ w. byte_of w (o % 8)) (word_laid m (o / 8) also (omega (arith, low)))
        ∙ bytes_laid old wf (suc m) also (o / 8) (o % 8) (omega arith) patches touched.runs.now are each (content_word old (root_of old (suc m)) (o / 8))
        ∙ ap (λ n. patched patches (suc m) n (byte old (root_of old (suc m)) o)) number

    pub patches_overwrite : OverwritesFiles patches old new
    patches_overwrite = commit_overwrites old new (changes_of old (job_of touched)) patches wf only bytes_are
