-- The step of the loop over the entries of a directory, where an entry names an inode that none named before.
use Rattle.std.proofs.Common.{◌≡◌, ◌≢◌, ◌⊎◌, ℕ, ◌+◌, ◌<◌, ◌≤◌, List, Bool, true, false, length, set, refl, sym, ◌∙◌, ap, subst, arith, inl, inr}
use Rattle.std.proofs.lemmas.Bool.{cases_eq, cases_lt}
use Rattle.std.specs.List.{slice_index}
use Rattle.bp_free.specs.Set.{Set, has, without}
use Rattle.bp_layout.specs.Words.{Image}
use Rattle.bp_layout.specs.Inode.{kind_of, root_of, size_of, inode_count}
use Rattle.bp_layout.specs.Directory.{EntryNames, name_at}
use Rattle.bp_layout.specs.Paths.{IsName}
use Rattle.bp_layout.specs.Checks.{root_place}
use Rattle.bp_scan.specs.Scanned.{IsScanned}
use Rattle.bp_walk.specs.Walk.{TakesTree}
use Rattle.bp_scan.specs.Progress.{IsEntered, IsDone, NamedBy, IsUnderWay}
use Rattle.bp_scan.specs.Named.{CountsAmong}
use Rattle.bp_scan.proofs.Named.{counts_first, counts_more}
use Rattle.bp_walk.proofs.TakenLaws.{clash}
use Rattle.bp_scan.proofs.Entering.{IsInode, enter, pass_entry}
use Rattle.bp_scan.proofs.Readable.{inode_found}
use Rattle.bp_scan.proofs.ProgressLaws.{same_scan, entered_more, entered_less}

-- the directories to do after an inode was entered
pub record AddsDirectory (image : Image) (j : ℕ) (old new : Set) : Type 0 where
  pub same : (i : ℕ) → i ≢ j → has new i ≡ has old i
  pub directory : kind_of image j ≡ 2 → has new j ≡ true
  pub file : has new j ≡ true → kind_of image j ≡ 2

module _ (image : Image) (all old new inodes todo later : Set) (current slot j : ℕ) (holes : Bool) (state : IsUnderWay image all old inodes todo current slot) (some : 4096 ≤ size_of image 0)
    (first : IsEntered image inodes 0) (here : IsEntered image inodes current) (names : EntryNames image current slot j) (low : j < inode_count image) (room : j < length inodes) (free : has inodes j ≡ true) (two : 2 ≤ j)
    (form : IsName (name_at image current slot)) (apart : (r k : ℕ) → r < slot → EntryNames image current r k → name_at image current slot ≡ name_at image current r → slot ≡ r)
    (inode : IsInode image j) (which : (j ≡ 0) ⊎ (kind_of image j ≡ 2) → holes ≡ false)
    (tree : TakesTree image (root_place image j) (root_of image j) (size_of image j) holes old new) (adds : AddsDirectory image j todo later) where
  abbrev More : ℕ → Type 0
  More t = IsEntered image inodes t ⊎ (t ≡ j)

  abbrev Passed : ℕ → ℕ → Type 0
  Passed k r = IsDone image inodes todo current slot k r ⊎ ((k ≡ current) × (r ≡ slot))

  not_entered : IsEntered image inodes j → ⊥
  not_entered e = clash free e.1

  entered : IsScanned image More (IsDone image inodes todo current slot) all new
  entered = enter image (IsEntered image inodes) (IsDone image inodes todo current slot) all old new j holes state.scanned
      (inode_found image (IsEntered image inodes) (IsDone image inodes todo current slot) all old some first state.scanned current slot j here names low) inode which tree

  same_named : (k : ℕ) → EntryNames image current slot k → k ≡ j
  same_named k n = sym n.ino ∙ names.ino

  slot_before : (r : ℕ) → IsDone image inodes todo current slot current r → r < slot
  slot_before r (inl d) = absurd (d.3 refl)
  slot_before r (inr d) = d.1

  passed : IsScanned image More Passed all new
  passed = pass_entry image More (IsDone image inodes todo current slot) all new current slot entered
      (λ k n. (subst (λ (x : ℕ). x < inode_count image) (sym (same_named k n)) low, λ one. omega (arith, two, one, same_named k n), form, inr (same_named k n)))
      (λ k r h d n m kind. absurd (not_entered (subst (IsEntered image inodes) (same_named h n) (state.scanned.enters k r h d m))))
      (λ r h k d n m same. apart r k (slot_before r d) m same)

  -- what is done after the step was done before or is this entry
  less : (i s h : ℕ) → EntryNames image i s h → IsDone image (without inodes j) later current (slot + 1) i s → Passed i s
  less i s h n (inl d) = go (entered_less image inodes j i d.0) (cases_eq i j)
    where
      go : IsEntered image inodes i ⊎ (i ≡ j) → (i ≡ j) ⊎ (i ≡ j → ⊥) → Passed i s
      go e (inl same) = absurd (clash (ap (has later) same ∙ adds.directory (ap (kind_of image) (sym same) ∙ d.1)) d.2)
      go (inr same) (inr other) = absurd (other same)
      go (inl e) (inr other) = inl (inl (e, d.1, sym (adds.same i other) ∙ d.2, d.3))
  less i s h n (inr d) = go (cases_lt s slot)
    where
      go : (s < slot) ⊎ (slot ≤ s) → Passed i s
      go (inl lower) = inl (inr (d.0, lower))
      go (inr high) = inr (d.0, omega (arith, d.1, high))

  -- and what was done before is done after it
  more : (i s : ℕ) → IsDone image inodes todo current slot i s → IsDone image (without inodes j) later current (slot + 1) i s
  more i s (inl d) =
      let other : i ≢ j = λ same. not_entered (subst (IsEntered image inodes) same d.0) in
      inl (entered_more image inodes j i room low (inl d.0), d.1, adds.same i other ∙ d.2, d.3)
  more i s (inr d) = inr (d.0, omega (arith, d.1))

  -- the first entry that names the inode
  pub entry_counts : (counts : List ℕ) → CountsAmong image (IsDone image inodes todo current slot) counts → CountsAmong image (IsDone image (without inodes j) later current (slot + 1)) (set counts j 1)
  entry_counts counts are =
      counts_first image (IsDone image inodes todo current slot) (IsDone image (without inodes j) later current (slot + 1)) current slot j names (λ d. omega (arith, slot_before slot d)) (inr (refl, omega arith))
      (λ k r h n d. less k r h n d) more counts are (λ k r d n. not_entered (state.scanned.enters k r j d n))

  pub entry_step : IsUnderWay image all new (without inodes j) later current (slot + 1)
  entry_step = record {
    scanned = same_scan image More (IsEntered image (without inodes j)) Passed (IsDone image (without inodes j) later current (slot + 1)) all new (λ t e. entered_more image inodes j t room low e)
        (λ t e. entered_less image inodes j t e) less passed;
    todo_entered = λ i there. to_do i there (cases_eq i j);
    named = λ k two e. by_entry k two (entered_less image inodes j k e);
  }
    where
      to_do : (i : ℕ) → has later i ≡ true → (i ≡ j) ⊎ (i ≡ j → ⊥) → IsEntered image (without inodes j) i × (kind_of image i ≡ 2)
      to_do i there (inl same) = (entered_more image inodes j i room low (inr same), ap (kind_of image) same ∙ adds.file (ap (has later) (sym same) ∙ there))
      to_do i there (inr other) =
          let before : IsEntered image inodes i × (kind_of image i ≡ 2) = state.todo_entered i (sym (adds.same i other) ∙ there) in
          (entered_more image inodes j i room low (inl before.0), before.1)

      by_entry : (k : ℕ) → 2 ≤ k → IsEntered image inodes k ⊎ (k ≡ j) → NamedBy image (without inodes j) later current (slot + 1) k
      by_entry k two (inl e) =
          let n : NamedBy image inodes todo current slot k = state.named k two e in
          record { directory = n.directory; entry = n.entry; done = more n.directory n.entry n.done; names = n.names }
      by_entry k two (inr same) = record { directory = current; entry = slot; done = inr (refl, omega arith); names = subst (EntryNames image current slot) (sym same) names }

-- The same where the entry names a file that another one has named: nothing is entered.
module _ (image : Image) (all blocks inodes todo : Set) (current slot j : ℕ) (state : IsUnderWay image all blocks inodes todo current slot) (names : EntryNames image current slot j)
    (entered : IsEntered image inodes j) (two : 2 ≤ j) (file : kind_of image j ≡ 1)
    (form : IsName (name_at image current slot)) (apart : (r k : ℕ) → r < slot → EntryNames image current r k → name_at image current slot ≡ name_at image current r → slot ≡ r) where
  abbrev PassedAgain : ℕ → ℕ → Type 0
  PassedAgain k r = IsDone image inodes todo current slot k r ⊎ ((k ≡ current) × (r ≡ slot))

  named_again : (k : ℕ) → EntryNames image current slot k → k ≡ j
  named_again k n = sym n.ino ∙ names.ino

  before_again : (r : ℕ) → IsDone image inodes todo current slot current r → r < slot
  before_again r (inl d) = absurd (d.3 refl)
  before_again r (inr d) = d.1

  passed_again : IsScanned image (IsEntered image inodes) PassedAgain all blocks
  passed_again = pass_entry image (IsEntered image inodes) (IsDone image inodes todo current slot) all blocks current slot state.scanned
      (λ k n. (subst (λ (x : ℕ). x < inode_count image) (sym (named_again k n)) entered.0, λ one. omega (arith, two, one, named_again k n), form, subst (IsEntered image inodes) (sym (named_again k n)) entered))
      (λ k r h d n m kind. absurd (no_directory h (named_again h n) kind))
      (λ r h k d n m same. apart r k (before_again r d) m same)
    where
      no_directory : (h : ℕ) → h ≡ j → kind_of image h ≡ 2 → ⊥
      no_directory h same kind = let one : kind_of image h ≡ 1 = ap (kind_of image) same ∙ file in omega (arith, kind, one)

  less_again : (i s h : ℕ) → EntryNames image i s h → IsDone image inodes todo current (slot + 1) i s → PassedAgain i s
  less_again i s h n (inl d) = inl (inl d)
  less_again i s h n (inr d) = go (cases_lt s slot)
    where
      go : (s < slot) ⊎ (slot ≤ s) → PassedAgain i s
      go (inl lower) = inl (inr (d.0, lower))
      go (inr high) = inr (d.0, omega (arith, d.1, high))

  more_again : (i s : ℕ) → IsDone image inodes todo current slot i s → IsDone image inodes todo current (slot + 1) i s
  more_again i s (inl d) = inl d
  more_again i s (inr d) = inr (d.0, omega (arith, d.1))

  -- one entry more that names it
  pub again_counts : (counts : List ℕ) → CountsAmong image (IsDone image inodes todo current slot) counts →
      CountsAmong image (IsDone image inodes todo current (slot + 1)) (set counts j (slice_index counts j + 1))
  again_counts counts are =
      counts_more image (IsDone image inodes todo current slot) (IsDone image inodes todo current (slot + 1)) current slot j names (λ d. omega (arith, before_again slot d)) (inr (refl, omega arith))
      (λ k r h n d. less_again k r h n d) more_again counts are

  pub again_step : IsUnderWay image all blocks inodes todo current (slot + 1)
  again_step = record {
    scanned = same_scan image (IsEntered image inodes) (IsEntered image inodes) PassedAgain (IsDone image inodes todo current (slot + 1)) all blocks (λ t e. e) (λ t e. e) less_again passed_again;
    todo_entered = state.todo_entered;
    named = λ k two e. by_entry k (state.named k two e);
  }
    where
      by_entry : (k : ℕ) → NamedBy image inodes todo current slot k → NamedBy image inodes todo current (slot + 1) k
      by_entry k n = record { directory = n.directory; entry = n.entry; done = more_again n.directory n.entry n.done; names = n.names }
