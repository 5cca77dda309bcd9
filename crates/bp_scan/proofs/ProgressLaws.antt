-- The steps of a scan on its sets.
use Rattle.std.proofs.Common.{◌≡◌, ◌≢◌, ◌⊎◌, ℕ, zero, suc, ◌+◌, ◌/◌, ◌%◌, ◌<◌, ◌≤◌, List, true, false, length, replicate, refl, sym, ◌∙◌, ap, subst, arith, inl, inr}
use Rattle.std.proofs.lemmas.Bool.{cases_eq, cases_lt}
use Rattle.bp_free.specs.Set.{Set, has, without}
use Rattle.bp_layout.specs.Words.{Image}
use Rattle.bp_layout.specs.Inode.{kind_of, size_of, inode_count}
use Rattle.bp_layout.specs.Directory.{EntryNames, ino_at}
use Rattle.bp_scan.specs.Scanned.{IsSeen, IsScanned, IsAll}
use Rattle.bp_scan.specs.Progress.{IsEntered, IsDone, NamedBy, IsUnderWay}
use Rattle.bp_scan.specs.Named.{CountsAmong}
use Rattle.bp_scan.proofs.Named.{counts_none, counts_same}
use Rattle.bp_walk.proofs.TakenLaws.{known, clash, take_same, has_without, has_other, has_less}

-- the same trees and entries under other names
pub same_scan : (image : Image) (E F : ℕ → Type 0) (D G : ℕ → ℕ → Type 0) (all left : Set) → ((t : ℕ) → E t → F t) → ((t : ℕ) → F t → E t) → ((i s j : ℕ) → EntryNames image i s j → G i s → D i s) →
    IsScanned image E D all left → IsScanned image F G all left
same_scan image E F D G all left there back less scanned = record {
  found = λ t f. scanned.found t (back t f);
  checked = λ t f. scanned.checked t (back t f);
  takes = take_same image (IsSeen image E) (IsSeen image F) all left (λ p s. record { tree = s.tree; depth = s.depth; index = s.index; entered = there s.tree s.entered; pointer = s.pointer })
      (λ p s. record { tree = s.tree; depth = s.depth; index = s.index; entered = back s.tree s.entered; pointer = s.pointer }) scanned.takes;
  kinds = λ i f. scanned.kinds i (back (suc i) f);
  sizes = λ i f. scanned.sizes i (back i f);
  inos = λ i s j d n. scanned.inos i s j (less i s j n d) n;
  not_root = λ i s j d n. scanned.not_root i s j (less i s j n d) n;
  forms = λ i s j d n. scanned.forms i s j (less i s j n d) n;
  enters = λ i s j d n. there j (scanned.enters i s j (less i s j n d) n);
  named_once = λ i s k r j d e n m kind. scanned.named_once i s k r j (less i s j n d) (less k r j m e) n m kind;
  names_once = λ i s r j k d e n m. scanned.names_once i s r j k (less i s j n d) (less i r k m e) n m;
}

-- an inode leaves the set: it is entered, and no other
pub entered_more : (image : Image) (inodes : Set) (j t : ℕ) → j < length inodes → j < inode_count image → IsEntered image inodes t ⊎ (t ≡ j) → IsEntered image (without inodes j) t
entered_more image inodes j t low in_file (inl e) = (e.0, has_less inodes j t low e.1)
entered_more image inodes j t low in_file (inr same) = (omega (arith, in_file, same), ap (has (without inodes j)) same ∙ has_without inodes j low)

pub entered_less : (image : Image) (inodes : Set) (j t : ℕ) → IsEntered image (without inodes j) t → IsEntered image inodes t ⊎ (t ≡ j)
entered_less image inodes j t e = go (cases_eq t j)
  where
    go : (t ≡ j) ⊎ (t ≡ j → ⊥) → IsEntered image inodes t ⊎ (t ≡ j)
    go (inl same) = inr same
    go (inr other) = inl (e.0, sym (has_other inodes j t other) ∙ e.1)

-- nothing to do: everything is done
pub all_done : (image : Image) (all blocks inodes todo : Set) → IsUnderWay image all blocks inodes todo 0 0 → ((i : ℕ) → has todo i ≡ false) → size_of image 0 % 4096 ≡ 0 → 4096 ≤ size_of image 0 →
    IsEntered image inodes 0 → IsEntered image inodes 1 → kind_of image 1 ≡ 2 → IsAll image (IsEntered image inodes) (IsDone image inodes todo 0 0)
all_done image all blocks inodes todo state none whole some first root kind = record {
  blocks = whole;
  some = some;
  inode_file = first;
  root = root;
  directory = kind;
  slots = λ i s j e n. inl (e, n.directory, none i, not_file i n.directory);
}
  where
    not_file : (i : ℕ) → kind_of image i ≡ 2 → i ≢ 0
    not_file zero kind same = omega (arith, kind)
    not_file (suc i) kind same = omega (arith, same)

-- a directory is done: its last slot is past
pub directory_done : (image : Image) (inodes todo : Set) (current count i s j : ℕ) → current ≢ 0 → count ≡ size_of image current / 256 → IsEntered image inodes current → kind_of image current ≡ 2 →
    EntryNames image i s j → IsDone image inodes todo 0 0 i s → IsDone image inodes todo current count i s
directory_done image inodes todo current count i s j some end entered kind names (inl d) = go (cases_eq i current)
  where
    go : (i ≡ current) ⊎ (i ≡ current → ⊥) → IsDone image inodes todo current count i s
    go (inl same) = let low : s < size_of image i / 256 = names.in_size in inr (same, omega (arith, low, end, ap (λ (x : ℕ). size_of image x / 256) same))
    go (inr other) = inl (d.0, d.1, d.2, other)
directory_done image inodes todo current count i s j some end entered kind names (inr d) = absurd (omega (arith, d.1))

-- a directory is taken up: no entry of it is done yet
pub directory_begins : (image : Image) (inodes todo : Set) (current i s : ℕ) → current < length todo → has todo current ≡ true → IsDone image inodes (without todo current) current 0 i s → IsDone image inodes todo 0 0 i s
directory_begins image inodes todo current i s low there (inl d) = inl (d.0, d.1, sym (has_other todo current i d.3) ∙ d.2, not_file i d.1)
  where
    not_file : (i : ℕ) → kind_of image i ≡ 2 → i ≢ 0
    not_file zero kind same = omega (arith, kind)
    not_file (suc i) kind same = omega (arith, same)
directory_begins image inodes todo current i s low there (inr d) = absurd (omega (arith, d.1))

not_file : (image : Image) (i : ℕ) → kind_of image i ≡ 2 → i ≢ 0
not_file image zero kind same = omega (arith, kind)
not_file image (suc i) kind same = omega (arith, same)

keep : (image : Image) (inodes todo later : Set) (one two slot count : ℕ) → ((i s : ℕ) → IsDone image inodes todo one slot i s → IsDone image inodes later two count i s) → (j : ℕ) →
    NamedBy image inodes todo one slot j → NamedBy image inodes later two count j
keep image inodes todo later one two slot count there j n = record { directory = n.directory; entry = n.entry; done = there n.directory n.entry n.done; names = n.names }

-- an empty entry is passed
module _ (image : Image) (inodes todo : Set) (current slot : ℕ) (empty : ino_at image current slot ≡ 0) where
  slot_more : (i s : ℕ) → IsDone image inodes todo current slot i s → IsDone image inodes todo current (slot + 1) i s
  slot_more i s (inl d) = inl d
  slot_more i s (inr d) = inr (d.0, omega (arith, d.1))

  slot_less : (i s j : ℕ) → EntryNames image i s j → IsDone image inodes todo current (slot + 1) i s → IsDone image inodes todo current slot i s
  slot_less i s j n (inl d) = inl d
  slot_less i s j n (inr d) = go (cases_lt s slot)
    where
      go : (s < slot) ⊎ (slot ≤ s) → IsDone image inodes todo current slot i s
      go (inl low) = inr (d.0, low)
      go (inr high) =
          let same : s ≡ slot = omega (arith, d.1, high) in
          absurd (n.not_empty (sym n.ino ∙ ap (λ (x : ℕ). ino_at image x s) d.0 ∙ ap (ino_at image current) same ∙ empty))

  pub empty_step : (all blocks : Set) → IsUnderWay image all blocks inodes todo current slot → IsUnderWay image all blocks inodes todo current (slot + 1)
  empty_step all blocks state = record {
    scanned = same_scan image (IsEntered image inodes) (IsEntered image inodes) (IsDone image inodes todo current slot) (IsDone image inodes todo current (slot + 1)) all blocks (λ t e. e) (λ t e. e) slot_less state.scanned;
    todo_entered = state.todo_entered;
    named = λ j two e. keep image inodes todo todo current current slot (slot + 1) slot_more j (state.named j two e);
  }

  pub empty_counts : (counts : List ℕ) → CountsAmong image (IsDone image inodes todo current slot) counts → CountsAmong image (IsDone image inodes todo current (slot + 1)) counts
  empty_counts counts are = counts_same image (IsDone image inodes todo current slot) (IsDone image inodes todo current (slot + 1)) counts slot_less slot_more are

-- a directory is taken up
module _ (image : Image) (inodes todo : Set) (current : ℕ) (low : current < length todo) (there : has todo current ≡ true) where
  begun_more : (i s : ℕ) → IsDone image inodes todo 0 0 i s → IsDone image inodes (without todo current) current 0 i s
  begun_more i s (inl d) = inl (d.0, d.1, has_less todo current i low d.2, λ same. clash there (ap (has todo) (sym same) ∙ d.2))
  begun_more i s (inr d) = absurd (omega (arith, d.1))

  pub begin : (all blocks : Set) → IsUnderWay image all blocks inodes todo 0 0 → IsUnderWay image all blocks inodes (without todo current) current 0
  begin all blocks state = record {
    scanned = same_scan image (IsEntered image inodes) (IsEntered image inodes) (IsDone image inodes todo 0 0) (IsDone image inodes (without todo current) current 0) all blocks (λ t e. e) (λ t e. e)
        (λ i s j n d. directory_begins image inodes todo current i s low there d) state.scanned;
    todo_entered = λ i still. state.todo_entered i (before i still (known (has todo i)));
    named = λ j two e. keep image inodes todo (without todo current) 0 current 0 0 begun_more j (state.named j two e);
  }
    where
      before : (i : ℕ) → has (without todo current) i ≡ true → (has todo i ≡ true) ⊎ (has todo i ≡ false) → has todo i ≡ true
      before i still (inl was) = was
      before i still (inr gone) = absurd (clash still (has_less todo current i low gone))

  pub begin_counts : (counts : List ℕ) → CountsAmong image (IsDone image inodes todo 0 0) counts → CountsAmong image (IsDone image inodes (without todo current) current 0) counts
  begin_counts counts are =
      counts_same image (IsDone image inodes todo 0 0) (IsDone image inodes (without todo current) current 0) counts (λ i s j n d. directory_begins image inodes todo current i s low there d) begun_more are

-- a directory is done
module _ (image : Image) (inodes todo : Set) (current count : ℕ) (end : count ≡ size_of image current / 256) (entered : IsEntered image inodes current) (kind : kind_of image current ≡ 2)
    (out : has todo current ≡ false) where
  done_more : (i s : ℕ) → IsDone image inodes todo current count i s → IsDone image inodes todo 0 0 i s
  done_more i s (inl d) = inl (d.0, d.1, d.2, not_file image i d.1)
  done_more i s (inr d) =
      let same : current ≡ i = sym d.0 in
      inl (subst (IsEntered image inodes) same entered, ap (kind_of image) d.0 ∙ kind, ap (has todo) d.0 ∙ out, not_file image i (ap (kind_of image) d.0 ∙ kind))

  done_less : (i s j : ℕ) → EntryNames image i s j → IsDone image inodes todo 0 0 i s → IsDone image inodes todo current count i s
  done_less i s j n d = directory_done image inodes todo current count i s j (not_file image current kind) end entered kind n d

  pub finish : (all blocks : Set) → IsUnderWay image all blocks inodes todo current count → IsUnderWay image all blocks inodes todo 0 0
  finish all blocks state = record {
    scanned = same_scan image (IsEntered image inodes) (IsEntered image inodes) (IsDone image inodes todo current count) (IsDone image inodes todo 0 0) all blocks (λ t e. e) (λ t e. e) done_less state.scanned;
    todo_entered = state.todo_entered;
    named = λ j two e. keep image inodes todo todo current 0 count 0 done_more j (state.named j two e);
  }

  pub finish_counts : (counts : List ℕ) → CountsAmong image (IsDone image inodes todo current count) counts → CountsAmong image (IsDone image inodes todo 0 0) counts
  finish_counts counts are = counts_same image (IsDone image inodes todo current count) (IsDone image inodes todo 0 0) counts done_less done_more are

-- no entry was gone through where the root directory is to do, and no other was entered
none_done : (image : Image) (inodes todo : Set) → ((t : ℕ) → 2 ≤ t → t < inode_count image → has inodes t ≡ true) → has todo 1 ≡ true → (i s : ℕ) → IsDone image inodes todo 0 0 i s → ⊥
none_done image inodes todo rest root zero s (inl d) = d.3 refl
none_done image inodes todo rest root (suc zero) s (inl d) = clash root d.2
none_done image inodes todo rest root (suc (suc i)) s (inl d) = clash (rest (suc (suc i)) (omega arith) d.0.0) d.0.1
none_done image inodes todo rest root i s (inr d) = omega (arith, d.1)

pub started_counts : (image : Image) (inodes todo : Set) (room : ℕ) → ((t : ℕ) → 2 ≤ t → t < inode_count image → has inodes t ≡ true) → has todo 1 ≡ true →
    CountsAmong image (IsDone image inodes todo 0 0) (replicate room 0)
started_counts image inodes todo room rest root = counts_none image (IsDone image inodes todo 0 0) room (none_done image inodes todo rest root)

-- the inode file and the root directory were entered
pub started : (image : Image) (all blocks inodes todo : Set) → 4096 ≤ size_of image 0 → kind_of image 1 ≡ 2 → ((t : ℕ) → 2 ≤ t → t < inode_count image → has inodes t ≡ true) →
    ((t : ℕ) → t < 2 → has inodes t ≡ false) → has todo 1 ≡ true → ((i : ℕ) → i ≢ 1 → has todo i ≡ false) →
    IsScanned image (λ t. ((⊥ ⊎ (t ≡ 0)) ⊎ (t ≡ 1))) (λ i s. ⊥) all blocks → IsUnderWay image all blocks inodes todo 0 0
started image all blocks inodes todo some kind rest out root alone scanned = record {
  scanned = same_scan image (λ t. ((⊥ ⊎ (t ≡ 0)) ⊎ (t ≡ 1))) (IsEntered image inodes) (λ i s. ⊥) (IsDone image inodes todo 0 0) all blocks there back (λ i s j n d. none_done image inodes todo rest root i s d) scanned;
  todo_entered = λ i listed. only i listed (cases_eq i 1);
  named = λ j two e. absurd (clash (rest j two e.0) e.1);
}
  where
    there : (t : ℕ) → (⊥ ⊎ (t ≡ 0)) ⊎ (t ≡ 1) → IsEntered image inodes t
    there t (inl (inl never)) = absurd never
    there t (inl (inr same)) = (omega (arith, same, some), out t (omega (arith, same)))
    there t (inr same) = (omega (arith, same, some), out t (omega (arith, same)))

    back : (t : ℕ) → IsEntered image inodes t → (⊥ ⊎ (t ≡ 0)) ⊎ (t ≡ 1)
    back zero e = inl (inr refl)
    back (suc zero) e = inr refl
    back (suc (suc t)) e = absurd (clash (rest (suc (suc t)) (omega arith) e.0) e.1)

    only : (i : ℕ) → has todo i ≡ true → (i ≡ 1) ⊎ (i ≡ 1 → ⊥) → IsEntered image inodes i × (kind_of image i ≡ 2)
    only i listed (inl same) = (there i (inr same), ap (kind_of image) same ∙ kind)
    only i listed (inr other) = absurd (clash listed (alone i other))
