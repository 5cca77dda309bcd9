-- A directory is taken up, and is done.
use Rattle.std.proofs.Common.{◌≡◌, ℕ, zero, suc, ◌+◌, ◌/◌, ◌<◌, ◌≤◌, Bool, true, length, sym, ◌∙◌, ap, subst, arith}
use Rattle.bp_free.specs.Set.{Set, has, members, without, IsLeast}
use Rattle.bp_free.proofs.Members.{count_without}
use Rattle.bp_layout.specs.Words.{Image}
use Rattle.bp_layout.specs.Tree.{IsSound, IsFull}
use Rattle.bp_layout.specs.Inode.{kind_of, root_of, size_of}
use Rattle.bp_layout.specs.Checks.{Fails}
use Rattle.bp_layout.specs.declared.check.Check.{Check}
use Rattle.bp_walk.proofs.TakenLaws.{length_without, has_without}
use Rattle.bp_layout.specs.WellFormed.{IsWellFormed}
use Rattle.bp_spelling.specs.Names.{AreNames}
use Rattle.bp_scan.specs.Misspelled.{FailsNames}
use Rattle.bp_scan.specs.Walked.{IsWalkFault}
use Rattle.bp_scan.specs.declared.name_check.WalkFault.{WalkFault}
use Rattle.bp_scan.specs.declared.name_check.WalkFault.TheVariants.{Check as Checked, Memory}
use Rattle.bp_scan.specs.Reading.{IsReading, IsAtHand, IsInside, steps}
use Rattle.bp_scan.specs.declared.directories.Directory.{Directory}
use Rattle.bp_scan.specs.declared.work.Scan.{Scan}
use Rattle.bp_scan.proofs.ProgressLaws.{begin, begin_counts, finish, finish_counts}
use Rattle.bp_scan.proofs.Inside.{here_sound, here_full, names_fail, names_known}
use Rattle.bp_scan.proofs.EntryLaws.{along}

pub not_file : (image : Image) (i : ℕ) → kind_of image i ≡ 2 → 1 ≤ i
not_file image zero kind = absurd (omega (arith, kind))
not_file image (suc i) kind = omega arith

-- the work with other directories to do
abbrev pub to_do : Scan → Set → Scan
to_do work todo = record { blocks = work.blocks; inodes = work.inodes; todo = todo; counts = work.counts; totals = work.totals }

-- a directory that was to do is at hand
taken_up : (image : Image) (work : Scan) (current : ℕ) → current < length work.todo → has work.todo current ≡ true → IsReading image work 0 0 → IsAtHand image (to_do work (without work.todo current)) current 0
taken_up image work current low there reading = record {
  reading = record {
    ready = reading.ready;
    room = record { blocks = reading.room.blocks; inodes = reading.room.inodes; todo = length_without work.todo current ∙ reading.room.todo; counts = reading.room.counts };
    range = reading.range;
    root_kind = reading.root_kind;
    midway = record {
      all = reading.midway.all;
      whole = reading.midway.whole;
      under_way = begin image work.inodes work.todo current low there reading.midway.all work.blocks reading.midway.under_way;
    };
    counts = begin_counts image work.inodes work.todo current low there work.counts reading.counts;
    counted = reading.counted;
  };
  entered = (reading.midway.under_way.todo_entered current there).0;
  kind = (reading.midway.under_way.todo_entered current there).1;
  out = has_without work.todo current low;
}

pub taken_least : (image : Image) (work : Scan) (later : Set) (i : ℕ) → IsReading image work 0 0 → IsLeast work.todo i → later ≡ without work.todo i → IsAtHand image (to_do work later) i 0
taken_least image work later i reading least later_is = subst (λ (s : Set). IsAtHand image (to_do work s) i 0) (sym later_is) (taken_up image work i least.low least.is_in reading)

module _ (image : Image) (work : Scan) (directory : Directory) (at : IsAtHand image work directory.inode 0)
    (root : directory.tree.root ≡ root_of image directory.inode) (size : directory.tree.size ≡ size_of image directory.inode) where
  pub begun_sound : IsSound image directory.tree.root directory.tree.size
  begun_sound = along (IsSound image) _ _ _ _ (sym root) (sym size) (here_sound image work directory.inode 0 at.reading at.entered at.kind)

  pub begun_full : IsFull image directory.tree.root directory.tree.size
  begun_full = along (IsFull image) _ _ _ _ (sym root) (sym size) (here_full image work directory.inode 0 at.reading at.entered at.kind)

  pub begun_known : IsWellFormed image → AreNames image directory.tree.root directory.tree.size
  begun_known wf = along (AreNames image) _ _ _ _ (sym root) (sym size) (names_known image work directory.inode 0 at.reading at.entered at.kind wf)

  begun_names_fail : (c : Check) (p : ℕ) → FailsNames image directory.tree.root directory.tree.size c p → Fails image c p
  begun_names_fail c p fails =
      names_fail image work directory.inode 0 at.reading at.entered at.kind c p (along (λ x y. FailsNames image x y c p) _ _ _ _ root size fails)

  pub begun_walk_fault : (known : Bool) (fault : WalkFault) → IsWalkFault (FailsNames image directory.tree.root directory.tree.size) known fault → IsWalkFault (Fails image) known fault
  begun_walk_fault known (Checked fault) fails = begun_names_fail fault.check fault.place fails
  begun_walk_fault known Memory unknown = unknown

-- its last slot is past
pub finished : (image : Image) (work : Scan) (directory : Directory) → IsInside image work directory (directory.tree.size / 256) → IsReading image work 0 0
finished image work directory inside = record {
  ready = inside.at.reading.ready;
  room = inside.at.reading.room;
  range = inside.at.reading.range;
  root_kind = inside.at.reading.root_kind;
  midway = record {
    all = inside.at.reading.midway.all;
    whole = inside.at.reading.midway.whole;
    under_way =
        finish image work.inodes work.todo directory.inode (directory.tree.size / 256) (ap (λ (x : ℕ). x / 256) (sym inside.size)) inside.at.entered inside.at.kind inside.at.out
        inside.at.reading.midway.all work.blocks inside.at.reading.midway.under_way;
  };
  counts =
      finish_counts image work.inodes work.todo directory.inode (directory.tree.size / 256) (ap (λ (x : ℕ). x / 256) (sym inside.size)) inside.at.entered inside.at.kind inside.at.out
      work.counts inside.at.reading.counts;
  counted = inside.at.reading.counted;
}

-- a directory less
pub steps_fall : (work : Scan) (later : Set) (after : Scan) (i : ℕ) → IsLeast work.todo i → later ≡ without work.todo i → steps after ≤ steps (to_do work later) → steps after < steps work
steps_fall work later after i least later_is less =
    let one : length (members (without work.todo i)) + 1 ≡ length (members work.todo) = count_without work.todo i least.low least.is_in in
    let same : length (members later) ≡ length (members (without work.todo i)) = ap (λ (s : Set). length (members s)) later_is in
    omega (arith, one, same, less)
