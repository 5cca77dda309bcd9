-- An entry after the last one of a directory, a new inode, and then the directory's size.
use Rattle.std.proofs.Common.{◌≡◌, ◌⊎◌, ℕ, Bool, false, ◌+◌, ◌*◌, ◌/◌, ◌≤◌, [], length, set, ◌∙◌, ap, arith, inl, inr, refl}
use Rattle.bp_limits.specs.Limits.{inode_fields}
use Rattle.bp_limits.proofs.Versions.{fields_most}
use Rattle.bp_layout.specs.Formatted.{version_of}
use Rattle.bp_changes.specs.SameMeaning.{SameMeaning}
use Rattle.bp_changes.proofs.AddsNames.{reached_cases, reached_stays}
use Rattle.bp_free.specs.Set.{Set, members, without}
use Rattle.bp_read.specs.Filled.{FillsInode}
use Rattle.bp_layout.specs.Paths.{Name}
use Rattle.bp_layout.specs.Fields.{kind_word}
use Rattle.bp_layout.specs.Free.{IsFreeInode}
use Rattle.bp_layout.specs.Inode.{ContentStandsAt, root_of, size_of}
use Rattle.bp_layout.specs.Need.Change.{enters as gains}
use Rattle.bp_layout.specs.Need.Entrant.{taken}
use Rattle.bp_layout.specs.Reached.{IsReached}
use Rattle.bp_layout.specs.Reached.IsReached.{inode_file}
use Rattle.bp_layout.specs.Tree.{HasBlock}
use Rattle.bp_layout.specs.WellFormed.{IsWellFormed}
use Rattle.bp_layout.specs.Words.{Image, word}
use Rattle.bp_layout.specs.declared.fields.Kind.{Kind}
use Rattle.bp_layout.proofs.SmallTrees.{empty_has_none}
use Rattle.bp_changes.specs.Sets.{AreExact}
use Rattle.bp_changes.specs.Performs.{PerformsWithin}
use Rattle.bp_read.specs.Within.{IsWithin}
use Rattle.pm_epochs.specs.Crash.{commit}
use Rattle.pm_epochs.specs.May.{AnyAt}
use Rattle.pm_region.specs.Memory.{Memory, current_words, Adds}
use Rattle.pm_region.specs.Safe.{AddsMay}
use Rattle.pm_region.proofs.MayLaws.{may_frame, may_weaker, each_after}
use Rattle.bp_calls.specs.Created.{CountsName, EntersName}
use Rattle.bp_calls.specs.Entered.{IsNewInode, IsReadyPastEnd}
use Rattle.bp_calls.specs.Entries.{PutsPastEnd}
use Rattle.bp_calls.specs.Growth.{stores_after_growth}
use Rattle.bp_calls.specs.Spare.{IsSpare}
use Rattle.bp_calls.specs.Steps.{CanEnterPastEnd, name_need}
use Rattle.bp_calls.proofs.EnteredLaws.{Enters}
use Rattle.bp_calls.proofs.GrownLaws.{grown}
use Rattle.bp_calls.proofs.InSlot.{inode_inside, inode_row}
use Rattle.bp_calls.proofs.OpenPlaces.{each_weaker}
use Rattle.bp_calls.proofs.ReadBack.{new_inode}
use Rattle.bp_calls.proofs.ReadyKept.{ready_kept, ready_back, ready_stays}
use Rattle.bp_calls.proofs.SetLaws.{free_inodes_taken, length_without}
use Rattle.bp_calls.proofs.EnteredOver.{adds_over, enters_well_formed, enters_over}
use Rattle.bp_calls.proofs.Trees.{SameTrees, spare_trees}
use Rattle.bp_changes.proofs.Named.{added_counts}
use Rattle.bp_calls.proofs.SlotStores.{IsHidden}
use Rattle.bp_calls.proofs.PastEndStores.{KeepsGrown, past_end_committed, past_end_sets, past_end_slot, past_end_within, done_file, full_before, full_meaning, full_missing, full_size_at, full_there, full_well_formed, put_before, put_ready, put_row_back, put_well_formed_past_end}

module _ {in_snapshot : ℕ → Bool} (first second : Memory) (blocks after : Set) (i j : ℕ) (name : Name) (can : CanEnterPastEnd in_snapshot first blocks i j name) (puts : PutsPastEnd in_snapshot first second (members blocks) (members after) i j name) where
  pub put_free : IsFreeInode (current_words second) j
  put_free = record {
    low = can.free.low;
    high = rw (puts.prepared.ready.sizes 0 inode_file) can.free.high;
    free = λ there. can.free.free (put_before first second blocks after i j name can.can puts j there);
  }

module _ {in_snapshot : ℕ → Bool} (first second third last : Memory) (blocks after : Set) (i j place : ℕ) (name : Name) (kind : Kind) (can : CanEnterPastEnd in_snapshot first blocks i j name)
    (puts : PutsPastEnd in_snapshot first second (members blocks) (members after) i j name) (filled : FillsInode second third j (kind_word kind)) (size_at : ContentStandsAt (current_words first) 0 (8 * i + 2) place)
    (commits : Adds third last (commit place (size_of (current_words first) i + 256))) where
  abbrev image : Image
  image = current_words first

  abbrev mid : Image
  mid = current_words second

  abbrev full : Image
  full = current_words third

  abbrev at : ℕ
  at = filled.place

  wf : IsWellFormed image
  wf = can.can.lacks.well_formed

  -- ---- after the inode

  mid_well_formed : IsWellFormed mid
  mid_well_formed = put_well_formed_past_end first second blocks after i j name can.can puts

  mid_ready : IsReadyPastEnd mid i j name
  mid_ready = put_ready first second blocks after i j name can.can puts

  mid_free : IsFreeInode mid j
  mid_free = put_free first second blocks after i j name can puts

  inode_at : ContentStandsAt mid 0 (8 * j + 0) at
  inode_at = inode_row mid j at filled.stands

  inode_loose : in_snapshot (at / 512) ≡ false
  inode_loose = can.loose at (put_row_back first second blocks after i j name can.can puts j at can.free.high inode_at)

  abbrev fields : ℕ
  fields = inode_fields (version_of mid)

  few : fields ≤ 8
  few = fields_most (version_of mid)

  hidden : AddsMay (AnyAt (IsHidden in_snapshot mid)) 0 fields second third
  hidden = may_weaker (AnyAt (IsWithin at fields)) (AnyAt (IsHidden in_snapshot mid)) 0 fields second third (inode_inside mid mid_well_formed j at [] mid_free inode_at inode_loose) filled.stores

  trees : SameTrees mid full
  trees = spare_trees mid full mid_well_formed (each_weaker (IsHidden in_snapshot mid) (IsSpare mid) mid full (λ p both. both.0) (each_after (AnyAt (IsHidden in_snapshot mid)) 0 fields second third hidden))

  frame : (p : ℕ) → (IsWithin at 8 p → ⊥) → word full p ≡ word mid p
  frame p beside =
      may_frame (AnyAt (IsWithin at fields)) 0 fields second third filled.stores p (λ v within. beside (record { low = within.low; high = omega (arith, within.high, few) }))

  fresh : IsNewInode full j (kind_word kind)
  fresh = new_inode mid full mid_well_formed trees j at kind mid_free inode_at filled.inode

  full_ready : IsReadyPastEnd full i j name
  full_ready = ready_kept mid full mid_well_formed trees i j at name mid_free inode_at frame mid_ready can.can.lacks.form

  keeps : KeepsGrown mid full i
  keeps = record {
    back = ready_back mid full mid_well_formed trees i j at name mid_free inode_at frame mid_ready;
    stay = ready_stays mid full mid_well_formed trees i j at name mid_free inode_at frame mid_ready;
  }

  -- ---- after the size

  abbrev done : Image
  done = set full place (size_of full i + 256)

  well : IsWellFormed full
  well = full_well_formed first second third last blocks after i j place fields name can.can puts hidden full_ready keeps size_at commits

  meaning : SameMeaning image full
  meaning = full_meaning first second third last blocks after i j place fields name can.can puts hidden full_ready keeps size_at commits

  committed : current_words last ≡ done
  committed = past_end_committed first second third last blocks after i j place fields name can.can puts hidden full_ready keeps size_at commits

  enters : Enters full done i (size_of full i / 256) j name (kind_word kind)
  enters = grown full well i j (kind_word kind) place name fresh full_ready can.can.lacks.form (full_missing first second third last blocks after i j place fields name can.can puts hidden full_ready keeps size_at commits) (full_size_at first second third last blocks after i j place fields name can.can puts hidden full_ready keeps size_at commits)

  effect : EntersName i name kind image done
  effect = enters_over image full done wf meaning i (size_of full i / 256) j name kind can.free (past_end_slot first second third last blocks after i j place fields name can.can puts hidden full_ready keeps size_at commits) enters

  pub past_end_performs : PerformsWithin in_snapshot (name_need image i) 5 (stores_after_growth (name_need image i)) first last (gains i (taken j)) (EntersName i name kind)
  past_end_performs =
      past_end_within first second third last blocks after i j place fields name can.can puts hidden full_ready keeps size_at commits (gains i (taken j)) (EntersName i name kind) few refl
      (enters_well_formed full done well i (size_of full i / 256) j (kind_word kind) name enters) effect

  -- ---- the sets

  done_cases : (t : ℕ) → IsReached done t → (t ≡ j) ⊎ IsReached image t
  done_cases t there =
      elim (reached_cases full done well i (size_of full i / 256) j enters.adds t there) [
        | inl e ↦ inl e
        | inr was ↦ inr (full_before first second third last blocks after i j place fields name can.can puts hidden full_ready keeps size_at commits t was)
      ]

  done_stays : (t : ℕ) → IsReached image t → IsReached done t
  done_stays t there = reached_stays full done well i (size_of full i / 256) j enters.adds t (full_there first second third last blocks after i j place fields name can.can puts hidden full_ready keeps size_at commits t there)

  done_before : (t b : ℕ) → IsReached done t → HasBlock done (root_of done t) (size_of done t) b → IsReached image t
  done_before t b there has =
      elim (done_cases t there) [
        | inl e ↦ absurd (empty_has_none done (root_of done t) b (rw (ap (size_of done) e ∙ enters.adds.new_size) at has))
        | inr was ↦ was
      ]

  pub past_end_exact : length after ≡ length blocks → (inodes : Set) → AreExact image in_snapshot blocks inodes → AreExact (current_words last) in_snapshot after (without inodes j)
  past_end_exact room inodes exact =
      rw committed
      (past_end_sets first second third last blocks after i j place fields name can.can puts hidden full_ready keeps size_at commits done_before done_stays
      (enters.adds.trees.whole ∙ meaning.trees.whole) room inodes (without inodes j) exact (length_without inodes j)
      (free_inodes_taken image done inodes j (done_file first second third last blocks after i j place fields name can.can puts hidden full_ready keeps size_at commits) (exact.free_inodes.all j can.free)
      (IsReached.named (size_of full i / 256) (done_stays i can.can.lacks.reached) enters.adds.entry) done_cases done_stays exact.free_inodes))

  pub past_end_counts : CountsName image (current_words last) j
  past_end_counts = rw committed
      (λ counts are. added_counts image done wf i (size_of full i / 256) j (adds_over image full done wf meaning i (size_of full i / 256) j enters.adds) counts are)
