-- An entry after the last one of a directory for a file that has a name, and then the directory's size.
use Rattle.std.proofs.Common.{◌≡◌, ℕ, Bool, ◌+◌, ◌*◌, ◌/◌, length, set, ◌∙◌, arith, refl}
use Rattle.bp_changes.specs.SameMeaning.{SameMeaning}
use Rattle.bp_free.specs.Set.{Set, has as contains, members}
use Rattle.bp_layout.specs.Paths.{Name}
use Rattle.bp_layout.specs.Inode.{ContentStandsAt, size_of}
use Rattle.bp_layout.specs.Need.Change.{enters as gains}
use Rattle.bp_layout.specs.Reached.{IsReached}
use Rattle.bp_layout.specs.WellFormed.{IsWellFormed}
use Rattle.bp_layout.specs.Words.{Image}
use Rattle.bp_changes.specs.Sets.{AreExact}
use Rattle.bp_changes.specs.Performs.{PerformsWithin}
use Rattle.pm_epochs.specs.Crash.{commit}
use Rattle.pm_epochs.specs.May.{AnyAt}
use Rattle.pm_region.specs.Memory.{Memory, current_words, Adds}
use Rattle.pm_region.specs.Safe.{AddsMay}
use Rattle.bp_calls.specs.Entered.{IsReadyPastEnd}
use Rattle.bp_calls.specs.Entries.{PutsPastEnd}
use Rattle.bp_calls.specs.Growth.{stores_after_growth}
use Rattle.bp_calls.specs.Steps.{name_need, CanLinkPastEnd}
use Rattle.bp_calls.specs.Created.{CountsMore, LinksEntry}
use Rattle.bp_layout.specs.Need.Entrant.{linked}
use Rattle.pm_region.proofs.MayLaws.{may_none}
use Rattle.bp_changes.proofs.LinksName as linking
use Rattle.bp_changes.proofs.Named.{linked_counts}
use Rattle.bp_calls.proofs.EnteredLaws.{EntersLink}
use Rattle.bp_calls.proofs.EnteredOver.{links_entry_over, links_over}
use Rattle.bp_calls.proofs.GrownLaws.{grown_links}
use Rattle.bp_calls.proofs.SetLaws.{free_inodes_stay}
use Rattle.bp_calls.proofs.SlotStores.{IsHidden}
use Rattle.bp_calls.proofs.PastEndStores.{KeepsGrown, past_end_committed, past_end_sets, past_end_slot, past_end_within, done_file, full_before, full_file, full_meaning, full_missing, full_size_at, full_there, full_well_formed, put_ready}

module _ {in_snapshot : ℕ → Bool} (first second last : Memory) (blocks after : Set) (i j place : ℕ) (name : Name) (can : CanLinkPastEnd in_snapshot first blocks i j name)
    (puts : PutsPastEnd in_snapshot first second (members blocks) (members after) i j name) (size_at : ContentStandsAt (current_words first) 0 (8 * i + 2) place)
    (commits : Adds second last (commit place (size_of (current_words first) i + 256))) where
  abbrev image : Image
  image = current_words first

  abbrev mid : Image
  mid = current_words second

  abbrev done : Image
  done = set mid place (size_of mid i + 256)

  wf : IsWellFormed image
  wf = can.can.lacks.well_formed

  -- ---- nothing is stored after the preparation

  none : AddsMay (AnyAt (IsHidden in_snapshot mid)) 0 0 second second
  none = may_none (AnyAt (IsHidden in_snapshot mid)) second

  keeps : KeepsGrown mid mid i
  keeps = record { back = λ b has. has; stay = λ b has. has }

  mid_ready : IsReadyPastEnd mid i j name
  mid_ready = put_ready first second blocks after i j name can.can puts

  well : IsWellFormed mid
  well = full_well_formed first second second last blocks after i j place 0 name can.can puts none mid_ready keeps size_at commits

  meaning : SameMeaning image mid
  meaning = full_meaning first second second last blocks after i j place 0 name can.can puts none mid_ready keeps size_at commits

  same_file : size_of mid 0 ≡ size_of image 0
  same_file = full_file first second second last blocks after i j place 0 name can.can puts none mid_ready keeps size_at commits

  mid_there : IsReached mid j
  mid_there = full_there first second second last blocks after i j place 0 name can.can puts none mid_ready keeps size_at commits j can.there

  -- ---- after the size

  committed : current_words last ≡ done
  committed = past_end_committed first second second last blocks after i j place 0 name can.can puts none mid_ready keeps size_at commits

  links : EntersLink mid done i (size_of mid i / 256) j name
  links = grown_links mid well i j place name mid_there (meaning.kind j can.there ∙ can.file) mid_ready can.can.lacks.form (full_missing first second second last blocks after i j place 0 name can.can puts none mid_ready keeps size_at commits) (full_size_at first second second last blocks after i j place 0 name can.can puts none mid_ready keeps size_at commits)

  effect : LinksEntry i name j image done
  effect = links_entry_over image mid done wf meaning i (size_of mid i / 256) j name (past_end_slot first second second last blocks after i j place 0 name can.can puts none mid_ready keeps size_at commits) same_file links

  pub link_past_end_performs : PerformsWithin in_snapshot (name_need image i) 5 (stores_after_growth (name_need image i)) first last (gains i linked) (LinksEntry i name j)
  link_past_end_performs =
      past_end_within first second second last blocks after i j place 0 name can.can puts none mid_ready keeps size_at commits (gains i linked) (LinksEntry i name j) (omega arith) refl
      (linking.linked_well_formed mid done well i (size_of mid i / 256) j links.adds) effect

  -- ---- the sets

  done_before : (t : ℕ) → IsReached done t → IsReached image t
  done_before t there = full_before first second second last blocks after i j place 0 name can.can puts none mid_ready keeps size_at commits t (linking.reached_back mid done well i (size_of mid i / 256) j links.adds t there)

  done_stays : (t : ℕ) → IsReached image t → IsReached done t
  done_stays t there = linking.reached_stays mid done well i (size_of mid i / 256) j links.adds t (full_there first second second last blocks after i j place 0 name can.can puts none mid_ready keeps size_at commits t there)

  pub link_past_end_exact : length after ≡ length blocks → (inodes : Set) → AreExact image in_snapshot blocks inodes → AreExact (current_words last) in_snapshot after inodes
  link_past_end_exact room inodes exact =
      rw committed
      (past_end_sets first second second last blocks after i j place 0 name can.can puts none mid_ready keeps size_at commits (λ t b there has. done_before t there) done_stays
      (links.adds.trees.whole ∙ meaning.trees.whole) room inodes inodes exact refl
      (free_inodes_stay image done (contains inodes) (done_file first second second last blocks after i j place 0 name can.can puts none mid_ready keeps size_at commits) done_before done_stays exact.free_inodes))

  pub link_past_end_counts : CountsMore image (current_words last) j
  link_past_end_counts = rw committed
      (λ counts low are. linked_counts image done wf i (size_of mid i / 256) j (links_over image mid done wf meaning i (size_of mid i / 256) j same_file links.adds) counts are low)
