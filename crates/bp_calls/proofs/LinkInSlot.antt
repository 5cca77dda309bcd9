-- A name in an empty entry, and then the inode number of a file that has a name.
use Rattle.std.proofs.Common.{◌≡◌, ℕ, Bool, false, ◌+◌, ◌*◌, ◌/◌, None, Some, set, refl, sym, ◌∙◌, subst, arith}
use Rattle.bp_calls.specs.Entered.{IsReadyEntry}
use Rattle.bp_layout.specs.Need.Change.{enters as gains}
use Rattle.bp_layout.specs.Need.Entrant.{linked}
use Rattle.bp_changes.specs.Performs.{PerformsWithin}
use Rattle.bp_calls.specs.Growth.{stores_after_growth}
use Rattle.bp_layout.specs.Directory.{empty_slot, slot_named}
use Rattle.bp_layout.specs.Paths.{Name}
use Rattle.bp_layout.specs.Inode.{kind_of, ContentStandsAt}
use Rattle.bp_changes.specs.Sets.{AreExact}
use Rattle.bp_calls.specs.Steps.{name_need, CanLink, HasLooseWord}
use Rattle.bp_read.specs.Written.{HasNameAt}
use Rattle.bp_read.specs.Within.{IsWithin}
use Rattle.bp_free.specs.Set.{Set}
use Rattle.bp_layout.specs.Reached.{IsReached}
use Rattle.bp_layout.specs.WellFormed.{IsWellFormed}
use Rattle.bp_layout.specs.Words.{Image}
use Rattle.pm_epochs.specs.Crash.{commit}
use Rattle.pm_epochs.specs.May.{AnyAt}
use Rattle.pm_region.specs.Memory.{Memory, current_words, Adds}
use Rattle.pm_region.specs.Safe.{AddsMay}
use Rattle.pm_region.proofs.MayLaws.{may_weaker}
use Rattle.bp_calls.proofs.AfterLaws.{kind_after, reached_after}
use Rattle.bp_calls.proofs.SetLaws.{exact_prepared, exact_linked}
use Rattle.bp_calls.proofs.Trees.{SameTrees}
use Rattle.bp_calls.proofs.SlotStores.{IsHidden, name_hidden, slot_committed, slot_entry, slot_is, slot_mid, slot_missing, slot_ready, slot_trees, slot_within}
use Rattle.bp_calls.specs.Created.{CountsMore, LinksEntry}
use Rattle.bp_calls.proofs.EnteredLaws.{EntersLink, linked as linked_entry}
use Rattle.bp_calls.proofs.EnteredOver.{links_entry_over, links_over}
use Rattle.bp_changes.proofs.LinksName as linking
use Rattle.bp_changes.proofs.Named.{linked_counts}

module _ (in_snapshot : ℕ → Bool) (first third last : Memory) (i s j entry : ℕ) (name : Name) (can : CanLink (current_words first) i j name)
    (found : empty_slot (current_words first) i ≡ Some s) (entry_at : ContentStandsAt (current_words first) i (32 * s + 0) entry)
    (loose_entry : HasLooseWord (current_words first) in_snapshot i (32 * s + 0)) (spells : AddsMay (AnyAt (IsWithin (entry + 1) 31)) 0 31 first third) (named : HasNameAt (current_words third) entry name)
    (commits : Adds third last (commit entry j)) where
  abbrev image : Image
  image = current_words first

  abbrev mid : Image
  mid = current_words third

  abbrev after : Image
  after = set mid entry j

  loose : in_snapshot (entry / 512) ≡ false
  loose = loose_entry entry entry_at

  wf : IsWellFormed image
  wf = can.lacks.well_formed

  hidden : AddsMay (AnyAt (IsHidden in_snapshot image)) 0 31 first third
  hidden = may_weaker (AnyAt (IsWithin (entry + 1) 31)) (AnyAt (IsHidden in_snapshot image)) 0 31 first third (name_hidden image wf i s entry can.lacks.reached can.lacks.directory found entry_at loose) spells

  trees : SameTrees image mid
  trees = slot_trees first third last i s j entry 31 name can.lacks found entry_at loose hidden named commits

  mid_well_formed : IsWellFormed mid
  mid_well_formed = slot_mid first third last i s j entry 31 name can.lacks found entry_at loose hidden named commits

  ready : IsReadyEntry mid i s name
  ready = slot_ready first third last i s j entry 31 name can.lacks found entry_at loose hidden named commits

  missing : slot_named mid i name ≡ None
  missing = slot_missing first third last i s j entry 31 name can.lacks found entry_at loose hidden named commits

  mid_entry : ContentStandsAt mid i (32 * s + 0) entry
  mid_entry = slot_entry first third last i s j entry 31 name can.lacks found entry_at loose hidden named commits

  committed : current_words last ≡ after
  committed = slot_committed first third last i s j entry 31 name can.lacks found entry_at loose hidden named commits

  mid_there : IsReached mid j
  mid_there = reached_after image mid wf trees.prepared j can.there

  mid_file : kind_of mid j ≡ 1
  mid_file = kind_after image mid wf trees.prepared j can.there ∙ can.file

  links : EntersLink mid after i s j name
  links = linked_entry mid mid_well_formed i s j entry name ready can.lacks.form missing mid_entry mid_there mid_file

  effect : LinksEntry i name j image (current_words last)
  effect =
      subst (λ w. LinksEntry i name j image w) (sym committed)
      (links_entry_over image mid after wf trees.prepared.meaning i s j name (slot_is first third last i s j entry 31 name can.lacks found entry_at loose hidden named commits) trees.prepared.inode_bytes links)

  pub link_performs : PerformsWithin in_snapshot (name_need image i) 5 (stores_after_growth (name_need image i)) first last (gains i linked) (LinksEntry i name j)
  link_performs =
      slot_within first third last i s j entry 31 name can.lacks found entry_at loose hidden named commits (gains i linked) (LinksEntry i name j) (omega arith) refl refl
      (linking.linked_well_formed mid after mid_well_formed i s j links.adds) (linking.reached_stays mid after mid_well_formed i s j links.adds i ready.reached) effect

  pub link_exact : (held : ℕ → Bool) (blocks inodes : Set) → AreExact image held blocks inodes → AreExact (current_words last) held blocks inodes
  link_exact held blocks inodes exact =
      subst (λ w. AreExact w held blocks inodes) (sym committed)
      (exact_linked mid mid_well_formed i s j entry name ready can.lacks.form missing mid_entry blocks inodes (exact_prepared image mid wf trees.prepared blocks inodes exact) mid_there mid_file)

  pub link_counts : CountsMore image (current_words last) j
  link_counts = subst (λ w. CountsMore image w j) (sym committed)
      (λ counts low are. linked_counts image after wf i s j (links_over image mid after wf trees.prepared.meaning i s j trees.prepared.inode_bytes links.adds) counts are low)
