-- Names keep their slots through each change, but those that leave, move or are spelled again.
use Rattle.std.proofs.Common.{◌≡◌, ◌≢◌, ℕ, sym, ◌∙◌, ap₂, subst}
use Rattle.bp_layout.specs.Directory.{EntryNames, ino_at, name_at}
use Rattle.bp_layout.specs.Hints.{NameIn, IsSlotOf}
use Rattle.bp_layout.specs.Reached.{IsReached}
use Rattle.bp_layout.specs.WellFormed.{IsWellFormed}
use Rattle.bp_layout.specs.Words.{Image}
use Rattle.bp_layout.proofs.HintLaws.{IsEntryFor, entry_of_slot, slot_of_entry}
use Rattle.bp_changes.specs.Effects.{AddsNames, CanMoveEntry, CanUnlink, CarriesEntry, IsAtOrBelow, LinksName, MovesEntry, RemovesEntry, RespellsEntry}
use Rattle.bp_changes.specs.KeepsSlots.{KeepsSlots, KeepsOther, KeepsOthers}
use Rattle.bp_changes.proofs.AddsNames.{adds_takes}
use Rattle.bp_changes.proofs.Carry as carry
use Rattle.bp_changes.proofs.EntryAdded as added
use Rattle.bp_changes.proofs.EntryAdded.{TakesName}
use Rattle.bp_changes.proofs.GainsEntry.{GainsEntry, adds_gain, links_gain}
use Rattle.bp_changes.proofs.LinksName.{links_takes}
use Rattle.bp_changes.proofs.Move as move
use Rattle.bp_changes.proofs.MoveReach.{carried_on, moved_on, respelled_on}
use Rattle.bp_changes.proofs.Respell as respell
use Rattle.bp_changes.proofs.Unlink as unlink

-- an entry that keeps its slot and its name
stays : (old new : Image) → IsWellFormed new → (name : NameIn) (slot : ℕ) → IsEntryFor old name slot → IsReached new name.0 → EntryNames new name.0 slot (ino_at old name.0 slot) →
    name_at new name.0 slot ≡ name_at old name.0 slot → IsSlotOf new name slot
stays old new wf name slot was reached entry same = slot_of_entry new name.0 slot (ino_at old name.0 slot) name.1 wf reached entry (same ∙ was.spelled)

-- the entry of another name is another one
other_entry : (image : Image) (name : NameIn) (slot i s : ℕ) → IsEntryFor image name slot → name ≢ (i, name_at image i s) → (name.0 ≡ i) → (slot ≡ s) → ⊥
other_entry image name slot i s was differs here there =
    differs (ap₂ (λ d n. (d, n)) here (sym was.spelled ∙ ap₂ (λ d r. name_at image d r) here there))

-- one name more, whichever inode has it
gains_keep : (old new : Image) → IsWellFormed old → (i s j : ℕ) → GainsEntry old new i s j → TakesName old new j → KeepsSlots old new
gains_keep old new wf i s j gains takes name slot of =
    let was : IsEntryFor old name slot = entry_of_slot old name slot of in
    stays old new (added.linked_well_formed old new wf i s j gains takes) name slot was (added.reached_stays old new wf i s j gains takes name.0 of.reached)
    (gains.stay name.0 slot (ino_at old name.0 slot) of.reached was.entry)
    (gains.same_names name.0 slot (ino_at old name.0 slot) of.reached was.entry)

-- an inode that nobody named
pub adds_keeps : (old new : Image) → IsWellFormed old → (i s j : ℕ) → AddsNames old new i s j → KeepsSlots old new
adds_keeps old new wf i s j adds = gains_keep old new wf i s j (adds_gain old new i s j adds) (adds_takes old new i s j adds)

-- a file that has a name
pub links_keeps : (old new : Image) → IsWellFormed old → (i s j : ℕ) → LinksName old new i s j → KeepsSlots old new
links_keeps old new wf i s j links = gains_keep old new wf i s j (links_gain old new i s j links) (links_takes old new wf i s j links)

-- One name fewer. What it names has no entry, so no directory with a name in it goes; other names of a file stay.
pub removes_keeps : (old new : Image) → IsWellFormed old → (i s j : ℕ) → CanUnlink old i s j → RemovesEntry old new i s → KeepsOther old new (i, name_at old i s)
removes_keeps old new wf i s j can removes name slot differs of =
    let was : IsEntryFor old name slot = entry_of_slot old name slot of in
    stays old new (unlink.unlinked_well_formed old new wf i s j can removes) name slot was
    (unlink.reached_stays old new wf i s j can removes name.0 of.reached (λ e. can.alone slot (ino_at old name.0 slot) (subst (λ d. EntryNames old d slot (ino_at old name.0 slot)) e was.entry)))
    (unlink.names_stay old new wf i s j can removes name.0 slot (ino_at old name.0 slot) of.reached was.entry (other_entry old name slot i s was differs))
    (unlink.name_stays old new wf i s j can removes name.0 slot (ino_at old name.0 slot) of.reached was.entry)

-- a name that comes onto another
pub moves_keeps : (old new : Image) → IsWellFormed old → (i s k r j : ℕ) → CanMoveEntry old i s k r j → MovesEntry old new i s k r j → (IsAtOrBelow old j k → ⊥) →
    KeepsOthers old new (i, name_at old i s) (k, name_at old k r)
moves_keeps old new wf i s k r j can moves outside name slot differs also of =
    let was : IsEntryFor old name slot = entry_of_slot old name slot of in
    stays old new (move.moved_well_formed old new wf i s k r j can moves) name slot was
    (moved_on old new wf i s k r j can moves outside name.0 of.reached
    (λ some e. can.alone slot (ino_at old name.0 slot) (λ none. some (e ∙ none)) (subst (λ d. EntryNames old d slot (ino_at old name.0 slot)) e was.entry)))
    (move.names_stay old new wf i s k r j can moves name.0 slot (ino_at old name.0 slot) of.reached was.entry (other_entry old name slot i s was differs) (other_entry old name slot k r was also))
    (move.name_of_old old new wf i s k r j can moves name.0 slot (ino_at old name.0 slot) of.reached was.entry)

-- a name that is spelled again
pub respells_keeps : (old new : Image) → IsWellFormed old → (i s j : ℕ) → RespellsEntry old new i s j → KeepsOther old new (i, name_at old i s)
respells_keeps old new wf i s j spells name slot differs of =
    let was : IsEntryFor old name slot = entry_of_slot old name slot of in
    stays old new (respell.respelled_well_formed old new wf i s j spells) name slot was (respelled_on old new wf i s j spells name.0 of.reached)
    (respell.names_stay old new wf i s j spells name.0 slot (ino_at old name.0 slot) of.reached was.entry)
    (respell.name_stays old new wf i s j spells name.0 slot (ino_at old name.0 slot) of.reached was.entry (other_entry old name slot i s was differs))

-- a name that is carried to another directory
pub carries_keeps : (old new : Image) → IsWellFormed old → (i s k r j : ℕ) → CarriesEntry old new i s k r j → (IsAtOrBelow old j k → ⊥) → KeepsOther old new (i, name_at old i s)
carries_keeps old new wf i s k r j carries outside name slot differs of =
    let was : IsEntryFor old name slot = entry_of_slot old name slot of in
    let other = other_entry old name slot i s was differs in
    stays old new (carry.carried_well_formed old new wf i s k r j carries) name slot was (carried_on old new i s k r j carries outside name.0 of.reached)
    (carries.stay name.0 slot (ino_at old name.0 slot) of.reached was.entry other)
    (carries.same_names name.0 slot (ino_at old name.0 slot) of.reached was.entry other)
