-- The slots of names that a change keeps.
use Rattle.std.specs.Prelude.{◌≢◌, ℕ}
use Rattle.bp_layout.specs.Hints.{NameIn, IsSlotOf}
use Rattle.bp_layout.specs.Words.{Image}

-- each name keeps its slot
abbrev pub KeepsSlots : Image → Image → Type 0
KeepsSlots old new = (name : NameIn) (slot : ℕ) → IsSlotOf old name slot → IsSlotOf new name slot

-- each name but one keeps its slot; `KeepsOthers`: each but two
abbrev pub KeepsOther : Image → Image → NameIn → Type 0
KeepsOther old new gone = (name : NameIn) (slot : ℕ) → name ≢ gone → IsSlotOf old name slot → IsSlotOf new name slot

abbrev pub KeepsOthers : Image → Image → NameIn → NameIn → Type 0
KeepsOthers old new gone also = (name : NameIn) (slot : ℕ) → name ≢ gone → name ≢ also → IsSlotOf old name slot →
    IsSlotOf new name slot
