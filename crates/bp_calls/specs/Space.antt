-- Why a call has no space, and the room that a call needs in the log.
use Rattle.std.specs.Prelude.{◌≡◌, ◌+◌, ◌<◌, ◌≤◌, ℕ, Bool, length}
use Rattle.bp_changes.specs.Entrant.{ForCreation}
use Rattle.bp_free.specs.Set.{Set, members}
use Rattle.bp_free.specs.declared.parts.NoSpace.{NoSpace}
use Rattle.bp_layout.specs.Free.{HasFree}
use Rattle.bp_layout.specs.Need.{Change, need}
use Rattle.bp_layout.specs.Thaw.{full_need}
use Rattle.bp_layout.specs.Words.{Image}
use Rattle.bp_changes.specs.Performs.{HasRoomFor, room_for}
use Rattle.pm_region.specs.Memory.{Memory, current_words, room_in}

-- Fewer blocks are free than the wanted number, and the error holds both numbers.
pub record LacksBlocks (image : Image) (in_snapshot : ℕ → Bool) (wanted : ℕ) (lacks : NoSpace) : Type 0 where
  pub needed : wanted ≡ lacks.need
  pub free : HasFree image in_snapshot lacks.free
  pub fewer : lacks.free < lacks.need

-- Fewer blocks are free than the change needs, including those that it thaws.
abbrev pub LacksSpace : Image → (ℕ → Bool) → Change → NoSpace → Type 0
LacksSpace image in_snapshot change lacks = LacksBlocks image in_snapshot (full_need image in_snapshot change) lacks

-- `LacksSpace` for the creation of a name in directory `i`.
abbrev pub LacksSpaceToCreate : Image → (ℕ → Bool) → ℕ → NoSpace → Type 0
LacksSpaceToCreate image in_snapshot i lacks = ForCreation image i (λ change. LacksSpace image in_snapshot change lacks)

-- If as many blocks are free as the change needs, the log has room for it. A call that lacks space needs no room.
abbrev pub HasRoomWhereFree : Memory → (ℕ → Bool) → Set → Change → Type 0
HasRoomWhereFree memory in_snapshot blocks change =
    full_need (current_words memory) in_snapshot change ≤ length (members blocks) → HasRoomFor memory in_snapshot change

-- `HasRoomWhereFree` for the creation of a name in directory `i`.
abbrev pub HasRoomToCreate : Memory → (ℕ → Bool) → Set → ℕ → Type 0
HasRoomToCreate memory in_snapshot blocks i = ForCreation (current_words memory) i (HasRoomWhereFree memory in_snapshot blocks)

-- If as many blocks are free as the change needs, the log has room for it after a thaw, whose two barriers are then
-- spent.
abbrev pub HasRoomThawed : Memory → Set → Change → Type 0
HasRoomThawed memory blocks change = need (current_words memory) change ≤ length (members blocks)
    → room_for (need (current_words memory) change) ≤ room_in memory + 2
