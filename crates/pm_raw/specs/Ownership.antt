-- What the places and the deed of a block own and lend, for items of the row R.
use Rattle.std.specs.Prelude.{ℕ, ◌-◌, ◌*◌, ◌^◌, Bool, true, false, List, length, Option, Some, None}
use Rattle.std.specs.Mem.{type_size}
use base.Fraction.{full_share}
use base.Fml.{Lft, Fml, feq, fsep, flt}
use mir.Syntax.{Ty, ty_array}
use mir.Raw.{raw}
use denote.RattleType.{RattleType}
use denote.Array.{Array}
use denote.Builtin.{u64}
use denote.Memory.{lone}
use denote.RawPtr.{Ptr, lies_at, room_for, ◌+ₚ◌}
use denote.Sharing.{said, beside}
use denote.Struct.Lending.{lent_at}

module _ (R : RattleType) where
  -- The memory of `count` places, none of them filled.
  abbrev pub empty_places : ℕ → Ty
  empty_places count = raw (ty_array (lone R.mir) count)

  -- The items, and after them room for the rest. The block has fewer than 2 ^ 63 bytes.
  abbrev pub places_own : Ptr → List R.Denot → ℕ → Fml
  places_own at items count =
      fsep (flt (count * type_size R) (2 ^ 63))
      (fsep (lies_at (Array R (length items)) full_share at items)
      (room_for (empty_places (count - length items)) (at +ₚ length items * type_size R)))

  -- A `&` gives access to the items.
  abbrev pub places_lend : Ptr → List R.Denot → ℕ → Lft → Fml
  places_lend at items count =
      beside (said (flt (count * type_size R) (2 ^ 63))) (lent_at (Array R (length items)) at items)

  -- The allocator's token for such a block.
  abbrev pub deed_owns : (Ty → Ptr → Fml) → Ptr → ℕ → Fml
  deed_owns token at count = token (empty_places count) at

-- Lent words: none, or the places of a block, each with a word.
abbrev pub lent_owns : Ptr → ℕ → Bool → Option (List ℕ) → Fml
lent_owns at count is_there None = feq Bool is_there false
lent_owns at count is_there (Some words) =
    fsep (feq Bool is_there true) (fsep (feq ℕ (length words) count) (places_own u64 at words count))
