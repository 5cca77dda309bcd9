-- A `&` to the places is made where one to an item is: it lends the items, and not the room after them. Assumes `Logic`.
use mathlib.Core.Path.{sym, subst}
use Prim.Native.Nat.{◌-◌, ◌*◌, ◌^◌}
use mathlib.Core.List.{[], ◌++◌}
use lib.ListN.{length}
use base.Fraction.{full_share}
use base.Fml.{fsep, flt, Incl-trans}
use contract.BorrowLft.{meet_⊑_left}
use denote.RattleType.{RattleType}
use denote.Array.{Array}
use denote.ArrayMemory.{Single}
use denote.RawPtr.{RawPtr, lies_at, room_for, ◌+ₚ◌}
use denote.Sharing.{said}
use denote.Shares.{Shares-less, Shares-Array}
use denote.Param.Laws.{Laws}
use denote.Param.Shared.{copy_shared}
use denote.Struct.Laws.{field_copy}
use denote.Struct.Lending.{lent_at, Lends-both, Lends-first, Lends-lies, Lends-said, of_Lends}
use Rattle.std.specs.Mem.{type_size}
use Rattle.core.specs.contracts.marker.PhantomData as phantom
use Rattle.std_alloc.proofs.SharedLaws.{lent_shr_laws}
use Rattle.pm_raw.specs.Ownership.{empty_places}
use Rattle.pm_raw.specs.contracts.cells.Cells as declared
use Rattle.pm_raw.proofs.cells.Cells.TheLaw.Statement.{statement}

pub shares : (R : RattleType) (L : Laws R) → statement R L
shares R L = of_Lends (declared.struct R) (declared.the_codes R.Denot R.coded (phantom.the_row RawPtr).coded) (declared.the_heap R) (declared.the_lent R)
    (λ cells _. lent_shr_laws R L.shr_laws cells.at (length cells.items) cells.count cells.items)
    (copy_shared (phantom.the_field RawPtr) (field_copy (phantom.the_type RawPtr) tt), tt)
    (λ M 𝓤 𝓛 cells _.
    let lives = (declared.the_row R).lives in
    let many = length cells.items in
    let small = flt (cells.count * type_size R) (2 ^ 63) in
    let items = lies_at (Array R many) full_share cells.at cells.items in
    let room = room_for (empty_places R (cells.count - many)) (cells.at +ₚ many * type_size R) in
    let lent = lent_at (Array R many) cells.at cells.items in
    let each = Shares-less 𝓛 R R.lives lives (Incl-trans (meet_⊑_left (R.lives ++ []) _) (meet_⊑_left R.lives [])) (L.shares 𝓛) in
    Lends-both 𝓛 small (fsep items room) (said small) lent lives (Lends-said 𝓛 small tt lives)
    (Lends-first 𝓛 items room lent lives (Lends-lies 𝓛 (Array R many) lives cells.at cells.items (Shares-Array 𝓛 R (subst Single (sym L.one) tt) many lives each cells.items))))
