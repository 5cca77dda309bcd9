-- A `&` to a deed lends nothing. Assumes `Logic`.
use denote.RattleType.{RattleType}
use denote.RawPtr.{RawPtr}
use denote.SharingLaws.{nothing_shr_laws}
use denote.Param.Laws.{Laws}
use denote.Param.Shared.{copy_shared}
use denote.Struct.Laws.{field_copy}
use denote.Struct.Lending.{Lends-nothing, of_Lends}
use Rattle.core.specs.declared.alloc.Allocator.{Ghosts}
use Rattle.core.specs.contracts.marker.PhantomData as phantom
use Rattle.pm_raw.specs.contracts.cells.Deed as declared
use Rattle.pm_raw.proofs.cells.Deed.TheLaw.Statement.{statement}

pub shares : (R B : RattleType) (g : Ghosts B.Denot) (L : Laws R) (K : Laws B) → statement R B g L K
shares R B g L K = of_Lends (declared.struct R B g) (declared.the_codes R.Denot B.Denot R.coded B.coded (phantom.the_row RawPtr).coded) (declared.the_heap R B g) (declared.the_lent R B g)
    (λ _ _. nothing_shr_laws)
    (copy_shared (phantom.the_field RawPtr) (field_copy (phantom.the_type RawPtr) tt), tt)
    (λ M 𝓤 𝓛 deed _. Lends-nothing 𝓛 (declared.the_heap R B g deed) (declared.the_row R B g).lives)
