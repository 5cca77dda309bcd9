-- What the walks of lent words share. Assumes `Logic`.
--     lent_val        lent words as the machine holds them: where they begin, how many there are, and whether there are any
--     made_lent       their fields are made of nothing
--     lent_good       such a value is one of the type
--     word_laws       the laws of words
use mathlib.Core.Path.{refl}
use mathlib.Core.Bool.{Bool}
use mathlib.Core.List.{[], ◌∷◌}
use Prim.Native.Nat.{ℕ, ◌<◌, ◌^◌}
use mir.Syntax.{ty_ptr, w64}
use mir.Val.{Val, has_ty, vbool, vcons, vint, vnil, vstruct}
use seplogic.Ra.Ura.{Ura}
use base.Logic.{emp, ent}
use denote.Builtin.{u64}
use denote.Param.{layout}
use denote.Param.Laws.{Laws, of_field}
use denote.Param.Shared.{copy_shared}
use denote.RawPtr.{Ptr, ptr_val}
use denote.Shadow.{makes_shadow}
use denote.Struct.Field.{u64-field}
use denote.Struct.Laws.{u64-copy, u64-laws}
use denote.Struct.Owning.{shape}
use denote.Struct.Struct.{Struct}
use types.Logic.{Logic, sem}
use Rattle.core.proofs.atomic.Steps.{Ptr-Good}
use Rattle.core.proofs.cell.Inside.{Good}
use Rattle.std_alloc.proofs.ResultValues.{and_tt}
use Rattle.pm_raw.specs.contracts.cells.Lent as Lent

abbrev pub lent_val : Ptr → ℕ → Bool → Val
lent_val at count is_there = vstruct (vcons (ptr_val at) (vcons (vint w64 count) (vcons (vbool is_there) vnil)))

pub lent_good : (at : Ptr) (count : ℕ) (is_there : Bool) → count < 2 ^ 64 → Good (layout Lent.the_row) (lent_val at count is_there)
lent_good at count is_there low = (and_tt (has_ty ty_ptr (ptr_val at)) (Ptr-Good at).0, ((Ptr-Good at).1, (record { fits = low }, (tt, tt))))

pub word_laws : Laws u64
word_laws = of_field u64-field u64-laws refl (copy_shared u64-field u64-copy)

module _ {M : Type 1} {𝓤 : Ura M} (𝓛 : Logic 𝓤) where
  pub made_lent : (at : Ptr) (count : ℕ) (is_there : Bool) → count < 2 ^ 64
      → ent 𝓤 (emp 𝓤) (sem 𝓛 ((Struct (shape Lent.the_type)).own_val (at, (count, (is_there, tt))) (lent_val at count is_there ∷ [])))
  made_lent at count is_there low =
      makes_shadow 𝓛 ((Struct (shape Lent.the_type)).own_val (at, (count, (is_there, tt))) (lent_val at count is_there ∷ []))
      (λ _. (tt, (tt, ((tt, tt), (tt, tt))))) ((ptr_val at ∷ [], (vint w64 count ∷ [], (vbool is_there ∷ [], tt))), (refl, (refl, ((refl, low), (refl, tt)))))
