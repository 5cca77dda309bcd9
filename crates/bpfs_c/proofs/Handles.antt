-- What the walks of the handle share. Assumes `Logic`.
--     handle_val      a handle as the machine holds it: a pointer, and whether there is one
--     made_fields     its fields are made of nothing
use mathlib.Core.Path.{refl}
use mathlib.Core.Bool.{Bool}
use mathlib.Core.List.{[], ◌∷◌}
use mir.Val.{Val, vbool, vcons, vnil, vstruct}
use seplogic.Ra.Ura.{Ura}
use base.Logic.{emp, ent}
use denote.RawPtr.{Ptr, ptr_val}
use denote.Shadow.{makes_shadow}
use denote.Struct.Owning.{shape}
use denote.Struct.Struct.{Struct}
use types.Logic.{Logic, sem}
use Rattle.bpfs_c.specs.contracts.handle.Handle as Handle

abbrev pub handle_val : Ptr → Bool → Val
handle_val at is_open = vstruct (vcons (ptr_val at) (vcons (vbool is_open) vnil))

module _ {M : Type 1} {𝓤 : Ura M} (𝓛 : Logic 𝓤) where
  pub made_fields : (at : Ptr) (is_open : Bool)
      → ent 𝓤 (emp 𝓤) (sem 𝓛 ((Struct (shape Handle.the_type)).own_val (at, (is_open, tt)) (handle_val at is_open ∷ [])))
  made_fields at is_open =
      makes_shadow 𝓛 ((Struct (shape Handle.the_type)).own_val (at, (is_open, tt)) (handle_val at is_open ∷ []))
      (λ _. (tt, (tt, (tt, tt)))) ((ptr_val at ∷ [], (vbool is_open ∷ [], tt)), (refl, (refl, (refl, tt))))
