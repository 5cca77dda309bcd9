-- What the walks of the raw memory share. Assumes `Logic`.
--     empty        a block's fields without bytes, as the machine holds them
--     nowhere      nothing lies at null
--     emptied      a row of items, and the room after them, is room for all: the items are forgotten
--     made_base, made_empty      the address of a block, and a value without bytes, are made of nothing
--     side_by_side      three values make a tuple
use mathlib.Core.Path.{◌≡◌, refl}
use mathlib.Core.List.{List, [], ◌∷◌}
use Prim.Native.Nat.{ℕ, suc, ◌+◌, ◌*◌}
use native.Mathlib.Nat.{suc-mul}
use native.Mathlib.Omega.{arith}
use lib.ListN.{length}
use mir.Syntax.{ty_array}
use mir.Val.{Val, of_list, vcons, vnil, vstruct}
use seplogic.Ra.Ura.{Ura}
use base.Fraction.{full_share}
use base.Logic.{emp, ent, id⊢, never, sep}
use base.Fml.{fat, froom}
use denote.Index.{row}
use denote.Memory.{part_at}
use denote.RattleType.{RattleType, Valss}
use denote.RawPtr.{Ptr, null_ptr, ptr_val}
use denote.Shadow.{makes_shadow}
use denote.Steps.{nothing}
use denote.Struct.Declared as Declared
use denote.Struct.Owning.{shape}
use denote.Struct.Struct.{Struct, within}
use denote.Struct.Tuple.{Tuple, tuple_type}
use types.Kit.{‵, ◌⊛◌, given, some, ◌$◌, ◌∵◌, !, qed, by, done, move, keep, learn, pick, split, rewrite, drop, use1, use2, feq_i, fjoin, fpack, fsplit}
use types.Logic.{Logic, sem}
use Rattle.core.proofs.ptr.Rows.{El, Good, R, el_out, el_own, el_x, elτ, sz}
use Rattle.std_alloc.proofs.RcSteps.{word}
use Rattle.pm_raw.specs.Ownership.{places_own}
use Rattle.pm_raw.specs.contracts.cells.Base as Base
use Rattle.pm_raw.specs.contracts.cells.Cells as Cells

abbrev pub empty : Val
empty = vstruct (vcons (vstruct vnil) vnil)

pub nowhere : (R : RattleType) (items : List R.Denot) (count : ℕ) {M : Type 1} {𝓤 : Ura M} (𝓛 : Logic 𝓤) → ent 𝓤 (sem 𝓛 (places_own R null_ptr items count)) (never 𝓤)
nowhere R items count {𝓤 = 𝓤} 𝓛 = qed 𝓛 (‵ (places_own R null_ptr items count) ∷ []) ∵ fsplit ! $ move ! (1 ∷ []) $ fsplit ! $ keep ! (0 ∷ []) $ by ! (id⊢ 𝓤 (never 𝓤))

next : (o many size : ℕ) → o + suc many * size ≡ (o + size) + many * size
next o many size = omega (arith, suc-mul many size)

module _ (E : El) {M : Type 1} {𝓤 : Ura M} (𝓛 : Logic 𝓤) where
  open 𝓛 use {H}

  pub emptied : (items : List (el_x E)) (rest b o : ℕ)
      → ent 𝓤 (sep 𝓤 (sem 𝓛 (row (R E) full_share items b o)) (H.room (ty_array (elτ E) rest) b (o + length items * sz E))) (H.room (ty_array (elτ E) (length items + rest)) b o)
  emptied [] rest b o =
      let here : o + 0 * sz E ≡ o = omega arith in
      let all : rest ≡ 0 + rest = omega arith in
      qed 𝓛 (‵ (row (R E) full_share [] b o) ∷ ‵ (froom (ty_array (elτ E) rest) b (o + 0 * sz E)) ∷ []) ∵
      drop ! $ rewrite ! 0 (λ (n : ℕ). ‵ (froom (ty_array (elτ E) rest) b n)) here refl $ rewrite ! 0 (λ (n : ℕ). ‵ (froom (ty_array (elτ E) n) b o)) all refl $ done !
  emptied (item ∷ items) rest b o =
      let suffix : o + suc (length items) * sz E ≡ (o + sz E) + length items * sz E = next o (length items) (sz E) in
      let all : suc (length items + rest) ≡ suc (length items) + rest = omega arith in
      qed 𝓛 ((‵ (part_at (R E) full_share item b o) ⊛ ‵ (row (R E) full_share items b (o + sz E))) ∷ ‵ (froom (ty_array (elτ E) rest) b (o + suc (length items) * sz E)) ∷ []) ∵
      split ! $
      use1 𝓛 (some (λ (v : Val). given (Good E v) (‵ (fat full_share (elτ E) b o v) ⊛ ‵ (el_own E item (v ∷ []))))) (el_out E 𝓛 full_share item b o) $
      pick ! (λ v. learn ! (λ _. split ! $ keep ! (0 ∷ 2 ∷ 3 ∷ []) $
      use1 𝓛 (‵ (froom (elτ E) b o)) (𝓛.laws.at_room (elτ E) b o v) $ move ! (2 ∷ []) $
      rewrite ! 0 (λ (n : ℕ). ‵ (froom (ty_array (elτ E) rest) b n)) suffix refl $ move ! (2 ∷ 0 ∷ []) $
      use2 𝓛 (‵ (froom (ty_array (elτ E) (length items + rest)) b (o + sz E))) (emptied items rest b (o + sz E)) $ move ! (1 ∷ []) $
      use2 𝓛 (‵ (froom (ty_array (elτ E) (suc (length items + rest))) b o)) (𝓛.laws.room_cons (elτ E) (length items + rest) b o) $
      rewrite ! 0 (λ (n : ℕ). ‵ (froom (ty_array (elτ E) n) b o)) all refl $ done !))

module _ (T : RattleType) {M : Type 1} {𝓤 : Ura M} (𝓛 : Logic 𝓤) where
  pub made_base : (p : Ptr) → ent 𝓤 (emp 𝓤) (sem 𝓛 ((Base.the_row T).own_val (record { address = p }) (word p ∷ [])))
  made_base p = makes_shadow 𝓛 ((Base.the_row T).own_val (record { address = p }) (word p ∷ [])) (λ _. (tt, (tt, tt))) ((ptr_val p ∷ [], tt), (refl, (refl, tt)))

  -- the data fields of `Cells`, and of `Deed`
  pub made_empty : ent 𝓤 (emp 𝓤) (sem 𝓛 ((Struct (shape (Cells.the_type T))).own_val (tt, tt) (empty ∷ [])))
  made_empty = makes_shadow 𝓛 ((Struct (shape (Cells.the_type T))).own_val (tt, tt) (empty ∷ [])) (λ _. (tt, ((λ _. (tt, tt)), tt))) ((vstruct vnil ∷ [], tt), (refl, ((tt, (refl, tt)), tt)))

module _ (R S T : RattleType) {M : Type 1} {𝓤 : Ura M} (𝓛 : Logic 𝓤) where
  pub side_by_side : (x : R.Denot) (y : S.Denot) (z : T.Denot) (u v w : Val)
      → ent 𝓤 (sep 𝓤 (sem 𝓛 (R.own_val x (u ∷ []))) (sep 𝓤 (sem 𝓛 (S.own_val y (v ∷ []))) (sem 𝓛 (T.own_val z (w ∷ [])))))
      (sem 𝓛 ((Tuple (R ∷ S ∷ T ∷ [])).own_val (x, y, z) (vstruct (of_list (u ∷ v ∷ w ∷ [])) ∷ [])))
  side_by_side x y z u v w =
      let whole : Val = vstruct (of_list (u ∷ v ∷ w ∷ [])) in
      let each : Valss (R ∷ S ∷ T ∷ []) = (u ∷ [], (v ∷ [], (w ∷ [], tt))) in
      qed 𝓛 (‵ (R.own_val x (u ∷ [])) ∷ ‵ (S.own_val y (v ∷ [])) ∷ ‵ (T.own_val z (w ∷ [])) ∷ []) ∵
      nothing ! $ move ! (3 ∷ 0 ∷ []) $ fjoin ! $ move ! (2 ∷ 0 ∷ []) $ fjoin ! $ move ! (1 ∷ 0 ∷ []) $ fjoin ! $
      feq_i ! (List Val) (whole ∷ []) (whole ∷ []) refl $ fjoin ! $
      fpack ! (Valss (R ∷ S ∷ T ∷ [])) (within (Declared.shape (tuple_type (R ∷ S ∷ T ∷ []))) (x, (y, (z, tt))) (whole ∷ [])) each $ done !
