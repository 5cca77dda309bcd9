-- What a block owns goes into lent words. Assumes `Logic`.
use mathlib.Core.Path.{◌≡◌, refl, sym, ap}
use mathlib.Core.Bool.{Bool, true}
use Prim.Native.Nat.{ℕ, ◌<◌, ◌^◌}
use mathlib.Core.List.{List, [], ◌∷◌}
use lib.ListN.{length}
use mir.Syntax.{w64}
use mir.Val.{Val, vint}
use base.Logic.{SProp, emp}
use base.Fml.{ftrue}
use contract.Monad.{fact, fact_i}
use types.ByLocal.{alloc_all, free_all, get, get_in, look_at, pass_all, sets}
use types.Kit.{‵, raw, ◌⊛◌, ◌$◌, ◌∵◌, !, qed, by, move, keep, drop, rewrite, split, split3, fsplit, fjoin, feq_i, use0}
use types.Part.{agg, sub, whole}
use types.Run.{and_then, enter, fld, no_more, of_opd, returns, stop, true_lit}
use denote.Builtin.{u64, usize}
use denote.Exit.{yes}
use denote.Plain.{uint_Tells, uint_vals}
use denote.RawPtr.{Ptr}
use denote.Signature.{plain}
use denote.Steps.{heard, nothing}
use denote.Struct.Owning.{shape}
use denote.Struct.Struct.{Struct}
use denote.Triple.Walked.{Goes-dropped, Stays, stay_dropped, walk_of}
use Rattle.core.proofs.alloc.Calls.{Goes-blank}
use Rattle.std.proofs.raw_atomic.Walks.{leaves, proved}
use Rattle.std.specs.Prelude.{Option, Some}
use Rattle.core.proofs.atomic.Steps.{Ptr-Good}
use Rattle.std_alloc.proofs.RcSteps.{word, word-Good}
use Rattle.pm_raw.specs.Lent.{IsFull}
use Rattle.pm_raw.specs.Ownership.{places_own}
use Rattle.pm_raw.specs.contracts.cells.Base as Base
use Rattle.pm_raw.specs.contracts.cells.Cells as Cells
use Rattle.pm_raw.specs.contracts.cells.Lent as Lent
use Rattle.pm_raw.specs.contracts.cells.Lent.seal as called
use Rattle.pm_raw.proofs.Blocks.{empty}
use Rattle.pm_raw.proofs.LentValues.{lent_good, lent_val, made_lent, word_laws}
use Rattle.pm_raw.proofs.cells.Base.TheLaws as base_laws
use Rattle.pm_raw.proofs.cells.Cells.TheLaws as cells_laws
use Rattle.pm_raw.proofs.cells.Lent.seal.Statement.{statement}
use Rattle.pm_raw.proofs.cells.Lent.seal.Code as code

abbrev stayed : Stays called.ended.signature.params called.ended.kept
stayed = (stay_dropped (plain (λ _. Base.the_row u64)) yes, (stay_dropped (plain (λ _. usize)) yes, (stay_dropped (plain (λ _. Cells.the_row u64)) yes, tt)))

pub seal_spec : {M : Type 1} → statement M
seal_spec 𝓤 𝓛 𝓜 𝓡 wired =
    let c = called.clauses 𝓛 𝓜.mem 𝓡.returns in let W = walk_of 𝓛 called.ended stayed c in
    proved 𝓛 called.ended stayed c 𝓜 𝓡 (
      Goes-dropped 𝓛 0 (plain (λ _. Base.the_row u64)) yes (λ κs x w. refl),
      (
        Goes-dropped 𝓛 0 (plain (λ _. usize)) yes (λ κs x w. refl),
        (Goes-blank 𝓛 0 (plain (λ _. Cells.the_row u64)) yes (λ κs x w. tt), tt),
      ),
    )
    called.Key.name code.function (code.unfolded 𝓤 𝓛.H 𝓜 𝓡 wired)
    (λ κs. ((λ base. word base.address ∷ []), (uint_vals w64, ((λ _. empty ∷ []), tt))))
    (λ κs. ((base_laws.lowers u64 word_laws).val_is, (uint_Tells w64, ((cells_laws.lowers u64 word_laws).val_is, tt))))
    (λ κs qs bounds a ghost are.
    let base = a.0 in let count = a.1.0 in let cells = a.1.1.0 in let items = cells.items in
    let Asked = IsFull base count cells in
    let y : W.Ghost = ((κs, qs, bounds, a, (word base.address ∷ [], (vint w64 count ∷ [], (empty ∷ [], tt)))), ghost) in
    let words : Option (List ℕ) = Some items in
    let result : Lent.the_row.Denot = record { at = base.address; count = count; is_there = true; words = words } in
    let own_base = ‵ ((Base.the_row u64).own_val base (word base.address ∷ [])) in
    let own_count = ‵ (usize.own_val count (vint w64 count ∷ [])) in
    let own_cells = ‵ ((Cells.the_row u64).own_val cells (empty ∷ [])) in
    qed 𝓛 ((‵ ftrue ⊛ own_base ⊛ own_count ⊛ own_cells ⊛ ‵ ftrue) ∷ raw (fact 𝓤 Asked) ∷ []) ∵
    move ! (1 ∷ []) $ heard ! Asked (λ asked.
    split ! $ drop ! $ split3 ! $ drop ! $ drop ! $ split ! $ keep ! (0 ∷ []) $ fsplit ! $ drop ! $
    -- [the places]
    rewrite ! 0 (λ (w : Ptr × ℕ). ‵ (places_own u64 w.0 items w.1)) {x = (base.address, count)} (λ i. (asked.placed i, asked.many i)) refl $
    enter ! _ _ _ _ _ $ alloc_all ! (λ l. pass_all ! refl (word-Good [] base.address, ((tt, record { fits = are.1.0.1 }), ((tt, (tt, tt)), tt))) $
    sets ! (of_opd ! (get_in ! (fld ! refl (stop !)) (sub ! 0 refl (whole !)))) refl (Ptr-Good base.address) $
    sets ! (agg ! (and_then ! (get ! refl) (and_then ! (get ! refl) (and_then ! (true_lit !) (no_more !))))) refl (lent_good base.address count true are.1.0.1) $
    returns ! (look_at ! 0 refl) $ free_all ! refl $ keep ! (0 ∷ []) $
    feq_i ! ℕ (length items) count asked.filled $ fjoin ! $ feq_i ! Bool true true refl $ fjoin ! $
    use0 𝓛 (‵ ((Struct (shape Lent.the_type)).own_val (base.address, (count, (true, tt))) (lent_val base.address count true ∷ []))) (made_lent 𝓛 base.address count true are.1.0.1) $ fjoin ! $
    use0 𝓛 (raw (fact 𝓤 (words ≡ Some items))) (fact_i 𝓤 (words ≡ Some items) (emp 𝓤) refl) $ move ! (1 ∷ []) $
    nothing ! $ nothing ! $ fjoin ! $ nothing ! $ fjoin ! $ nothing ! $ fjoin ! $ nothing ! $
    by ! (leaves 𝓛 called.ended stayed c y (lent_val base.address count true) result (tt, (tt, (tt, tt))) (tt, (tt, (tt, tt)))))))
