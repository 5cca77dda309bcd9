-- A `&` to the places reaches each item, so the items are lent as a slice. Assumes `Logic`.
use mathlib.Core.Path.{◌≡◌, refl, sym, subst, ◌∙◌}
use Prim.Native.Nat.{ℕ, ◌*◌, ◌<◌, ◌^◌}
use mathlib.Core.List.{List, [], ◌∷◌}
use lib.ListN.{length}
use mir.MapTy.{inst_fn}
use mir.Syntax.{Fn, a_type, named, w64}
use mir.Val.{Val, vint, vptr}
use base.Logic.{SProp, emp}
use base.Fml.{ftrue, flft}
use contract.BorrowLft.{◌⊑◌}
use contract.Monad.{fact, fact_i}
use contract.Running.{tables}
use prog.Wp.{WpFn}
use types.ByLocal.{alloc_all, env, free_all, get, get_in, look_at, pass_all, sets, sets_last}
use types.Kit.{‵, raw, ◌⊛◌, prop, at_ret, ◌$◌, ◌∵◌, !, qed, by, move, keep, drop, use0, use1, split, fsplit, fjoin, feq_i, flt_i, flt_l, regoal}
use types.Part.{agg, sub, whole}
use types.Run.{and_then, blocks, enter, exec, first, fld, no_more, of_opd, returns, stop}
use denote.Builtin.{RefOf, usize}
use denote.Exit.{no, yes}
use denote.Opens.{hide, unhide}
use denote.Param.{layouts, param}
use denote.Param.Laws.{param_laws}
use denote.Plain.{uint_Tells, uint_vals}
use denote.RattleType.{RattleType}
use denote.RawPtr.{InBlock, Ptr, at_block, block_of, block_ptr, count_of}
use denote.Ref.{Bor, ShrRef, shr_Tells, shr_vals}
use denote.Signature.{plain}
use denote.Slice.{slice_val}
use denote.Steps.{heard, nothing}
use denote.Struct.Lending.{in_block_says}
use denote.Triple.Walked.{Goes-dropped, Stays, stay_dropped, walk_of}
use Rattle.std.proofs.raw_atomic.Walks.{leaves, proved}
use Rattle.std.specs.Mem.{type_size}
use Rattle.core.proofs.alloc.Shapes.{after}
use Rattle.std_alloc.proofs.RcSteps.{word, word-Good}
use Rattle.pm_raw.specs.contracts.cells.Base as Base
use Rattle.pm_raw.specs.contracts.cells.Cells as Cells
use Rattle.pm_raw.specs.contracts.cells.Cells.slice as called
use Rattle.pm_raw.specs.contracts.cells.Cells.slice.Key as key
use Rattle.pm_raw.proofs.cells.Base.TheLaws.{lowers}
use Rattle.pm_raw.proofs.cells.Cells.slice.Statement.{statement}
use Rattle.pm_raw.proofs.cells.Cells.slice.Code as code

pub slice_spec : {M : Type 1} → statement M
slice_spec 𝓤 𝓛 𝓜 𝓡 wired T L =
    let 𝓣 = tables 𝓤 𝓛.H 𝓜 𝓡 𝓡.env in
    let R : RattleType = param 0 T in
    let Self = RefOf (0 ∷ []) tt (plain (λ _. Cells.the_row R)) (λ _. tt) in
    let Address = plain (λ _. Base.the_row R) in
    let Count = plain (λ _. usize) in
    let function : Fn = inst_fn (layouts (a_type ∷ []) (T, tt)) code.function in
    let clauses = called.clauses T 𝓛 𝓜.mem 𝓡.returns in
    let stays : Stays (called.signature T).params (called.ended T).kept = (stay_dropped Self yes, (stay_dropped Address no, (stay_dropped Count yes, tt))) in
    proved 𝓛 (called.ended T) stays clauses 𝓜 𝓡
    (Goes-dropped 𝓛 2 Self yes (λ κs x w. refl), (Goes-dropped 𝓛 2 Address no (λ κs x w. refl), (Goes-dropped 𝓛 2 Count yes (λ κs x w. refl), tt)))
    (key.name (layouts (a_type ∷ []) (T, tt))) function (code.unfolded 𝓤 𝓛.H 𝓜 𝓡 wired (T, tt))
    (λ κs. (shr_vals, ((λ base. word base.address ∷ []), (uint_vals w64, tt))))
    (λ κs. (shr_Tells (named 0) κs.0 (Cells.the_row R), ((lowers R (param_laws 0 T L)).val_is, (uint_Tells w64, tt))))
    (λ κs qs bounds a ghost are.
    let self = a.0 in let base = a.1.0 in let len = a.1.1.0 in
    let cells = self.now in let items = cells.items in
    let p : Ptr = cells.at in
    let at : ℕ × ℕ = (block_of p, count_of p) in
    let W = walk_of 𝓛 (called.ended T) stays clauses in
    let y : W.Ghost = ((κs, qs, bounds, a, (shr_vals self, (word base.address ∷ [], (vint w64 len ∷ [], tt)))), ghost) in
    let Post : Val → SProp 𝓤 = W.post y in
    let Runs : Ptr × ℕ → SProp 𝓤 = λ w. WpFn 𝓤 𝓛.H 𝓣.C 𝓣.Λ function (vptr self.ref_ptr.0 self.ref_ptr.1 ∷ word w.0 ∷ vint w64 w.1 ∷ []) Post in
    let Asked = (base.address ≡ p) × (length items ≡ len) × (cells.count ≡ len) in
    let alive = ‵ (flft κs.0 qs.0) ⊛ ‵ (flft κs.1.0 qs.1.0) ⊛ ‵ ftrue in
    let own_self = ‵ ((ShrRef (named 0) κs.0 (Cells.the_row R)).own_val self (shr_vals self)) in
    let own_base = ‵ ((Base.the_row R).own_val base (word base.address ∷ [])) in
    let own_len = ‵ (usize.own_val len (vint w64 len ∷ [])) in
    qed 𝓛 ((alive ⊛ own_self ⊛ own_base ⊛ own_len ⊛ ‵ ftrue) ∷ (raw (fact 𝓤 (κs.1.0 ⊑ T.lives)) ⊛ raw (fact 𝓤 Asked)) ∷ []) ∵
    split ! $ move ! (1 ∷ []) $ split ! $ keep ! (0 ∷ 2 ∷ 3 ∷ []) $ move ! (2 ∷ []) $ split ! $ drop ! $ heard ! Asked (λ asked.
    -- [self; the lifetimes' tokens]
    fsplit ! $ drop ! $ unhide ! $ fsplit ! $ drop ! $ fsplit ! $ flt_l ! (λ small. fsplit ! $
    use1 𝓛 (raw (fact 𝓤 (InBlock p))) (in_block_says 𝓛 p) $ heard ! (InBlock p) (λ inside. fsplit ! $ drop ! $ hide ! $
    -- [the items, lent; the tokens]
    let many = length items in
    let fits : many < 2 ^ 64 = subst (λ (k : ℕ). k < 2 ^ 64) (sym asked.1) are.1.1.0.1 in
    let bytes : many * type_size R < 2 ^ 63 = subst (λ (k : ℕ). k * type_size R < 2 ^ 63) (asked.2 ∙ sym asked.1) small in
    let result : Bor (List T.Denot) = record { ref_ptr = at; now = items } in
    regoal ! (λ w. prop (Runs w)) {x = (block_ptr at.0 at.1, many)} (λ i. ((asked.0 ∙ at_block p inside) i, sym asked.1 i)) refl $
    enter ! _ _ _ _ _ $ alloc_all ! (λ l. pass_all ! refl ((tt, tt), (word-Good [] (block_ptr at.0 at.1), ((tt, record { fits = fits }), tt))) $
    first ! $ blocks ! $
    sets_last ! (agg ! (and_then ! (get_in ! (fld ! refl (stop !)) (sub ! 0 refl (whole !))) (and_then ! (get ! refl) (no_more !)))) refl (tt, (tt, (record { fits = fits }, tt))) $
    exec ! 𝓣.C 𝓣.Λ (env function.locals l) (after 1 function.body) (at_ret (env function.locals l) Post) $
    sets ! (of_opd ! (get ! refl)) refl (tt, (tt, (record { fits = fits }, tt))) $
    returns ! (look_at ! 0 refl) $ free_all ! refl $
    -- [the items, lent; the tokens]
    flt_i ! (many * type_size R) (2 ^ 63) bytes $ flt_i ! many (2 ^ 64) fits $ fjoin ! $
    feq_i ! (List Val) (slice_val at many ∷ []) (slice_val at many ∷ []) refl $ fjoin ! $ fjoin ! $
    nothing ! $ nothing ! $ fjoin ! $ nothing ! $ fjoin ! $ nothing ! $ fjoin ! $
    use0 𝓛 (raw (fact 𝓤 (items ≡ items))) (fact_i 𝓤 (items ≡ items) (emp 𝓤) refl) $
    move ! (3 ∷ 1 ∷ 2 ∷ 0 ∷ []) $ by ! (leaves 𝓛 (called.ended T) stays clauses y (slice_val at many) result (tt, (tt, (tt, tt))) (tt, (tt, (tt, tt)))))))))
