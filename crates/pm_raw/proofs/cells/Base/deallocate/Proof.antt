-- The items are forgotten, and the block goes back with its deed. Assumes `Logic`.
use mathlib.Core.Path.{◌≡◌, refl, sym, ap, subst, ◌∙◌}
use Prim.Native.Nat.{ℕ, ◌+◌, ◌-◌, ◌*◌, ◌<◌, ◌≤◌, ◌^◌}
use native.Mathlib.Omega.{arith}
use mathlib.Core.List.{List, [], ◌∷◌}
use lib.Dec.{T as Holds}
use lib.ListN.{length}
use mir.MapTy.{inst_fn}
use mir.Syntax.{Fn, a_type, dcons, dnil, named, ty_array, ty_unit, w64}
use mir.Val.{Val, WT, has_ty, vint, vptr, vunit}
use base.Fraction.{full_share}
use base.Logic.{SProp, emp, id⊢}
use base.Fml.{Incl-trans, flft, froom, ftrue}
use contract.BorrowLft.{◌⊑◌}
use contract.Monad.{fact}
use contract.Running.{tables}
use prog.Capped.{capped_fits}
use prog.Memory.{align, capped}
use prog.Wp.{WpFn}
use types.ByLocal.{alloc_all, env, free_all, get, get_in, is, lands_last, look_at, pass_all, sets}
use types.Kit.{‵, raw, ◌⊛◌, given, later, prop, at_ret, ◌$◌, ◌∵◌, !, qed, await, by, move, keep, drop, group, learn, use0, use1, use2, split, split3, join, fsplit, fjoin, feq_i, flt_l, regoal, rewrite}
use types.Part.{sub, whole}
use types.Run.{align_word, and_then, bin, blocks, enter, exec, first, fld, no_more, of_opd, returns, size_word, stop, unit_lit}
use denote.Builtin.{RefOf, usize}
use denote.Exit.{no, yes}
use denote.Index.{row}
use denote.Param.{bounded, param}
use denote.Param.Laws.{param_laws}
use denote.Plain.{uint_Tells, uint_vals}
use denote.RawPtr.{Ptr, block_ptr, in_a_block}
use denote.Ref.{ShrRef, shr_Tells, shr_vals}
use denote.Signature.{plain}
use denote.Steps.{heard, nothing}
use denote.Triple.Call.{calls_at_last}
use denote.Triple.Table.{framed}
use denote.Triple.Walked.{Goes-dropped, Stays, stay_dropped, walk_of}
use Rattle.std.proofs.raw_atomic.Walks.{leaves, proved}
use Rattle.std.specs.Mem.{type_size}
use Rattle.core.proofs.alloc.Calls.{Al, Gives, Gives-Gives, Gives-goes, Goes-blank, at_gives, token}
use Rattle.core.proofs.alloc.Shapes.{after}
use Rattle.core.proofs.mem.Param.{El as Element}
use Rattle.core.proofs.ptr.Rows.{El, apart, elτ}
use Rattle.core.proofs.slots.Leases.{block_align, block_size, uncapped}
use Rattle.std_alloc.proofs.RawLayout.{as_raw, as_written}
use Rattle.std_alloc.proofs.RcSteps.{word, word-Good}
use Rattle.pm_raw.specs.Block.{IsBlock}
use Rattle.pm_raw.specs.Ownership.{deed_owns, empty_places, places_own}
use Rattle.pm_raw.specs.contracts.cells.Base as Base
use Rattle.pm_raw.specs.contracts.cells.Cells as Cells
use Rattle.pm_raw.specs.contracts.cells.Deed as Deed
use Rattle.pm_raw.specs.contracts.cells.Base.deallocate as called
use Rattle.pm_raw.specs.contracts.cells.Base.deallocate.Key as key
use Rattle.pm_raw.proofs.Blocks.{empty, emptied, nowhere}
use Rattle.pm_raw.proofs.cells.Base.TheLaws as base_laws
use Rattle.pm_raw.proofs.cells.Cells.TheLaws as cells_laws
use Rattle.pm_raw.proofs.cells.Deed.TheLaws as deed_laws
use Rattle.pm_raw.proofs.cells.Base.deallocate.Statement.{statement}
use Rattle.pm_raw.proofs.cells.Base.deallocate.Code as code

pub deallocate_spec : {M : Type 1} → statement M
deallocate_spec 𝓤 𝓛 𝓜 𝓡 wired T A L LA g d dd met md =
    let 𝓣 = tables 𝓤 𝓛.H 𝓜 𝓡 𝓡.env in
    let Z : Al = record { row = A; laws = LA; g = g; d = d; drops = dd } in
    let E : El = record { row = T; laws = L } in let M' : Element = record { row = T; laws = L } in
    let Item = param 0 T in let Heap = param 1 A in
    let Owner = Cells.the_row Item in let Right = Deed.the_row Item Heap g in
    let Given = RefOf (0 ∷ []) tt (plain (λ _. Heap)) (λ _. tt) in
    let Address = plain (λ _. Base.the_row Item) in let Count = plain (λ _. usize) in
    let Places = plain (λ _. Owner) in let Rights = plain (λ _. Right) in
    let types = bounded (a_type ∷ a_type ∷ []) (T, (A, tt)) (dcons d (dcons dd dnil)) in
    let function : Fn = inst_fn types code.function in
    let ended = called.ended T A g d dd in
    let clauses = called.clauses T A g d dd 𝓛 𝓜.mem 𝓡.returns in
    let stays : Stays ended.signature.params ended.kept =
    (stay_dropped Given yes, (stay_dropped Address no, (stay_dropped Count yes, (stay_dropped Places no, (stay_dropped Rights no, tt))))) in
    let W = walk_of 𝓛 ended stays clauses in
    proved 𝓛 ended stays clauses 𝓜 𝓡 (
      Goes-dropped 𝓛 3 Given yes (λ κs x w. refl),
      (
        Goes-dropped 𝓛 3 Address no (λ κs x w. refl),
        (
          Goes-dropped 𝓛 3 Count yes (λ κs x w. refl),
          (Goes-blank 𝓛 3 Places no (λ κs x w. tt), (Goes-blank 𝓛 3 Rights no (λ κs x w. tt), tt)),
        ),
      ),
    )
    (key.name types) function (code.unfolded 𝓤 𝓛.H 𝓜 𝓡 wired (T, (A, tt)) d dd)
    (λ κs. (shr_vals, ((λ base. word base.address ∷ []), (uint_vals w64, ((λ _. empty ∷ []), ((λ _. empty ∷ []), tt))))))
    (λ κs. (
      shr_Tells (named 0) κs.0 Heap,
      (
        (base_laws.lowers Item (param_laws 0 T L)).val_is,
        (
          uint_Tells w64,
          ((cells_laws.lowers Item (param_laws 0 T L)).val_is, ((deed_laws.lowers Item Heap g (param_laws 0 T L) (param_laws 1 A LA)).val_is, tt)),
        ),
      ),
    ))
    (λ κs qs bounds a ghost are.
    let alloc = a.0 in let base = a.1.0 in let count = a.1.1.0 in let cells = a.1.1.1.0 in let deed = a.1.1.1.1.0 in
    let κ = κs.0 in let q = qs.0 in let items = cells.items in let many = length items in let size = type_size Item in
    let y : W.Ghost = ((κs, qs, bounds, a, (shr_vals alloc, (word base.address ∷ [], (vint w64 count ∷ [], (empty ∷ [], (empty ∷ [], tt)))))), ghost) in
    let Post : Val → SProp 𝓤 = W.post y in
    let Runs : Ptr → SProp 𝓤 = λ p. WpFn 𝓤 𝓛.H 𝓣.C 𝓣.Λ function (vptr alloc.ref_ptr.0 alloc.ref_ptr.1 ∷ word p ∷ vint w64 count ∷ empty ∷ empty ∷ []) Post in
    let Asked = IsBlock base cells deed count alloc.now × (many ≤ count) in
    let alive = ‵ (flft κ q) ⊛ ‵ (flft κs.1.0 qs.1.0) ⊛ ‵ (flft κs.1.1.0 qs.1.1.0) ⊛ ‵ ftrue in
    let own_alloc = ‵ ((ShrRef (named 0) κ Heap).own_val alloc (shr_vals alloc)) in
    let own_base = ‵ ((Base.the_row Item).own_val base (word base.address ∷ [])) in
    let own_count = ‵ (usize.own_val count (vint w64 count ∷ [])) in
    let own_cells = ‵ (Owner.own_val cells (empty ∷ [])) in
    let own_deed = ‵ (Right.own_val deed (empty ∷ [])) in
    qed 𝓛 ((alive ⊛ own_alloc ⊛ own_base ⊛ own_count ⊛ own_cells ⊛ own_deed ⊛ ‵ ftrue) ∷ (raw (fact 𝓤 (κs.1.0 ⊑ T.lives)) ⊛ raw (fact 𝓤 (κs.1.1.0 ⊑ A.lives)) ⊛ raw (fact 𝓤 Asked)) ∷ []) ∵
    split ! $ move ! (1 ∷ []) $ split3 ! $ move ! (2 ∷ []) $ split3 ! $ move ! (2 ∷ []) $ split ! $ keep ! (3 ∷ 0 ∷ 4 ∷ 6 ∷ 7 ∷ []) $
    -- [the places; the deed; the allocator; the lifetimes' tokens; what is asked]
    move ! (4 ∷ []) $ split3 ! $ drop ! $ heard ! (κs.1.1.0 ⊑ A.lives) (λ within. heard ! Asked (λ asked.
    fsplit ! $ drop ! $ in_a_block ! cells.at (λ p. places_own Item p items cells.count) (nowhere Item items cells.count 𝓛) (λ b o at.
    fsplit ! $ flt_l ! (λ room. fsplit ! $
    use1 𝓛 (given (many ≡ many) (‵ (row Item full_share items b o))) (apart E 𝓛 full_share many items b o) $ learn ! (λ _.
    let rest : ℕ = cells.count - many in
    let all : many + rest ≡ count = omega (arith, asked.0.cells_count, asked.1) in
    move ! (1 ∷ []) $ as_written ! (ty_array (elτ E) rest) b (o + many * size) $ move ! (1 ∷ 0 ∷ []) $
    use2 𝓛 (‵ (froom (ty_array (elτ E) (many + rest)) b o)) (emptied E 𝓛 items rest b o) $
    rewrite ! 0 (λ (n : ℕ). ‵ (froom (ty_array (elτ E) n) b o)) all refl $ as_raw ! (ty_array (elτ E) count) b o $
    move ! (1 ∷ []) $ fsplit ! $ drop ! $
    let one_block : base.address ≡ block_ptr b o = sym asked.0.cells_at ∙ at in
    rewrite ! 0 (λ (w : A.Denot × Ptr × ℕ). ‵ (deed_owns Item (token Z w.0) w.1 w.2)) {x = (alloc.now, block_ptr b o, count)}
    (λ i. (asked.0.deed_alloc i, (asked.0.deed_at ∙ one_block) i, asked.0.deed_count i)) refl $
    move ! (2 ∷ []) $ fsplit ! $ drop ! $ move ! (3 ∷ []) $ split ! $ move ! (4 ∷ 3 ∷ 2 ∷ 0 ∷ []) $ keep ! (0 ∷ 1 ∷ 2 ∷ 3 ∷ 4 ∷ []) $
    -- [the memory; the deed; the allocator; its lifetime's token; the other tokens]
    let small : count * size < 2 ^ 63 = subst (λ (k : ℕ). k * size < 2 ^ 63) asked.0.cells_count room in
    let bytes : count * size < 2 ^ 64 = omega arith in
    let aligned : ℕ = capped (align (elτ E)) in
    let gives = Gives Z 𝓛 𝓜.mem 𝓡.returns in
    let goes_back : gives.Ghost = at_gives Z 𝓛 𝓜.mem 𝓡.returns κ q alloc.ref_ptr alloc.now b o (count * size) aligned (empty_places Item count) in
    group ! 4 $ use1 𝓛 (raw (gives.pre goes_back)) (Gives-goes Z 𝓛 𝓜.mem 𝓡.returns κ q alloc.ref_ptr alloc.now (Incl-trans bounds.0 within) b o (count * size) aligned (empty_places Item count)
    (block_size M' count bytes) (block_align M' count) bytes (capped_fits (align (elτ E)))) $
    regoal ! (λ p. prop (Runs p)) {x = block_ptr b o} one_block refl $
    enter ! _ _ _ _ _ $ alloc_all ! (λ l.
    pass_all ! refl ((tt, tt), (word-Good [] (block_ptr b o), ((tt, record { fits = are.1.1.0.1 }), ((tt, (tt, tt)), ((tt, (tt, tt)), tt))))) $
    first ! $ blocks ! $
    sets ! (of_opd ! (get_in ! (fld ! refl (stop !)) (sub ! 0 refl (whole !)))) refl (tt, tt) $
    sets ! (is ! (bin ! (get ! refl) (size_word !) (record { fits = subst (λ (k : ℕ). k < 2 ^ 64) (sym (uncapped count size bytes)) bytes })) (ap (vint w64) (uncapped count size bytes)))
    refl (tt, record { fits = bytes }) $
    calls_at_last ! (framed 𝓤 𝓛.H 𝓜 𝓣) gives (met.deallocate dd) goes_back
    (and_then ! (get ! refl) (and_then ! (get ! refl) (and_then ! (get ! refl) (and_then ! (align_word !) (no_more !))))) (λ v.
    use1 𝓛 (later (given (v ≡ vunit) (‵ (flft κ q)))) (Gives-Gives Z 𝓛 𝓜.mem 𝓡.returns κ q alloc.ref_ptr alloc.now b o (count * size) aligned (empty_places Item count) v) $
    await ! tt $ learn ! (λ is_unit.
    lands_last ! refl (subst (λ (u : Val). Holds (has_ty ty_unit u) × WT u) (sym is_unit) (tt, tt)) $
    exec ! 𝓣.C 𝓣.Λ (env function.locals l) (after 1 function.body) (at_ret (env function.locals l) Post) $
    sets ! (of_opd ! (unit_lit !)) refl (tt, tt) $
    returns ! (look_at ! 0 refl) $ free_all ! refl $
    -- [the lifetime's token; the others]
    join ! $ nothing ! $ nothing ! $ fjoin ! $ nothing ! $ fjoin ! $ nothing ! $ fjoin ! $ nothing ! $ fjoin ! $ nothing ! $ fjoin ! $
    feq_i ! (List Val) (vunit ∷ []) (vunit ∷ []) refl $ use0 𝓛 (raw (emp 𝓤)) (id⊢ 𝓤 (emp 𝓤)) $
    move ! (3 ∷ 2 ∷ 1 ∷ 0 ∷ []) $ by ! (leaves 𝓛 ended stays clauses y vunit tt (tt, (tt, (tt, (tt, (tt, tt))))) (tt, (tt, (tt, (tt, (tt, tt)))))))))))))))
