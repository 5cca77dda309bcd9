-- The allocator's block is room for as many items, and the right to free it is its deed. Assumes `Logic`.
use mathlib.Core.Path.{◌≡◌, refl, sym, ap, subst}
use mathlib.Core.Bool.{false, true}
use Prim.Native.Nat.{ℕ, ◌+◌, ◌-◌, ◌*◌, ◌<◌, ◌^◌}
use native.Mathlib.Omega.{arith}
use mathlib.Core.List.{List, [], ◌∷◌}
use lib.Dec.{lit<}
use mir.MapTy.{inst_fn}
use mir.Syntax.{Body, Fn, a_type, dcons, dnil, named, w64}
use mir.Val.{Val, of_list, vcons, vint, vnil, vstruct}
use base.Fraction.{full_share}
use base.Logic.{SProp, emp}
use base.Fml.{Incl-trans, flft, froom, ftrue}
use contract.BorrowLft.{◌⊑◌}
use contract.Monad.{fact, fact_i}
use contract.Running.{tables}
use prog.Capped.{capped_fits}
use prog.Memory.{align, capped}
use prog.Wp.{Wp, after_seq, at_return}
use types.ByLocal.{alloc_all, env, free_all, get, get_in, get_tag, is, lands_as, look_at, pass_all, sets, sets_last}
use types.Kit.{Post as After, any_q, ‵, raw, ◌⊛◌, later, at_ret, ◌$◌, ◌∵◌, !, qed, await, by, move, keep, drop, use0, use1, use2, use3, split, split3, join, fsplit, fjoin, flt_i, rewrite}
use types.Match.{in_variant, live, vrt}
use types.Part.{agg, whole}
use types.Run.{align_word, and_then, bin, enter, exec, first, fld, lit, no_more, of_opd, returns, size_word, stop, switches_on}
use denote.Array.{Array}
use denote.Builtin.{RefOf, usize}
use denote.Exit.{yes}
use denote.Laws.{Is}
use denote.Memory.{part_at}
use denote.Param.{bounded, layout, param}
use denote.Plain.{uint_Tells, uint_vals}
use denote.RattleType.{RattleType}
use denote.RawPtr.{Ptr, block_ptr}
use denote.Ref.{ShrRef, shr_Tells, shr_vals}
use denote.Signature.{plain}
use denote.Steps.{heard, nothing, owned}
use denote.Struct.Declared as Declared
use denote.Struct.Owning.{shape}
use denote.Struct.Struct.{Struct, Struct-Makes}
use denote.Struct.Tuple.{Tuple}
use denote.Triple.Call.{calls_at}
use denote.Triple.Table.{framed}
use denote.Triple.Walked.{Goes-dropped, Stays, stay_dropped, walk_of}
use Rattle.std.proofs.raw_atomic.Walks.{leaves, proved}
use Rattle.std.specs.Mem.{type_size}
use Rattle.std.specs.Prelude.{Err, Ok}
use Rattle.std.specs.Vec.Ownership.{FitsInBlock}
use Rattle.core.specs.contracts.alloc.AllocError as AllocError
use Rattle.core.specs.contracts.result.Result as Result
use Rattle.core.proofs.alloc.Calls.{Al, Answer-typed, Answered, Takes, Takes-gives, Takes-goes, answers, at_takes}
use Rattle.core.proofs.alloc.Shapes.{after, arm_body, head}
use Rattle.core.proofs.mem.Param.{El as Element}
use Rattle.core.proofs.ptr.Rows.{El, elτ, empty as no_items}
use Rattle.core.proofs.slots.Leases.{block_align, block_size, uncapped}
use Rattle.std_alloc.proofs.RcSteps.{Good, first_Good, word, word-Good}
use Rattle.std_alloc.proofs.ResultValues.{err_of, ok_of}
use Rattle.pm_raw.specs.Block.{IsBlock}
use Rattle.pm_raw.specs.Ownership.{empty_places}
use Rattle.pm_raw.specs.contracts.cells.Base as Base
use Rattle.pm_raw.specs.contracts.cells.Cells as Cells
use Rattle.pm_raw.specs.contracts.cells.Deed as Deed
use Rattle.pm_raw.specs.contracts.cells.Base.allocate as called
use Rattle.pm_raw.specs.contracts.cells.Base.allocate.Key as key
use Rattle.pm_raw.proofs.Blocks.{empty, made_base, made_empty, side_by_side}
use Rattle.pm_raw.proofs.cells.Base.allocate.Statement.{statement}
use Rattle.pm_raw.proofs.cells.Base.allocate.Code as code

pub allocate_spec : {M : Type 1} → statement M
allocate_spec 𝓤 𝓛 𝓜 𝓡 wired T A L LA g d dd met md =
    let 𝓣 = tables 𝓤 𝓛.H 𝓜 𝓡 𝓡.env in
    let Z : Al = record { row = A; laws = LA; g = g; d = d; drops = dd } in
    let E : El = record { row = T; laws = L } in let M' : Element = record { row = T; laws = L } in
    let Item = param 0 T in let Heap = param 1 A in
    let Start = Base.the_row Item in let Owner = Cells.the_row Item in let Right = Deed.the_row Item Heap g in
    let Block : RattleType = Tuple (Start ∷ Owner ∷ Right ∷ []) in
    let Answer : RattleType = Result.the_row Block AllocError.the_row in
    let Given = RefOf (0 ∷ []) tt (plain (λ _. Heap)) (λ _. tt) in
    let Count = plain (λ _. usize) in
    let types = bounded (a_type ∷ a_type ∷ []) (T, (A, tt)) (dcons d (dcons dd dnil)) in
    let function : Fn = inst_fn types code.function in
    let ended = called.ended T A g d dd in
    let clauses = called.clauses T A g d dd 𝓛 𝓜.mem 𝓡.returns in
    let stays : Stays ended.signature.params ended.kept = (stay_dropped Given yes, (stay_dropped Count yes, tt)) in
    let W = walk_of 𝓛 ended stays clauses in
    proved 𝓛 ended stays clauses 𝓜 𝓡
    (Goes-dropped 𝓛 3 Given yes (λ κs x w. refl), (Goes-dropped 𝓛 3 Count yes (λ κs x w. refl), tt))
    (key.name types) function (code.unfolded 𝓤 𝓛.H 𝓜 𝓡 wired (T, (A, tt)) d dd)
    (λ κs. (shr_vals, (uint_vals w64, tt))) (λ κs. (shr_Tells (named 0) κs.0 Heap, (uint_Tells w64, tt)))
    (λ κs qs bounds a ghost are.
    let alloc = a.0 in let count = a.1.0 in
    let κ = κs.0 in let q = qs.0 in let size = type_size Item in
    let y : W.Ghost = ((κs, qs, bounds, a, (shr_vals alloc, (vint w64 count ∷ [], tt))), ghost) in
    let Post : Val → SProp 𝓤 = W.post y in
    let Asked = FitsInBlock Item count in
    let others = ‵ (flft κs.1.0 qs.1.0) ⊛ ‵ (flft κs.1.1.0 qs.1.1.0) ⊛ ‵ ftrue in
    let own_alloc = ‵ ((ShrRef (named 0) κ Heap).own_val alloc (shr_vals alloc)) in
    let own_count = ‵ (usize.own_val count (vint w64 count ∷ [])) in
    qed 𝓛 (((‵ (flft κ q) ⊛ others) ⊛ own_alloc ⊛ own_count ⊛ ‵ ftrue) ∷ (raw (fact 𝓤 (κs.1.0 ⊑ T.lives)) ⊛ raw (fact 𝓤 (κs.1.1.0 ⊑ A.lives)) ⊛ raw (fact 𝓤 Asked)) ∷ []) ∵
    split ! $ move ! (1 ∷ []) $ split ! $ keep ! (0 ∷ 2 ∷ 3 ∷ []) $
    -- [the allocator; the lifetimes' tokens; what is asked]
    move ! (2 ∷ []) $ split3 ! $ drop ! $ heard ! (κs.1.1.0 ⊑ A.lives) (λ within. heard ! Asked (λ asked.
    fsplit ! $ drop ! $ move ! (1 ∷ []) $ split ! $ move ! (2 ∷ 0 ∷ []) $
    let bytes : count * size < 2 ^ 64 = let small = asked.0 in omega arith in
    let aligned : ℕ = capped (align (elτ E)) in
    let takes = Takes Z 𝓛 𝓜.mem 𝓡.returns in
    let wanted : takes.Ghost = at_takes Z 𝓛 𝓜.mem 𝓡.returns κ q alloc.ref_ptr alloc.now (count * size) aligned (empty_places Item count) in
    enter ! _ _ _ _ _ $ alloc_all ! (λ l. pass_all ! refl ((tt, tt), ((tt, record { fits = are.1.0.1 }), tt)) $
    let locals = env function.locals l in
    let both : Body = head (after 2 function.body) in
    let Then : After 𝓤 𝓛.H = any_q (after_seq 𝓤 𝓛.H (Wp 𝓤 𝓛.H 𝓣.C 𝓣.Λ locals (after 3 function.body) (at_return 𝓤 𝓛.H locals Post)) (at_return 𝓤 𝓛.H locals Post)) in
    sets ! (is ! (bin ! (get ! refl) (size_word !) (record { fits = subst (λ (k : ℕ). k < 2 ^ 64) (sym (uncapped count size bytes)) bytes })) (ap (vint w64) (uncapped count size bytes)))
    refl (tt, record { fits = bytes }) $
    use2 𝓛 (raw (takes.pre wanted)) (Takes-goes Z 𝓛 𝓜.mem 𝓡.returns κ q alloc.ref_ptr alloc.now (Incl-trans bounds.0 within) (count * size) aligned (empty_places Item count)
    (block_size M' count bytes) (block_align M' count) bytes (capped_fits (align (elτ E)))) $
    calls_at ! (framed 𝓤 𝓛.H 𝓜 𝓣) takes (met.allocate dd) wanted (and_then ! (get ! refl) (and_then ! (get ! refl) (and_then ! (align_word !) (no_more !)))) (λ v.
    use1 𝓛 (later (raw (Answered Z 𝓛 𝓜.mem 𝓡.returns alloc.now (empty_places Item count) v) ⊛ ‵ (flft κ q)))
    (Takes-gives Z 𝓛 𝓜.mem 𝓡.returns κ q alloc.ref_ptr alloc.now (count * size) aligned (empty_places Item count) v) $ await ! tt $ split ! $
    answers Z ! 𝓜.mem 𝓡.returns alloc.now (empty_places Item count) v
    (λ b o is_block.
    -- [the memory; the right to free it; the lifetime's token; the others]
    let p : Ptr = block_ptr b o in
    let made : Val = vstruct (of_list (word p ∷ empty ∷ empty ∷ [])) in
    let typed : Good (layout Block) made = (tt, ((tt, tt), ((tt, tt), ((tt, tt), tt)))) in
    let answer_typed = first_Good (layout Block) made typed in
    lands_as ! is_block refl (Answer-typed true b o) $
    first ! $ switches_on ! (get_tag ! (vrt ! refl (fld ! refl (stop !))) (whole !)) $ exec ! 𝓣.C 𝓣.Λ locals (arm_body 0 both) Then $
    sets ! (of_opd ! (get_in ! (vrt ! refl (fld ! refl (stop !))) (in_variant ! 0 0 refl refl (whole !)))) refl (tt, tt) $
    sets ! (of_opd ! (get ! refl)) refl (tt, tt) $ sets ! (agg ! (and_then ! (get ! refl) (no_more !))) refl (word-Good [] p) $
    sets ! (agg ! (no_more !)) refl (tt, tt) $ sets ! (agg ! (and_then ! (get ! refl) (no_more !))) refl (tt, (tt, tt)) $
    sets ! (agg ! (no_more !)) refl (tt, tt) $ sets ! (agg ! (and_then ! (get ! refl) (no_more !))) refl (tt, (tt, tt)) $
    sets ! (of_opd ! (get ! refl)) refl (tt, (tt, tt)) $
    sets ! (agg ! (and_then ! (get ! refl) (and_then ! (get ! refl) (and_then ! (get ! refl) (no_more !))))) refl typed $
    sets_last ! (agg ! (and_then ! (lit ! tt) (and_then ! (get ! refl) (no_more !)))) refl answer_typed $
    exec ! 𝓣.C 𝓣.Λ locals (after 3 function.body) (at_ret locals Post) $ sets ! (of_opd ! (get ! refl)) refl answer_typed $
    returns ! (look_at ! 0 refl) $ free_all ! refl $
    let none : List T.Denot = [] in
    let start : Start.Denot = record { address = p } in
    let places : Owner.Denot = record { of = record {}; at = p; items = none; count = count } in
    let deed : Right.Denot = record { of = record {}; at = p; count = count; alloc = alloc.now } in
    let block : Block.Denot = (start, places, deed) in
    let all_empty : count ≡ count - 0 = omega arith in let past_end_none : o ≡ o + 0 * size = omega arith in
    rewrite ! 0 (λ (w : ℕ × ℕ). ‵ (froom (empty_places Item w.0) b w.1)) {x = (count - 0, o + 0 * size)} (λ i. (all_empty i, past_end_none i)) refl $
    use0 𝓛 (‵ (part_at (Array Item 0) full_share none b o)) (no_items E 𝓛 none b o refl) $ fjoin ! $ flt_i ! (count * size) (2 ^ 63) asked.0 $ fjoin ! $
    use0 𝓛 (‵ ((Struct (shape (Cells.the_type Item))).own_val (tt, tt) (empty ∷ []))) (made_empty Item 𝓛) $ fjoin ! $ move ! (1 ∷ []) $
    use0 𝓛 (‵ ((Struct (shape (Cells.the_type Item))).own_val (tt, tt) (empty ∷ []))) (made_empty Item 𝓛) $ fjoin ! $
    use0 𝓛 (‵ (Start.own_val start (word p ∷ []))) (made_base Item 𝓛 p) $ move ! (0 ∷ 2 ∷ 1 ∷ []) $
    use3 𝓛 (‵ (Block.own_val block (made ∷ []))) (side_by_side Start Owner Right 𝓛 start places deed (word p) empty empty) $
    use1 𝓛 (‵ (Answer.own_val (Ok block) (live 0 (vcons made vnil) ∷ []))) (ok_of 𝓛 Block AllocError.the_row block made) $
    -- [the answer; the lifetime's token; the others]
    move ! (1 ∷ 2 ∷ []) $ join ! $ nothing ! $ nothing ! $ fjoin ! $ nothing ! $ fjoin ! $
    let Made = IsBlock start places deed count alloc.now × (places.items ≡ none) in
    let one_block : IsBlock start places deed count alloc.now = record { cells_at = refl; cells_count = refl; deed_at = refl; deed_count = refl; deed_alloc = refl } in
    use0 𝓛 (raw (fact 𝓤 Made)) (fact_i 𝓤 Made (emp 𝓤) (one_block, refl)) $
    move ! (2 ∷ 1 ∷ 3 ∷ 0 ∷ []) $ by ! (leaves 𝓛 ended stays clauses y (live 0 (vcons made vnil)) (Ok block) (tt, (tt, tt)) (tt, (tt, tt))))
    (λ is_error.
    let Refusal : RattleType = Struct (Declared.shape AllocError.the_type) in
    let refused : Val = live 1 (vcons (vstruct vnil) vnil) in
    lands_as ! is_error refl (Answer-typed false 0 0) $
    first ! $ switches_on ! (get_tag ! (vrt ! refl (fld ! refl (stop !))) (whole !)) $ exec ! 𝓣.C 𝓣.Λ locals (arm_body 1 both) Then $
    sets ! (of_opd ! (get_in ! (vrt ! refl (fld ! refl (stop !))) (in_variant ! 1 0 refl refl (whole !)))) refl (tt, tt) $
    sets_last ! (agg ! (and_then ! (lit ! tt) (and_then ! (get ! refl) (no_more !)))) refl (tt, (record { fits = lit< tt }, (tt, tt))) $
    exec ! 𝓣.C 𝓣.Λ locals (after 3 function.body) (at_ret locals Post) $ sets ! (of_opd ! (get ! refl)) refl (tt, (record { fits = lit< tt }, (tt, tt))) $
    returns ! (look_at ! 0 refl) $ free_all ! refl $
    owned ! Refusal (Is Refusal) (Struct-Makes 𝓛 (Declared.shape AllocError.the_type) tt) tt (vstruct vnil ∷ []) (tt, (refl, tt)) $
    use1 𝓛 (‵ (Answer.own_val (Err (record {})) (refused ∷ []))) (err_of 𝓛 Block AllocError.the_row (record {}) (vstruct vnil)) $
    move ! (1 ∷ 2 ∷ []) $ join ! $ nothing ! $ nothing ! $ fjoin ! $ nothing ! $ fjoin ! $
    use0 𝓛 (raw (fact 𝓤 (Unit {0}))) (fact_i 𝓤 (Unit {0}) (emp 𝓤) tt) $
    move ! (2 ∷ 1 ∷ 3 ∷ 0 ∷ []) $ by ! (leaves 𝓛 ended stays clauses y refused (Err (record {})) (tt, (tt, tt)) (tt, (tt, tt)))))))))
