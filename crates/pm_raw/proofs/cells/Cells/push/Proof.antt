-- An item goes into the first empty place. Assumes `Logic`.
use mathlib.Core.Path.{◌≡◌, refl, sym, ap, subst, ◌∙◌}
use Prim.Native.Nat.{ℕ, ◌+◌, ◌-◌, ◌*◌, ◌<◌, ◌^◌}
use native.Mathlib.Omega.{arith}
use mathlib.Core.List.{List, [], ◌∷◌, ◌++◌}
use lib.ListN.{length, length-append}
use mir.MapTy.{inst_fn}
use mir.Syntax.{Fn, a_type, named, ty_array, w64}
use mir.Val.{Val, vint, vptr, vunit}
use base.Fraction.{full_share}
use base.Logic.{SProp, emp}
use base.Fml.{fat, flft, froom, ftrue}
use contract.BorrowLft.{◌⊑◌}
use contract.Monad.{fact, fact_i}
use contract.Running.{tables}
use prog.Wp.{WpFn}
use types.ByLocal.{alloc_all, env, free_all, get, get_in, give_at, look_at, pass_all, sets, take_at, through}
use types.Kit.{‵, raw, ◌⊛◌, prop, at_ret, ◌$◌, ◌∵◌, !, qed, by, move, keep, drop, use0, use1, use2, split, split3, join, fsplit, fsplit3, fjoin, fjoin3, feq_i, flt_i, flt_l, regoal, rewrite}
use types.Part.{sub, whole}
use types.Run.{assigns_last, bin, blocks, enter, exec, first, fld, init, of_opd, returns, size_lit, stop, unit_lit}
use denote.Array.{Array}
use denote.Builtin.{usize}
use denote.Exit.{no, yes}
use denote.Memory.{part_at}
use denote.Param.{layout, layouts, param}
use denote.Param.Laws.{param_laws}
use denote.Plain.{uint_Tells}
use denote.RawPtr.{Ptr, in_a_block}
use denote.Ref.{MutRef, mut_Tells}
use denote.Signature.{plain}
use denote.Steps.{closes, heard, nothing, opens}
use denote.Triple.Walked.{Goes-dropped, Goes-ref, Stays, stay_dropped, stay_ref, walk_of}
use Rattle.std.proofs.raw_atomic.Walks.{leaves, proved_at}
use Rattle.std.specs.Mem.{type_size}
use Rattle.core.proofs.alloc.Shapes.{after}
use Rattle.core.proofs.mem.Param.{one}
use Rattle.core.proofs.ptr.Rows.{El, el_in, elτ, one_below, snoc, spare, times_below}
use Rattle.std_alloc.proofs.RawLayout.{as_raw, as_written}
use Rattle.std_alloc.proofs.RcSteps.{word, word-Good}
use Rattle.pm_raw.specs.Ownership.{empty_places, places_own}
use Rattle.pm_raw.specs.declared.cells.Cells.{Cells as Places}
use Rattle.pm_raw.specs.contracts.cells.Base as Base
use Rattle.pm_raw.specs.contracts.cells.Cells as Cells
use Rattle.pm_raw.specs.contracts.cells.Cells.push as called
use Rattle.pm_raw.specs.contracts.cells.Cells.push.Key as key
use Rattle.pm_raw.proofs.Blocks.{nowhere}
use Rattle.pm_raw.proofs.cells.Base.TheLaws.{lowers}
use Rattle.pm_raw.proofs.cells.Cells.push.Statement.{statement}
use Rattle.pm_raw.proofs.cells.Cells.push.Code as code

pub push_spec : {M : Type 1} → statement M
push_spec 𝓤 𝓛 𝓜 𝓡 wired T L =
    let 𝓣 = tables 𝓤 𝓛.H 𝓜 𝓡 𝓡.env in
    let Item = param 0 T in let Owner = Cells.the_row Item in
    let E : El = record { row = T; laws = L } in
    let Address = plain (λ _. Base.the_row Item) in
    let Count = plain (λ _. usize) in
    let Given = plain (λ _. Item) in
    let function : Fn = inst_fn (layouts (a_type ∷ []) (T, tt)) code.function in
    let clauses = called.clauses T 𝓛 𝓜.mem 𝓡.returns in
    let stays : Stays (called.signature T).params (called.ended T).kept =
    (stay_ref (0 ∷ []) tt (plain (λ _. Owner)), (stay_dropped Address no, (stay_dropped Count yes, (stay_dropped Given no, tt)))) in
    let W = walk_of 𝓛 (called.ended T) stays clauses in
    proved_at 𝓛 (called.ended T) stays clauses 𝓜 𝓡
    (Goes-ref 𝓛 2 0 tt (plain (λ _. Owner)), (Goes-dropped 𝓛 2 Address no (λ κs x w. refl), (Goes-dropped 𝓛 2 Count yes (λ κs x w. refl), (Goes-dropped 𝓛 2 Given no (λ κs x w. refl), tt))))
    (key.name (layouts (a_type ∷ []) (T, tt))) function (code.unfolded 𝓤 𝓛.H 𝓜 𝓡 wired (T, tt)) (λ y are.
    let κs = y.0.0 in let qs = y.0.1 in let a = y.0.3 in let vss = y.0.4 in
    let self = a.0 in let base = a.1.0 in let index = a.1.1.0 in let item = a.1.1.1.0 in
    let κ = κs.0 in let rb = self.ref_ptr.0 in let ro = self.ref_ptr.1 in
    let places = self.now in let items = places.items in
    let many = length items in let size = type_size Item in
    let self_is = mut_Tells (named 0) κ Owner self vss.0 are.0 in
    let base_is = (lowers Item (param_laws 0 T L)).val_is base vss.1.0 are.1.0 in
    let index_is = uint_Tells w64 index vss.1.1.0 are.1.1.0 in
    let item_one = one (record { row = T; laws = L }) vss.1.1.1.0 (((param_laws 0 T L).lawful 𝓛).typed item vss.1.1.1.0 are.1.1.1.0) in
    let v = item_one.0 in
    let Post : Val → SProp 𝓤 = W.post y in
    let Runs : List Val → SProp 𝓤 = λ ws. WpFn 𝓤 𝓛.H 𝓣.C 𝓣.Λ function ws Post in
    let Asked = (base.address ≡ places.at) × (index ≡ many) × (index < places.count) in
    let alive = ‵ (flft κ qs.0) ⊛ ‵ (flft κs.1.0 qs.1.0) ⊛ ‵ ftrue in
    let own_self = ‵ ((MutRef (named 0) κ Owner).own_val self vss.0) in
    let own_base = ‵ ((Base.the_row Item).own_val base vss.1.0) in
    let own_index = ‵ (usize.own_val index vss.1.1.0) in
    let own_item = ‵ (Item.own_val item vss.1.1.1.0) in
    qed 𝓛 ((alive ⊛ own_self ⊛ own_base ⊛ own_index ⊛ own_item ⊛ ‵ ftrue) ∷ (raw (fact 𝓤 (κs.1.0 ⊑ T.lives)) ⊛ raw (fact 𝓤 Asked)) ∷ []) ∵
    split ! $ move ! (1 ∷ []) $ split ! $ move ! (1 ∷ []) $ split3 ! $ move ! (2 ∷ []) $ split ! $ keep ! (0 ∷ 4 ∷ 5 ∷ 6 ∷ []) $
    -- [the item; self; the lifetimes' tokens; what is asked]
    move ! (3 ∷ []) $ split ! $ drop ! $ heard ! Asked (λ asked.
    let low : many < places.count = subst (λ (k : ℕ). k < places.count) asked.1 asked.2 in
    let fits : many < 2 ^ 64 = subst (λ (k : ℕ). k < 2 ^ 64) asked.1 are.1.1.0.1 in
    rewrite ! 0 (λ (us : List Val). ‵ (Item.own_val item us)) item_one.1 refl $
    move ! (1 ∷ []) $ fsplit3 ! $ drop ! $ move ! (3 ∷ []) $ split ! $ move ! (2 ∷ 3 ∷ 0 ∷ []) $
    regoal ! (λ ws. prop (Runs ws)) {x = vptr rb ro ∷ word base.address ∷ vint w64 many ∷ v ∷ []}
    (λ i. self_is i ++ (base_is i ++ ((index_is ∙ ap (λ (n : ℕ). vint w64 n ∷ []) asked.1) i ++ (item_one.1 i ++ [])))) refl $
    enter ! _ _ _ _ _ $ alloc_all ! (λ l. pass_all ! refl ((tt, tt), (word-Good [] base.address, ((tt, record { fits = fits }), (item_one.2, tt)))) $
    opens ! tt Owner {h = places} rb ro (λ vs. move ! (1 ∷ []) $ fsplit ! $ move ! (1 ∷ []) $
    in_a_block ! places.at (λ p. places_own Item p items places.count) (nowhere Item items places.count 𝓛) (λ b o at.
    fsplit ! $ flt_l ! (λ small. fsplit ! $
    -- [the items; the room after them; the places' fields; their cell; the open borrow, in three entries; the other token; the item]
    let tiny : size < 2 ^ 64 = omega (arith, one_below places.count size (2 ^ 63) (omega arith) small) in
    let far : many * size < 2 ^ 64 = omega (arith, times_below many places.count size (2 ^ 63) (omega arith) small) in
    move ! (1 ∷ []) $ as_written ! (ty_array (elτ E) (places.count - many)) b (o + many * size) $
    use1 𝓛 (‵ (froom (elτ E) b (many * size + o)) ⊛ ‵ (froom (ty_array (elτ E) (places.count - (many + 1))) b (o + (many + 1) * size))) (spare E 𝓛 b o many places.count low) $ split ! $
    -- [the first empty place; the room after it; the items; and so on]
    take_at ! 2 $ rewrite ! 0 (λ (p : Ptr). ‵ (fat full_share (layout (Base.the_row Item)) (l 2) 0 (word p))) (asked.0 ∙ at) refl $ give_at ! 2 $
    first ! $ blocks ! $
    sets ! (bin ! (get ! refl) (size_lit ! (record { fits = tiny })) (record { fits = far })) refl (tt, record { fits = far }) $
    sets ! (bin ! (get_in ! (fld ! refl (stop !)) (sub ! 0 refl (whole !))) (get ! refl) tt) refl (tt, tt) $
    sets ! (of_opd ! (get ! refl)) refl item_one.2 $
    assigns_last ! (of_opd ! (get ! refl)) (through ! refl (stop !)) (init ! 0 refl item_one.2) $
    exec ! 𝓣.C 𝓣.Λ (env function.locals l) (after 1 function.body) (at_ret (env function.locals l) Post) $
    sets ! (of_opd ! (unit_lit !)) refl (tt, tt) $
    let new : Places T.Denot = record places { items = items ++ item ∷ [] } in
    let more : many + 1 ≡ length new.items = sym (length-append items (item ∷ [])) in
    move ! (0 ∷ 9 ∷ []) $ use2 𝓛 (‵ (part_at Item full_share item b (many * size + o))) (el_in E 𝓛 full_share item b (many * size + o) v) $
    move ! (2 ∷ 0 ∷ []) $ use2 𝓛 (‵ (part_at (Array Item (many + 1)) full_share new.items b o)) (snoc E 𝓛 b o many items item) $
    move ! (1 ∷ []) $ as_raw ! (ty_array (elτ E) (places.count - (many + 1))) b (o + (many + 1) * size) $
    rewrite ! 0 (λ (n : ℕ). ‵ (froom (empty_places Item (places.count - n)) b (o + n * size))) more refl $
    rewrite ! 1 (λ (n : ℕ). ‵ (part_at (Array Item n) full_share new.items b o)) more refl $
    move ! (1 ∷ 0 ∷ []) $ fjoin ! $ flt_i ! (places.count * size) (2 ^ 63) small $ fjoin ! $
    rewrite ! 0 (λ (p : Ptr). ‵ (places_own Item p new.items places.count)) (sym at) refl $
    move ! (1 ∷ 0 ∷ []) $ fjoin ! $ move ! (1 ∷ 0 ∷ []) $ closes ! tt Owner new vs rb ro $
    -- [self's two parts; its token; the other token]
    returns ! (look_at ! 0 refl) $ free_all ! refl $
    move ! (2 ∷ 3 ∷ []) $ join ! $ move ! (1 ∷ 2 ∷ []) $ feq_i ! (List Val) vss.0 (vptr rb ro ∷ []) self_is $ fjoin3 ! $
    nothing ! $ nothing ! $ fjoin ! $ nothing ! $ fjoin ! $ nothing ! $ fjoin ! $ move ! (1 ∷ 0 ∷ []) $ fjoin ! $
    feq_i ! (List Val) (vunit ∷ []) (vunit ∷ []) refl $
    let Done = new ≡ record places { items = items ++ item ∷ [] } in
    use0 𝓛 (raw (fact 𝓤 Done)) (fact_i 𝓤 Done (emp 𝓤) refl) $
    move ! (3 ∷ 2 ∷ 1 ∷ 0 ∷ []) $ by ! (leaves 𝓛 (called.ended T) stays clauses y vunit tt (new, (tt, (tt, (tt, tt)))) (tt, (tt, (tt, (tt, tt)))))))))))
