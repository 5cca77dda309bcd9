-- The items are lent through a `&mut`, and the places hold whatever is left there. Assumes `Logic`.
use mathlib.Core.Path.{◌≡◌, refl, sym, subst, ◌∙◌}
use Prim.Native.Nat.{ℕ, ◌+◌, ◌-◌, ◌*◌, ◌<◌, ◌^◌}
use mathlib.Core.List.{List, [], ◌∷◌}
use lib.ListN.{length, drop as drop_prefix}
use lib.Seq.{take_at as take_prefix}
use mir.MapTy.{inst_fn}
use mir.Syntax.{Fn, a_type, named, w64}
use mir.Val.{Val, vint, vptr}
use base.Fraction.{full_share}
use base.Logic.{SProp, emp, ent, id⊢, sep}
use base.Fml.{Fml, GName, fat, flft, froom, fsep, ftrue}
use contract.BorrowLft.{◌⊑◌}
use contract.Monad.{fact, fact_i}
use contract.Running.{tables}
use prog.Wp.{WpFn}
use seplogic.Ra.Ura.{Ura}
use types.ByLocal.{alloc_all, env, free_all, get, get_in, give_at, look_at, pass_all, sets, sets_last, take_at}
use types.Kit.{‵, raw, ◌⊛◌, given, later, some, prop, at_ret, ◌$◌, ◌∵◌, !, qed, by, await, move, keep, drop, group, learn, pick, use0, use1, split, split3, fsplit, fsplit3, fjoin, fjoin3, join, fpack, flt_i, flt_l, regoal, rewrite, done}
use types.Logic.{Logic, sem}
use types.Part.{agg, sub, whole}
use types.Run.{and_then, blocks, enter, exec, first, fld, no_more, of_opd, returns, stop}
use types.SemTy.{cells}
use denote.Array.{Array}
use denote.Builtin.{usize}
use denote.Exit.{no, yes}
use denote.Follow.{follows}
use denote.FollowSlice.{Elements, lends_Elements}
use denote.Index.{row, whole_in, whole_out}
use denote.Memory.{cell_at, mem, part_at, part_of}
use denote.Param.{layout, layouts, param}
use denote.Param.Laws.{Laws, param_laws}
use denote.Plain.{uint_Tells, uint_vals}
use denote.RattleType.{RattleType}
use denote.RawPtr.{Ptr, block_ptr, in_a_block}
use denote.Ref.{MutBor, MutRef, mut_Tells, mut_vals}
use denote.Signature.{mut_ref_to, plain}
use denote.Slice.{MutSlice, slice_val}
use denote.Steps.{heard, nothing, opens}
use denote.Struct.Owning.{shape}
use denote.Struct.Struct.{Struct}
use denote.Triple.Walked.{Goes-dropped, Goes-spent_ref, Stays, stay_dropped, walk_of}
use Rattle.std.proofs.raw_atomic.Walks.{leaves, proved}
use Rattle.std.specs.List.{refill}
use Rattle.std.specs.Mem.{type_size}
use Rattle.core.proofs.alloc.Shapes.{after}
use Rattle.core.proofs.ptr.Rows.{El, apart, whole as one_array}
use Rattle.std_alloc.proofs.RcSteps.{word, word-Good}
use Rattle.pm_raw.specs.Lends.{refilled}
use Rattle.pm_raw.specs.Ownership.{empty_places, places_own}
use Rattle.pm_raw.specs.declared.cells.Cells.{Cells as Places}
use Rattle.pm_raw.specs.contracts.cells.Base as Base
use Rattle.pm_raw.specs.contracts.cells.Cells as Cells
use Rattle.pm_raw.specs.contracts.cells.Cells.slice_mut as called
use Rattle.pm_raw.specs.contracts.cells.Cells.slice_mut.Key as key
use Rattle.pm_raw.proofs.Blocks.{nowhere}
use Rattle.pm_raw.proofs.cells.Base.TheLaws.{lowers}
use Rattle.pm_raw.proofs.cells.Cells.slice_mut.Statement.{statement}
use Rattle.pm_raw.proofs.cells.Cells.slice_mut.Code as code

module _ (T : RattleType) (L : Laws T) {M : Type 1} {𝓤 : Ura M} (𝓛 : Logic 𝓤) where
  abbrev R : RattleType
  R = param 0 T

  abbrev Self : RattleType
  Self = Cells.the_row R

  abbrev element : El
  element = record { row = T; laws = L }

  module _ (places : Places T.Denot) (rb ro b o : ℕ) (vs : List Val) where
    abbrev many : ℕ
    many = length places.items

    -- what stays after while the items are lent
    abbrev Rest : Fml
    Rest = fsep (froom (empty_places R (places.count - many)) b (o + many * type_size R)) (fsep ((Struct (shape (Cells.the_type R))).own_val (tt, tt) vs) (cell_at full_share Self.mir vs rb ro))

    back : places.at ≡ block_ptr b o → places.count * type_size R < 2 ^ 63 → (ws : List T.Denot) → length ws ≡ many
        → ent 𝓤 (sep 𝓤 (sem 𝓛 (cells (mem R) ws b o)) (sem 𝓛 Rest)) (sem 𝓛 ((mem Self).own_at (refilled places ws) rb ro))
    unfolding part_of
    back at small ws same =
        let new = refilled places ws in
        let all : refill many places.items ws ≡ ws = take_prefix ws (drop_prefix (length ws) places.items) many same in
        qed 𝓛 (‵ (cells (mem R) ws b o) ∷ ‵ Rest ∷ []) ∵
        use1 𝓛 (‵ (row R full_share ws b o)) (whole_out 𝓛 R ws b o) $
        use1 𝓛 (‵ (part_at (Array R (length ws)) full_share ws b o)) (one_array element 𝓛 full_share (length ws) ws b o refl) $
        move ! (1 ∷ []) $ fsplit ! $ rewrite ! 0 (λ (n : ℕ). ‵ (froom (empty_places R (places.count - n)) b (o + n * type_size R))) (sym same) refl $
        move ! (2 ∷ 0 ∷ []) $ fjoin ! $ flt_i ! (places.count * type_size R) (2 ^ 63) small $ fjoin ! $
        rewrite ! 0 (λ (w : Ptr × List T.Denot). ‵ (places_own R w.0 w.1 places.count)) {x = (places.at, new.items)} (λ i. (sym at i, sym all i)) refl $
        move ! (1 ∷ []) $ fsplit ! $ move ! (0 ∷ 2 ∷ []) $ fjoin ! $ move ! (1 ∷ 0 ∷ []) $ fjoin ! $
        fpack ! (List Val) (λ us. fsep (cell_at full_share Self.mir us rb ro) (Self.own_val new us)) vs $ done !

pub slice_mut_spec : {M : Type 1} → statement M
slice_mut_spec 𝓤 𝓛 𝓜 𝓡 wired T L =
    let 𝓣 = tables 𝓤 𝓛.H 𝓜 𝓡 𝓡.env in
    let Item = param 0 T in let Owner = Cells.the_row Item in
    let Address = plain (λ _. Base.the_row Item) in
    let Count = plain (λ _. usize) in
    let function : Fn = inst_fn (layouts (a_type ∷ []) (T, tt)) code.function in
    let clauses = called.clauses T 𝓛 𝓜.mem 𝓡.returns in
    let stays : Stays (called.signature T).params (called.ended T).kept =
    (stay_dropped (mut_ref_to (0 ∷ []) tt (plain (λ _. Owner))) no, (stay_dropped Address no, (stay_dropped Count yes, tt))) in
    let W = walk_of 𝓛 (called.ended T) stays clauses in
    proved 𝓛 (called.ended T) stays clauses 𝓜 𝓡
    (Goes-spent_ref 𝓛 2 (0 ∷ []) tt (plain (λ _. Owner)), (Goes-dropped 𝓛 2 Address no (λ κs x w. refl), (Goes-dropped 𝓛 2 Count yes (λ κs x w. refl), tt)))
    (key.name (layouts (a_type ∷ []) (T, tt))) function (code.unfolded 𝓤 𝓛.H 𝓜 𝓡 wired (T, tt))
    (λ κs. (mut_vals, ((λ base. word base.address ∷ []), (uint_vals w64, tt))))
    (λ κs. (mut_Tells (named 0) κs.0 Owner, ((lowers Item (param_laws 0 T L)).val_is, (uint_Tells w64, tt))))
    (λ κs qs bounds a ghost are.
    let self = a.0 in let base = a.1.0 in let len = a.1.1.0 in
    let κ = κs.0 in let rb = self.ref_ptr.0 in let ro = self.ref_ptr.1 in
    let places = self.now in let items = places.items in
    let many = length items in
    let y : W.Ghost = ((κs, qs, bounds, a, (mut_vals self, (word base.address ∷ [], (vint w64 len ∷ [], tt)))), ghost) in
    let Post : Val → SProp 𝓤 = W.post y in
    let Runs : ℕ → SProp 𝓤 = λ n. WpFn 𝓤 𝓛.H 𝓣.C 𝓣.Λ function (vptr rb ro ∷ word base.address ∷ vint w64 n ∷ []) Post in
    let Asked = (base.address ≡ places.at) × (many ≡ len) × (places.count ≡ len) in
    let alive = ‵ (flft κ qs.0) ⊛ ‵ (flft κs.1.0 qs.1.0) ⊛ ‵ ftrue in
    let own_self = ‵ ((MutRef (named 0) κ Owner).own_val self (mut_vals self)) in
    let own_base = ‵ ((Base.the_row Item).own_val base (word base.address ∷ [])) in
    let own_len = ‵ (usize.own_val len (vint w64 len ∷ [])) in
    qed 𝓛 ((alive ⊛ own_self ⊛ own_base ⊛ own_len ⊛ ‵ ftrue) ∷ (raw (fact 𝓤 (κs.1.0 ⊑ T.lives)) ⊛ raw (fact 𝓤 Asked)) ∷ []) ∵
    split ! $ move ! (1 ∷ []) $ split ! $ keep ! (0 ∷ 2 ∷ 3 ∷ []) $ move ! (2 ∷ []) $ split ! $ drop ! $ heard ! Asked (λ asked.
    -- [self; the lifetimes' tokens]
    let fits : many < 2 ^ 64 = subst (λ (k : ℕ). k < 2 ^ 64) (sym asked.1) are.1.1.0.1 in
    fsplit3 ! $ drop ! $ move ! (2 ∷ []) $ split ! $ move ! (2 ∷ 3 ∷ 0 ∷ []) $
    regoal ! (λ n. prop (Runs n)) {x = many} (sym asked.1) refl $
    enter ! _ _ _ _ _ $ alloc_all ! (λ l. pass_all ! refl ((tt, tt), (word-Good [] base.address, ((tt, record { fits = fits }), tt))) $
    opens ! tt Owner {h = places} rb ro (λ vs. move ! (1 ∷ []) $ fsplit ! $ move ! (1 ∷ []) $
    in_a_block ! places.at (λ p. places_own Item p items places.count) (nowhere Item items places.count 𝓛) (λ b o at.
    fsplit ! $ flt_l ! (λ small. fsplit ! $
    -- [the items; the room after them; the places' fields; their cell; the open borrow, in three entries; the other token]
    let bytes : many * type_size Item < 2 ^ 63 = subst (λ (k : ℕ). k * type_size Item < 2 ^ 63) (asked.2 ∙ sym asked.1) small in
    use1 𝓛 (given (many ≡ many) (‵ (row Item full_share items b o))) (apart (element T L 𝓛) 𝓛 full_share many items b o) $ learn ! (λ _.
    use1 𝓛 (‵ (cells (mem Item) items b o)) (whole_in 𝓛 Item items b o) $
    take_at ! 2 $ rewrite ! 0 (λ (p : Ptr). ‵ (fat full_share (layout (Base.the_row Item)) (l 2) 0 (word p))) (asked.0 ∙ at) refl $ give_at ! 2 $
    first ! $ blocks ! $
    sets_last ! (agg ! (and_then ! (get_in ! (fld ! refl (stop !)) (sub ! 0 refl (whole !))) (and_then ! (get ! refl) (no_more !)))) refl (tt, (tt, (record { fits = fits }, tt))) $
    exec ! 𝓣.C 𝓣.Λ (env function.locals l) (after 1 function.body) (at_ret (env function.locals l) Post) $
    sets ! (of_opd ! (get ! refl)) refl (tt, (tt, (record { fits = fits }, tt))) $
    move ! (1 ∷ 2 ∷ 3 ∷ []) $ fjoin3 ! $ move ! (2 ∷ 3 ∷ 4 ∷ 1 ∷ 0 ∷ []) $ group ! 5 $
    let code_of = Owner.coded.code places in
    let roomy : (many < 2 ^ 64) × (many * type_size Item < 2 ^ 63) = (fits, bytes) in
    let stayed = sem 𝓛 (Rest T L 𝓛 places rb ro b o vs) in
    let comes_back = back T L 𝓛 places rb ro b o vs at small in
    use1 𝓛 (later (some (λ (δ : GName). raw (Elements 𝓛 Owner Item (refilled places) (named 0) κ qs.0 rb ro b o self.ghost_name items roomy stayed comes_back δ))))
    (lends_Elements 𝓛 Owner Item (refilled places) (named 0) κ qs.0 rb ro b o self.ghost_name items roomy stayed comes_back code_of code_of) $ await ! tt $ pick ! (λ δ.
    let result : MutBor (List T.Denot) = record { ref_ptr = (b, o); ghost_name = δ; now = items } in
    returns ! (look_at ! 0 refl) $ free_all ! refl $
    use1 𝓛 (‵ ((MutSlice (named 0) κ Item).own_val result (slice_val (b, o) many ∷ [])) ⊛ ‵ (flft κ qs.0) ⊛ ‵ (follows Owner (Array Item 0) self.ghost_name δ (refilled places))) (id⊢ 𝓤 _) $ split3 ! $
    move ! (1 ∷ 3 ∷ []) $ join ! $ use0 𝓛 (raw (fact 𝓤 (items ≡ items))) (fact_i 𝓤 (items ≡ items) (emp 𝓤) refl) $ move ! (3 ∷ 0 ∷ []) $ join ! $
    nothing ! $ nothing ! $ fjoin ! $ nothing ! $ fjoin ! $ nothing ! $ fjoin ! $
    move ! (2 ∷ 0 ∷ 3 ∷ 1 ∷ []) $ by ! (leaves 𝓛 (called.ended T) stays clauses y (slice_val (b, o) many) result (tt, (tt, (tt, tt))) (tt, (tt, (tt, tt))))))))))))
