-- What a handle owns goes into a loose value. Assumes `Logic`.
use Rattle.std.proofs.Common.{◌≡◌, [], ◌∷◌, refl, lit<, subst}
use mathlib.Core.Bool.{Bool, false, true, not}
use lib.Dec.{T}
use seplogic.Ra.Ura.{Ura}
use mir.Raw.{raw as bare}
use mir.Syntax.{ty_ptr}
use mir.Val.{Val, vptr, vcons, vnil, has_ty}
use base.Logic.{SProp, ent, emp, sep, never, fst∗}
use base.Fml.{ftrue, feq, fsep}
use prog.Model.{Model}
use prog.Wp.{WpFn}
use types.Logic.{Logic, sem}
use types.Kit.{‵, raw, ◌⊛◌, prop, at_ret, ◌$◌, ◌∵◌, !, qed, by, drop, keep, move, split, split3, fsplit, fjoin, feq_l, use0, use1, regoal}
use types.Match.{live}
use types.Run.{stop, fld, lit, of_opd, no_more, and_then, first, branches, exec, returns, enter}
use types.ByLocal.{alloc_all, pass_all, free_all, look_at, get, get_in, sets, sets_last, env}
use types.Part.{agg, sub, whole}
use contract.Monad.{fact, fact_i}
use contract.Running.{Running, tables}
use denote.Exit.{yes}
use denote.Memory.{lone}
use denote.Param.{layout}
use denote.RattleType.{RattleType}
use denote.RawPtr.{Ptr, block_ptr, null_ptr, ptr_val, in_a_block}
use denote.Signature.{plain}
use denote.Steps.{nothing}
use denote.Triple.Walked.{Stays, stay_dropped, Goes-dropped, walk_of}
use Rattle.core.proofs.alloc.Calls.{Goes-blank}
use Rattle.core.proofs.alloc.Shapes.{after}
use Rattle.core.proofs.atomic.Steps.{Ptr-Good}
use Rattle.core.proofs.cell.Inside.{Good}
use Rattle.core.proofs.option.Made.{Some-of, none_of}
use Rattle.core.specs.contracts.option.Option as option
use Rattle.std.proofs.raw_atomic.Walks.{leaves, proved}
use Rattle.std.specs.Prelude.{Option, None, Some}
use Rattle.std_alloc.specs.Box.Ownership.{box_owns}
use Rattle.std_heap.specs.contracts.Global as heap
use Rattle.std_heap.proofs.Global.TheLaws as heap_laws
use Rattle.std_heap.proofs.Handle.{heap_val, heap_Tells}
use Rattle.std_heap.specs.contracts.GlobalAllocator.TheImpl.{ghosts}
use Rattle.bpfs_c.proofs.LooseValues.{both, RawBox, both_tt, loose_good, loose_in}
use Rattle.bpfs_c.specs.Ownership.{freeable, handle_owns}
use Rattle.bpfs_c.specs.declared.mounted.Mounted.{Mounted}
use Rattle.bpfs_c.specs.contracts.mounted.Mounted as mounted
use Rattle.bpfs_c.specs.contracts.handle.Handle as Handle
use Rattle.bpfs_c.specs.contracts.handle.Handle.unseal as called
use Rattle.bpfs_c.proofs.Handles.{handle_val}
use Rattle.bpfs_c.proofs.handle.Handle.TheLaws.{lowers}
use Rattle.bpfs_c.proofs.handle.Handle.unseal.Statement.{statement}
use Rattle.bpfs_c.proofs.handle.Handle.unseal.Code as code

abbrev stayed : Stays called.ended.signature.params called.ended.kept
stayed = (stay_dropped (plain (λ _. Handle.the_row)) yes, (stay_dropped (plain (λ _. heap.the_row)) yes, tt))

abbrev Lr : RattleType
Lr = RawBox mounted.the_row heap.the_row heap_laws.the_row_laws ghosts

abbrev Out : RattleType
Out = option.the_row Lr

heap_good : Good (layout heap.the_row) heap_val
heap_good = (tt, ((tt, tt), tt))

module _ {M : Type 1} (𝓤 : Ura M) (𝓛 : Logic 𝓤) (𝓜 : Model 𝓤 𝓛.H) (𝓡 : Running 𝓤 𝓛.H 𝓜) (g : heap.the_row.Denot) where
  abbrev Ends : Ptr → Bool → Option Mounted → Val → SProp 𝓤
  Ends at is_open held =
      (walk_of 𝓛 called.ended stayed (called.clauses 𝓛 𝓜.mem 𝓡.returns)).post
      ((tt, tt, tt, (record { at = at; is_open = is_open; held = held }, (g, tt)), (handle_val at is_open ∷ [], (heap_val ∷ [], tt))), tt)

  abbrev Runs : Ptr → Bool → Option Mounted → SProp 𝓤
  Runs at is_open held =
      let 𝓣 = tables 𝓤 𝓛.H 𝓜 𝓡 𝓡.env in WpFn 𝓤 𝓛.H 𝓣.C 𝓣.Λ code.function (handle_val at is_open ∷ heap_val ∷ []) (Ends at is_open held)

  walk : (at : Ptr) (is_open : Bool) (held : Option Mounted)
      → ent 𝓤 (sep 𝓤 (sem 𝓛 (handle_owns at is_open held)) (sem 𝓛 (heap.the_row.own_val g (heap_val ∷ [])))) (Runs at is_open held)
  walk at is_open None =
      let 𝓣 = tables 𝓤 𝓛.H 𝓜 𝓡 𝓡.env in let c = called.clauses 𝓛 𝓜.mem 𝓡.returns in let nothing_held : Option Mounted = None in
      qed 𝓛 (‵ (feq Bool is_open false) ∷ ‵ (heap.the_row.own_val g (heap_val ∷ [])) ∷ []) ∵ feq_l ! (λ e.
      enter ! 𝓣.C 𝓣.Λ code.function (handle_val at is_open ∷ heap_val ∷ []) (Ends at is_open None) $
      alloc_all ! (λ l. pass_all ! refl ((both_tt (has_ty ty_ptr (ptr_val at)) true (Ptr-Good at).0 tt, ((Ptr-Good at).1, (tt, tt))), (heap_good, tt)) $
      let Ev = env (code.function).locals l in
      sets ! (of_opd ! (get_in ! (fld ! refl (stop !)) (sub ! 0 refl (whole !)))) refl (Ptr-Good at) $ sets ! (of_opd ! (get_in ! (fld ! refl (stop !)) (sub ! 1 refl (whole !)))) refl (tt, tt) $
      sets ! (of_opd ! (get ! refl)) refl (tt, tt) $ first ! $ branches ! (get ! refl) (λ t. absurd (subst T e t)) (λ _.
      sets_last ! (agg ! (and_then ! (lit ! tt) (no_more !))) refl (tt, (record { fits = lit< tt }, tt)) $ exec ! 𝓣.C 𝓣.Λ Ev (after 4 (code.function).body) (at_ret Ev (Ends at is_open None)) $
      sets ! (of_opd ! (get ! refl)) refl (tt, (record { fits = lit< tt }, tt)) $ returns ! (look_at ! 0 refl) $ free_all ! refl $ keep ! [] $
      use0 𝓛 (raw (fact 𝓤 (nothing_held ≡ None))) (fact_i 𝓤 (nothing_held ≡ None) (emp 𝓤) refl) $ use0 𝓛 (‵ (Out.own_val None (live 0 vnil ∷ []))) (none_of 𝓛 Lr) $
      nothing ! $ nothing ! $ fjoin ! $ nothing ! $ fjoin ! $ nothing ! $
      by ! (leaves 𝓛 called.ended stayed c ((tt, tt, tt, (record { at = at; is_open = is_open; held = None }, (g, tt)), (handle_val at is_open ∷ [], (heap_val ∷ [], tt))), tt) (live 0 vnil) None (tt, (tt, tt)) (tt, (tt, tt))))))
  walk at is_open (Some mounted') =
      let 𝓣 = tables 𝓤 𝓛.H 𝓜 𝓡 𝓡.env in let c = called.clauses 𝓛 𝓜.mem 𝓡.returns in
      qed 𝓛 (‵ (fsep (feq Bool is_open true) (box_owns freeable mounted.the_row at mounted')) ∷ ‵ (heap.the_row.own_val g (heap_val ∷ [])) ∷ []) ∵ fsplit ! $ feq_l ! (λ e.
      in_a_block ! at (λ p. box_owns freeable mounted.the_row p mounted') (fst∗ 𝓤 (never 𝓤) (sem 𝓛 (freeable (bare (lone mounted.the_row.mir)) null_ptr))) (λ b o is.
      regoal ! (λ p. prop (Runs p is_open (Some mounted'))) is refl $
      enter ! 𝓣.C 𝓣.Λ code.function (handle_val (block_ptr b o) is_open ∷ heap_val ∷ []) (Ends (block_ptr b o) is_open (Some mounted')) $
      alloc_all ! (λ l. pass_all ! refl ((tt, (tt, (tt, tt))), (heap_good, tt)) $
      let Ev = env (code.function).locals l in let made : Val = both (vptr b o) heap_val in let reported : Val = live 1 (vcons made vnil) in
      let d : Lr.Denot = record { at = block_ptr b o; alloc = g; value = mounted' } in
      let typed = loose_good mounted.the_row heap.the_row heap_laws.the_row_laws ghosts b o heap_val heap_good in
      let good : Good (layout Out) reported = (tt, (record { fits = lit< tt }, (typed.1, tt))) in
      sets ! (of_opd ! (get_in ! (fld ! refl (stop !)) (sub ! 0 refl (whole !)))) refl (tt, tt) $ sets ! (of_opd ! (get_in ! (fld ! refl (stop !)) (sub ! 1 refl (whole !)))) refl (tt, tt) $
      sets ! (of_opd ! (get ! refl)) refl (tt, tt) $ first ! $ branches ! (get ! refl) (λ _.
      sets ! (of_opd ! (get ! refl)) refl (tt, tt) $ sets ! (agg ! (and_then ! (get ! refl) (and_then ! (get ! refl) (no_more !)))) refl typed $
      sets_last ! (agg ! (and_then ! (lit ! tt) (and_then ! (get ! refl) (no_more !)))) refl good $ exec ! 𝓣.C 𝓣.Λ Ev (after 4 (code.function).body) (at_ret Ev (Ends (block_ptr b o) is_open (Some mounted'))) $
      sets ! (of_opd ! (get ! refl)) refl good $ returns ! (look_at ! 0 refl) $ free_all ! refl $
      loose_in mounted.the_row heap.the_row heap_laws.the_row_laws ghosts ! b o heap_val g mounted' $ use1 𝓛 (‵ (Out.own_val (Some d) (reported ∷ []))) (Some-of 𝓛 Lr d made) $ keep ! (0 ∷ []) $
      use0 𝓛 (raw (fact 𝓤 (Some mounted' ≡ Some mounted'))) (fact_i 𝓤 (Some mounted' ≡ Some mounted') (emp 𝓤) refl) $ move ! (1 ∷ []) $
      nothing ! $ nothing ! $ fjoin ! $ nothing ! $ fjoin ! $ nothing ! $
      by ! (leaves 𝓛 called.ended stayed c ((tt, tt, tt, (record { at = block_ptr b o; is_open = is_open; held = Some mounted' }, (g, tt)), (handle_val (block_ptr b o) is_open ∷ [], (heap_val ∷ [], tt))), tt) reported (Some d) (tt, (tt, tt)) (tt, (tt, tt))))
      (λ t. absurd (subst (λ (open' : Bool). T (not open')) e t)))))

pub unseal_spec : {M : Type 1} → statement M
unseal_spec 𝓤 𝓛 𝓜 𝓡 wired =
    let c = called.clauses 𝓛 𝓜.mem 𝓡.returns in
    proved 𝓛 called.ended stayed c 𝓜 𝓡
    (Goes-blank 𝓛 0 (plain (λ _. Handle.the_row)) yes (λ κs x w. tt), (Goes-dropped 𝓛 0 (plain (λ _. heap.the_row)) yes (λ κs x w. refl), tt))
    called.Key.name code.function (code.unfolded 𝓤 𝓛.H 𝓜 𝓡 wired)
    (λ κs. ((λ h. handle_val h.at h.is_open ∷ []), ((λ _. heap_val ∷ []), tt)))
    (λ κs. (lowers.val_is, (heap_Tells, tt)))
    (λ κs qs bounds a ghost are.
    let h = a.0 in let g = a.1.0 in
    qed 𝓛 ((‵ ftrue ⊛ ‵ (Handle.the_row.own_val h (handle_val h.at h.is_open ∷ [])) ⊛ ‵ (heap.the_row.own_val g (heap_val ∷ [])) ⊛ ‵ ftrue) ∷ ‵ ftrue ∷ []) ∵
    split ! $ drop ! $ split3 ! $ keep ! (0 ∷ 1 ∷ []) $ fsplit ! $ drop ! $ by ! (walk 𝓤 𝓛 𝓜 𝓡 g h.at h.is_open h.held))
