-- What a loose value owns goes into a handle. Assumes `Logic`.
use Rattle.std.proofs.Common.{◌≡◌, List, [], ◌∷◌, ◌++◌, refl, sym, subst}
use mathlib.Core.Bool.{Bool, true}
use mir.Val.{Val, vptr}
use base.Logic.{SProp, ent, emp, id⊢}
use base.Fml.{ftrue}
use prog.Wp.{WpFn}
use types.Kit.{‵, raw, ◌⊛◌, ◌$◌, ◌∵◌, !, qed, by, move, keep, split, fsplit, fjoin, suffices, use0, feq_i}
use types.Run.{stop, fld, of_opd, no_more, and_then, true_lit, returns, enter}
use types.ByLocal.{alloc_all, pass_all, free_all, look_at, get, get_in, sets}
use types.Part.{agg, sub, whole}
use contract.Monad.{fact, fact_i}
use contract.Running.{tables}
use denote.Exit.{yes}
use denote.RattleType.{RattleType, owns}
use denote.RawPtr.{block_ptr}
use denote.Signature.{types_at, plain}
use denote.Steps.{nothing}
use denote.Struct.Owning.{shape}
use denote.Struct.Struct.{Struct}
use denote.Triple.Walked.{Stays, stay_dropped, walk_of}
use Rattle.core.proofs.alloc.Calls.{Goes-blank}
use Rattle.std.proofs.raw_atomic.Walks.{proved_at, leaves}
use Rattle.std.specs.Prelude.{Option, Some}
use Rattle.std_heap.specs.contracts.Global as heap
use Rattle.std_heap.proofs.Global.TheLaws as heap_laws
use Rattle.std_heap.specs.contracts.GlobalAllocator.TheImpl.{ghosts}
use Rattle.bpfs_c.proofs.LooseValues.{both, RawBox, loose_good, loose_out}
use Rattle.bpfs_c.specs.declared.mounted.Mounted.{Mounted}
use Rattle.bpfs_c.specs.contracts.mounted.Mounted as mounted
use Rattle.bpfs_c.specs.contracts.handle.Handle as Handle
use Rattle.bpfs_c.specs.contracts.handle.Handle.seal as called
use Rattle.bpfs_c.proofs.Handles.{handle_val, made_fields}
use Rattle.bpfs_c.proofs.handle.Handle.seal.Statement.{statement}
use Rattle.bpfs_c.proofs.handle.Handle.seal.Code as code

pub seal_spec : {M : Type 1} → statement M
seal_spec 𝓤 𝓛 𝓜 𝓡 wired =
    let H = 𝓛.H in let 𝓣 = tables 𝓤 H 𝓜 𝓡 𝓡.env in let En = called.ended in let c = called.clauses 𝓛 𝓜.mem 𝓡.returns in
    let R : RattleType = mounted.the_row in let Z : RattleType = heap.the_row in let LZ = heap_laws.the_row_laws in
    let Lr : RattleType = RawBox R Z LZ ghosts in let hs : Stays En.signature.params En.kept = (stay_dropped (plain (λ _. Lr)) yes, tt) in
    proved_at 𝓛 En hs c 𝓜 𝓡 (Goes-blank 𝓛 0 (plain (λ _. Lr)) yes (λ κs x f. tt), tt) called.Key.name code.function (code.unfolded 𝓤 H 𝓜 𝓡 wired) (λ z are.
    let v = z.0.3.0 in let Post : Val → SProp 𝓤 = (walk_of 𝓛 En hs c).post z in let Run : List Val → SProp 𝓤 = λ ws. WpFn 𝓤 H 𝓣.C 𝓣.Λ code.function ws Post in
    qed 𝓛 ((‵ ftrue ⊛ ‵ (owns (types_at En.signature.params z.0.0) z.0.3 z.0.4)) ∷ raw ((c z.0.0 z.0.3).requires z.1) ∷ []) ∵ split ! $ move ! (1 ∷ []) $ fsplit ! $
    loose_out R Z LZ ghosts ! v z.0.4.0 (λ b o h e ws fits.
    let w : Val = both (vptr b o) h in let held : Option Mounted = Some v.value in
    let result : Handle.the_row.Denot = record { at = block_ptr b o; is_open = true; held = held } in
    suffices ! (Run (w ∷ [])) (subst (λ (us : List Val). ent 𝓤 (Run (w ∷ [])) (Run us)) (sym (λ i. ws i ++ [])) (id⊢ 𝓤 (Run (w ∷ [])))) $
    enter ! 𝓣.C 𝓣.Λ code.function (w ∷ []) Post $ alloc_all ! (λ l. pass_all ! refl (loose_good R Z LZ ghosts b o h fits, tt) $
    sets ! (of_opd ! (get_in ! (fld ! refl (stop !)) (sub ! 0 refl (whole !)))) refl (tt, tt) $ sets ! (of_opd ! (get ! refl)) refl (tt, tt) $
    sets ! (agg ! (and_then ! (get ! refl) (and_then ! (true_lit !) (no_more !)))) refl (tt, (tt, (tt, tt))) $
    returns ! (look_at ! 0 refl) $ free_all ! refl $ keep ! (0 ∷ []) $
    use0 𝓛 (raw (fact 𝓤 (held ≡ held))) (fact_i 𝓤 (held ≡ held) (emp 𝓤) refl) $ move ! (1 ∷ []) $ feq_i ! Bool true true refl $ fjoin ! $
    use0 𝓛 (‵ ((Struct (shape Handle.the_type)).own_val (block_ptr b o, (true, tt)) (handle_val (block_ptr b o) true ∷ []))) (made_fields 𝓛 (block_ptr b o) true) $
    fjoin ! $ nothing ! $ nothing ! $ fjoin ! $ nothing ! $ by ! (leaves 𝓛 En hs c z (handle_val (block_ptr b o) true) result (tt, tt) (tt, tt)))))
