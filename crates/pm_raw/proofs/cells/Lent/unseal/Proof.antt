-- What lent words own goes into a block. Assumes `Logic`.
use Rattle.std.proofs.Common.{◌≡◌, ℕ, ◌<◌, ◌^◌, List, [], ◌∷◌, length, refl, lit<, subst}
use mathlib.Core.Bool.{Bool, false, true, not}
use lib.Dec.{T}
use seplogic.Ra.Ura.{Ura}
use mir.Syntax.{w64}
use mir.Val.{Val, of_list, vcons, vint, vnil, vstruct}
use base.Logic.{SProp, ent, emp}
use base.Fml.{ftrue, feq, fsep}
use prog.Model.{Model}
use prog.Wp.{WpFn}
use types.Logic.{Logic, sem}
use types.Kit.{‵, raw, ◌⊛◌, prop, at_ret, ◌$◌, ◌∵◌, !, qed, by, drop, keep, move, split, fsplit, fjoin, feq_l, use0, use1, use3, regoal}
use types.Run.{stop, fld, lit, of_opd, no_more, and_then, first, branches, exec, returns, enter}
use types.Match.{live}
use types.ByLocal.{alloc_all, pass_all, free_all, look_at, get, get_in, sets, sets_last, env}
use types.Part.{agg, sub, whole}
use contract.Monad.{fact, fact_i}
use contract.Running.{Running, tables}
use denote.Builtin.{u64, usize}
use denote.Exit.{yes}
use denote.Laws.{Is, shows}
use denote.Param.{layout}
use denote.Plain.{uint_Makes}
use denote.RattleType.{RattleType}
use denote.RawPtr.{Ptr, block_ptr, in_a_block}
use denote.Signature.{plain}
use denote.Steps.{nothing, owned, peeks}
use denote.Struct.Owning.{shape}
use denote.Struct.Struct.{Struct}
use denote.Struct.Tuple.{Tuple}
use denote.Triple.Walked.{Stays, stay_dropped, walk_of}
use Rattle.core.proofs.alloc.Calls.{Goes-blank}
use Rattle.core.proofs.alloc.Shapes.{after}
use Rattle.core.proofs.atomic.Steps.{Ptr-Good}
use Rattle.core.proofs.cell.Inside.{Good}
use Rattle.core.proofs.option.Made.{Some-of, none_of}
use Rattle.core.specs.contracts.option.Option as option
use Rattle.std.proofs.raw_atomic.Walks.{leaves, proved}
use Rattle.std.specs.Prelude.{Option, None, Some}
use Rattle.std_alloc.proofs.RcSteps.{word, word-Good}
use Rattle.pm_raw.specs.Lent.{IsFull}
use Rattle.pm_raw.specs.Ownership.{lent_owns, places_own}
use Rattle.pm_raw.specs.contracts.cells.Base as Base
use Rattle.pm_raw.specs.contracts.cells.Cells as Cells
use Rattle.pm_raw.specs.contracts.cells.Lent as Lent
use Rattle.pm_raw.specs.contracts.cells.Lent.unseal as called
use Rattle.pm_raw.proofs.Blocks.{empty, made_base, made_empty, nowhere, side_by_side}
use Rattle.pm_raw.proofs.LentValues.{lent_good, lent_val}
use Rattle.pm_raw.proofs.cells.Lent.TheLaws.{lowers}
use Rattle.pm_raw.proofs.cells.Lent.unseal.Statement.{statement}
use Rattle.pm_raw.proofs.cells.Lent.unseal.Code as code

abbrev stayed : Stays called.ended.signature.params called.ended.kept
stayed = (stay_dropped (plain (λ _. Lent.the_row)) yes, tt)

abbrev Block : RattleType
Block = Tuple (Base.the_row u64 ∷ usize ∷ Cells.the_row u64 ∷ [])

abbrev Out : RattleType
Out = option.the_row Block

module _ {M : Type 1} (𝓤 : Ura M) (𝓛 : Logic 𝓤) (𝓜 : Model 𝓤 𝓛.H) (𝓡 : Running 𝓤 𝓛.H 𝓜) where
  abbrev Ends : Ptr → ℕ → Bool → Option (List ℕ) → Val → SProp 𝓤
  Ends at count is_there words =
      (walk_of 𝓛 called.ended stayed (called.clauses 𝓛 𝓜.mem 𝓡.returns)).post
      ((tt, tt, tt, (record { at = at; count = count; is_there = is_there; words = words }, tt), (lent_val at count is_there ∷ [], tt)), tt)

  abbrev Runs : Ptr → ℕ → Bool → Option (List ℕ) → SProp 𝓤
  Runs at count is_there words =
      let 𝓣 = tables 𝓤 𝓛.H 𝓜 𝓡 𝓡.env in WpFn 𝓤 𝓛.H 𝓣.C 𝓣.Λ code.function (lent_val at count is_there ∷ []) (Ends at count is_there words)

  walk : (at : Ptr) (count : ℕ) (is_there : Bool) (words : Option (List ℕ)) → count < 2 ^ 64
      → ent 𝓤 (sem 𝓛 (lent_owns at count is_there words)) (Runs at count is_there words)
  walk at count is_there None low =
      let 𝓣 = tables 𝓤 𝓛.H 𝓜 𝓡 𝓡.env in let c = called.clauses 𝓛 𝓜.mem 𝓡.returns in let no_words : Option (List ℕ) = None in
      qed 𝓛 (‵ (feq Bool is_there false) ∷ []) ∵ feq_l ! (λ e.
      enter ! 𝓣.C 𝓣.Λ code.function (lent_val at count is_there ∷ []) (Ends at count is_there None) $
      alloc_all ! (λ l. pass_all ! refl (lent_good at count is_there low, tt) $
      let Ev = env (code.function).locals l in
      sets ! (of_opd ! (get_in ! (fld ! refl (stop !)) (sub ! 0 refl (whole !)))) refl (Ptr-Good at) $
      sets ! (of_opd ! (get_in ! (fld ! refl (stop !)) (sub ! 1 refl (whole !)))) refl (tt, record { fits = low }) $
      sets ! (of_opd ! (get_in ! (fld ! refl (stop !)) (sub ! 2 refl (whole !)))) refl (tt, tt) $
      sets ! (of_opd ! (get ! refl)) refl (tt, tt) $ first ! $ branches ! (get ! refl) (λ t. absurd (subst T e t)) (λ _.
      sets_last ! (agg ! (and_then ! (lit ! tt) (no_more !))) refl (tt, (record { fits = lit< tt }, tt)) $ exec ! 𝓣.C 𝓣.Λ Ev (after 5 (code.function).body) (at_ret Ev (Ends at count is_there None)) $
      sets ! (of_opd ! (get ! refl)) refl (tt, (record { fits = lit< tt }, tt)) $ returns ! (look_at ! 0 refl) $ free_all ! refl $ keep ! [] $
      use0 𝓛 (raw (fact 𝓤 (no_words ≡ None))) (fact_i 𝓤 (no_words ≡ None) (emp 𝓤) refl) $ use0 𝓛 (‵ (Out.own_val None (live 0 vnil ∷ []))) (none_of 𝓛 Block) $
      nothing ! $ nothing ! $ fjoin ! $ nothing ! $
      by ! (leaves 𝓛 called.ended stayed c ((tt, tt, tt, (record { at = at; count = count; is_there = is_there; words = None }, tt), (lent_val at count is_there ∷ [], tt)), tt) (live 0 vnil) None (tt, tt) (tt, tt)))))
  walk at count is_there (Some items) low =
      let 𝓣 = tables 𝓤 𝓛.H 𝓜 𝓡 𝓡.env in let c = called.clauses 𝓛 𝓜.mem 𝓡.returns in
      qed 𝓛 (‵ (fsep (feq Bool is_there true) (fsep (feq ℕ (length items) count) (places_own u64 at items count))) ∷ []) ∵
      fsplit ! $ feq_l ! (λ e. fsplit ! $ feq_l ! (λ many.
      in_a_block ! at (λ p. places_own u64 p items count) (nowhere u64 items count 𝓛) (λ b o is.
      regoal ! (λ p. prop (Runs p count is_there (Some items))) is refl $
      let p : Ptr = block_ptr b o in
      enter ! 𝓣.C 𝓣.Λ code.function (lent_val p count is_there ∷ []) (Ends p count is_there (Some items)) $
      alloc_all ! (λ l. pass_all ! refl (lent_good p count is_there low, tt) $
      let Ev = env (code.function).locals l in
      let made : Val = vstruct (of_list (word p ∷ vint w64 count ∷ empty ∷ [])) in let told : Val = live 1 (vcons made vnil) in
      let start : (Base.the_row u64).Denot = record { address = p } in
      let places : (Cells.the_row u64).Denot = record { of = record {}; at = p; items = items; count = count } in
      let block : Block.Denot = (start, count, places) in
      let typed : Good (layout Block) made = (tt, ((tt, tt), (record { fits = low }, ((tt, tt), tt)))) in
      let good : Good (layout Out) told = (tt, (record { fits = lit< tt }, (typed.1, tt))) in
      let full : IsFull start count places = record { placed = refl; many = refl; filled = many } in
      let words : Option (List ℕ) = Some items in
      sets ! (of_opd ! (get_in ! (fld ! refl (stop !)) (sub ! 0 refl (whole !)))) refl (tt, tt) $
      sets ! (of_opd ! (get_in ! (fld ! refl (stop !)) (sub ! 1 refl (whole !)))) refl (tt, record { fits = low }) $
      sets ! (of_opd ! (get_in ! (fld ! refl (stop !)) (sub ! 2 refl (whole !)))) refl (tt, tt) $
      sets ! (of_opd ! (get ! refl)) refl (tt, tt) $ first ! $ branches ! (get ! refl) (λ _.
      sets ! (agg ! (and_then ! (get ! refl) (no_more !))) refl (word-Good [] p) $
      sets ! (agg ! (no_more !)) refl (tt, tt) $ sets ! (agg ! (and_then ! (get ! refl) (no_more !))) refl (tt, (tt, tt)) $
      sets ! (agg ! (and_then ! (get ! refl) (and_then ! (get ! refl) (and_then ! (get ! refl) (no_more !))))) refl typed $
      sets_last ! (agg ! (and_then ! (lit ! tt) (and_then ! (get ! refl) (no_more !)))) refl good $ exec ! 𝓣.C 𝓣.Λ Ev (after 5 (code.function).body) (at_ret Ev (Ends p count is_there (Some items))) $
      sets ! (of_opd ! (get ! refl)) refl good $ returns ! (look_at ! 0 refl) $ free_all ! refl $ keep ! (0 ∷ []) $
      -- [the places]
      use0 𝓛 (‵ ((Struct (shape (Cells.the_type u64))).own_val (tt, tt) (empty ∷ []))) (made_empty u64 𝓛) $ fjoin ! $
      owned ! usize (Is usize) (uint_Makes 𝓛 w64) count (vint w64 count ∷ []) (refl, low) $
      use0 𝓛 (‵ ((Base.the_row u64).own_val start (word p ∷ []))) (made_base u64 𝓛 p) $
      use3 𝓛 (‵ (Block.own_val block (made ∷ []))) (side_by_side (Base.the_row u64) usize (Cells.the_row u64) 𝓛 start count places (word p) (vint w64 count) empty) $
      use1 𝓛 (‵ (Out.own_val (Some block) (told ∷ []))) (Some-of 𝓛 Block block made) $
      use0 𝓛 (raw (fact 𝓤 ((words ≡ Some items) × IsFull start count places))) (fact_i 𝓤 ((words ≡ Some items) × IsFull start count places) (emp 𝓤) (refl, full)) $ move ! (1 ∷ []) $
      nothing ! $ nothing ! $ fjoin ! $ nothing ! $
      by ! (leaves 𝓛 called.ended stayed c ((tt, tt, tt, (record { at = p; count = count; is_there = is_there; words = Some items }, tt), (lent_val p count is_there ∷ [], tt)), tt) told (Some block) (tt, tt) (tt, tt)))
      (λ t. absurd (subst (λ (there : Bool). T (not there)) e t))))))

pub unseal_spec : {M : Type 1} → statement M
unseal_spec 𝓤 𝓛 𝓜 𝓡 wired =
    let c = called.clauses 𝓛 𝓜.mem 𝓡.returns in
    let Fields : RattleType = Struct (shape Lent.the_type) in
    proved 𝓛 called.ended stayed c 𝓜 𝓡
    (Goes-blank 𝓛 0 (plain (λ _. Lent.the_row)) yes (λ κs x w. tt), tt)
    called.Key.name code.function (code.unfolded 𝓤 𝓛.H 𝓜 𝓡 wired)
    (λ κs. ((λ l. lent_val l.at l.count l.is_there ∷ []), tt))
    (λ κs. (lowers.val_is, tt))
    (λ κs qs bounds a ghost are.
    let lent = a.0 in
    qed 𝓛 ((‵ ftrue ⊛ ‵ (Lent.the_row.own_val lent (lent_val lent.at lent.count lent.is_there ∷ [])) ⊛ ‵ ftrue) ∷ ‵ ftrue ∷ []) ∵
    split ! $ drop ! $ split ! $ keep ! (0 ∷ []) $ fsplit ! $
    peeks ! Fields (Is Fields) (shows 𝓛 Fields) (lent.at, (lent.count, (lent.is_there, tt))) (lent_val lent.at lent.count lent.is_there ∷ []) (λ is.
    drop ! $ by ! (walk 𝓤 𝓛 𝓜 𝓡 lent.at lent.count lent.is_there lent.words is.1.1.1.0.1)))
