-- No words are made of nothing. Assumes `Logic`.
use mathlib.Core.Path.{◌≡◌, refl}
use mathlib.Core.Bool.{Bool, false}
use mathlib.Core.List.{List, [], ◌∷◌}
use Prim.Native.Nat.{ℕ}
use lib.Dec.{lit<}
use mir.Syntax.{w64}
use mir.Val.{Fits}
use Rattle.std.specs.Prelude.{Option, None}
use base.Logic.{emp}
use base.Fml.{ftrue}
use contract.Monad.{fact, fact_i}
use types.ByLocal.{alloc_all, free_all, look_at, pass_all, sets}
use types.Kit.{‵, raw, ◌$◌, ◌∵◌, !, qed, by, drop, use0, feq_i, fjoin}
use types.Part.{agg}
use types.Run.{and_then, enter, false_lit, lit, no_more, returns}
use denote.RawPtr.{null_ptr}
use denote.Steps.{nothing}
use denote.Struct.Owning.{shape}
use denote.Struct.Struct.{Struct}
use denote.Triple.Entry.{on_entry}
use denote.Triple.Walked.{Stays, walk_of}
use Rattle.std.proofs.raw_atomic.Walks.{leaves, proved}
use Rattle.pm_raw.specs.contracts.cells.Lent as Lent
use Rattle.pm_raw.specs.contracts.cells.Lent.none as called
use Rattle.pm_raw.proofs.LentValues.{lent_val, made_lent}
use Rattle.pm_raw.proofs.cells.Lent.none.Statement.{statement}
use Rattle.pm_raw.proofs.cells.Lent.none.Code as code

abbrev stayed : Stays called.ended.signature.params called.ended.kept
stayed = tt

pub none_spec : {M : Type 1} → statement M
none_spec 𝓤 𝓛 𝓜 𝓡 wired =
    let c = called.clauses 𝓛 𝓜.mem 𝓡.returns in let W = walk_of 𝓛 called.ended stayed c in
    let zero_fits : Fits w64 0 = record { fits = lit< tt } in
    let no_words : Option (List ℕ) = None in
    let result : Lent.the_row.Denot = record { at = null_ptr; count = 0; is_there = false; words = None } in
    proved 𝓛 called.ended stayed c 𝓜 𝓡 tt
    called.Key.name code.function (code.unfolded 𝓤 𝓛.H 𝓜 𝓡 wired)
    (λ κs. tt) (λ κs. tt) (λ κs qs bounds a ghost are.
    let y : W.Ghost = ((κs, qs, bounds, a, tt), ghost) in
    qed 𝓛 (raw (on_entry 𝓛 called.signature κs qs a y.0.4) ∷ ‵ ftrue ∷ []) ∵ drop ! $ drop ! $
    enter ! _ _ _ _ _ $ alloc_all ! (λ l. pass_all ! refl tt $
    sets ! (agg ! (and_then ! (lit ! tt) (and_then ! (lit ! tt) (and_then ! (false_lit !) (no_more !))))) refl (tt, (zero_fits, (zero_fits, (tt, tt)))) $
    returns ! (look_at ! 0 refl) $ free_all ! refl $
    use0 𝓛 (raw (fact 𝓤 (no_words ≡ None))) (fact_i 𝓤 (no_words ≡ None) (emp 𝓤) refl) $
    feq_i ! Bool false false refl $
    use0 𝓛 (‵ ((Struct (shape Lent.the_type)).own_val (null_ptr, (0, (false, tt))) (lent_val null_ptr 0 false ∷ []))) (made_lent 𝓛 null_ptr 0 false (lit< tt)) $
    fjoin ! $ nothing ! $ nothing ! $
    by ! (leaves 𝓛 called.ended stayed c y (lent_val null_ptr 0 false) result tt tt)))
