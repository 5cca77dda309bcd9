-- How an export ends by how its walk does.
use Rattle.std.proofs.Common.{◌≡◌, ℕ, List, [], ◌++◌, refl, sym, ◌∙◌, ap, subst, append_assoc}
use Rattle.std.specs.Prelude.{Ok, Err}
use Rattle.std.specs.Io.KnownBytes.{Appends}
use Rattle.std.proofs.KnownBytes.{Appends-trans}
use Rattle.bp_io.specs.Causes.{Rose}
use Rattle.bp_io.specs.Views.{SinkView}
use Rattle.bp_plain.specs.Export.{HasShortPaths, export_calls}
use Rattle.bp_plain.specs.PlainTree.{FileTree}
use Rattle.bp_replies.specs.Taking.{TakesPart}
use Rattle.bp_replies.proofs.PassingLaws.{passed_part}
use Rattle.bp_script.specs.Export.{export_text}
use Rattle.bp_export.specs.Exports.{EndsExport, Goes, PassesPrefix}
use Rattle.bp_export.specs.declared.fault.Fault.{Fault}
use Rattle.bp_export.specs.declared.fault.Fault.TheVariants.{Deep, Memory, Sink}

module _ (T : Type 0) (tree : FileTree) (t : SinkView) where
  -- some path can't be spelled
  pub ends_deep : (HasShortPaths tree → ⊥) → EndsExport {T = T} tree (Err Deep) t t
  ends_deep deep = record {
    all = tt;
    deep = (λ is short. deep short, λ other. refl);
    unreported = λ is. refl;
    some = λ is. absurd (cc);
    part = λ is. absurd (cc);
    cause = λ is. absurd (cc);
    same = λ other. refl;
  }

  module _ (short : HasShortPaths tree) where
    pub ends_memory : (a : List ℕ) (u : SinkView) → PassesPrefix (export_text tree) [] a t.taken u.taken → u.faults ≡ t.faults → EndsExport {T = T} tree (Err Memory) t u
    ends_memory a u prefix same = record {
      all = tt;
      deep = (λ is. absurd (cc), λ other. absurd (other short));
      unreported = λ is. absurd (cc);
      some = λ is. record {
        prefix = prefix.passes.sent;
        rest = a ++ prefix.rest;
        whole = prefix.whole ∙ ap (λ l. l ++ prefix.rest) prefix.passes.whole ∙ append_assoc prefix.passes.sent a prefix.rest;
        took = prefix.passes.took;
      };
      part = λ is. absurd (cc);
      cause = λ is. absurd (cc);
      same = λ other. same;
    }

    pub ends_sink : (u : SinkView) → TakesPart (export_text tree) t.taken u.taken → Rose t.faults u.faults → EndsExport {T = T} tree (Err Sink) t u
    ends_sink u part rose = record {
      all = tt;
      deep = (λ is. absurd (cc), λ other. absurd (other short));
      unreported = λ is. absurd (cc);
      some = λ is. absurd (cc);
      part = λ is. part;
      cause = λ is. rose;
      same = λ other. absurd (other refl);
    }

    pub ends_whole : (done : T) (u : SinkView) → Appends t.taken u.taken (export_text tree) → u.faults ≡ t.faults → EndsExport tree (Ok done) t u
    ends_whole done u all same = record {
      all = all;
      deep = (λ is. absurd (cc), λ other. absurd (other short));
      unreported = λ is. absurd (cc);
      some = λ is. absurd (cc);
      part = λ is. absurd (cc);
      cause = λ is. absurd (cc);
      same = λ other. same;
    }

    -- a walk that ended before its end
    pub ends_walk : (S : Type 0) (e : Fault) (a : List ℕ) (u : SinkView) → Goes {T = S} (export_calls tree) (Err e) [] a t u → EndsExport {T = T} tree (Err e) t u
    ends_walk S Memory a u goes = ends_memory a u goes.0 goes.1
    ends_walk S Sink a u goes = ends_sink u goes.0 goes.1
    ends_walk S Deep a u goes = absurd goes

    -- what waited at its end was handed over, or a part of it
    pub ends_handed : {S : Type 0} (v : S) (done : T) (a : List ℕ) (u w : SinkView) → Goes (export_calls tree) (Ok v) [] a t u → Appends u.taken w.taken a → w.faults ≡ u.faults → EndsExport tree (Ok done) t w
    ends_handed v done a u w goes took same =
        ends_whole done w (subst (Appends t.taken w.taken) (sym goes.0.whole) (Appends-trans t.taken u.taken w.taken goes.0.sent a goes.0.took took)) (same ∙ goes.1)

    pub ends_unhanded : {S : Type 0} (v : S) (e : Fault) → e ≡ Sink → (a : List ℕ) (u w : SinkView) → Goes (export_calls tree) (Ok v) [] a t u → TakesPart a u.taken w.taken → Rose u.faults w.faults → EndsExport {T = T} tree (Err e) t w
    ends_unhanded v e is a u w goes part rose =
        subst (λ (fault : Fault). EndsExport {T = T} tree (Err fault) t w) (sym is)
        (ends_sink w (passed_part (export_text tree) [] a t.taken u.taken w.taken goes.0 part) (subst (λ n. Rose n w.faults) goes.1 rose))
