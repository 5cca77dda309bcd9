-- One list of calls after another, where memory may be out.
use Rattle.std.proofs.Common.{◌≡◌, ℕ, List, [], ◌++◌, refl, sym, ◌∙◌, ap, subst, append_assoc}
use Rattle.std.specs.Prelude.{Result, Ok, Err}
use Rattle.std.proofs.lemmas.Grind.{flat_map-append}
use Rattle.bp_io.specs.Causes.{Rose}
use Rattle.bp_io.specs.Views.{SinkView}
use Rattle.bp_io.specs.declared.faults.Failed.{Failed}
use Rattle.bp_plain.specs.Calls.{Call}
use Rattle.bp_script.specs.Export.{call_lines}
use Rattle.bp_export.specs.Report.{Reports}
use Rattle.bp_export.specs.Exports.{Goes}
use Rattle.bp_export.specs.declared.fault.Fault.{Fault}
use Rattle.bp_export.specs.declared.fault.Fault.TheVariants.{Deep, Memory, Sink}
use Rattle.bp_replies.proofs.PassingLaws.{part_of_prefix, part_then, passes_nothing, passes_then}

lines-append : (xs ys : List Call) → call_lines (xs ++ ys) ≡ call_lines xs ++ call_lines ys
lines-append xs ys = flat_map-append _ xs ys

pub goes_nothing : {T : Type 0} (v : T) (a : List ℕ) (t : SinkView) → Goes [] (Ok v) a a t t
goes_nothing v a t = (passes_nothing a t.taken, refl)

-- memory was out before a line was reported
pub goes_nowhere : (T : Type 0) (e : Fault) → e ≡ Memory → (xs : List Call) (a : List ℕ) (t : SinkView) → Goes {T = T} xs (Err e) a a t t
goes_nowhere T e is xs a t =
    subst (λ (fault : Fault). Goes {T = T} xs (Err fault) a a t t) (sym is) (record { prefix = []; rest = call_lines xs; whole = refl; passes = passes_nothing a t.taken }, refl)

pub goes_then : {S T : Type 0} (v : S) (r : Result T Fault) (xs ys : List Call) (a b c : List ℕ) (t u w : SinkView) → Goes xs (Ok v) a b t u → Goes ys r b c u w → Goes (xs ++ ys) r a c t w
goes_then v (Ok x) xs ys a b c t u w one two =
    (rw (lines-append xs ys) (passes_then (call_lines xs) (call_lines ys) a b c t.taken u.taken w.taken one.0 two.0), two.1 ∙ one.1)
goes_then v (Err Memory) xs ys a b c t u w one two = (
  record {
    prefix = call_lines xs ++ two.0.prefix;
    rest = two.0.rest;
    whole = lines-append xs ys ∙ ap (λ l. call_lines xs ++ l) two.0.whole ∙ sym (append_assoc (call_lines xs) two.0.prefix two.0.rest);
    passes = passes_then (call_lines xs) two.0.prefix a b c t.taken u.taken w.taken one.0 two.0.passes;
  },
  two.1 ∙ one.1,
)
goes_then v (Err Sink) xs ys a b c t u w one two =
    (rw (lines-append xs ys) (part_then (call_lines xs) (call_lines ys) a b t.taken u.taken w.taken one.0 two.0), subst (λ n. Rose n w.faults) one.1 two.1)
goes_then v (Err Deep) xs ys a b c t u w one two = two

-- no call after a fault is reported
pub goes_before : (S T : Type 0) (e : Fault) (xs ys : List Call) (a b : List ℕ) (t u : SinkView) → Goes {T = S} xs (Err e) a b t u → Goes {T = T} (xs ++ ys) (Err e) a b t u
goes_before S T Memory xs ys a b t u one = (
  record {
    prefix = one.0.prefix;
    rest = one.0.rest ++ call_lines ys;
    whole = lines-append xs ys ∙ ap (λ l. l ++ call_lines ys) one.0.whole ∙ append_assoc one.0.prefix one.0.rest (call_lines ys);
    passes = one.0.passes;
  },
  one.1,
)
goes_before S T Sink xs ys a b t u one =
    (rw (lines-append xs ys, sym (append_assoc a (call_lines xs) (call_lines ys))) (part_of_prefix (a ++ call_lines xs) (call_lines ys) t.taken u.taken one.0), one.1)
goes_before S T Deep xs ys a b t u one = one

-- what would have been answered is of no matter either
pub goes_stop : (S T : Type 0) (e : Fault) (xs : List Call) (a b : List ℕ) (t u : SinkView) → Goes {T = S} xs (Err e) a b t u → Goes {T = T} xs (Err e) a b t u
goes_stop S T Memory xs a b t u goes = goes
goes_stop S T Sink xs a b t u goes = goes
goes_stop S T Deep xs a b t u goes = goes

-- lines that are reported, of which only the sink can fail
pub goes_reported : {S T : Type 0} (v : S) (w : T) (xs : List Call) (a b : List ℕ) (t u : SinkView) → Reports xs (Ok v) a b t u → Goes xs (Ok w) a b t u
goes_reported v w xs a b t u reports = (reports.all, reports.cause.same)

pub goes_unreported : (S T : Type 0) (failed : Failed) (e : Fault) → e ≡ Sink → (xs : List Call) (a b c : List ℕ) (t u : SinkView) → Reports {T = S} xs (Err failed) a b t u → Goes {T = T} xs (Err e) a c t u
goes_unreported S T failed e is xs a b c t u reports = subst (λ (fault : Fault). Goes {T = T} xs (Err fault) a c t u) (sym is) (reports.some, reports.cause.failed)

-- the same of an answer that is this one
pub goes_end : {T : Type 0} (r : Result T Fault) (e : Fault) → r ≡ Err e → (xs : List Call) (a b : List ℕ) (t u : SinkView) → Goes {T = T} xs (Err e) a b t u → Goes xs r a b t u
goes_end {T} r e is xs a b t u goes = subst (λ (x : Result T Fault). Goes xs x a b t u) (sym is) goes
