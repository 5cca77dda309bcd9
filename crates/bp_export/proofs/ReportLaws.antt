-- One list of calls reported after another.
use Rattle.std.proofs.Common.{◌≡◌, ℕ, List, [], ◌∷◌, ◌++◌, refl, sym, ◌∙◌, subst, append_assoc, arith}
use Rattle.std.specs.Prelude.{Result, Ok, Err, OnErr, OnOk}
use Rattle.std.proofs.lemmas.Grind.{flat_map-append}
use Rattle.std.proofs.lemmas.List.{append-nil}
use Rattle.bp_io.specs.Causes.{HasCause, Rose}
use Rattle.bp_io.specs.Views.{SinkView}
use Rattle.bp_io.specs.declared.faults.Failed.{Failed}
use Rattle.bp_plain.specs.Calls.{Call}
use Rattle.bp_replies.specs.Gathering.{PassesOn}
use Rattle.bp_replies.specs.Taking.{TakesPart}
use Rattle.bp_replies.proofs.PassingLaws.{part_of_prefix, part_then, passes_nothing, passes_then}
use Rattle.bp_script.specs.Export.{call_line, call_lines}
use Rattle.bp_export.specs.Report.{Reports}

pub lines_after : (xs ys : List Call) → call_lines (xs ++ ys) ≡ call_lines xs ++ call_lines ys
lines_after xs ys = flat_map-append _ xs ys

-- a failure of later calls, when the count stood still until then
later_fault : (f g h : ℕ) → g ≡ f → Rose g h → Rose f h
later_fault f g h same rose = subst (λ n. Rose n h) same rose

pub reports_nothing : {T : Type 0} (v : T) (a : List ℕ) (t : SinkView) → Reports [] (Ok v) a a t t
reports_nothing v a t = record {
  all = passes_nothing a t.taken;
  some = tt;
  cause = record { later = omega arith; same = refl; failed = tt };
}

-- what is answered besides is of no matter
pub reports_as : {S T : Type 0} (v : S) (w : T) (xs : List Call) (a b : List ℕ) (t u : SinkView) → Reports xs (Ok v) a b t u → Reports xs (Ok w) a b t u
reports_as v w xs a b t u one = record {
  all = one.all;
  some = tt;
  cause = record { later = one.cause.later; same = one.cause.same; failed = tt };
}

pub reports_then : {S T : Type 0} (v : S) (r : Result T Failed) (xs ys : List Call) (a b c : List ℕ) (t u w : SinkView) → Reports xs (Ok v) a b t u → Reports ys r b c u w → Reports (xs ++ ys) r a c t w
reports_then v (Ok x) xs ys a b c t u w one two = record {
  all = rw (lines_after xs ys) (passes_then (call_lines xs) (call_lines ys) a b c t.taken u.taken w.taken one.all two.all);
  some = tt;
  cause = record { later = omega (arith, one.cause.later, two.cause.later); same = two.cause.same ∙ one.cause.same; failed = tt };
}
reports_then v (Err e) xs ys a b c t u w one two = record {
  all = tt;
  some = rw (lines_after xs ys) (part_then (call_lines xs) (call_lines ys) a b t.taken u.taken w.taken one.all two.some);
  cause = record { later = omega (arith, one.cause.later, two.cause.later); same = tt; failed = later_fault t.faults u.faults w.faults one.cause.same two.cause.failed };
}

-- where the sink failed, no call after is reported
pub fails_before : {S T : Type 0} (d e : Failed) (xs ys : List Call) (a b c : List ℕ) (t u : SinkView) → Reports {T = S} xs (Err d) a b t u → Reports {T = T} (xs ++ ys) (Err e) a c t u
fails_before d e xs ys a b c t u one = record {
  all = tt;
  some = rw (lines_after xs ys, sym (append_assoc a (call_lines xs) (call_lines ys))) (part_of_prefix (a ++ call_lines xs) (call_lines ys) t.taken u.taken one.some);
  cause = record { later = one.cause.later; same = tt; failed = one.cause.failed };
}

pub fails_as : {S T : Type 0} (d e : Failed) (xs : List Call) (a b c : List ℕ) (t u : SinkView) → Reports {T = S} xs (Err d) a b t u → Reports {T = T} xs (Err e) a c t u
fails_as d e xs a b c t u one = record { all = tt; some = one.some; cause = record { later = one.cause.later; same = tt; failed = one.cause.failed } }

-- the same calls
pub reports_same : {T : Type 0} (r : Result T Failed) (xs ys : List Call) (a b : List ℕ) (t u : SinkView) → xs ≡ ys → Reports xs r a b t u → Reports ys r a b t u
reports_same r xs ys a b t u same one = subst (λ calls. Reports calls r a b t u) same one

-- one call
pub reports_one : {T : Type 0} (r : Result T Failed) (call : Call) (a b : List ℕ) (t u : SinkView) → OnOk r (PassesOn (call_line call ++ 10 ∷ []) a b t.taken u.taken) → OnErr r (TakesPart (a ++ (call_line call ++ 10 ∷ [])) t.taken u.taken) → HasCause t.faults u.faults r →
    Reports (call ∷ []) r a b t u
reports_one r call a b t u all some cause =
    let only : call_lines (call ∷ []) ≡ call_line call ++ 10 ∷ [] = append-nil (call_line call ++ 10 ∷ []) in
    record { all = rw only all; some = rw only some; cause = cause }
