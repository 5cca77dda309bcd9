use Rattle.std.proofs.Common.{◌+◌, sym, ◌∙◌}
use Rattle.std.proofs.lemmas.List.{take_rest}
use Rattle.bp_layout.proofs.Parts.{none_left}
use Rattle.bp_plain.proofs.Parts.{ends, ends_badly, goes_on, stops}
use Rattle.bp_plain.proofs.paths.names_in.Goals as goal

pub returns-in-None : goal.returns-in-None
returns-in-None c = stops c.loop-end.names.items c.loop-end.rest.now _ c.loop-end.invariant c.in-Some.end (sym c.in-Some.ensures) c.in-None.ensures

pub loop-end-preserved : goal.loop-end-preserved
loop-end-preserved c =
    rw (take_rest c.loop-end.rest.now (c.in-Some.end + 1))
    (goes_on c.loop-end.names.items c.loop-end.rest.now _ c.loop-end.invariant c.in-Some.end _ c.in-Some-name.name (sym c.in-Some.ensures) c.in_ok-push-in-Some-name.ensures.items c.in-Some-name.ensures)

pub returns-in_ok-push-in-Some-name-2 : goal.returns-in_ok-push-in-Some-name-2
returns-in_ok-push-in-Some-name-2 c =
    ends c.loop-end.names.items c.loop-end.rest.now _ c.loop-end.invariant _ c.in-Some-name-2.name (sym c.first_slash.ensures ∙ none_left c.first_slash.result c.in_default.not-Some)
    c.in_ok-push-in-Some-name-2.ensures.items c.in-Some-name-2.ensures

pub returns-in-None-name : goal.returns-in-None-name
returns-in-None-name c =
    ends_badly c.loop-end.names.items c.loop-end.rest.now _ c.loop-end.invariant (sym c.first_slash.ensures ∙ none_left c.first_slash.result c.in_default.not-Some) c.in-None-name.ensures
