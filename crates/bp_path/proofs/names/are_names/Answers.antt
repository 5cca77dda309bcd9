use Rattle.std.proofs.Common.{◌+◌, sym, ◌∙◌, eq-eqb}
use Rattle.std.proofs.lemmas.Bool.{ne_eqb}
use Rattle.std.proofs.lemmas.List.{take_rest}
use Rattle.bp_layout.proofs.Parts.{none_left}
use Rattle.bp_path.proofs.PartsLaws.{not_all, all_after, all_one}
use Rattle.bp_path.proofs.PlainBytes.{no_names, no_slash_found, plain_prefix, plain_whole, slash_found, zero_found}
use Rattle.bp_path.proofs.names.are_names.Goals as goal

pub returns-then-rest-end-eq0 : goal.returns-then-rest-end-eq0
returns-then-rest-end-eq0 c =
    sym (no_names c.loop-end.rest.now (zero_found c.loop-end.rest.now c.in-Some.end (sym c.in-Some.ensures) (eq-eqb _ _ c.if-rest-end-eq0.true))) ∙ c.loop-end.invariant

pub returns-then-not-is_plain_name : goal.returns-then-not-is_plain_name
returns-then-not-is_plain_name c =
    let slash = slash_found c.loop-end.rest.now c.in-Some.end (sym c.in-Some.ensures) (ne_eqb _ _ c.if-rest-end-eq0.false) in
    sym (not_all c.loop-end.rest.now c.in-Some.end slash (sym c.is_plain_name.ensures ∙ c.if-not-is_plain_name.true)) ∙ c.loop-end.invariant

pub is_plain_name-requires : goal.is_plain_name-requires
is_plain_name-requires c = plain_prefix c.loop-end.rest.now c.in-Some.end (sym c.in-Some.ensures)

pub is_plain_name-requires-2 : goal.is_plain_name-requires-2
is_plain_name-requires-2 c = plain_whole c.loop-end.rest.now (sym c.first_of_either.ensures ∙ none_left c.first_of_either.result c.in_default.not-Some)

pub loop-end-preserved : goal.loop-end-preserved
loop-end-preserved c =
    let slash = slash_found c.loop-end.rest.now c.in-Some.end (sym c.in-Some.ensures) (ne_eqb _ _ c.if-rest-end-eq0.false) in
    rw (take_rest c.loop-end.rest.now (c.in-Some.end + 1))
    (sym (all_after c.loop-end.rest.now c.in-Some.end slash (sym c.is_plain_name.ensures ∙ c.if-not-is_plain_name.false)) ∙ c.loop-end.invariant)

pub returns : goal.returns
returns c =
    let none = sym c.first_of_either.ensures ∙ none_left c.first_of_either.result c.in_default.not-Some in
    c.is_plain_name-2.ensures ∙ sym (all_one c.loop-end.rest.now (no_slash_found c.loop-end.rest.now none)) ∙ c.loop-end.invariant
