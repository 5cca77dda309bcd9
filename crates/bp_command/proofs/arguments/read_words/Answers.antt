use Rattle.std.proofs.Common.{List, subst, sym}
use Rattle.clap.specs.Words.{Row, Text, found_of, rows_of}
use Rattle.bp_command.specs.Programs.{HasValues, Names, program_of}
use Rattle.bp_command.proofs.Rows.{met_parts, met_nothing}
use Rattle.bp_command.proofs.arguments.read_words.Goals as goal

pub program_named-requires : goal.program_named-requires
program_named-requires c =
    let named = c.taken_words_have_values.ensures _ c.in_ok-found.ensures.taken in
    let rows = rows_of (found_of c.in-Some.values.now) in
    let met = c.in_ok-found.ensures.matches in
    let same = met_parts _ c.in_ok-found.found c.in-Some.verb.now rows met c.in-Some.ensures.name c.in-Some.ensures.rows named.verb named.rows named.is in
    subst (λ (w : Text). HasValues w rows) (sym same.0) (subst (λ (r : List Row). HasValues named.verb r) (sym same.1) named.has)

pub returns-clause-asks : goal.returns-clause-asks
returns-clause-asks c =
    let named = c.taken_words_have_values.ensures _ c.in_ok-found.ensures.taken in
    let rows = rows_of (found_of c.in-Some.values.now) in
    let met = c.in_ok-found.ensures.matches in
    let same = met_parts _ c.in_ok-found.found c.in-Some.verb.now rows met c.in-Some.ensures.name c.in-Some.ensures.rows named.verb named.rows named.is in
    let program = program_of c.program_named.result in
    record {
      taken = c.in_ok-found.ensures.taken;
      verb = named.verb;
      rows = named.rows;
      is = named.is;
      names =
          subst (λ (w : Text). Names w named.rows program) same.0
          (subst (λ (r : List Row). Names c.in-Some.verb.now r program) same.1 c.program_named.ensures.names);
    }

pub unreachable-requires : goal.unreachable-requires
unreachable-requires c =
    let named = c.taken_words_have_values.ensures _ c.in_ok-found.ensures.taken in
    met_nothing _ c.in_ok-found.found c.in_ok-found.ensures.matches c.in-None.ensures.name named.verb named.rows named.is
