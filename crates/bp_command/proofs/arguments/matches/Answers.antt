use Rattle.std.proofs.Common.{◌∙◌}
use Rattle.bp_command.proofs.Commands.{met_words, refused_words, taken_words}
use Rattle.bp_command.proofs.arguments.matches.Goals as goal

pub returns-in-Ok-try_get_matches_from-clause-matches : goal.returns-in-Ok-try_get_matches_from-clause-matches
returns-in-Ok-try_get_matches_from-clause-matches c = met_words c.in-Ok.command _ _ c.in-Ok.ensures c.in-Ok-try_get_matches_from.ensures.matches

pub returns-in-Ok-try_get_matches_from-clause-taken : goal.returns-in-Ok-try_get_matches_from-clause-taken
returns-in-Ok-try_get_matches_from-clause-taken c = taken_words c.in-Ok.command _ c.in-Ok-try_get_matches_from.matches c.in-Ok.ensures c.in-Ok-try_get_matches_from.ensures.kinds

pub returns : goal.returns
returns c = record {
  matches = tt;
  taken = tt;
  usage = refused_words c.in-Ok.command _ c.in-Err-try_get_matches_from.error c.in-Ok.ensures c.in-Err-try_get_matches_from.ensures.kinds (λ e. c.in_default.not-OutOfMemory (c.kind.ensures ∙ e));
}
