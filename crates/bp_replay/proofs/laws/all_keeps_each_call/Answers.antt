use Rattle.bp_replay.proofs.Ends.{right_all, kept_calls_all, replay_all}
use Rattle.bp_replay.proofs.laws.all_keeps_each_call.Goals as goal

pub returns-clause-right : goal.returns-clause-right
returns-clause-right c = right_all

pub returns-clause-kept : goal.returns-clause-kept
returns-clause-kept c = kept_calls_all

pub returns-clause-words : goal.returns-clause-words
returns-clause-words c = replay_all
