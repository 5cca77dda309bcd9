use Rattle.bp_replay.proofs.Rule.{all_earlier, none_later_than, own_epoch}
use Rattle.bp_replay.proofs.laws.a_storm_writes_back_what_may_go.Goals as goal

pub returns-clause-earlier : goal.returns-clause-earlier
returns-clause-earlier c = all_earlier

pub returns-clause-later : goal.returns-clause-later
returns-clause-later c = none_later_than

pub returns-clause-own : goal.returns-clause-own
returns-clause-own c = own_epoch
