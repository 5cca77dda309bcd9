use Rattle.bp_replay.proofs.Blind.{cache_cut-blind}
use Rattle.bp_replay.proofs.laws.a_cache_cut_is_blind_to_values.Goals as goal

pub returns : goal.returns
returns c = λ cores words capacity events seed. cache_cut-blind cores words capacity events seed
