use Rattle.bp_fs.specs.ByWords.{by_words}
use Rattle.bp_session.proofs.ServingLaws.{session_split}
use Rattle.bp_session.proofs.laws.sessions_split.Goals as goal

pub returns : goal.returns
returns c = session_split by_words
