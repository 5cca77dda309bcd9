use Rattle.pm_region.specs.Memory.{current_words}
use Rattle.bp_calls.proofs.Refusals.{found_empty}
use Rattle.bp_rename.proofs.across.words_into.Goals as goal

pub entry_path-entered-requires-clause-live : goal.entry_path-entered-requires-clause-live
entry_path-entered-requires-clause-live g c = (found_empty (current_words (g.R.Region.memory c.args.region.now)) c.args.to_move.now.to_dir c.args.slot c.requires.found).0
