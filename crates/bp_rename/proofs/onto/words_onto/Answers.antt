use Rattle.pm_region.specs.Memory.{current_words}
use Rattle.bp_rename.proofs.OntoLaws.{replaced}
use Rattle.bp_rename.proofs.onto.words_onto.Goals as goal

pub entry_path-entered-requires-clause-live : goal.entry_path-entered-requires-clause-live
entry_path-entered-requires-clause-live g c =
    (replaced (current_words (g.R.Region.memory c.args.region.now)) c.args.to_move.now c.args.slot c.requires.can c.requires.onto).in_size
