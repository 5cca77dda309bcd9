use Rattle.bp_play.proofs.SumLaws.{storm_counted}
use Rattle.bp_play.proofs.summary.Summary.count_storm.Goals as goal

pub returns : goal.returns
returns c = storm_counted c.args.self.now c.args.kept.c c.args.kept.n c.requires.kept c.requires.of
