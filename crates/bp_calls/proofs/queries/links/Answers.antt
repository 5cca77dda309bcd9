use Rattle.pm_region.specs.Memory.{current_words}
use Rattle.bp_calls.proofs.CountLaws.{reached_counted}
use Rattle.bp_calls.proofs.queries.links.Goals as goal

pub names-requires : goal.names-requires
names-requires g c = reached_counted (current_words (g.R.Region.memory c.args.parts.now.region)) c.args.parts.now c.requires.mounted.exact c.requires.mounted.well_formed c.args.ino c.requires.reached

pub returns : goal.returns
returns g c =
    let low = reached_counted (current_words (g.R.Region.memory c.args.parts.now.region)) c.args.parts.now c.requires.mounted.exact c.requires.mounted.well_formed c.args.ino c.requires.reached in
    rw c.names.ensures (c.requires.mounted.exact.counts.each c.args.ino low)
