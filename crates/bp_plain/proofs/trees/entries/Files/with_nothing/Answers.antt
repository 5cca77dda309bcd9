use Rattle.bp_plain.proofs.Kept.{no_entries}
use Rattle.bp_plain.proofs.trees.entries.Files.with_nothing.Goals as goal

pub returns : goal.returns
returns c = no_entries c.new.result.entries c.new.ensures.empty
