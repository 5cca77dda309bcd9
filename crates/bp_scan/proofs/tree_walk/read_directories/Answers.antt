use Rattle.std.proofs.Common.{◌∙◌, ap}
use Rattle.bp_free.specs.Set.{members}
use Rattle.pm_region.specs.Memory.{current_words}
use Rattle.bp_free.proofs.Summary.{none_in}
use Rattle.bp_scan.proofs.DirectoryLaws.{steps_fall, taken_least}
use Rattle.bp_scan.proofs.tree_walk.read_directories.Goals as goal

pub read_directory-requires-clause-at_hand : goal.read_directory-requires-clause-at_hand
read_directory-requires-clause-at_hand g c =
    taken_least (current_words (g.R.Region.memory c.args.region.now)) c.loop-inode.work c.take.new.self c.in-Some.inode c.loop-inode.invariant.reading c.in-Some.ensures.0 c.in-Some.ensures.1

pub loop-inode-smaller : goal.loop-inode-smaller
loop-inode-smaller g c =
    steps_fall c.loop-inode.work c.take.new.self c.read_directory.new.work c.in-Some.inode c.in-Some.ensures.0 c.in-Some.ensures.1 c.in_ok-read_directory.ensures.steps

pub returns-clause-none_left : goal.returns-clause-none_left
returns-clause-none_left g c i = none_in c.take.new.self (ap members c.in_default.ensures.1 ∙ c.in_default.ensures.0) i
