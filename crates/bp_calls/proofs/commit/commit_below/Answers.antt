use Rattle.pm_region.specs.Memory.{current_words}
use Rattle.bp_free.specs.Set.{has}
use Rattle.bp_layout.specs.Inode.{size_of}
use Rattle.bp_cow.proofs.WaysAlike.{first-range}
use Rattle.bp_calls.proofs.commit.commit_below.Goals as goal

pub find_ways-found-requires-clause-in_range : goal.find_ways-found-requires-clause-in_range
find_ways-found-requires-clause-in_range g c =
    let image = current_words (g.R.Region.memory c.args.parts.now.region) in
    λ d alike. first-range image (size_of image) c.args.touched.now (has c.args.parts.now.free_blocks) c.requires.well_formed c.requires.can d alike
