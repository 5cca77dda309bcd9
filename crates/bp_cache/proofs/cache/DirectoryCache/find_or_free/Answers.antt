use Rattle.std.proofs.Common.{sym}
use Rattle.pm_region.specs.Memory.{current_words}
use Rattle.bp_cache.proofs.CacheLaws.{from_tree, of_tree}
use Rattle.bp_cache.proofs.Lists.{held_found, held_set}
use Rattle.bp_cache.proofs.cache.DirectoryCache.find_or_free.Goals as goal

pub find_or_free-requires-in-Some-clause-right : goal.find_or_free-requires-in-Some-clause-right
find_or_free-requires-in-Some-clause-right g c =
    let image = current_words (g.R.Region.memory c.args.region.now) in
    of_tree image c.args.dir c.args.tree
    (record { well = c.requires.well; reached = c.requires.reached; directory = c.requires.directory; root = c.requires.root; size = c.requires.size })
    c.in-Some.held.now
    (held_found image c.args.dir c.count_search.new.self.directories.entries c.in-Some.held.now c.count_search.ensures.right.directories
    (sym c.in-Some.ensures.value))

pub returns-in-Some-clause-right : goal.returns-in-Some-clause-right
returns-in-Some-clause-right g c =
    let image = current_words (g.R.Region.memory c.args.region.now) in
    record {
      names = c.count_search.ensures.right.names;
      directories =
          held_set image c.args.dir c.count_search.new.self.directories.entries c.find_or_free-in-Some.new.self c.count_search.ensures.right.directories
          (from_tree image c.args.dir c.args.tree
          (record { well = c.requires.well; reached = c.requires.reached; directory = c.requires.directory; root = c.requires.root; size = c.requires.size })
          c.find_or_free-in-Some.new.self c.find_or_free-in-Some.ensures.right);
    }
