use Rattle.pm_region.specs.Memory.{current_words}
use Rattle.bp_cache.proofs.CacheLaws.{from_tree, put_right}
use Rattle.bp_cache.proofs.cache.DirectoryCache.make_held.Goals as goal

pub returns : goal.returns
returns g c =
    let image = current_words (g.R.Region.memory c.args.region.now) in
    record {
      right = record {
        names = c.requires.right.names;
        directories =
            put_right image c.args.self.now.directories c.put.new.self c.args.dir c.of-held.result c.put.result c.requires.right.directories
            (from_tree image c.args.dir c.args.tree c.requires.tree c.of-held.result c.of-held.ensures) c.put.ensures.entries c.put.ensures.err;
      };
    }
