use Rattle.std.proofs.Common.{nat_eq}
use Rattle.bp_cache.proofs.Lists.{held_removed}
use Rattle.bp_cache.proofs.cache.DirectoryCache.drop_directory.Goals as goal

pub returns : goal.returns
returns c image right = record {
  names = right.names;
  directories = rw c.pop-held.ensures.entries (held_removed image (nat_eq c.args.dir) c.args.self.now.directories.entries right.directories);
}
