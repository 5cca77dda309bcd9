use Rattle.bp_layout.proofs.HintLaws.{right-reported}
use Rattle.bp_cache.specs.Names.{known_of}
use Rattle.bp_cache.proofs.cache.DirectoryCache.learn.Goals as goal

pub returns : goal.returns
returns c image right of = record {
  names =
      right-reported image (known_of c.args.self.now.names) (known_of c.learn.new.self) (c.args.dir, c.args.name.now) c.args.slot c.learn.result right.names of
      c.learn.ensures.learned c.learn.ensures.unlearned;
  directories = right.directories;
}
