use Rattle.std.proofs.Common.{nat_eq, refl}
use Rattle.bp_cache.proofs.CacheLaws.{promoted_right}
use Rattle.bp_cache.proofs.cache.DirectoryCache.is_held.Goals as goal

pub returns-in-None : goal.returns-in-None
returns-in-None c image right = promoted_right image (nat_eq c.args.dir) c.args.self.now _ _ refl c.get.follows.holds-at-none right

pub returns-in-Some-Lost : goal.returns-in-Some-Lost
returns-in-Some-Lost c image right = promoted_right image (nat_eq c.args.dir) c.args.self.now _ _ refl c.get.follows.holds-at-none right

pub returns-in-Some : goal.returns-in-Some
returns-in-Some c image right = promoted_right image (nat_eq c.args.dir) c.args.self.now _ _ refl c.get.follows.holds-at-none right
