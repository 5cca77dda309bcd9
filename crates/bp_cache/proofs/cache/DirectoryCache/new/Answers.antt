use Rattle.bp_cache.proofs.CacheLaws.{nothing_right}
use Rattle.bp_cache.proofs.cache.DirectoryCache.new.Goals as goal

pub returns : goal.returns
returns c image = nothing_right image _ _ _ c.in_ok-new.ensures c.in_ok-sparse.ensures
