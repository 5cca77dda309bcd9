use Rattle.bp_cache.proofs.CacheLaws.{nothing_right}
use Rattle.bp_cache.proofs.cache.DirectoryCache.clear.Goals as goal

pub returns : goal.returns
returns c image = nothing_right image _ _ _ c.forget_all.ensures c.clear.ensures
