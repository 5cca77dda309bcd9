use Rattle.std.proofs.Common.{◌∙◌, sym}
use Rattle.bp_replay.proofs.CacheRuns.{back_outcome, clean_stays}
use Rattle.bp_replay.proofs.caches.write_back.Goals as goal

pub returns-then-is_dirty : goal.returns-then-is_dirty
returns-then-is_dirty c = back_outcome c.args.cores.now c.back.new.self c.args.word c.back.result c.back.ensures.allowed c.back.ensures.written c.back.ensures.err

pub returns-else-is_dirty : goal.returns-else-is_dirty
returns-else-is_dirty c = clean_stays c.args.cores.now c.args.word (sym c.is_dirty.ensures ∙ c.if-is_dirty.false)
