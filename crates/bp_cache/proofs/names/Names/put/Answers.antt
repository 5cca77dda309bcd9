use Rattle.std.proofs.Common.{◌∙◌, sym}
use Rattle.bp_cache.proofs.PutLaws.{put-short, put-known}
use Rattle.bp_cache.proofs.names.Names.put.Goals as goal

pub invariant_of-self : goal.invariant_of-self
invariant_of-self c =
    put-short c.self.inside.cache c.put.new.self (c.args.dir, c.args.name.now) c.args.slot c.put.result c.self.invariant c.requires
    (rw (c.copied.ensures ∙ c.set.ensures) at c.put.ensures.entries) c.put.ensures.err

pub returns-clause-put : goal.returns-clause-put
returns-clause-put c reported =
    rw (← c.self.view_is) (put-known c.self.inside.cache c.put.new.self (c.args.dir, c.args.name.now) c.args.slot c.put.result c.len-known.ensures.valid
    (rw (c.copied.ensures ∙ c.set.ensures) at c.put.ensures.entries) (sym c.is_ok.ensures.value ∙ reported))
