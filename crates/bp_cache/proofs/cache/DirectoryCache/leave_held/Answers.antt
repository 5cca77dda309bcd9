use Rattle.std.proofs.Common.{sym}
use Rattle.bp_cache.specs.Held.{Leaves}
use Rattle.bp_cache.proofs.Lists.{none_changes, set_changes}
use Rattle.bp_cache.proofs.cache.DirectoryCache.leave_held.Goals as goal

pub returns-in-Some-clause-held : goal.returns-in-Some-clause-held
returns-in-Some-clause-held c =
    set_changes c.args.at.dir (Leaves c.args.at) c.args.self.now.directories.entries c.in-Some.held.now c.leave.new.self c.len-held.ensures.valid.0
    (sym c.in-Some.ensures.value) c.leave.ensures

pub returns-in_default-clause-held : goal.returns-in_default-clause-held
returns-in_default-clause-held c =
    none_changes c.args.at.dir (Leaves c.args.at) c.args.self.now.directories.entries (sym c.in_default.ensures.value)
