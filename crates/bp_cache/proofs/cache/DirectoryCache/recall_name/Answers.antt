use Rattle.std.proofs.Common.{sym, ◌∙◌}
use Rattle.bp_layout.specs.Hints.{IsSlotOf}
use Rattle.bp_layout.proofs.HintLaws.{entry_of_slot}
use Rattle.pm_region.specs.Memory.{current_words}
use Rattle.bp_cache.proofs.cache.DirectoryCache.recall_name.Goals as goal

pub entry_ino-requires-clause-live : goal.entry_ino-requires-clause-live
entry_ino-requires-clause-live g c =
    let image = current_words (g.R.Region.memory c.args.region.now) in
    let of : IsSlotOf image (c.args.dir, c.args.name.now) c.in-Some.slot =
    c.requires.right.names (c.args.dir, c.args.name.now) c.in-Some.slot (sym c.hint.ensures.hint ∙ c.in-Some.is) in
    rw c.requires.tree.size (entry_of_slot image (c.args.dir, c.args.name.now) c.in-Some.slot of).entry.in_size

pub returns-in-Some-clause-right : goal.returns-in-Some-clause-right
returns-in-Some-clause-right g c = record { names = rw c.hint.ensures.same c.requires.right.names; directories = c.requires.right.directories }
