use Rattle.std.proofs.Common.{sym, ◌∙◌}
use Rattle.pm_region.specs.Memory.{current_words}
use Rattle.bp_cache.proofs.FreeLaws.{none_empty, none_below, first_empty, right_without, fewer_left}
use Rattle.bp_cache.proofs.index.Index.free_slot.Goals as goal

pub returns-then-slot-tree-clause-slot : goal.returns-then-slot-tree-clause-slot
returns-then-slot-tree-clause-slot g c =
    none_below (current_words (g.R.Region.memory c.args.region.now)) c.args.tree.root c.args.tree.size c.loop-slot.self c.loop-slot.invariant
    c.in-Some.slot c.in-Some.ensures.0 c.if-slot-tree.true

pub returns-then-entry_ino-eq0-clause-slot : goal.returns-then-entry_ino-eq0-clause-slot
returns-then-entry_ino-eq0-clause-slot g c =
    first_empty (current_words (g.R.Region.memory c.args.region.now)) c.args.tree.root c.args.tree.size c.loop-slot.self c.loop-slot.invariant
    c.in-Some.slot c.in-Some.ensures.0 c.if-slot-tree.false (sym c.entry_ino.ensures ∙ c.if-entry_ino-eq0.true)

pub loop-slot-smaller : goal.loop-slot-smaller
loop-slot-smaller g c = fewer_left c.loop-slot.self.empties c.take.new.self c.in-Some.slot c.in-Some.ensures.0 c.in-Some.ensures.1

pub loop-slot-preserved : goal.loop-slot-preserved
loop-slot-preserved g c =
    right_without (current_words (g.R.Region.memory c.args.region.now)) c.args.tree.root c.args.tree.size c.loop-slot.self c.loop-slot.invariant
    c.in-Some.slot c.in-Some.ensures.0 (λ live none. c.if-entry_ino-eq0.false (c.entry_ino.ensures ∙ none)) c.take.new.self c.in-Some.ensures.1

pub returns-clause-slot : goal.returns-clause-slot
returns-clause-slot g c =
    none_empty (current_words (g.R.Region.memory c.args.region.now)) c.args.tree.root c.args.tree.size c.loop-slot.self c.loop-slot.invariant c.in_default.ensures.0
