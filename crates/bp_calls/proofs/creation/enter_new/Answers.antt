use Rattle.std.proofs.Common.{sym, ◌∙◌}
use Rattle.bp_free.specs.Set.{members}
use Rattle.bp_calls.specs.Created.{EntersName}
use Rattle.bp_calls.proofs.NewNames.{none_performs, none_ready, some_enters, some_performs}
use Rattle.bp_calls.proofs.Refusals.{no_members, some_members}
use Rattle.bp_calls.proofs.creation.enter_new.Goals as goal

pub grow_and_enter-requires-clause-none : goal.grow_and_enter-requires-clause-none
grow_and_enter-requires-clause-none g c = no_members (members c.args.parts.now.free_inodes) (sym c.count.ensures ∙ c.if-count-eq0.true)

pub grow_and_enter-requires-clause-thawed : goal.grow_and_enter-requires-clause-thawed
grow_and_enter-requires-clause-thawed g c =
    none_ready (g.R.Region.memory c.args.parts.now.region) c.args.parts.now.free_blocks c.args.parts.now.free_inodes c.args.dir c.args.name.now c.requires.lacks c.requires.exact.sets c.requires.thawed
    (grow_and_enter-requires-clause-none g c)

pub returns-then-count-eq0-clause-performs : goal.returns-then-count-eq0-clause-performs
returns-then-count-eq0-clause-performs g c =
    let memory = g.R.Region.memory in
    none_performs (memory c.args.parts.now.region) c.args.parts.now.free_blocks c.args.parts.now.free_inodes c.args.dir c.args.name.now c.requires.lacks c.requires.exact.sets c.requires.thawed
    (memory c.grow_and_enter.new.parts.region) (EntersName c.args.dir c.args.name.now c.args.kind)
    (no_members (members c.args.parts.now.free_inodes) (sym c.count.ensures ∙ c.if-count-eq0.true)) c.grow_and_enter.ensures.performs

pub enter-requires-clause-can : goal.enter-requires-clause-can
enter-requires-clause-can g c =
    some_enters (g.R.Region.memory c.args.parts.now.region) c.args.parts.now.free_blocks c.args.parts.now.free_inodes c.args.dir c.args.name.now c.requires.lacks c.requires.exact.sets c.requires.thawed
    (some_members (members c.args.parts.now.free_inodes) (λ e. c.if-count-eq0.false (c.count.ensures ∙ e)))

pub returns-clause-performs : goal.returns-clause-performs
returns-clause-performs g c =
    let memory = g.R.Region.memory in
    some_performs (memory c.args.parts.now.region) c.args.parts.now.free_blocks c.args.parts.now.free_inodes c.args.dir c.args.name.now c.requires.lacks c.requires.exact.sets c.requires.thawed
    (memory c.enter.new.parts.region) (EntersName c.args.dir c.args.name.now c.args.kind)
    (some_members (members c.args.parts.now.free_inodes) (λ e. c.if-count-eq0.false (c.count.ensures ∙ e))) c.enter.ensures.performs
