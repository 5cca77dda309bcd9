use Rattle.std.proofs.Common.{◌≡◌, ◌∙◌, [], sym, subst, arith, take}
use Rattle.std.proofs.lemmas.List.{length-take}
use Rattle.pm_epochs.specs.Replay.{IsRight}
use Rattle.pm_steps.specs.Machine.{cut_of}
use Rattle.bp_replay.specs.Storm.{storm_flags}
use Rattle.bp_replay.proofs.Standing.{stands_first, stands_end, stands_barrier, right_drawn}
use Rattle.bp_replay.proofs.random_crashes.choose_drawn.Goals as goal

pub returns-then-waits-2-clause-chosen : goal.returns-then-waits-2-clause-chosen
returns-then-waits-2-clause-chosen g c =
    let events = (g.R.Region.memory c.args.region.now).events in
    let moment = c.moment-moment.result in
    let loop = c.loop-i in
    let ends = stands_barrier loop.waits loop.draws loop.generator.state loop.backs.waiting loop.choice.cut events moment loop.i (omega arith) c.in-Barrier.ensures.get c.if-waits-2.true in
    let first = stands_first c.args.generator.now.state c.args.start moment c.args.choice.now.cut events c.moment-moment.ensures c.requires.taken c.requires.begun c.requires.start c.requires.mask in
    sym ends ∙ loop.invariant.stands ∙ first

pub returns-clause-chosen : goal.returns-clause-chosen
returns-clause-chosen g c =
    let events = (g.R.Region.memory c.args.region.now).events in
    let moment = c.moment-moment.result in
    let loop = c.loop-i in
    let ends = stands_end (take moment events) loop.i loop.waits loop.draws loop.generator.state loop.backs.waiting loop.choice.cut (omega (arith, length-take moment events)) in
    let first = stands_first c.args.generator.now.state c.args.start moment c.args.choice.now.cut events c.moment-moment.ensures c.requires.taken c.requires.begun c.requires.start c.requires.mask in
    sym ends ∙ loop.invariant.stands ∙ first

pub returns-then-waits-2-clause-right : goal.returns-then-waits-2-clause-right
returns-then-waits-2-clause-right g c =
    let events = (g.R.Region.memory c.args.region.now).events in
    let first = c.args.choice.now.cut in
    let state = c.args.generator.now.state in
    let chosen : c.loop-i.choice.cut ≡ cut_of events (storm_flags state first.epoch [] (take first.moment events)) = returns-then-waits-2-clause-chosen g c in
    subst (λ cut. IsRight events cut) (sym chosen) (right_drawn state first.epoch first.moment events)

pub returns-clause-right : goal.returns-clause-right
returns-clause-right g c =
    let events = (g.R.Region.memory c.args.region.now).events in
    let first = c.args.choice.now.cut in
    let state = c.args.generator.now.state in
    let chosen : c.loop-i.choice.cut ≡ cut_of events (storm_flags state first.epoch [] (take first.moment events)) = returns-clause-chosen g c in
    subst (λ cut. IsRight events cut) (sym chosen) (right_drawn state first.epoch first.moment events)
