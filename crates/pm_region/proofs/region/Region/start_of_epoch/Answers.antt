use Rattle.std.proofs.Common.{◌≡◌, ◌+◌, [], ◌∷◌, ◌∙◌, sym, ap, arith, drop}
use Rattle.std.proofs.lemmas.List.{at_drop_more}
use Rattle.pm_epochs.specs.Kind.{event_of, value_at}
use Rattle.pm_epochs.specs.Log.{barriers}
use Rattle.pm_region.specs.Epochs.{epoch_start}
use Rattle.pm_region.proofs.EpochLaws.{barriers_past, epoch_start_past}
use Rattle.pm_region.proofs.region.Region.start_of_epoch.Goals as goal
use Rattle.pm_region.proofs.region.Region.start_of_epoch.Goals.{in-Store, in-Barrier, in-CallEnd}

pub loop-i-preserved : goal.loop-i-preserved
loop-i-preserved g c =
    let events = (g.Self.Region.memory c.args.self.now).events in
    let loop = c.loop-i in
    let event = event_of c.kind.result (value_at events loop.i) in
    let rest = drop (loop.i + 1) events in
    let here : drop loop.i events ≡ event ∷ rest =
    at_drop_more (λ es. es) events loop.i event (omega arith) ∙ ap (λ e. e ∷ rest) (sym c.kind.ensures.value) in
    let left_is : loop.left ≡ c.match-kind.left + barriers (event ∷ []) = elim c.match-kind.branch [
      | in-Store w ↦ grind arith
      | in-Barrier w ↦ grind arith
      | in-CallEnd w ↦ grind arith
    ] in
    let count : barriers (drop loop.i events) ≡ barriers (event ∷ []) + barriers rest = ap barriers here ∙ barriers_past event rest in
    let start = ap (epoch_start loop.left) here ∙ epoch_start_past loop.left c.match-kind.left event rest (omega arith) left_is in
    record { begun = omega arith; so_far = omega arith }
