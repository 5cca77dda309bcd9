use Rattle.std.proofs.Common.{◌≡◌, ◌+◌, ◌≤◌, ◌∙◌, ap, arith, sym, take}
use Rattle.std.proofs.Math.Nat.{mod-lt}
use Rattle.pm_epochs.specs.Log.{barriers}
use Rattle.pm_epochs.specs.Replay.{Chosen}
use Rattle.pm_region.specs.Epochs.{epoch_start}
use Rattle.bp_replay.specs.Generator.{drawn}
use Rattle.pm_region.proofs.EpochLaws.{barriers-prefix, epoch_start-at_least, epoch_start-prefix, epoch_start-taken}
use Rattle.bp_replay.proofs.random_crashes.storm.Goals as goal

pub start_of_epoch-start-requires : goal.start_of_epoch-start-requires
start_of_epoch-start-requires g c =
    let events = (g.R.Region.memory c.args.region.now).events in
    let few = mod-lt (drawn c.draw_up_to-moment.new.self.state) {m = c.barriers_before.result + 1} (omega arith) in
    omega (arith, c.draw_up_to-epoch.ensures.drawn, few, c.barriers_before.ensures, barriers-prefix c.draw_up_to-moment.result events)

pub choose_drawn-requires-clause-low : goal.choose_drawn-requires-clause-low
choose_drawn-requires-clause-low g c =
    let events = (g.R.Region.memory c.args.region.now).events in
    let epoch = c.draw_up_to-epoch.result in
    let few = mod-lt (drawn c.draw_up_to-moment.new.self.state) {m = c.barriers_before.result + 1} (omega arith) in
    let begun : epoch ≤ barriers events = omega (arith, c.draw_up_to-epoch.ensures.drawn, few, c.barriers_before.ensures, barriers-prefix c.draw_up_to-moment.result events) in
    let low = epoch_start-at_least epoch events begun in
    omega (arith, low, c.start_of_epoch-start.ensures, ap (λ (it : Chosen). it.cut.epoch) c.start.ensures)

pub choose_drawn-requires-clause-high : goal.choose_drawn-requires-clause-high
choose_drawn-requires-clause-high g c =
    let events = (g.R.Region.memory c.args.region.now).events in
    let moment = c.draw_up_to-moment.result in
    let few = mod-lt (drawn c.draw_up_to-moment.new.self.state) {m = c.barriers_before.result + 1} (omega arith) in
    let begun : c.draw_up_to-epoch.result ≤ barriers (take moment events) = omega (arith, c.draw_up_to-epoch.ensures.drawn, few, c.barriers_before.ensures) in
    omega (arith, epoch_start-taken moment c.draw_up_to-epoch.result events begun, c.start_of_epoch-start.ensures, ap (λ (it : Chosen). it.cut.moment) c.start.ensures)

pub choose_drawn-requires-clause-start : goal.choose_drawn-requires-clause-start
choose_drawn-requires-clause-start g c =
    let events = (g.R.Region.memory c.args.region.now).events in
    let moment = c.draw_up_to-moment.result in
    let epoch = c.draw_up_to-epoch.result in
    let few = mod-lt (drawn c.draw_up_to-moment.new.self.state) {m = c.barriers_before.result + 1} (omega arith) in
    let begun : epoch ≤ barriers (take moment events) = omega (arith, c.draw_up_to-epoch.ensures.drawn, few, c.barriers_before.ensures) in
    let moment_is : c.start.new.self.cut.moment ≡ moment = ap (λ (it : Chosen). it.cut.moment) c.start.ensures in
    let epoch_is : c.start.new.self.cut.epoch ≡ epoch = ap (λ (it : Chosen). it.cut.epoch) c.start.ensures in
    c.start_of_epoch-start.ensures
    ∙ sym (epoch_start-prefix moment epoch events begun)
    ∙ ap (λ n. epoch_start n (take moment events)) (sym epoch_is)
    ∙ ap (λ n. epoch_start c.start.new.self.cut.epoch (take n events)) (sym moment_is)
