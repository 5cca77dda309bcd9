use Rattle.std.proofs.Common.{◌≡◌, ◌≤◌, ◌∙◌, ℕ, List, ap, arith, drop, length, refl, take}
use Rattle.std.proofs.lemmas.List.{length-take-le}
use Rattle.pm_epochs.specs.declared.event.Event.{Event}
use Rattle.pm_epochs.specs.Log.{barriers, epoch_stores}
use Rattle.pm_epochs.specs.Replay.{IsRight}
use Rattle.pm_region.specs.Epochs.{epoch_start}
use Rattle.pm_region.proofs.EpochLaws.{barriers-prefix, epoch_start-taken, stores-at}
use Rattle.pm_raw.specs.Places.{is_barrier, places_where, start_after, count_below}
use Rattle.pm_raw.proofs.PlaceLaws.{barriers-below, epochs-places, start-places, start-small}
use Rattle.pm_raw.proofs.crash.start_of.Goals as goal
use Rattle.pm_raw.proofs.crash.start_of.Goals.{then-moment-len-via-then-moment-len, then-moment-len-via-else-moment-len+then-epoch-before}

pub returns-then-moment-len-clause-right : goal.returns-then-moment-len-clause-right
returns-then-moment-len-clause-right c =
    let log = c.args.log.now in
    let cut = c.args.choice.now.cut in
    let places = c.args.barrier_places.now.items in
    let moment_is : c.moment-moment.result ≡ cut.moment = c.moment-moment.ensures in
    let count = ap (λ n. barriers (take n log)) moment_is in (
      λ no. absurd cc,
      λ right. absurd (elim c.then-moment-len.branch [
        | then-moment-len-via-then-moment-len w ↦ omega (arith, w.if-moment-len.true, c.len.ensures, moment_is, right.moment)
        | then-moment-len-via-else-moment-len+then-epoch-before w ↦ omega (
          arith,
          w.if-epoch-before.true,
          w.before-else-moment-len.ensures,
          barriers-below log places c.moment-moment.result c.requires.places,
          count,
          c.epoch-epoch.ensures,
          right.epoch,
        )
      ]),
    )

-- an epoch that has begun before a moment, by the places of the barriers
begun-by : (log : List Event) (places : List ℕ) (moment epoch count : ℕ) → count ≡ count_below moment places → places ≡ places_where is_barrier 0 log → epoch ≤ count → epoch ≤ barriers (take moment log)
begun-by log places moment epoch count is are low = omega (arith, is, low, barriers-below log places moment are)

-- and where it begins
start-by : (log : List Event) (places : List ℕ) (moment epoch start : ℕ) → start ≡ start_after places epoch → places ≡ places_where is_barrier 0 log → epoch ≤ barriers (take moment log) → start ≡ epoch_start epoch log
start-by log places moment epoch start is are begun = is ∙ start-places epoch log places are (omega (arith, begun, barriers-prefix moment log))

pub start_of_epoch-start-requires-clause-begun : goal.start_of_epoch-start-requires-clause-begun
start_of_epoch-start-requires-clause-begun c =
    let log = c.args.log.now in
    let places = c.args.barrier_places.now.items in
    let moment = c.moment-moment.result in
    let begun = begun-by log places moment c.epoch-epoch.result _ c.before-else-moment-len.ensures c.requires.places (omega (arith, c.if-epoch-before.false)) in
    epochs-places c.epoch-epoch.result log places c.requires.places (omega (arith, begun, barriers-prefix moment log))

pub start_of_epoch-start-requires-clause-small : goal.start_of_epoch-start-requires-clause-small
start_of_epoch-start-requires-clause-small c =
    let log = c.args.log.now in
    let places = c.args.barrier_places.now.items in
    let moment = c.moment-moment.result in
    let begun = begun-by log places moment c.epoch-epoch.result _ c.before-else-moment-len.ensures c.requires.places (omega (arith, c.if-epoch-before.false)) in
    let early = start-small c.epoch-epoch.result log places c.requires.places (omega (arith, begun, barriers-prefix moment log)) in
    omega (arith, early, c.requires.small)

pub suffix-requires : goal.suffix-requires
suffix-requires c =
    let log = c.args.log.now in
    let moment = c.moment-moment.result in
    let fits : moment ≤ length log = omega (arith, c.if-moment-len.false, c.len.ensures) in
    let begun : c.epoch-epoch.result ≤ barriers (take moment log) = omega (arith, c.if-epoch-before.false, c.before-else-moment-len.ensures, barriers-below log c.args.barrier_places.now.items moment c.requires.places) in
    omega (
      arith,
      start-by log c.args.barrier_places.now.items moment c.epoch-epoch.result _ c.start_of_epoch-start.ensures c.requires.places begun,
      epoch_start-taken moment c.epoch-epoch.result log begun,
      ap length c.prefix.ensures,
      length-take-le moment log fits,
    )

pub returns-then-mask-first_stores-clause-right : goal.returns-then-mask-first_stores-clause-right
returns-then-mask-first_stores-clause-right c =
    let log = c.args.log.now in
    let cut = c.args.choice.now.cut in
    let prefix_is = c.prefix.ensures ∙ ap (λ n. take n log) c.moment-moment.ensures in
    let places = c.args.barrier_places.now.items in
    let moment = c.moment-moment.result in
    let early = begun-by log places moment c.epoch-epoch.result _ c.before-else-moment-len.ensures c.requires.places (omega (arith, c.if-epoch-before.false)) in
    let start_is = start-by log places moment c.epoch-epoch.result _ c.start_of_epoch-start.ensures c.requires.places early ∙ ap (λ n. epoch_start n log) c.epoch-epoch.ensures in
    let stores =
    c.first_stores.ensures
    ∙ ap (epoch_stores 0) c.suffix.ensures
    ∙ ap (λ n. epoch_stores 0 (drop n c.prefix.result)) start_is
    ∙ ap (λ es. epoch_stores 0 (drop (epoch_start cut.epoch log) es)) prefix_is in (
      λ no. absurd cc,
      λ right. absurd (omega (
        arith,
        c.if-mask-first_stores.true,
        ap length c.mask.ensures,
        stores,
        stores-at cut.moment cut.epoch log right.epoch,
        right.mask,
      )),
    )

pub returns-clause-right : goal.returns-clause-right
returns-clause-right c =
    let log = c.args.log.now in
    let cut = c.args.choice.now.cut in
    let prefix_is = c.prefix.ensures ∙ ap (λ n. take n log) c.moment-moment.ensures in
    let places = c.args.barrier_places.now.items in
    let moment = c.moment-moment.result in
    let early = begun-by log places moment c.epoch-epoch.result _ c.before-else-moment-len.ensures c.requires.places (omega (arith, c.if-epoch-before.false)) in
    let start_is = start-by log places moment c.epoch-epoch.result _ c.start_of_epoch-start.ensures c.requires.places early ∙ ap (λ n. epoch_start n log) c.epoch-epoch.ensures in
    let stores =
    c.first_stores.ensures
    ∙ ap (epoch_stores 0) c.suffix.ensures
    ∙ ap (λ n. epoch_stores 0 (drop n c.prefix.result)) start_is
    ∙ ap (λ es. epoch_stores 0 (drop (epoch_start cut.epoch log) es)) prefix_is in
    let begun : cut.epoch ≤ barriers (take cut.moment log) = omega (
      arith,
      c.if-epoch-before.false,
      c.before-else-moment-len.ensures,
      barriers-below log c.args.barrier_places.now.items moment c.requires.places,
      ap (λ n. barriers (take n log)) c.moment-moment.ensures,
      c.epoch-epoch.ensures,
    ) in
    let right : IsRight log cut = record {
      moment = omega (arith, c.if-moment-len.false, c.len.ensures, c.moment-moment.ensures);
      epoch = begun;
      mask = omega (arith, c.if-mask-first_stores.false, ap length c.mask.ensures, stores, stores-at cut.moment cut.epoch log begun);
    } in
    (λ yes. right, λ is. refl)

pub returns-clause-taken : goal.returns-clause-taken
returns-clause-taken c =
    let log = c.args.log.now in
    let moment = c.moment-moment.result in
    let begun : c.epoch-epoch.result ≤ barriers (take moment log) = omega (arith, c.if-epoch-before.false, c.before-else-moment-len.ensures, barriers-below log c.args.barrier_places.now.items moment c.requires.places) in
    omega (arith, start-by log c.args.barrier_places.now.items moment c.epoch-epoch.result _ c.start_of_epoch-start.ensures c.requires.places begun, epoch_start-taken moment c.epoch-epoch.result log begun, c.moment-moment.ensures)

pub returns-clause-start : goal.returns-clause-start
returns-clause-start c =
    let log = c.args.log.now in
    let places = c.args.barrier_places.now.items in
    let moment = c.moment-moment.result in
    let begun = begun-by log places moment c.epoch-epoch.result _ c.before-else-moment-len.ensures c.requires.places (omega (arith, c.if-epoch-before.false)) in
    start-by log places moment c.epoch-epoch.result _ c.start_of_epoch-start.ensures c.requires.places begun ∙ ap (λ n. epoch_start n log) c.epoch-epoch.ensures
