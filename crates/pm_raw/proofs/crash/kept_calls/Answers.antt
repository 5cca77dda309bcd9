use Rattle.std.proofs.Common.{◌∙◌, ap, arith, drop, length, take}
use Rattle.pm_epochs.specs.Log.{call_ends}
use Rattle.pm_epochs.specs.Replay.{call_ends_of}
use Rattle.pm_region.proofs.EpochLaws.{epoch_start-low}
use Rattle.pm_raw.proofs.EpochLaws.{call_ends-from, call_ends-low, call_ends-split, call_ends_of-low}
use Rattle.pm_raw.proofs.PlaceLaws.{call_ends-below, call_ends-places}
use Rattle.pm_raw.proofs.crash.kept_calls.Goals as goal

pub suffix-requires : goal.suffix-requires
suffix-requires c = omega (arith, c.requires.start, epoch_start-low c.args.choice.now.cut.epoch c.args.log.now)

pub overflow_add-result : goal.overflow_add-result
overflow_add-result c =
    let log = c.args.log.now in
    let start = c.args.start in
    let mask = c.mask.result.now in
    let before = c.before-2.ensures ∙ call_ends-below log c.args.call_end_places.now.items start c.requires.places in
    let suffix = c.calls_of.ensures ∙ ap (call_ends_of 0 mask) c.suffix.ensures in
    omega (arith, before, suffix, call_ends_of-low mask (drop start log), call_ends-split start log, call_ends-low log, c.requires.small)

pub returns-clause-kept : goal.returns-clause-kept
returns-clause-kept c =
    let log = c.args.log.now in
    let cut = c.args.choice.now.cut in
    let before =
    c.before-2.ensures
    ∙ call_ends-below log c.args.call_end_places.now.items c.args.start c.requires.places
    ∙ ap (λ n. call_ends (take n log)) c.requires.start in
    let suffix =
    c.calls_of.ensures
    ∙ ap (λ mask. call_ends_of 0 mask c.suffix.result) c.mask.ensures
    ∙ ap (call_ends_of 0 cut.mask) (c.suffix.ensures ∙ ap (λ n. drop n log) c.requires.start) in
    omega (arith, before, suffix, call_ends-from cut.epoch cut.mask log)

pub returns-clause-of : goal.returns-clause-of
returns-clause-of c = c.len.ensures ∙ ap length c.requires.places ∙ call_ends-places 0 c.args.log.now
