use Rattle.std.proofs.Common.{◌≡◌, ◌+◌, ◌-◌, Some, ap, arith, drop, take, refl, ◌∙◌}
use Rattle.pm_epochs.specs.Kind.{event_of, value_at}
use Rattle.pm_epochs.specs.declared.event.Event.TheVariants.{Barrier, CallEnd}
use Rattle.pm_runs.proofs.PieceLaws.{reported-one, reported-row}
use Rattle.pm_runs.proofs.pieces.run_at.Goals as goal

pub returns-in-Store : goal.returns-in-Store
returns-in-Store c =
    let events = c.args.region.now.events in
    let first = c.args.first in
    let row = c.row-kind in
    let len = row.result.len in
    let value = value_at events first in
    let exact : (first + len) - first ≡ len = omega arith in
    reported-row events first len c.copy_prefix.result c.in-Store.word c.args.values.now _ c.copy_prefix.new.into
    (row.ensures.get ∙ ap (λ kind. Some (event_of kind value)) c.in-Store.is)
    row.ensures.some row.ensures.inside row.ensures.row
    (ap (λ n. take n (drop first c.values.result.now)) exact ∙ ap (λ values. take len (drop first values)) c.values.ensures)
    c.copy_prefix.ensures.count c.copy_prefix.ensures.copied

pub returns-in-Barrier : goal.returns-in-Barrier
returns-in-Barrier c =
    let events = c.args.region.now.events in
    let value = value_at events c.args.first in
    let begins = c.row-kind.ensures.get ∙ ap (λ kind. Some (event_of kind value)) c.in-Barrier.is in
    record {
      reported = reported-one events c.args.first Barrier begins;
      within = omega (arith, c.requires);
      begun = λ room. omega arith;
      kind = begins;
      fits = omega arith;
      rest = refl;
    }

pub returns-in-CallEnd : goal.returns-in-CallEnd
returns-in-CallEnd c =
    let events = c.args.region.now.events in
    let value = value_at events c.args.first in
    let begins = c.row-kind.ensures.get ∙ ap (λ kind. Some (event_of kind value)) c.in-CallEnd.is in
    record {
      reported = reported-one events c.args.first CallEnd begins;
      within = omega (arith, c.requires);
      begun = λ room. omega arith;
      kind = begins;
      fits = omega arith;
      rest = refl;
    }
