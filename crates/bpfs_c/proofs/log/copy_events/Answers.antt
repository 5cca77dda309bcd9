use Rattle.std.proofs.Common.{◌≡◌, ◌<◌, ◌∙◌, [], ◌∷◌, ◌++◌, ap, arith, length, map, subst, sym, take, drop}
use Rattle.std.proofs.lemmas.List.{length-set, map-append, take_more_set}
use Rattle.pm_runs.proofs.PieceLaws.{events-more, rest-more}
use Rattle.bpfs_c.specs.Events.{HasEvents, seen_event}
use Rattle.bpfs_c.proofs.log.copy_events.Goals as goal

pub loop-i-preserved : goal.loop-i-preserved
loop-i-preserved c =
    let events = c.args.region.now.events in
    let i = c.loop-i.i in
    let into = c.loop-i.into in
    let event = c.event.result in
    let seen = c.seen.result in
    let room : i < length into = omega (arith, c.loop-i.invariant.long) in
    let before = take i (drop c.args.first events) in
    record {
      prefix = take_more_set into i seen room
          ∙ ap (λ seens. seens ++ seen ∷ []) c.loop-i.invariant.prefix
          ∙ ap (λ s. map seen_event before ++ s ∷ []) c.seen.ensures
          ∙ sym (map-append seen_event before (event ∷ []))
          ∙ ap (map seen_event) (sym (events-more events c.args.first i event (omega arith) c.event.ensures.value));
      rest = rest-more c.args.into.now into i seen c.loop-i.invariant.rest;
      long = length-set into i seen ∙ c.loop-i.invariant.long;
    }

pub returns : goal.returns
returns c =
    let done : c.loop-i.i ≡ c.min-count.result = omega arith in
    subst (λ count. HasEvents c.args.region.now.events c.args.first c.args.into.now count c.loop-i.into) done (record {
      many = omega arith;
      prefix = c.loop-i.invariant.prefix;
      rest = c.loop-i.invariant.rest;
    })
