use Rattle.std.proofs.Common.{◌≡◌, ◌+◌, ◌∙◌, ap, arith, length, refl, sym}
use Rattle.std.specs.Vec.{with_item, with_items}
use Rattle.std.proofs.lemmas.List.{with_items_is}
use Rattle.pm_cores.specs.declared.entry.Entry.TheVariants.{Store}
use Rattle.pm_cores.proofs.Storing.{CanStore, low_stored, stored_sound}
use Rattle.pm_cores.proofs.Report.{stored_recorded}
use Rattle.pm_cores.proofs.Vectors.{epoch_read, last_read}
use Rattle.pm_cores.proofs.Views.{ready_to_store, stored_seen}
use Rattle.pm_cores.proofs.Whole.{IsGrown, counts_stay, with_entry}
use Rattle.pm_cores.proofs.cores.Cores.push_store.Goals.{After-wait_since}
use Rattle.pm_cores.proofs.cores.Cores.push_store.Goals as goal

-- each word has its number
size_is : (c : After-wait_since) → length c.wait_since.new.since ≡ length c.self.inside.since.items
size_is c = c.wait_since.auto.since ∙ ap length c.deref_mut.ensures.value

-- so its numbers are those that the call left
items_are : (c : After-wait_since) → (with_items c.self.inside.since c.wait_since.new.since).items ≡ c.wait_since.new.since
items_are c = with_items_is c.self.inside.since c.wait_since.new.since (size_is c ∙ sym c.self.inside.since.ok.0)

-- the word waits, and its line is the core's
can_store : (c : After-wait_since) →
    CanStore c.self.inside.words c.self.inside.since.items c.self.inside.log.items c.self.inside.epochs.items c.wait_since.new.since
    c.args.core c.args.i c.index-epoch.result.now
can_store c =
    let inside = c.self.inside in
    let asked = rw (← c.self.view_is) at c.requires in
    let waits = simp c.deref_mut.ensures.value at c.wait_since.ensures in
    record {
      sound = c.self.invariant.sound;
      epoch_is = epoch_read inside c.self.invariant _ _ asked.core c.index-epoch.ensures;
      low = asked.word;
      waiting = record {
        size = size_is c;
        here = λ clean. omega (arith, waits.here clean, c.len-place.ensures, inside.log.ok.0);
        same = λ other first is. waits.same other (omega (arith, is)) ∙ is;
        others = waits.others;
      };
      ready = ready_to_store _ _ _ _ c.self.invariant.sound c.args.core c.args.i asked.ready;
    }

pub invariant_of-self : goal.invariant_of-self
invariant_of-self c =
    let inside = c.self.inside in
    let old = c.self.invariant in
    let after = (goal.at.invariant_of-self c).After-wait_since in
    let asked = rw (← c.self.view_is) at c.requires in
    let epoch = c.index-epoch.result.now in
    let entry = Store c.args.core c.args.i c.args.v in
    let grown : IsGrown inside entry epoch c.index-before.result.now c.push_entry.new.log c.push_number.new.numbers c.push_number-2.new.numbers = record {
      log = (c.push_entry.ensures.items, c.push_entry.ensures.capacity);
      epochs = (c.push_number.ensures.items, c.push_number.ensures.capacity);
      befores = (c.push_number-2.ensures.items, c.push_number-2.ensures.capacity);
      known = asked.core;
      room = asked.room;
    } in
    let last = c.len-place.result + 1 in
    let recorded = stored_recorded _ _ _ _ old.recorded c.args.core c.args.i c.args.v last asked.word (omega (arith, c.len-place.ensures, inside.log.ok.0)) in
    with_entry inside old entry epoch _ _ _ _ grown (with_items inside.since c.wait_since.new.since) (with_item inside.lasts c.args.i last) inside.counts
    (rw (items_are after) (stored_sound _ _ _ _ _ _ _ _ c.args.v (can_store after)))
    (rw (last_read inside old c.args.i _ asked.word c.index-before.ensures) recorded)
    (λ core low at. rw (items_are after) (low_stored _ _ _ _ _ _ _ _ c.args.v (can_store after) core low at.high at.is_low))
    refl
    (counts_stay inside old entry epoch _ _ _ _ grown (λ core. refl))

pub returns : goal.returns
returns c =
    let after = (goal.at.returns c).After-wait_since in
    rw (← c.self.view_is, items_are after, c.push_entry.ensures.items, c.push_number.ensures.items)
    (stored_seen c.self.inside.counts.len _ _ _ _ c.self.inside.room _ _ _ _ c.args.v (can_store after))
