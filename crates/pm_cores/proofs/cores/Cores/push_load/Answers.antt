use Rattle.std.proofs.Common.{ℕ, refl}
use Rattle.pm_cores.specs.declared.entry.Entry.TheVariants.{Load}
use Rattle.pm_cores.proofs.Logs.{IsNoStore}
use Rattle.pm_cores.proofs.Vectors.{epoch_read}
use Rattle.pm_cores.proofs.Views.{ready_to_load, pushed_seen}
use Rattle.pm_cores.proofs.Whole.{IsGrown, counts_stay, with_other_entry}
use Rattle.pm_cores.proofs.cores.Cores.push_load.Goals as goal

no_store : (core word : ℕ) → IsNoStore (Load core word)
no_store core word = λ its_core at value same. cc

pub invariant_of-self : goal.invariant_of-self
invariant_of-self c =
    let inside = c.self.inside in
    let old = c.self.invariant in
    let asked = rw (← c.self.view_is) at c.requires in
    let epoch = c.index-epoch.result.now in
    let grown : IsGrown inside (Load c.args.core c.args.i) epoch 0 c.push_entry.new.log c.push_number.new.numbers c.push_number-2.new.numbers = record {
      log = (c.push_entry.ensures.items, c.push_entry.ensures.capacity);
      epochs = (c.push_number.ensures.items, c.push_number.ensures.capacity);
      befores = (c.push_number-2.ensures.items, c.push_number-2.ensures.capacity);
      known = asked.core;
      room = asked.room;
    } in
    let ready = ready_to_load _ _ _ _ old.sound c.args.core c.args.i asked.ready in
    let epoch_is = epoch_read inside old _ epoch asked.core c.index-epoch.ensures in
    with_other_entry inside old _ epoch 0 _ _ _ grown (no_store c.args.core c.args.i) ready epoch_is refl inside.counts refl
    (counts_stay inside old _ epoch 0 _ _ _ grown (λ core. refl))

pub returns : goal.returns
returns c =
    let inside = c.self.inside in
    rw (← c.self.view_is, c.push_entry.ensures.items, c.push_number.ensures.items)
    (pushed_seen inside.counts.len _ _ _ _ inside.room (Load c.args.core c.args.i) c.index-epoch.result.now
    c.self.invariant.sound (no_store c.args.core c.args.i))
