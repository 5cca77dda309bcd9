use Rattle.std.proofs.Common.{◌<◌, ◌≤◌, ◌∙◌, arith, length}
use Rattle.std.proofs.lemmas.List.{get_or_read}
use Rattle.pm_cores.proofs.Flags.{open_epoch_found, open_epoch_none}
use Rattle.pm_cores.proofs.Vectors.{epoch_read, low_read, stored_in_since}
use Rattle.pm_cores.proofs.cores.Cores.dirty_epoch.Goals as goal

pub index-requires : goal.index-requires
index-requires c = omega (arith, c.self.invariant.as_many_lows, c.self.invariant.some_core)

pub index-requires-else-first-len : goal.index-requires-else-first-len
index-requires-else-first-len c = c.self.invariant.some_core

pub first_waiting-first-requires : goal.first_waiting-first-requires
first_waiting-first-requires c =
    let at = low_read c.self.inside c.self.invariant 0 _ c.self.invariant.some_core c.index.ensures in
    record {
      low = rw (c.deref.ensures.value, c.deref-2.ensures.value) at.is_low;
      high = rw c.deref-2.ensures.value at.high;
      words = rw (c.deref.ensures.value, c.deref-2.ensures.value) (stored_in_since c.self.inside c.self.invariant);
    }

pub returns-then-first-len : goal.returns-then-first-len
returns-then-first-len c =
    let inside = c.self.inside in
    let sound = c.self.invariant.sound in
    let first = c.first_waiting-first.result in
    let recorded = rw (c.deref.ensures.value, c.deref-2.ensures.value) at c.first_waiting-first.ensures in
    let within : first < length inside.log.items = omega (arith, inside.log.ok.0, c.len.ensures, c.if-first-len.true) in
    let in_epochs : first < length inside.epochs.items = omega (arith, within, sound.as_many_epochs) in
    let found = recorded.found within in
    rw (← c.self.view_is)
    (get_or_read inside.epochs.items first _ in_epochs c.index-then-first-len.ensures 0
    ∙ open_epoch_found inside.counts.len _ _ _ _ inside.room sound 0 first recorded.low found.0 found.1)

pub returns-else-first-len : goal.returns-else-first-len
returns-else-first-len c =
    let inside = c.self.inside in
    let old = c.self.invariant in
    let first = c.first_waiting-first.result in
    let recorded = rw (c.deref.ensures.value, c.deref-2.ensures.value) at c.first_waiting-first.ensures in
    let past : length inside.log.items ≤ first = omega (arith, inside.log.ok.0, c.len.ensures, c.if-first-len.false) in
    rw (← c.self.view_is)
    (epoch_read inside old 0 _ old.some_core c.index-else-first-len.ensures
    ∙ open_epoch_none inside.counts.len _ _ _ _ inside.room old.sound 0 first recorded.low past)
