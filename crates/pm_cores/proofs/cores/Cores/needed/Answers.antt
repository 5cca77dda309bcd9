use Rattle.std.proofs.Common.{◌∙◌, ap, arith, length, sym}
use Rattle.std.proofs.lemmas.List.{get_or_read}
use Rattle.pm_cores.proofs.Backs.{may_go, is_needed}
use Rattle.pm_cores.proofs.Vectors.{IsFirst, first_read, low_read, stored_in_since}
use Rattle.pm_cores.proofs.Whole.{with_low}
use Rattle.pm_cores.proofs.cores.Cores.needed.Goals.{After-first_waiting-first}
use Rattle.pm_cores.proofs.cores.Cores.needed.Goals as goal

-- what is found is the first store of the owner that waits
first_at : (c : After-first_waiting-first) → IsFirst c.self.inside c.args.i c.owner_of_word-owner.result c.first_waiting-first.result
first_at c =
    let owner = rw (← c.self.view_is) at c.owner_of_word-owner.ensures in
    let recorded = rw (c.deref.ensures.value, c.deref-2.ensures.value) at c.first_waiting-first.ensures in
    first_read c.self.inside c.self.invariant c.args.i _ _ owner.core owner.under (record { is_low = recorded.low; high = recorded.high }) recorded.found

pub first_waiting-first-requires : goal.first_waiting-first-requires
first_waiting-first-requires c =
    let at = low_read c.self.inside c.self.invariant _ _ (rw (← c.self.view_is) at c.owner_of_word-owner.ensures.core) c.index.ensures in
    record {
      low = rw (c.deref.ensures.value, c.deref-2.ensures.value) at.is_low;
      high = rw c.deref-2.ensures.value at.high;
      words = rw (c.deref.ensures.value, c.deref-2.ensures.value) (stored_in_since c.self.inside c.self.invariant);
    }

pub index-epoch-requires : goal.index-epoch-requires
index-epoch-requires c =
    let at = first_at (goal.at.index-epoch-requires c).After-first_waiting-first in
    omega (arith, at.in_epochs, c.self.inside.epochs.ok.0)

pub invariant_of-self : goal.invariant_of-self
invariant_of-self c =
    let at = first_at (goal.at.invariant_of-self c).After-first_waiting-first in
    with_low c.self.inside c.self.invariant _ _ at.known at.low

pub invariant_of-self-2 : goal.invariant_of-self-2
invariant_of-self-2 c =
    let at = first_at (goal.at.invariant_of-self-2 c).After-first_waiting-first in
    with_low c.self.inside c.self.invariant _ _ at.known at.low

pub returns-then-epoch-owner-clause-needed : goal.returns-then-epoch-owner-clause-needed
returns-then-epoch-owner-clause-needed c =
    let inside = c.self.inside in
    let at = first_at (goal.at.returns-then-epoch-owner-clause-needed c).After-first_waiting-first in
    let epoch = get_or_read inside.epochs.items _ _ at.in_epochs c.index-epoch.ensures 0 in
    rw (← c.self.view_is)
    (may_go inside.counts.len _ _ _ _ inside.room c.self.invariant.sound c.args.i _ at.under _ at.low.is_low at.found (sym epoch ∙ c.if-epoch-owner.true))

pub lowest_word-requires : goal.lowest_word-requires
lowest_word-requires c =
    let sound = c.self.invariant.sound in
    let at = first_at (goal.at.lowest_word-requires c).After-first_waiting-first in
    record {
      sound = rw (ap length c.deref-3.ensures.value ∙ sound.as_many_since, c.deref-3.ensures.value, c.deref-4.ensures.value, c.deref-5.ensures.value) sound;
      low = rw (c.deref-3.ensures.value, c.deref-4.ensures.value) at.low.is_low;
      found = rw (c.deref-3.ensures.value, c.deref-4.ensures.value) at.found;
      epoch = rw c.deref-5.ensures.value (get_or_read c.self.inside.epochs.items _ _ at.in_epochs c.index-epoch.ensures 0);
    }

pub returns-clause-needed : goal.returns-clause-needed
returns-clause-needed c =
    let inside = c.self.inside in
    let at = first_at (goal.at.returns-clause-needed c).After-first_waiting-first in
    let epoch = get_or_read inside.epochs.items _ _ at.in_epochs c.index-epoch.ensures 0 in
    let lowest = simp (c.deref-3.ensures.value, c.deref-4.ensures.value, c.deref-5.ensures.value, epoch) at c.lowest_word.ensures in
    rw (← c.self.view_is)
    (is_needed inside.counts.len _ _ _ _ inside.room c.self.invariant.sound c.args.i _ at.under _ at.low.is_low at.found
    (λ same. c.if-epoch-owner.false (epoch ∙ same)) c.lowest_word.result lowest.under lowest.lowest)
