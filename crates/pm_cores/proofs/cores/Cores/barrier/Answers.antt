use Rattle.std.proofs.Common.{◌≡◌, ◌+◌, ℕ, inl, inr, arith, refl, sym}
use Rattle.std.specs.Vec.{with_item}
use Rattle.std.proofs.lemmas.Bool.{eq-eqb, ne_eqb}
use Rattle.pm_cores.specs.declared.entry.Entry.TheVariants.{Barrier, Load}
use Rattle.pm_cores.specs.Log.{core_barriers}
use Rattle.pm_cores.proofs.Lists.{set_either}
use Rattle.pm_cores.proofs.Logs.{IsNoStore, core_barriers-append, core_barriers-most}
use Rattle.pm_cores.proofs.Vectors.{epoch_read}
use Rattle.pm_cores.proofs.Views.{pushed_seen}
use Rattle.pm_cores.proofs.Whole.{IsGrown, with_other_entry}
use Rattle.pm_cores.proofs.cores.Cores.barrier.Goals.{After-index-epoch}
use Rattle.pm_cores.proofs.cores.Cores.barrier.Goals as goal

no_store : (core : ℕ) → IsNoStore (Barrier core)
no_store core = λ its_core at value same. cc

-- a barrier is no load
no_load : (core its word : ℕ) → Barrier core ≡ Load its word → ⊥
no_load core its word same = cc

-- the number that is read is the core's epoch
epoch_at : (c : After-index-epoch) → c.index-epoch.result.now ≡ core_barriers c.args.core c.self.inside.log.items
epoch_at c = epoch_read c.self.inside c.self.invariant c.args.core _ (rw (← c.self.view_is) at c.requires).core c.index-epoch.ensures

pub overflow_add-epoch : goal.overflow_add-epoch
overflow_add-epoch c =
    let log = c.self.inside.log in
    let epoch = epoch_at (goal.at.overflow_add-epoch c).After-index-epoch in
    omega (arith, epoch, core_barriers-most c.args.core log.items, log.ok.0, c.self.invariant.fits, c.self.invariant.few)

pub invariant_of-self : goal.invariant_of-self
invariant_of-self c =
    let inside = c.self.inside in
    let old = c.self.invariant in
    let asked = rw (← c.self.view_is) at c.requires in
    let core = c.args.core in
    let epoch = c.index-epoch.result.now in
    let epoch_is = epoch_at (goal.at.invariant_of-self c).After-index-epoch in
    let grown : IsGrown inside (Barrier core) epoch 0 c.push_entry.new.log c.push_number.new.numbers c.push_number-2.new.numbers = record {
      log = (c.push_entry.ensures.items, c.push_entry.ensures.capacity);
      epochs = (c.push_number.ensures.items, c.push_number.ensures.capacity);
      befores = (c.push_number-2.ensures.items, c.push_number-2.ensures.capacity);
      known = asked.core;
      room = asked.room;
    } in
    with_other_entry inside old _ epoch 0 _ _ _ grown (no_store core) (λ its word same. absurd (no_load core its word same)) epoch_is refl
    (with_item inside.counts core (epoch + 1)) refl (λ its low.
    rw core_barriers-append (elim (set_either inside.counts.items core (epoch + 1) its (omega (arith, asked.core, inside.counts.ok.0))) [
      | inl same ↦ rw (same.1, same.0, eq-eqb core core refl) (omega (arith, epoch_is))
      | inr differ ↦ rw (differ.1, ne_eqb core its (λ e. differ.0 (sym e))) (omega (arith, old.counts its low))
    ]))

pub returns : goal.returns
returns c =
    let inside = c.self.inside in
    rw (← c.self.view_is, c.push_entry.ensures.items, c.push_number.ensures.items)
    (pushed_seen inside.counts.len _ _ _ _ inside.room (Barrier c.args.core) c.index-epoch.result.now c.self.invariant.sound (no_store c.args.core))
