use Rattle.std.proofs.Common.{◌≡◌, ◌∙◌, ap, length, sym}
use Rattle.std.specs.Vec.{with_items}
use Rattle.std.proofs.lemmas.List.{with_items_is}
use Rattle.pm_cores.proofs.Settling.{settle_cleared}
use Rattle.pm_cores.proofs.Vectors.{low_read}
use Rattle.pm_cores.proofs.Views.{settled_seen}
use Rattle.pm_cores.proofs.Whole.{with_low, with_since}
use Rattle.pm_cores.proofs.cores.Cores.settle.Goals.{After-settle_words}
use Rattle.pm_cores.proofs.cores.Cores.settle.Goals as goal

-- each word has its number
size_is : (c : After-settle_words) → length c.settle_words.new.since ≡ length c.self.inside.since.items
size_is c = c.settle_words.auto.since ∙ ap length c.deref_mut.ensures.value

-- so its numbers are those that the call left
items_are : (c : After-settle_words) → (with_items c.self.inside.since c.settle_words.new.since).items ≡ c.settle_words.new.since
items_are c = with_items_is c.self.inside.since c.settle_words.new.since (size_is c ∙ sym c.self.inside.since.ok.0)

pub settle_words-requires : goal.settle_words-requires
settle_words-requires c =
    let sound = c.self.invariant.sound in
    let at = low_read c.self.inside c.self.invariant _ _ (rw (← c.self.view_is) at c.requires) c.index-low.ensures in
    record {
      sound = rw (ap length c.deref_mut.ensures.value ∙ sound.as_many_since, c.deref_mut.ensures.value, c.deref.ensures.value, c.deref-2.ensures.value) sound;
      low = rw (c.deref_mut.ensures.value, c.deref.ensures.value) at.is_low;
      high = rw c.deref.ensures.value at.high;
    }

pub invariant_of-self : goal.invariant_of-self
invariant_of-self c =
    let inside = c.self.inside in
    let after = (goal.at.invariant_of-self c).After-settle_words in
    let recorded = simp (c.deref_mut.ensures.value, c.deref.ensures.value, c.deref-2.ensures.value) at c.settle_words.ensures in
    let since = with_items inside.since c.settle_words.new.since in
    let cleared = settle_cleared _ _ _ _ c.self.invariant.sound c.args.owner _ (size_is after) recorded.since in
    let holds = with_since inside c.self.invariant since _ (rw (← items_are after) at cleared) in
    with_low (record inside { since = since }) holds c.args.owner.core c.settle_words.result (rw (← c.self.view_is) at c.requires)
    (record { is_low = rw (items_are after) recorded.low; high = recorded.high })

pub returns : goal.returns
returns c =
    let inside = c.self.inside in
    let after = (goal.at.returns c).After-settle_words in
    let recorded = simp (c.deref_mut.ensures.value, c.deref.ensures.value, c.deref-2.ensures.value) at c.settle_words.ensures in
    rw (← c.self.view_is, items_are after)
    (settled_seen inside.counts.len _ _ _ _ inside.room c.self.invariant.sound c.settle_words.new.since (size_is after) c.args.owner recorded.since)
