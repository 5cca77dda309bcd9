use Rattle.std.proofs.Common.{◌≡◌, ◌⊎◌, ℕ, ◌+◌, ◌<◌, length, sym, subst, inl, inr, arith}
use Rattle.std.proofs.lemmas.Bool.{cases_eq}
use Rattle.pm_region.specs.Memory.{current_words}
use Rattle.bp_cache.specs.Index.{IsIndexed}
use Rattle.bp_cache.proofs.index.Index.of.Goals as goal

pub loop-slot-preserved : goal.loop-slot-preserved
loop-slot-preserved g c = record {
  room = omega (arith, c.loop-slot.invariant.room, c.if-not-scan.ensures.room);
  reported = λ k below. go k below (cases_eq k c.loop-slot.slot);
}
  where
    go : (k : ℕ) → k < c.loop-slot.slot + 1 → (k ≡ c.loop-slot.slot) ⊎ (k ≡ c.loop-slot.slot → ⊥) →
        IsIndexed (current_words (g.R.Region.memory c.args.region.now)) c.args.tree.root k c.scan.new.self
    go k below (inl here) = subst (λ s. IsIndexed (current_words (g.R.Region.memory c.args.region.now)) c.args.tree.root s c.scan.new.self) (sym here) c.if-not-scan.ensures.here
    go k below (inr apart) = c.if-not-scan.ensures.others k apart (c.loop-slot.invariant.reported k (omega (arith, below, apart)))
