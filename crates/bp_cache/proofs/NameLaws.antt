-- The names that are known are right after a change of names that was reported to them.
use Rattle.std.proofs.Common.{◌≡◌, ◌≢◌, ℕ, Option, Some, None, sym, ◌∙◌, ap}
use Rattle.std.specs.FinMap.{get}
use Rattle.bp_layout.specs.Words.{Image}
use Rattle.bp_layout.specs.Hints.{NameIn, Known, AreRight}
use Rattle.bp_changes.specs.KeepsSlots.{KeepsSlots, KeepsOther, KeepsOthers}
use Rattle.bp_cache.specs.Forgets.{Forgets}
use Rattle.bp_cache.specs.Held.{ForgetsBoth}

-- a name that is known is none that is not
apart_from : (known : Known) (name gone : NameIn) (slot : ℕ) → get known name ≡ Some slot → get known gone ≡ None → name ≢ gone
apart_from known name gone slot is none same = let clash : ◌≡◌ {A = Option ℕ} None (Some slot) = sym none ∙ ap (get known) (sym same) ∙ is in cc

module _ (old new : Image) (before : Known) (right : AreRight old before) where
  pub names_kept : KeepsSlots old new → AreRight new before
  names_kept keeps name slot is = keeps name slot (right name slot is)

  pub names_forgotten : (after : Known) (gone : NameIn) → Forgets before after gone → KeepsOther old new gone → AreRight new after
  names_forgotten after gone forgets keeps name slot is =
      keeps name slot (apart_from after name gone slot is forgets.gone) (right name slot (forgets.others name slot is))

  pub both_forgotten : (after : Known) (one other : NameIn) → ForgetsBoth before after one other → KeepsOthers old new one other → AreRight new after
  both_forgotten after one other forgets keeps name slot is =
      keeps name slot (apart_from after name one slot is forgets.first) (apart_from after name other slot is forgets.second)
      (right name slot (forgets.others name slot is))
