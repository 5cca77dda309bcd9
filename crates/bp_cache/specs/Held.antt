-- Changes of the state that is held for a directory.
use Rattle.std.specs.Prelude.{◌≡◌, ◌≢◌, ℕ, ⊤, List, Contains, None, Some}
use Rattle.std.specs.FinMap.{get}
use Rattle.bp_cache.specs.declared.held.Held.{Held}
use Rattle.bp_cache.specs.declared.held.Held.TheVariants.{Indexed, Lost, Unindexed}
use Rattle.bp_cache.specs.declared.name_at.NameAt.{NameAt}
use Rattle.bp_cache.specs.Index.{EntersSlot, LeavesSlot}
use Rattle.bp_cache.specs.declared.index.Index.{Index}
use Rattle.bp_layout.specs.Hints.{NameIn, Known}

-- If an index is held, the property holds for it.
abbrev pub IndexIs : (Index → Type 0) → Held → Type 0
IndexIs Is Lost = ⊤
IndexIs Is (Indexed index) = Is index
IndexIs Is Unindexed = ⊤

-- If an index is held, one was held before, and it has changed by this step.
abbrev pub Becomes : (Index → Index → Type 0) → Held → Held → Type 0
Becomes Step Lost after = IndexIs (λ _. ⊥) after
Becomes Step (Indexed before) after = IndexIs (Step before) after
Becomes Step Unindexed after = IndexIs (λ _. ⊥) after

-- The state held for the directory of a name, when the name is added in its slot. `Leaves`: when the name is removed
-- from its slot.
abbrev pub Enters : NameAt → Held → Held → Type 0
Enters at = Becomes (λ before after. EntersSlot before after at.name.now at.slot)

abbrev pub Leaves : NameAt → Held → Held → Type 0
Leaves at = Becomes (λ before after. LeavesSlot before after at.name.now at.slot)

-- The states held for directories are as before, except that the state of directory `dir` may have changed by this
-- step. States may be dropped.
abbrev pub ChangesOne : ℕ → (Held → Held → Type 0) → List (ℕ × Held) → List (ℕ × Held) → Type 0
ChangesOne dir Step before after = (i : ℕ) (held : Held) → Contains after (i, held) →
    (was : Held) × Contains before (i, was) × (i ≢ dir → held ≡ was) × (i ≡ dir → Step was held)

-- Neither of the two names is known any more, and no new name is.
pub record ForgetsBoth (before after : Known) (one other : NameIn) : Type 0 where
  pub first : get after one ≡ None
  pub second : get after other ≡ None
  pub others : (name : NameIn) (slot : ℕ) → get after name ≡ Some slot → get before name ≡ Some slot
