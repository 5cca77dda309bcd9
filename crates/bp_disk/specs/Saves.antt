-- The moments at which a failure of the machine, or a kill, leaves FILE as of one whole save.
use Rattle.std.specs.Prelude.{◌≡◌, ℕ, true, false, List, Option, Some, None, Result, IsTrue, is_ok, ⊤}
use Rattle.bp_disk.specs.Calls.{Call, number_of}
use Rattle.bp_disk.specs.Disk.{led, may_lead, is_durable, IsSafe}
use Rattle.bp_disk.specs.declared.names.Waiting.{Waiting}
use Rattle.bp_disk.specs.declared.save.Way.{Way}
use Rattle.bp_disk.specs.declared.save.Way.TheVariants.{Clean, Beside, InPlace, Lost}

-- FILE leads to this file, even if the machine fails now. All bytes of the file are durable, and each call since it was
-- attached kept the order.
pub record Stands (first : ℕ) (calls : List Call) : Type 0 where
  pub name : (led calls).first ≡ first
  pub only : (other : ℕ) → ¬ (other ≡ first) → may_lead calls other ≡ false
  pub sure : is_durable calls first ≡ true
  pub safe : IsSafe calls

-- The file that waits, if there is one, is not the attached file.
abbrev pub IsApart : ℕ → Option Waiting → Type 0
IsApart first None = ⊤
IsApart first (Some waiting) = ¬ (number_of waiting.file ≡ first)

-- The attached file stands, unless it is written in place, or a write was lost. The second file has the second name.
abbrev pub IsRightWay : ℕ → Way → List Call → Type 0
IsRightWay first Clean calls = Stands first calls
IsRightWay first (Beside second) calls = Stands first calls × ((led calls).second ≡ number_of second.file)
    × (¬ (number_of second.file ≡ first))
IsRightWay first InPlace calls = ⊤
IsRightWay first Lost calls = ⊤

-- The state of a save is right.
pub record IsRight (first : ℕ) (way : Way) (waiting : Option Waiting) (calls : List Call) : Type 0 where
  pub by_way : IsRightWay first way calls
  pub apart : IsApart first waiting

-- The file that the save leaves as FILE stands: the second file, which is not the attached one, or that one itself.
abbrev pub IsPlaced : ℕ → Way → List Call → Type 0
IsPlaced first Clean calls = Stands first calls
IsPlaced first (Beside second) calls = Stands (number_of second.file) calls × (¬ (number_of second.file ≡ first))
IsPlaced first InPlace calls = ⊤
IsPlaced first Lost calls = ⊤

-- A call on the second file succeeded, and the save goes on with it.
pub record GoesOn {T E : Type 0} (done : Result T E) (old new : Way) (before after : List Call) : Type 0 where
  pub succeeded : IsTrue (is_ok done)
  pub same_way : new ≡ old
  pub same_calls : after ≡ before
