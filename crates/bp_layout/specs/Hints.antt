-- Slots of names that are remembered (hints), and when they are correct.
use Rattle.std.specs.Prelude.{◌≡◌, ◌≢◌, ℕ, Some}
use Rattle.std.specs.Ordering.{nat_cmp, on, then_cmp}
use Rattle.std.specs.declared.cmp.Ordering.{Ordering}
use Rattle.std.specs.FinMap.{FinMap, get}
use Rattle.std.specs.Cmp.Lexicographic.{slice_cmp}
use Rattle.bp_layout.specs.Words.{Image}
use Rattle.bp_layout.specs.Inode.{IsDirectory}
use Rattle.bp_layout.specs.Directory.{slot_named}
use Rattle.bp_layout.specs.Paths.{Name}
use Rattle.bp_layout.specs.Reached.{IsReached}

-- the inode of a directory, and a name in it
abbrev pub NameIn : Type 0
NameIn = ℕ × Name

-- the order of such names: by directory, then by the bytes of the name
abbrev pub name_in_cmp : NameIn → NameIn → Ordering
name_in_cmp = then_cmp (on (λ n. n.0) nat_cmp) (on (λ n. n.1) (slice_cmp nat_cmp))

-- the remembered slots of some names
abbrev pub Known : Type 0
Known = FinMap name_in_cmp ℕ

-- The name is remembered with this slot afterwards. Each other name has its old slot or is forgotten.
pub record Learns (before after : Known) (name : NameIn) (slot : ℕ) : Type 0 where
  pub learned : get after name ≡ Some slot
  pub others : (other : NameIn) (s : ℕ) → other ≢ name → get after other ≡ Some s → get before other ≡ Some s

-- the name is in a reachable directory, and this is its slot there
pub record IsSlotOf (image : Image) (name : NameIn) (slot : ℕ) : Type 0 where
  pub reached : IsReached image name.0
  pub directory : IsDirectory image name.0
  pub named : slot_named image name.0 name.1 ≡ Some slot

-- each remembered slot is the name's slot in the image
abbrev pub AreRight : Image → Known → Type 0
AreRight image known = (name : NameIn) (slot : ℕ) → get known name ≡ Some slot → IsSlotOf image name slot
