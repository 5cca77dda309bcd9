-- What the cache remembers of a name.
use Rattle.std.specs.Prelude.{◌≡◌, ⊤, Option, IfSome}
use Rattle.bp_cache.specs.declared.recalled.Recalled.{Recalled}
use Rattle.bp_cache.specs.declared.recalled.Recalled.TheVariants.{Known, Unknown}
use Rattle.bp_read.specs.Spots.{found_slot}
use Rattle.bp_read.specs.declared.spot.Found.{Found}
use Rattle.bp_layout.specs.Directory.{ino_in, slot_named_in}
use Rattle.bp_layout.specs.Paths.{Name}
use Rattle.bp_layout.specs.Words.{Image}
use Rattle.bp_read.specs.declared.tree.Tree.{Tree}

-- The result of a search for the name in the directory with this tree.
pub record IsSearch (image : Image) (tree : Tree) (name : Name) (found : Option Found) : Type 0 where
  pub slot : found_slot found ≡ slot_named_in image tree.root tree.size name
  pub ino : IfSome found (λ it. it.ino ≡ ino_in image tree.root it.slot)

-- If anything is remembered of the name, it is the result of a search for it.
abbrev pub IsRecalled : Image → Tree → Name → Recalled → Type 0
IsRecalled image tree name (Known found) = IsSearch image tree name found
IsRecalled image tree name Unknown = ⊤
