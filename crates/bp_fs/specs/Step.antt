-- The image and the answer that a call may result in.
use Rattle.std.specs.Prelude.{◌≡◌, ◌≢◌, ℕ, ◌<◌, ◌≤◌, List, [], ◌∷◌, length, Bool, true, false, Option, None, Some}
use Rattle.bp_layout.specs.Words.{Image}
use Rattle.bp_layout.specs.Directory.{slot_named}
use Rattle.bp_layout.specs.Formatted.{version_of}
use Rattle.bp_layout.specs.Paths.{Name, IsName, Path, parse}
use Rattle.bp_layout.specs.Inode.{IsDirectory, IsFile, size_of}
use Rattle.bp_layout.specs.Lookup.{lookup}
use Rattle.bp_limits.specs.CallLimits.{allows_attributes}
use Rattle.bp_plain.specs.PlainTree.{FileTree}
use Rattle.bp_plain.specs.Stands.{Stands}
use Rattle.bp_plain.specs.Calls.{Call, Piece, Answer}
use Rattle.bp_plain.specs.Calls.Call.{create, mkdir, unlink, rmdir, list, write, truncate, rename, link, snap_list, batch, set_attribute}
use Rattle.bp_plain.specs.Calls.Refusal.{no_space, no_memory}
use Rattle.bp_plain.specs.Calls.Answer.{refused}
use Rattle.bp_plain.specs.Plain.{plain, is_changing, refusal, parent_of}
use Rattle.bp_layout.specs.Need.{Change, Stretch}
use Rattle.bp_layout.specs.Need.Change.{writes, resizes, enters, leaves, replaces, moves, respells, overwrites, sets}
use Rattle.bp_layout.specs.Need.Entrant.{linked}
use Rattle.bp_layout.specs.Free.{HasFree, IsLeastFree}
use Rattle.bp_layout.specs.Thaw.{full_need}
use Rattle.bp_layout.specs.Trees.{AreInSnapshot}
use Rattle.bp_changes.specs.Entrant.{entrant_of}

abbrev pub last_of : Path → Name
last_of [] = []
last_of (name ∷ []) = name
last_of (name ∷ other ∷ path) = last_of (other ∷ path)

-- The path spelled by the text has its entry in slot `s` of the directory with inode `i`.
pub record StandsIn (image : Image) (text : List ℕ) (i s : ℕ) : Type 0 where
  pub path : Path
  pub parsed : parse text ≡ Some path
  pub parent : lookup image (parent_of path) ≡ Some i
  pub slot : slot_named image i (last_of path) ≡ Some s

-- The path is a name in directory `i` that the directory does not have yet.
pub record IsNewOn (image : Image) (path : Path) (i : ℕ) (name : Name) : Type 0 where
  pub below : path ≢ []
  pub parent : lookup image (parent_of path) ≡ Some i
  pub last : last_of path ≡ name
  pub directory : IsDirectory image i
  pub form : IsName name
  pub missing : slot_named image i name ≡ None

-- The text spells a path that is a new name in directory `i`.
pub record FindsNew (image : Image) (text : List ℕ) (i : ℕ) (name : Name) : Type 0 where
  pub path : Path
  pub parsed : parse text ≡ Some path
  pub new : IsNewOn image path i name

-- The path lies below the root directory and finds inode `j`, by slot `s` of directory `i`.
pub record IsEntryOn (image : Image) (path : Path) (i s j : ℕ) : Type 0 where
  pub below : path ≢ []
  pub parent : lookup image (parent_of path) ≡ Some i
  pub slot : slot_named image i (last_of path) ≡ Some s
  pub inode : lookup image path ≡ Some j

-- The text spells a path that finds inode `j`, by slot `s` of directory `i`.
pub record FindsEntry (image : Image) (text : List ℕ) (i s j : ℕ) : Type 0 where
  pub path : Path
  pub parsed : parse text ≡ Some path
  pub entry : IsEntryOn image path i s j

-- The text spells a path to this inode.
pub record PathFinds (image : Image) (text : List ℕ) (i : ℕ) : Type 0 where
  pub path : Path
  pub parsed : parse text ≡ Some path
  pub inode : lookup image path ≡ Some i

-- The text spells a path to this file, which has `size` bytes.
pub record FindsFile (image : Image) (text : List ℕ) (i size : ℕ) : Type 0 where
  pub found : PathFinds image text i
  pub kind : IsFile image i
  pub sized : size ≡ size_of image i

-- The text spells a path to this inode, which has attributes in this version.
pub record FindsAttributes (image : Image) (text : List ℕ) (i : ℕ) : Type 0 where
  pub found : PathFinds image text i
  pub version : allows_attributes (version_of image) ≡ true

-- The pieces of a batch as stretches: each path is replaced by the inode of its file, and the bytes by their number.
pub data AreStretches (image : Image) : List Piece → List Stretch → Type 0 where
  none : AreStretches image [] []
  more : {piece : Piece} {pieces : List Piece} {stretches : List Stretch} {i : ℕ} → PathFinds image piece.path i →
      AreStretches image pieces stretches →
      AreStretches image (piece ∷ pieces)
      (record { inode = i; offset = piece.offset; len = length piece.bytes } ∷ stretches)

-- The change that a changing call makes to the image.
pub data IsChange (image : Image) : Call → Change → Type 0 where
  by_create : {text : List ℕ} {name : Name} {i : ℕ} {free : Option ℕ} → FindsNew image text i name →
      IsLeastFree image free → IsChange image (create text) (enters i (entrant_of free))
  by_mkdir : {text : List ℕ} {name : Name} {i : ℕ} {free : Option ℕ} → FindsNew image text i name →
      IsLeastFree image free → IsChange image (mkdir text) (enters i (entrant_of free))
  by_link : {from to : List ℕ} {name : Name} {i j : ℕ} → PathFinds image from j → FindsNew image to i name →
      IsChange image (link from to) (enters i linked)
  by_batch : {pieces : List Piece} {stretches : List Stretch} → AreStretches image pieces stretches →
      IsChange image (batch pieces) (overwrites stretches)
  by_write : {text new : List ℕ} {i offset : ℕ} → PathFinds image text i →
      IsChange image (write text offset new) (writes i offset (length new))
  by_truncate : {text : List ℕ} {i size : ℕ} → PathFinds image text i →
      IsChange image (truncate text size) (resizes i size)
  by_set_attribute : {text : List ℕ} {i number value : ℕ} → PathFinds image text i →
      IsChange image (set_attribute text number value) (sets i number)
  by_unlink : {text : List ℕ} {i s : ℕ} → StandsIn image text i s → IsChange image (unlink text) (leaves i s)
  by_rmdir : {text : List ℕ} {i s : ℕ} → StandsIn image text i s → IsChange image (rmdir text) (leaves i s)
  onto : {from to : List ℕ} {i s j r : ℕ} → StandsIn image from i s → StandsIn image to j r →
      IsChange image (rename from to) (replaces i s j r)
  across : {from to : List ℕ} {i s j : ℕ} {name : Name} → StandsIn image from i s → FindsNew image to j name → i ≢ j →
      IsChange image (rename from to) (moves i s j)
  within : {from to : List ℕ} {i s : ℕ} {name : Name} → StandsIn image from i s → FindsNew image to i name →
      IsChange image (rename from to) (respells i s (length name))

-- A changing call, the number of blocks that it needs, and the number of free blocks: those of neither tree.
pub record HasNeed (image : Image) (call : Call) (needed free : ℕ) : Type 0 where
  pub change : Change
  pub is : IsChange image call change
  pub in_snapshot : ℕ → Bool
  pub snapshot_blocks : AreInSnapshot image in_snapshot
  pub needs : full_need image in_snapshot change ≡ needed
  pub has : HasFree image in_snapshot free

-- The call needs no more blocks than are free.
abbrev pub Fits : Image → Call → Type 0
Fits image call = (needed free : ℕ) → HasNeed image call needed free → needed ≤ free

-- One call on an image that represents the tree. A changing call that needs more blocks than are free is refused. A
-- listing may be refused for lack of memory. In all other cases the answer is that of the abstract tree, and the new
-- image represents the new tree.
pub data StepFor (image : Image) (tree : FileTree) : Call → Answer → Image → Type 0 where
  no_room : {call : Call} {needed free : ℕ} → is_changing tree call ≡ true → HasNeed image call needed free →
      free < needed → StepFor image tree call (refused (no_space needed free)) image
  no_listing : {text : List ℕ} → refusal tree (list text) ≡ None →
      StepFor image tree (list text) (refused no_memory) image
  no_snap_listing : {text : List ℕ} → refusal tree (snap_list text) ≡ None →
      StepFor image tree (snap_list text) (refused no_memory) image
  unchanged : {call : Call} → is_changing tree call ≡ false → StepFor image tree call (plain tree call).0 image
  changed : {call : Call} {new : Image} → is_changing tree call ≡ true → Fits image call →
      Stands new (plain tree call).1 → StepFor image tree call (plain tree call).0 new

-- The call always has the answer of the abstract tree: it is never refused for lack of space or memory.
abbrev pub IsNeverShort : Image → FileTree → Call → Type 0
IsNeverShort image tree call = (answer : Answer) (new : Image) → StepFor image tree call answer new
    → answer ≡ (plain tree call).0

abbrev pub Step : Image → Call → Answer → Image → Type 0
Step image call answer new = (tree : FileTree) → Stands image tree → StepFor image tree call answer new
