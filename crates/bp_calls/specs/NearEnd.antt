-- The words near which a change at the size of a tree stores, as the code finds them.
use Rattle.std.specs.Prelude.{◌≡◌, ℕ, ◌+◌, ◌<◌, ◌≤◌, List}
use Rattle.bp_layout.specs.Inode.{root_of, size_of}
use Rattle.bp_layout.specs.Need.Change.{resizes, writes}
use Rattle.bp_layout.specs.Thaw.{root_path_now, targets}
use Rattle.bp_layout.specs.WordPaths.{WordPath}
use Rattle.bp_layout.specs.Words.{Image}
use Rattle.bp_read.specs.declared.tree.Tree.{Tree}

-- The property holds of each tree of an image that has this root word, this size, and this path to its root word.
abbrev pub ForTree : WordPath → Tree → (Image → ℕ → Type 0) → Type 0
ForTree root tree Holds = (image : Image) (t : ℕ) → root ≡ root_path_now image t → tree.root ≡ root_of image t
    → tree.size ≡ size_of image t → Holds image t

-- These are the targets of a write of bytes that begin below the size of inode `i` and end past it.
abbrev pub AreTargetsAcross : Image → ℕ → List WordPath → Type 0
AreTargetsAcross image i paths = (offset len : ℕ) → offset < size_of image i → size_of image i < offset + len
    → paths ≡ targets image (writes i offset len)

-- These are the targets of a write of bytes that begin at the size of inode `i` or past it.
abbrev pub AreTargetsPastEnd : Image → ℕ → List WordPath → Type 0
AreTargetsPastEnd image i paths = (offset len : ℕ) → size_of image i ≤ offset → 1 ≤ len
    → paths ≡ targets image (writes i offset len)

-- These are the targets of a change of the size of inode `i` to a greater one.
abbrev pub AreTargetsLonger : Image → ℕ → List WordPath → Type 0
AreTargetsLonger image i paths = (size : ℕ) → size_of image i < size → paths ≡ targets image (resizes i size)

-- These are the targets of a change of the size of inode `i` to one that is not greater.
abbrev pub AreTargetsShorter : Image → ℕ → List WordPath → Type 0
AreTargetsShorter image i paths = (size : ℕ) → size ≤ size_of image i → paths ≡ targets image (resizes i size)
