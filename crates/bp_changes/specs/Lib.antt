-- What a change of an image keeps, its trees in other shapes, and the shape of a call. Read the modules in this order.

-- what each change keeps
pub mod KeepsTrees
-- when two images mean the same
pub mod SameMeaning
pub mod SameContent
-- changes that no reader sees
pub mod Harmless
-- the effect of each change on an image, and of a commit on its words
pub mod KeepsDirectories
pub mod Effects
pub mod Overwrites
pub mod Commits
pub mod Thawed
-- the slots of names, and the entries, that each change keeps
pub mod KeepsSlots
pub mod KeepsEntries
-- the words past a size
pub mod PastEnd
-- which blocks become free
pub mod Freed
-- the trails of words, and all trees by trails
pub mod Trail
pub mod Forest
-- a pointer that is linked in, a tree that gets higher
pub mod Links
-- the free numbers
pub mod Sets
-- the entry of a new name
pub mod Entrant
-- the shape of a call, and its bounds
pub mod Performs
pub mod Costs
