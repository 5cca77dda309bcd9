-- The states of a file system that keeps abstract trees: the tree at the last drain, and the tree after each call since.
use Rattle.std.specs.Prelude.{◌≡◌, ◌≤◌, List, [], ◌∷◌, length}
use Rattle.bp_limits.specs.Limits.{call_room}
use Rattle.bp_plain.specs.PlainTree.{FileTree}
use Rattle.pm_epochs.specs.Log.{call_ends}
use Rattle.pm_region.specs.Memory.{Memory}

-- The memory of the region, the durable tree, and the trees after each call since, in order.
pub record Trees : Type 0 where
  pub memory : Memory
  pub durable : FileTree
  pub since : List FileTree

-- The last of the trees since the durable one, or the durable one if there is none.
abbrev pub latest : FileTree → List FileTree → FileTree
latest durable [] = durable
latest durable (tree ∷ since) = latest tree since

-- The present tree.
abbrev pub present : Trees → FileTree
present s = latest s.durable s.since

-- There is a tree for each call in the log, there is a word to store to, and a drained log has room for a call.
pub record AreInStep (s : Trees) : Type 0 where
  pub counted : length s.since ≡ call_ends s.memory.events
  pub some : 1 ≤ length s.memory.base
  pub roomy : call_room ≤ s.memory.capacity
