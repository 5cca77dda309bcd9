-- What is true of every reached inode.
use Rattle.std.proofs.Common.{ℕ, ◌<◌, ◌≤◌, arith}
use Rattle.bp_layout.specs.Words.{Image}
use Rattle.bp_layout.specs.Inode.{size_of, inode_count}
use Rattle.bp_layout.specs.Reached.{IsReached}
use Rattle.bp_layout.specs.Reached.IsReached.{inode_file, root_directory, named}
use Rattle.bp_layout.specs.WellFormed.{IsWellFormed}

-- a reached inode lies in the inode file
pub reached-in_file : (image : Image) → IsWellFormed image → (t : ℕ) → IsReached image t → t < inode_count image
reached-in_file image wf _ inode_file = let some : 4096 ≤ size_of image 0 = wf.some_inodes in omega (arith, some)
reached-in_file image wf _ root_directory = let some : 4096 ≤ size_of image 0 = wf.some_inodes in omega (arith, some)
reached-in_file image wf _ (named {i} {j} slot r n) = wf.inos i slot j r n
