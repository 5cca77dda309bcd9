-- The meaning of the words of an image. Read the modules in this order.

-- names and paths, without an image
pub mod Paths
-- words, trees, inodes and directories
pub mod Words
pub mod Tree
pub mod Inode
pub mod Directory
pub mod Reached
-- the contents of an image, when it is a file system, and when two images mean the same
pub mod Lookup
pub mod Formatted
pub mod WellFormed
pub mod Checks
pub mod Same
-- both trees: the present one and the snapshot
pub mod Trees
-- the fields of an image, as code reads and writes them
pub mod Fields
pub mod Listed
pub mod Listing
pub mod Bytes
pub mod EntryWords
-- stores, and a format
pub mod Stores
pub mod Format
-- blocks: the free ones, the paths to words, parts of trees, and the blocks that a change takes
pub mod Free
pub mod WordPaths
pub mod Pieces
pub mod Nodes
pub mod Need
pub mod Thaw
pub mod Names
pub mod Whole
pub mod Totals
-- words that an upgrade clears
pub mod Clearing
pub mod Members
-- remembered slots of names
pub mod Hints
