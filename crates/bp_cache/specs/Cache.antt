-- When a cache of directories is correct for an image.
use Rattle.std.specs.Prelude.{◌≡◌, ℕ, ⊤, List, Contains}
use Rattle.bp_cache.specs.declared.cache.DirectoryCache.{DirectoryCache}
use Rattle.bp_cache.specs.declared.held.Held.{Held}
use Rattle.bp_cache.specs.declared.held.Held.TheVariants.{Indexed, Lost, Unindexed}
use Rattle.bp_cache.specs.Index.{IsIndexOf}
use Rattle.bp_cache.specs.declared.index.Index.{Index}
use Rattle.bp_layout.specs.Hints.{AreRight}
use Rattle.bp_layout.specs.Inode.{IsDirectory, root_of, size_of}
use Rattle.bp_layout.specs.Reached.{IsReached}
use Rattle.bp_layout.specs.WellFormed.{IsWellFormed}
use Rattle.bp_layout.specs.Words.{Image}
use Rattle.bp_cache.specs.Names.{known_of}
use Rattle.bp_read.specs.declared.tree.Tree.{Tree}

-- If inode `i` is a reachable directory, the index is that of its entries. For any other inode it need not be.
abbrev pub IsIndexIn : Image → ℕ → Index → Type 0
IsIndexIn image i index = IsReached image i → IsDirectory image i →
    IsIndexOf image (root_of image i) (size_of image i) index

-- The state held for directory `i` is correct.
abbrev pub IsHeldOf : Image → ℕ → Held → Type 0
IsHeldOf image i Lost = ⊤
IsHeldOf image i (Indexed index) = IsIndexIn image i index
IsHeldOf image i Unindexed = ⊤

-- The states held for all these directories are correct.
abbrev pub AreHeldOf : Image → List (ℕ × Held) → Type 0
AreHeldOf image directories = (i : ℕ) (held : Held) → Contains directories (i, held) → IsHeldOf image i held

-- The cache is correct for the image: the names that it knows have their slots, and the states held for directories
-- are correct.
pub record IsCacheOf (image : Image) (cache : DirectoryCache) : Type 0 where
  pub names : AreRight image (known_of cache.names)
  pub directories : AreHeldOf image cache.directories.entries

-- The tree is that of a directory that is reachable in a well-formed image.
pub record HasTree (image : Image) (i : ℕ) (tree : Tree) : Type 0 where
  pub well : IsWellFormed image
  pub reached : IsReached image i
  pub directory : IsDirectory image i
  pub root : tree.root ≡ root_of image i
  pub size : tree.size ≡ size_of image i
