-- The effect on an image of a call that changes the size of a file.
use Rattle.std.specs.Prelude.{◌≡◌, ℕ, ◌<◌, ◌≤◌}
use Rattle.bp_changes.specs.Effects.{ChangesFile}
use Rattle.bp_layout.specs.Inode.{root_of, size_of}
use Rattle.bp_layout.specs.Tree.{byte}
use Rattle.bp_layout.specs.Words.{Image}

-- File `i` has this size in bytes: its old bytes up to that, then zeros. The image otherwise means the same.
pub record ResizesFile (i size : ℕ) (old new : Image) : Type 0 where
  pub changes : ChangesFile old new i
  pub size_is : size_of new i ≡ size
  pub kept : (o : ℕ) → o < size → o < size_of old i → byte new (root_of new i) o ≡ byte old (root_of old i) o
  pub zeros : (o : ℕ) → o < size → size_of old i ≤ o → byte new (root_of new i) o ≡ 0
