-- A file that grows by a preparation and a store of its size is a call that is performed.
use Rattle.std.proofs.Common.{◌≡◌, ℕ, suc, List, Bool, refl}
use Rattle.std.proofs.lemmas.Bool.{lt-ltb}
use Rattle.bp_layout.specs.Words.{Image}
use Rattle.bp_layout.specs.Inode.{size_of}
use Rattle.bp_layout.specs.Need.Change.{resizes}
use Rattle.bp_layout.specs.WordPaths.{WordPath}
use Rattle.pm_region.specs.Memory.{Memory, current_words}
use Rattle.bp_changes.specs.Performs.{PerformsThawed}
use Rattle.bp_append.specs.SizeStores.{GrowsFile}
use Rattle.bp_append.proofs.GrowsTree.{OnlyGrows, GrowsTree}
use Rattle.bp_append.proofs.GrowsTree as tree

module _ (in_snapshot : ℕ → Bool) (old middle new : Memory) (free_old free_new : List ℕ) (path : WordPath) (n size place : ℕ)
    (grows : GrowsFile in_snapshot old middle new free_old free_new path n size place) where
  only_grows : OnlyGrows (current_words old) (resizes (suc n) size) (suc n) size size
  only_grows = record {
    prepares = rw (lt-ltb (size_of (current_words old) (suc n)) size grows.longer) refl;
    no_inodes = refl;
    touches = refl;
  }

  grows_tree : GrowsTree in_snapshot old middle new free_old free_new path n size size place grows.bytes
  grows_tree = record { can = grows.can; is_file = grows.is_file; stands = grows.stands; prepared = grows.prepared; stored = grows.stored }

  pub grown_size : size_of (current_words new) (suc n) ≡ size
  grown_size = tree.grown_size in_snapshot old middle new free_old free_new path n size size place grows.bytes grows_tree (resizes (suc n) size) only_grows

  -- whatever the call does besides
  pub grown_performs : (Effect : Image → Image → Type 0) → Effect (current_words old) (current_words new) → PerformsThawed in_snapshot old new (resizes (suc n) size) Effect
  grown_performs = tree.grown_performs in_snapshot old middle new free_old free_new path n size size place grows.bytes grows_tree (resizes (suc n) size) only_grows
