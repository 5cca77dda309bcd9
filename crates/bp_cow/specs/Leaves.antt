-- The leaves of runs, by the ways to them.
use Rattle.std.specs.Prelude.{◌≡◌, ℕ, ◌+◌, ◌*◌, ◌/◌, ◌<◌, List}
use Rattle.bp_limits.specs.Limits.{block_size, block_words}
use Rattle.bp_layout.specs.Members.{Has}
use Rattle.bp_layout.specs.WordPaths.{WordPath}
use Rattle.bp_cow.specs.Touched.{laid_word, leaves_of, live_of, patch_of, run_leaves, run_live, run_way, way_of}
use Rattle.bp_cow.specs.declared.touched.Run.{Run}
use Rattle.bp_cow.specs.declared.touched.TreeSize.{TreeSize}

-- Way `i` leads to leaf number `leaf` of this run. The change of the leaf is that of all runs (`all`) in the run's
-- tree.
pub record IsLeaf (all runs : List Run) (paths : List WordPath) (i : ℕ) (run : Run) (leaf : ℕ) : Type 0 where
  pub has : Has runs run
  pub low : leaf < run_leaves run
  pub here : i < leaves_of runs
  pub way : way_of runs paths i ≡ run_way run leaf
  pub patch : (slot old : ℕ) → patch_of all runs i slot old
      ≡ laid_word all run.root.items (block_words * (run.offset / block_size + leaf) + slot) old
  pub live : (trees : List TreeSize) (depth : ℕ) → live_of runs trees paths i depth ≡ run_live run leaf depth
