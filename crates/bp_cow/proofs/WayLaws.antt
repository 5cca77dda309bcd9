-- A way as code holds it leads to a leaf or to a word.
use Rattle.std.proofs.Common.{◌≡◌, ℕ, ◌<◌, ◌≤◌, List, true, false, Some, None, refl}
use Rattle.std.specs.Prelude.{IfSome, Option, is_some}
use Rattle.bp_layout.specs.WordPaths.{WordPath}
use Rattle.bp_cow.specs.declared.touched.Run.{Run}
use Rattle.bp_cow.specs.declared.touched.Touched.{Touched}
use Rattle.bp_cow.specs.declared.ways.Leaf.{Leaf}
use Rattle.bp_cow.specs.declared.ways.Way.{Way}
use Rattle.bp_cow.specs.Leaves.{IsLeaf}
use Rattle.bp_cow.specs.Touched.{leaves_of, word_paths}
use Rattle.bp_cow.specs.Ways.{IsWay}

none-of : (leaf : Option Leaf) → is_some leaf ≡ false → leaf ≡ None
none-of None is = refl
none-of (Some leaf) is = absurd (cc)

some-low : (runs : List Run) (paths : List WordPath) (i : ℕ) (leaf : Option Leaf) → is_some leaf ≡ true → IfSome leaf (λ one. IsLeaf runs runs paths i one.run.now one.index) → i < leaves_of runs
some-low runs paths i None not is = absurd (cc)
some-low runs paths i (Some leaf) not is = is.here

-- with no leaf it lies after the ways to leaves
pub at_word : (touched : Touched) (way : Way) → IsWay touched way → is_some way.leaf ≡ false → leaves_of touched.runs.now ≤ way.index
at_word touched way is none = is.none (none-of way.leaf none)

pub at_leaf : (touched : Touched) (way : Way) → IsWay touched way → is_some way.leaf ≡ true → way.index < leaves_of touched.runs.now
at_leaf touched way is some = some-low touched.runs.now (word_paths touched) way.index way.leaf some is.leaf
