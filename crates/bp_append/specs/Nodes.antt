-- Conditions and effects of the parts of a preparation, in the types of the code: a region and its free blocks before
-- and after the part, a tree, a node, and the wanted bytes.
use Rattle.std.specs.Prelude.{ℕ, suc, ◌+◌, ◌-◌, ◌*◌, ◌≤◌, min, max, List, Option}
use Rattle.bp_free.specs.Set.{Set, members}
use Rattle.bp_limits.specs.Limits.{block_words}
use Rattle.bp_layout.specs.Words.{height_of}
use Rattle.bp_layout.specs.Tree.{span}
use Rattle.bp_read.specs.declared.tree.Tree.{Tree}
use Rattle.pm_region.specs.Memory.{Memory}
use Rattle.bp_append.specs.declared.visit.Link.{Link}
use Rattle.bp_append.specs.declared.wanted.TreeBlock.{TreeBlock}
use Rattle.bp_append.specs.declared.wanted.Wanted.{Wanted}
use Rattle.bp_append.specs.Given.{given_at}
use Rattle.bp_append.specs.Tally.{tally}
use Rattle.bp_append.specs.Filled.{CanBuild, Builds, CanFill, FillsFrom}
use Rattle.bp_append.specs.Visited.{links_in, CanVisit, Visits, VisitsSlot, Hung}
use Rattle.bp_append.specs.Risen.{CanRise, Rises}
use Rattle.bp_append.specs.Grown.{CanGrow, Grows, Roots, Makes}

-- ---- nodes that are built

-- a node of a level that starts at an offset is built, with everything below it
abbrev pub MakesNode : {R : Type 0} → (R → Memory) → R → R → Set → Set → ℕ → ℕ → Wanted → List ℕ → ℕ → Type 0
MakesNode memory old new blocks_old blocks_new level start wanted bytes pointer =
    Builds (memory old) (memory new) (members blocks_old) (members blocks_new) pointer level
    (min (wanted.to - start) (span level)) (given_at wanted.from bytes start)
    (wanted.from ≤ start) (tally (suc level) (max wanted.from start) (min wanted.to (start + span level)))

abbrev pub CanFillNode : {R : Type 0} → (R → Memory) → R → Set → TreeBlock → ℕ → Wanted → Type 0
CanFillNode memory old blocks node low wanted =
    CanFill (memory old) (members blocks) node.block node.level node.start low wanted.from wanted.to

abbrev pub FillsNode : {R : Type 0} → (R → Memory) → R → R → Set → Set → TreeBlock → ℕ → Wanted → List ℕ → Type 0
FillsNode memory old new blocks_old blocks_new node low wanted bytes =
    FillsFrom (memory old) (memory new) (members blocks_old) (members blocks_new) node.block node.level node.start low
    wanted.from wanted.to (given_at wanted.from bytes node.start)

-- a leaf is filled; it takes no block
abbrev pub FillsLeaf : {R : Type 0} → (R → Memory) → R → R → TreeBlock → ℕ → Wanted → List ℕ → Type 0
FillsLeaf memory old new node low wanted bytes =
    (free : List ℕ) → FillsFrom (memory old) (memory new) free free node.block 0 node.start low wanted.from wanted.to
    (given_at wanted.from bytes node.start)

-- ---- existing nodes

abbrev pub CanVisitNode : {R : Type 0} → (R → Memory) → R → Set → Tree → TreeBlock → Wanted → Type 0
CanVisitNode memory old blocks tree node wanted =
    CanVisit (memory old) (members blocks) tree.root tree.size node.level node.start node.block wanted.from wanted.to

abbrev pub VisitsNode : {R : Type 0} → (R → Memory) → R → R → Set → Set → Tree → TreeBlock → Wanted → List ℕ
    → Option Link → Type 0
VisitsNode memory old new blocks_old blocks_new tree node wanted bytes hung =
    Visits (memory old) (memory new) (members blocks_old) (members blocks_new) tree.root tree.size node.level node.start
    node.block wanted.from wanted.to bytes (links_in hung)

-- the part of the tree below one slot of a node is done
abbrev pub PassesSlot : {R : Type 0} → (R → Memory) → R → R → Set → Set → Tree → TreeBlock → ℕ → Wanted → List ℕ
    → Option Link → Type 0
PassesSlot memory old new blocks_old blocks_new tree node slot wanted bytes hung =
    VisitsSlot (memory old) (memory new) (members blocks_old) (members blocks_new) tree.root tree.size
    (node.level - 1) node.start node.block slot wanted.from wanted.to bytes (links_in hung)

abbrev pub CanHangNode : {R : Type 0} → (R → Memory) → R → Set → TreeBlock → ℕ → Wanted → Type 0
CanHangNode memory old blocks node slot wanted = CanBuild (memory old) (members blocks) (node.level - 1)
    (node.start + slot * span (node.level - 1)) wanted.from wanted.to

abbrev pub HangsNode : {R : Type 0} → (R → Memory) → R → R → Set → Set → TreeBlock → ℕ → Wanted → List ℕ → Option Link
    → Type 0
HangsNode memory old new blocks_old blocks_new node slot wanted bytes hung =
    Hung (memory old) (memory new) (members blocks_old) (members blocks_new) (node.level - 1)
    (node.start + slot * span (node.level - 1)) wanted.from wanted.to bytes (block_words * node.block + slot)
    (links_in hung)

-- ---- nodes above a tree

abbrev pub CanRaiseTree : {R : Type 0} → (R → Memory) → R → Set → ℕ → ℕ → Wanted → Type 0
CanRaiseTree memory old blocks root height wanted =
    CanRise (memory old) (members blocks) (height_of root) height wanted.from wanted.to

abbrev pub RaisesTree : {R : Type 0} → (R → Memory) → R → R → Set → Set → ℕ → ℕ → Wanted → List ℕ → ℕ → Type 0
RaisesTree memory old new blocks_old blocks_new root height wanted bytes top =
    Rises (memory old) (memory new) (members blocks_old) (members blocks_new) root top
    (height_of root) height wanted.from wanted.to bytes

-- the tree gets one level higher
abbrev pub RaisesOnce : {R : Type 0} → (R → Memory) → R → R → Set → Set → ℕ → Wanted → List ℕ → ℕ → Type 0
RaisesOnce memory old new blocks_old blocks_new root wanted bytes top =
    RaisesTree memory old new blocks_old blocks_new root (suc (height_of root)) wanted bytes top

-- ---- a whole tree

abbrev pub CanGrowTree : {R : Type 0} → (R → Memory) → R → Set → Tree → Wanted → Type 0
CanGrowTree memory old blocks tree wanted =
    CanGrow (memory old) (members blocks) tree.root tree.size wanted.from wanted.to

abbrev pub GrowsTree : {R : Type 0} → (R → Memory) → R → R → Set → Set → ℕ → Tree → Wanted → List ℕ → Type 0
GrowsTree memory old new blocks_old blocks_new place tree wanted bytes =
    Grows (memory old) (memory new) (members blocks_old) (members blocks_new) place tree.root tree.size wanted.from
    wanted.to bytes

abbrev pub MakesRoot : {R : Type 0} → (R → Memory) → R → R → Set → Set → Tree → Wanted → List ℕ → ℕ → Type 0
MakesRoot memory old new blocks_old blocks_new tree wanted bytes top =
    Roots (memory old) (memory new) (members blocks_old) (members blocks_new) tree.root tree.size wanted.from wanted.to
    bytes top

abbrev pub MakesTree : {R : Type 0} → (R → Memory) → R → R → Set → Set → ℕ → Tree → Wanted → List ℕ → Type 0
MakesTree memory old new blocks_old blocks_new place tree wanted bytes =
    Makes (memory old) (memory new) (members blocks_old) (members blocks_new) place tree.root tree.size wanted.from
    wanted.to bytes
