use Rattle.std.proofs.Common.{◌≡◌, ◌⊎◌, ℕ, ◌+◌, ◌<◌, ◌≤◌, List, length, Bool, get_or, sym, ◌∙◌, ap, subst, subst₂, arith}
use Rattle.bp_free.specs.Set.{members}
use Rattle.bp_layout.specs.Words.{block_of}
use Rattle.bp_layout.specs.Inode.{root_of, size_of, RootPlace}
use Rattle.bp_layout.specs.WordPaths.{WordPath, address}
use Rattle.pm_region.specs.Memory.{Memory, current_words}
use Rattle.pm_region.proofs.MemoryLaws.{length-current_words}
use Rattle.bp_append.specs.Grown.{CanGrow, Grows, Makes}
use Rattle.bp_append.specs.Prepared.{CanPrepare}
use Rattle.bp_append.proofs.PlaceLaws.{Leads, leads_to, grow_can, some_blocks, no_blocks}
use Rattle.bp_append.proofs.NullPrepared.{null_prepared}
use Rattle.bp_append.proofs.TreeGrown.{has_grown}
use Rattle.bp_append.proofs.TreePrepared.{tree_prepared}
use Rattle.bp_append.proofs.prepare.stage_append.Goals as goal

leads : {in_snapshot : ℕ → Bool} (memory : Memory) (free : List ℕ) (t : ℕ) (path : WordPath) (from to : ℕ) →
    CanPrepare in_snapshot memory free t path from to → Leads (current_words memory) t path
leads memory free t path from to can = subst (Leads (current_words memory) t) (sym can.leads) (leads_to (current_words memory) t can.well can.reached)

-- the words that were loaded are the root word and the size
roots : {in_snapshot : ℕ → Bool} (memory : Memory) (free : List ℕ) (t : ℕ) (path : WordPath) (from to place root size : ℕ) →
    CanPrepare in_snapshot memory free t path from to → place ≡ address (current_words memory) path → root ≡ get_or (current_words memory) place 0 →
    size ≡ get_or (current_words memory) (place + 1) 0 → (root ≡ root_of (current_words memory) t) × (size ≡ size_of (current_words memory) t)
roots memory free t path from to place root size can at one two =
    let there = leads memory free t path from to can in
    (one ∙ ap (λ p. get_or (current_words memory) p 0) at ∙ there.root, two ∙ ap (λ p. get_or (current_words memory) (p + 1) 0) at ∙ there.size)

can_grow : {in_snapshot : ℕ → Bool} (memory : Memory) (free : List ℕ) (t : ℕ) (path : WordPath) (from to place root size : ℕ) →
    CanPrepare in_snapshot memory free t path from to → place ≡ address (current_words memory) path → root ≡ get_or (current_words memory) place 0 →
    size ≡ get_or (current_words memory) (place + 1) 0 → CanGrow memory free root size from to
can_grow memory free t path from to place root size can at one two =
    let both = roots memory free t path from to place root size can at one two in
    subst₂ (λ r s. CanGrow memory free r s from to) (sym both.0) (sym both.1) (grow_can memory free t path from to can)

place_low : {in_snapshot : ℕ → Bool} (memory : Memory) (free : List ℕ) (t : ℕ) (path : WordPath) (from to place : ℕ) → CanPrepare in_snapshot memory free t path from to →
    place ≡ address (current_words memory) path → place + 1 < length memory.base
place_low memory free t path from to place can at = let there = leads memory free t path from to can in omega (arith, at, there.low, length-current_words memory)

pub address-place-requires-clause-exists : goal.address-place-requires-clause-exists
address-place-requires-clause-exists g c = let there = leads _ _ _ _ _ _ c.requires.can.1 in there.exists

pub address-place-requires-clause-slots : goal.address-place-requires-clause-slots
address-place-requires-clause-slots g c = let there = leads _ _ _ _ _ _ c.requires.can.1 in there.slots

pub address-place-requires-clause-in_range : goal.address-place-requires-clause-in_range
address-place-requires-clause-in_range g c = let there = leads _ _ _ _ _ _ c.requires.can.1 in there.in_range

pub load-requires : goal.load-requires
load-requires g c = let low = place_low _ _ _ _ _ _ _ c.requires.can.1 c.address-place.ensures.address in omega (arith, low)

pub load-requires-2 : goal.load-requires-2
load-requires-2 g c = place_low _ _ _ _ _ _ _ c.requires.can.1 c.address-place.ensures.address

pub overflow_add-place : goal.overflow_add-place
overflow_add-place g c = let low = place_low _ _ _ _ _ _ _ c.requires.can.1 c.address-place.ensures.address in omega (arith, low, c.words-words.ensures, c.words-words.type_inv)

pub prepare_tree-requires-clause-can : goal.prepare_tree-requires-clause-can
prepare_tree-requires-clause-can g c = can_grow _ _ _ _ _ _ _ _ _ c.requires.can.1 c.address-place.ensures.address c.load.ensures c.load-2.ensures

pub prepare_tree-requires-clause-place : goal.prepare_tree-requires-clause-place
prepare_tree-requires-clause-place g c = let low = place_low _ _ _ _ _ _ _ c.requires.can.1 c.address-place.ensures.address in omega (arith, low)

pub prepare_tree-requires-clause-some : goal.prepare_tree-requires-clause-some
prepare_tree-requires-clause-some g c = let both = some_blocks c.load-2.result (block_of c.load.result) (sym c.has_blocks.ensures ∙ c.if-has_blocks.true) in both.0

pub prepare_tree-requires-clause-present : goal.prepare_tree-requires-clause-present
prepare_tree-requires-clause-present g c = let both = some_blocks c.load-2.result (block_of c.load.result) (sym c.has_blocks.ensures ∙ c.if-has_blocks.true) in both.1

pub prepare_null-requires-clause-can : goal.prepare_null-requires-clause-can
prepare_null-requires-clause-can g c = can_grow _ _ _ _ _ _ _ _ _ c.requires.can.1 c.address-place.ensures.address c.load.ensures c.load-2.ensures

pub prepare_null-requires-clause-place : goal.prepare_null-requires-clause-place
prepare_null-requires-clause-place g c = let low = place_low _ _ _ _ _ _ _ c.requires.can.1 c.address-place.ensures.address in omega (arith, low)

pub prepare_null-requires-clause-null : goal.prepare_null-requires-clause-null
prepare_null-requires-clause-null g c = no_blocks c.load-2.result (block_of c.load.result) (sym c.has_blocks.ensures ∙ c.if-has_blocks.false)

-- what was made, of the tree's own root word and size
grows_at : {old new : Memory} {free_old free_new bytes : List ℕ} {place root size from to its_root its_size : ℕ} →
    Grows old new free_old free_new place root size from to bytes → root ≡ its_root → size ≡ its_size →
    Grows old new free_old free_new place its_root its_size from to bytes
grows_at {old} {new} {free_old} {free_new} {bytes} {place} {from = from} {to = to} grows e f =
    subst₂ (λ r s. Grows old new free_old free_new place r s from to bytes) e f grows

makes_at : {old new : Memory} {free_old free_new bytes : List ℕ} {place root size from to its_root its_size : ℕ} →
    Makes old new free_old free_new place root size from to bytes → root ≡ its_root → size ≡ its_size →
    Makes old new free_old free_new place its_root its_size from to bytes
makes_at {old} {new} {free_old} {free_new} {bytes} {place} {from = from} {to = to} makes e f =
    subst₂ (λ r s. Makes old new free_old free_new place r s from to bytes) e f makes

pub returns-then-has_blocks-clause-prepares : goal.returns-then-has_blocks-clause-prepares
returns-then-has_blocks-clause-prepares g c = λ tree can.
    let first = g.R.Region.memory c.args.parts.now.region in
    let both = roots first (members c.args.parts.now.free_blocks) tree c.args.at.now.items c.args.from c.args.new_end c.address-place.result c.load.result
    c.load-2.result can c.address-place.ensures.address c.load.ensures c.load-2.ensures in
    let there = leads first (members c.args.parts.now.free_blocks) tree c.args.at.now.items c.args.from c.args.new_end can in
    let some = some_blocks c.load-2.result (block_of c.load.result) (sym c.has_blocks.ensures ∙ c.if-has_blocks.true) in
    let at = subst (RootPlace (current_words first) tree) (sym c.address-place.ensures.address) there.stands in
    let grows = grows_at c.prepare_tree.ensures.grows both.0 both.1 in
    tree_prepared (has_grown can at grows (subst (λ s. 0 < s) both.1 some.0) (subst (λ r. 1 ≤ block_of r) both.0 some.1))

pub returns-else-has_blocks-clause-prepares : goal.returns-else-has_blocks-clause-prepares
returns-else-has_blocks-clause-prepares g c = λ tree can.
    let first = g.R.Region.memory c.args.parts.now.region in
    let both = roots first (members c.args.parts.now.free_blocks) tree c.args.at.now.items c.args.from c.args.new_end c.address-place.result c.load.result
    c.load-2.result can c.address-place.ensures.address c.load.ensures c.load-2.ensures in
    let there = leads first (members c.args.parts.now.free_blocks) tree c.args.at.now.items c.args.from c.args.new_end can in
    let none = no_blocks c.load-2.result (block_of c.load.result) (sym c.has_blocks.ensures ∙ c.if-has_blocks.false) in
    let at = subst (RootPlace (current_words first) tree) (sym c.address-place.ensures.address) there.stands in
    let makes = makes_at c.prepare_null.ensures.makes both.0 both.1 in
    null_prepared _ first (g.R.Region.memory c.prepare_null.new.region) (members c.args.parts.now.free_blocks) (members c.prepare_null.new.blocks) tree
    c.address-place.result c.args.from c.args.new_end c.args.at.now.items c.args.bytes.now can at makes (subst₂ (λ r s. (s ≡ 0) ⊎ (block_of r ≡ 0)) both.0 both.1 none)
