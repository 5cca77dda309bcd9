use Rattle.std.proofs.Common.{◌≡◌, ℕ, suc, ◌+◌, ◌-◌, ◌*◌, ◌≤◌, List, refl, sym, ◌∙◌, ap, subst, subst₂, get_or, arith}
use Rattle.bp_free.specs.Set.{members}
use Rattle.bp_layout.specs.Tree.{span}
use Rattle.bp_layout.specs.Words.{block_of, slot_word}
use Rattle.bp_layout.proofs.TreeLaws.{span-is, slot_word-at}
use Rattle.pm_region.specs.Memory.{Memory, current_words}
use Rattle.bp_append.specs.Filled.{CanFill, FillsFrom}
use Rattle.bp_append.specs.Visited.{links_in, CanVisit, Visits}
use Rattle.bp_append.proofs.BuildLaws.{fill_nothing}
use Rattle.bp_append.proofs.VisitLaws.{visit_can, build_can, kid_low}
use Rattle.bp_append.proofs.SlotLaws.{span_up, slot_ends}
use Rattle.bp_append.proofs.VisitDone.{slot_of_visit, slot_of_make}
use Rattle.bp_append.proofs.VisitLeaf.{leaf_can, visit_leaf}
use Rattle.bp_append.proofs.VisitRest.{rest_can}
use Rattle.bp_append.proofs.VisitNode.{goes_on}
use Rattle.bp_append.proofs.visit.+visit.Goals as goal

up_level : (level : ℕ) → (level ≡ 0 → ⊥) → suc (level - 1) ≡ level
up_level level some = omega (arith, some)

some_up : (level : ℕ) → 1 ≤ level → suc (level - 1) ≡ level
some_up level some = omega (arith, some)

positive : (n : ℕ) → (n ≡ 0 → ⊥) → 1 ≤ n
positive n some = omega (arith, some)

pub visit-fill-requires : goal.visit-fill-requires
visit-fill-requires g t c =
    record { can = rw c.if-node-eq0.true (leaf_can (rw c.if-node-eq0.true at c.requires.can)) }

pub visit-returns-then-node-eq0-clause-visits : goal.visit-returns-then-node-eq0-clause-visits
visit-returns-then-node-eq0-clause-visits g t c =
    rw c.if-node-eq0.true
    (visit_leaf c.args.bytes.now (rw c.if-node-eq0.true at c.requires.can) (rw c.if-node-eq0.true at c.fill.ensures.fills))

pub visit-last_slot-slot-requires-clause-level : goal.visit-last_slot-slot-requires-clause-level
visit-last_slot-slot-requires-clause-level g t c = c.requires.can.low

pub visit-last_slot-slot-requires-clause-begun : goal.visit-last_slot-slot-requires-clause-begun
visit-last_slot-slot-requires-clause-begun g t c = c.requires.can.begun

pub visit-last_slot-slot-requires-clause-inside : goal.visit-last_slot-slot-requires-clause-inside
visit-last_slot-slot-requires-clause-inside g t c = c.requires.can.inside

pub visit-last_slot-slot-requires-clause-few : goal.visit-last_slot-slot-requires-clause-few
visit-last_slot-slot-requires-clause-few g t c = c.requires.can.few

pub visit-visit_slot-hung-requires : goal.visit-visit_slot-hung-requires
visit-visit_slot-hung-requires g t c κs within =
    let up = up_level c.args.node.level c.if-node-eq0.false in
    (omega (arith, c.decreases, up), (within, (omega (arith, up), (c.requires.can, c.last_slot-slot.ensures))))

-- the node, its children's level written as one below its own
as_node : {memory : Memory} {free : List ℕ} {root size level start block from to : ℕ} → suc (level - 1) ≡ level →
    CanVisit memory free root size level start block from to → CanVisit memory free root size (suc (level - 1)) start block from to
as_node {memory} {free} {root} {size} {level} {start} {block} {from} {to} up can =
    subst (λ l. CanVisit memory free root size l start block from to) (sym up) can

-- and back: what is left can be filled
can_at : {memory : Memory} {free : List ℕ} {block below level start low from to : ℕ} → suc below ≡ level →
    CanFill memory free block (suc below) start low from to → CanFill memory free block level start low from to
can_at {memory} {free} {block} {below} {level} {start} {low} {from} {to} up can = subst (λ l. CanFill memory free block l start low from to) up can

-- what was filled, from where it was
fills_at : {old new : Memory} {free_old free_new : List ℕ} {block below level start at low from to : ℕ} {bytes : ℕ → ℕ} → suc below ≡ level → at ≡ low →
    FillsFrom old new free_old free_new block level start at from to bytes → FillsFrom old new free_old free_new block (suc below) start low from to bytes
fills_at {old} {new} {free_old} {free_new} {block} {below} {level} {start} {at} {low} {from} {to} {bytes} up same fills =
    subst₂ (λ l o. FillsFrom old new free_old free_new block l start o from to bytes) (sym up) same fills

-- and what was gone through
visits_at : {old new : Memory} {free_old free_new : List ℕ} {root size below level start block from to : ℕ} {bytes : List ℕ} {links : List (ℕ × ℕ)} →
    suc below ≡ level → Visits old new free_old free_new root size (suc below) start block from to bytes links →
    Visits old new free_old free_new root size level start block from to bytes links
visits_at {old} {new} {free_old} {free_new} {root} {size} {below} {level} {start} {block} {from} {to} {bytes} {links} up visits =
    subst (λ l. Visits old new free_old free_new root size l start block from to bytes links) up visits

-- the same of the block that the slot names
visits_from : {old new : Memory} {free_old free_new : List ℕ} {root size level start block from to first named : ℕ} {bytes : List ℕ} {links : List (ℕ × ℕ)} →
    Visits old new free_old free_new root size level start block from to bytes links → start ≡ first → block ≡ named →
    Visits old new free_old free_new root size level first named from to bytes links
visits_from {old} {new} {free_old} {free_new} {root} {size} {level} {from = from} {to = to} {bytes = bytes} {links = links} visits e f =
    subst₂ (λ o b. Visits old new free_old free_new root size level o b from to bytes links) e f visits

-- where a slot ends
ends_at : (start slot below first wide : ℕ) → first ≡ start + slot * span below → wide ≡ span below → first + wide ≡ start + slot * span below + span below
ends_at start slot below first wide e f = rw (e, f) refl

-- the word in a slot
loaded : (memory : Memory) (block slot word : ℕ) → 1 ≤ block → word ≡ get_or (current_words memory) (block * 512 + slot) 0 →
    word ≡ slot_word (current_words memory) block slot
loaded memory block slot word some is =
    let at : block * 512 + slot ≡ 512 * block + slot = omega arith in
    is ∙ ap (λ p. get_or (current_words memory) p 0) at ∙ sym (slot_word-at (current_words memory) block slot (λ e. omega (arith, e, some)))

pub visit-overflow_add-end : goal.visit-overflow_add-end
visit-overflow_add-end g t c =
    let up = up_level c.args.node.level c.if-node-eq0.false in
    let wide = span_up c.args.node.level (omega (arith, up)) in
    let ends = slot_ends c.last_slot-slot.result (span (c.args.node.level - 1)) c.last_slot-slot.ensures.few in
    let one : c.slot_start.result ≡ c.args.node.start + c.last_slot-slot.result * span (c.args.node.level - 1) = c.slot_start.ensures in
    let two : c.span.result ≡ span (c.args.node.level - 1) = c.span.ensures ∙ sym (span-is (c.args.node.level - 1)) in
    omega (arith, c.requires.can.few, wide, ends, one, two)

pub visit-fill-requires-2 : goal.visit-fill-requires-2
visit-fill-requires-2 g t c =
    let up = up_level c.args.node.level c.if-node-eq0.false in
    let two : c.span.result ≡ span (c.args.node.level - 1) = c.span.ensures ∙ sym (span-is (c.args.node.level - 1)) in
    let low = ends_at c.args.node.start c.last_slot-slot.result (c.args.node.level - 1) c.slot_start.result c.span.result c.slot_start.ensures two in
    let can = as_node up c.requires.can in
    record { can = rw low (can_at up (rest_can can c.last_slot-slot.ensures c.visit_slot-hung.ensures.below)) }

pub visit-returns-then-wanted-end-clause-visits : goal.visit-returns-then-wanted-end-clause-visits
visit-returns-then-wanted-end-clause-visits g t c =
    let up = up_level c.args.node.level c.if-node-eq0.false in
    let two : c.span.result ≡ span (c.args.node.level - 1) = c.span.ensures ∙ sym (span-is (c.args.node.level - 1)) in
    let low = ends_at c.args.node.start c.last_slot-slot.result (c.args.node.level - 1) c.slot_start.result c.span.result c.slot_start.ensures two in
    let can = as_node up c.requires.can in
    let rest = rest_can can c.last_slot-slot.ensures c.visit_slot-hung.ensures.below in
    let past_end = rest.node (c.args.node.level - 1) refl in
    let fills = fill_nothing c.args.bytes.now rest (c.args.node.level - 1) refl rest.first past_end (omega (arith, c.if-wanted-end.true, low)) in
    visits_at up (goes_on (record { can = can; last = c.last_slot-slot.ensures; visits = c.visit_slot-hung.ensures.below; fills = fills }))

pub visit-returns-clause-visits : goal.visit-returns-clause-visits
visit-returns-clause-visits g t c =
    let up = up_level c.args.node.level c.if-node-eq0.false in
    let two : c.span.result ≡ span (c.args.node.level - 1) = c.span.ensures ∙ sym (span-is (c.args.node.level - 1)) in
    let low = ends_at c.args.node.start c.last_slot-slot.result (c.args.node.level - 1) c.slot_start.result c.span.result c.slot_start.ensures two in
    let fills = fills_at up low c.fill-2.ensures.fills in
    visits_at up (goes_on (record { can = as_node up c.requires.can; last = c.last_slot-slot.ensures; visits = c.visit_slot-hung.ensures.below; fills = fills }))

pub visit_slot-overflow_cast-block : goal.visit_slot-overflow_cast-block
visit_slot-overflow_cast-block g t c =
    let old = g.R.Region.memory c.args.region.now in
    let up = some_up c.args.node.level c.requires.some in
    let is = loaded old c.args.node.block c.args.slot c.load_past_head-pointer.result c.requires.can.some_block c.load_past_head-pointer.ensures in
    let low = kid_low (as_node up c.requires.can) c.requires.last in
    let same : c.block_of-block.result ≡ block_of (slot_word (current_words old) c.args.node.block c.args.slot) = c.block_of-block.ensures ∙ ap block_of is in
    omega (arith, same, low, c.words-words.ensures, c.words-words.type_inv)

pub visit_slot-hang-requires-clause-can : goal.visit_slot-hang-requires-clause-can
visit_slot-hang-requires-clause-can g t c =
    let old = g.R.Region.memory c.args.region.now in
    let up = some_up c.args.node.level c.requires.some in
    let is = loaded old c.args.node.block c.args.slot c.load_past_head-pointer.result c.requires.can.some_block c.load_past_head-pointer.ensures in
    build_can (as_node up c.requires.can) c.requires.last (sym (c.block_of-block.ensures ∙ ap block_of is) ∙ c.if-block-eq0.true)

pub visit_slot-returns-then-block-eq0-clause-below : goal.visit_slot-returns-then-block-eq0-clause-below
visit_slot-returns-then-block-eq0-clause-below g t c =
    let old = g.R.Region.memory c.args.region.now in
    let up = some_up c.args.node.level c.requires.some in
    let is = loaded old c.args.node.block c.args.slot c.load_past_head-pointer.result c.requires.can.some_block c.load_past_head-pointer.ensures in
    let null : block_of (slot_word (current_words old) c.args.node.block c.args.slot) ≡ 0 = sym (c.block_of-block.ensures ∙ ap block_of is) ∙ c.if-block-eq0.true in
    let hung = c.hang.ensures.builds in
    slot_of_make (as_node up c.requires.can) c.requires.last c.args.bytes.now _ _ hung.pointer _ null hung.built hung.which

pub visit_slot-visit-requires : goal.visit_slot-visit-requires
visit_slot-visit-requires g t c κs within =
    let old = g.R.Region.memory c.args.region.now in
    let up = some_up c.args.node.level c.requires.some in
    let is = loaded old c.args.node.block c.args.slot c.load_past_head-pointer.result c.requires.can.some_block c.load_past_head-pointer.ensures in
    let same : c.block_of-block.result ≡ block_of (slot_word (current_words old) c.args.node.block c.args.slot) = c.block_of-block.ensures ∙ ap block_of is in
    let some : 1 ≤ block_of (slot_word (current_words old) c.args.node.block c.args.slot) = rw (← same) (positive c.block_of-block.result c.if-block-eq0.false) in (
      omega (arith, c.decreases, up),
      (
        within,
        rw (c.slot_start.ensures, same) (visit_can (as_node up c.requires.can) c.requires.last some),
      ),
    )

pub visit_slot-returns-clause-below : goal.visit_slot-returns-clause-below
visit_slot-returns-clause-below g t c =
    let old = g.R.Region.memory c.args.region.now in
    let new = g.R.Region.memory c.visit.new.region in
    let up = some_up c.args.node.level c.requires.some in
    let is = loaded old c.args.node.block c.args.slot c.load_past_head-pointer.result c.requires.can.some_block c.load_past_head-pointer.ensures in
    slot_of_visit (as_node up c.requires.can) c.requires.last c.args.bytes.now new (members c.visit.new.blocks) (links_in c.visit.result)
    (visits_from c.visit.ensures.visits c.slot_start.ensures (c.block_of-block.ensures ∙ ap block_of is))
