use Rattle.std.proofs.Common.{◌≡◌, ℕ, suc, ◌+◌, ◌-◌, ◌*◌, ◌/◌, ◌<◌, ◌≤◌, List, length, refl, sym, ◌∙◌, ap, subst, arith, lt_of_lt_of_le, ltb-true, ltb-false}
use Rattle.bp_limits.specs.CallLimits.{max_size}
use Rattle.bp_free.specs.Set.{members}
use Rattle.bp_layout.specs.Tree.{span}
use Rattle.pm_region.specs.Memory.{Memory}
use Rattle.pm_region.proofs.MemoryLaws.{length-current_words}
use Rattle.bp_append.specs.Filled.{CanLay, CanFill}
use Rattle.bp_append.proofs.FillLaws.{FillsUpto, fills_more}
use Rattle.bp_append.proofs.BuildLaws.{null_builds, fill_can, make_done, first_low, fills_none, child_can, in_size, store_room, child_built, fill_done}
use Rattle.bp_append.proofs.fill.+fill.Goals as goal

some_level : (level : ℕ) → (level ≡ 0 → ⊥) → level ≡ suc (level - 1)
some_level level some = omega (arith, some)

can_lay : (memory : Memory) (free : List ℕ) (block level start low from to : ℕ) → level ≡ 0 → CanFill memory free block level start low from to → CanLay memory block start low to
can_lay memory free block level start low from to flat can = record {
  order = can.order;
  inside = subst (λ l. low ≤ start + span l) flat can.inside;
  leaf = can.leaf flat;
  begun = can.begun;
  few = subst (λ l. start + span l ≤ 2 * max_size) flat can.few;
  few_to = can.few_to;
  some_block = can.some_block;
  in_range = can.in_range;
  room = omega (arith, can.room);
}

pub fill-fill_leaf-requires : goal.fill-fill_leaf-requires
fill-fill_leaf-requires g t c = record { can = can_lay _ _ _ _ _ _ _ _ c.if-node-eq0.true c.requires.can }

pub fill-returns-then-node-eq0-clause-fills : goal.fill-returns-then-node-eq0-clause-fills
fill-returns-then-node-eq0-clause-fills g t c = rw c.if-node-eq0.true (c.fill_leaf.ensures (members c.args.blocks.now))

pub fill-slot_at-slot-requires-clause-level : goal.fill-slot_at-slot-requires-clause-level
fill-slot_at-slot-requires-clause-level g t c = c.requires.can.flat

pub fill-slot_at-slot-requires-clause-order : goal.fill-slot_at-slot-requires-clause-order
fill-slot_at-slot-requires-clause-order g t c = c.requires.can.order

pub fill-slot_at-slot-requires-clause-inside : goal.fill-slot_at-slot-requires-clause-inside
fill-slot_at-slot-requires-clause-inside g t c = c.requires.can.inside

pub fill-begun_slots-slot-end-requires-clause-level : goal.fill-begun_slots-slot-end-requires-clause-level
fill-begun_slots-slot-end-requires-clause-level g t c = c.requires.can.flat

pub fill-begun_slots-slot-end-requires-clause-begun : goal.fill-begun_slots-slot-end-requires-clause-begun
fill-begun_slots-slot-end-requires-clause-begun g t c = c.requires.can.begun

pub fill-begun_slots-slot-end-requires-clause-few : goal.fill-begun_slots-slot-end-requires-clause-few
fill-begun_slots-slot-end-requires-clause-few g t c = c.requires.can.few

-- no slot is filled where it goes on at the first
upto : {old new : Memory} {free_old free_new : List ℕ} {block below start low first slot from to size : ℕ} {bytes : ℕ → ℕ} → slot ≡ first →
    FillsUpto old new free_old free_new block below start low first first from to size bytes →
    FillsUpto old new free_old free_new block below start low first slot from to size bytes
upto {old} {new} {free_old} {free_new} {block} {below} {start} {low} {first} {slot} {from} {to} {size} {bytes} same fills =
    subst (λ n. FillsUpto old new free_old free_new block below start low first n from to size bytes) (sym same) fills

pub fill-loop-slot-init : goal.fill-loop-slot-init
fill-loop-slot-init g t c =
    let up = some_level c.args.node.level c.if-node-eq0.false in
    let can = c.requires.can in
    let begins = can.node (c.args.node.level - 1) up in
    let same : c.slot_at-slot.result ≡ can.first = c.slot_at-slot.ensures can.first begins in
    record {
      first = can.first;
      at = begins;
      reached = omega (arith, same);
      most = omega (arith, same, first_low c.args.bytes.now can (c.args.node.level - 1) up can.first begins);
      fills = upto same (fills_none c.args.bytes.now can (c.args.node.level - 1) up can.first begins);
      room = refl;
    }

pub fill-slot_start-requires-clause-level : goal.fill-slot_start-requires-clause-level
fill-slot_start-requires-clause-level g t c = c.requires.can.flat

pub fill-slot_start-requires-clause-slot : goal.fill-slot_start-requires-clause-slot
fill-slot_start-requires-clause-slot g t c = omega (arith, c.loop-slot-test.true, c.begun_slots-slot-end.ensures.few)

pub fill-slot_start-requires-clause-few : goal.fill-slot_start-requires-clause-few
fill-slot_start-requires-clause-few g t c = c.requires.can.few

pub fill-make-pointer-requires : goal.fill-make-pointer-requires
fill-make-pointer-requires g t c κs within =
    let up = some_level c.args.node.level c.if-node-eq0.false in
    let inv = c.loop-slot.invariant in
    let few : c.loop-slot.slot < 512 = omega (arith, c.loop-slot-test.true, c.begun_slots-slot-end.ensures.few) in
    let begun = c.begun_slots-slot-end.ensures.begun c.loop-slot.slot c.loop-slot-test.true in
    let some : 0 < c.args.node.level = omega (arith, up) in (
      omega (arith, c.decreases, some),
      (
        within,
        rw c.slot_start.ensures (child_can c.args.bytes.now c.requires.can (c.args.node.level - 1) up inv.first inv.at
            inv.fills few begun inv.reached),
      ),
    )

pub fill-store_past_head-requires-clause-after_head : goal.fill-store_past_head-requires-clause-after_head
fill-store_past_head-requires-clause-after_head g t c = omega (arith, c.requires.can.some_block)

pub fill-store_past_head-requires-clause-room : goal.fill-store_past_head-requires-clause-room
fill-store_past_head-requires-clause-room g t c =
    let up = some_level c.args.node.level c.if-node-eq0.false in
    let inv = c.loop-slot.invariant in
    let few : c.loop-slot.slot < 512 = omega (arith, c.loop-slot-test.true, c.begun_slots-slot-end.ensures.few) in
    let begun = c.begun_slots-slot-end.ensures.begun c.loop-slot.slot c.loop-slot-test.true in
    store_room c.args.bytes.now c.requires.can (c.args.node.level - 1) up inv.first inv.at
    inv.fills few begun inv.reached _ _ _ _ _ _ (rw c.slot_start.ensures at c.make-pointer.ensures.made)

pub fill-loop-slot-preserved : goal.fill-loop-slot-preserved
fill-loop-slot-preserved g t c =
    let up = some_level c.args.node.level c.if-node-eq0.false in
    let inv = c.loop-slot.invariant in
    let can = c.requires.can in
    let first = g.R.Region.memory c.args.region.now in
    let few : c.loop-slot.slot < 512 = omega (arith, c.loop-slot-test.true, c.begun_slots-slot-end.ensures.few) in
    let begun = c.begun_slots-slot-end.ensures.begun c.loop-slot.slot c.loop-slot-test.true in
    let built = child_built c.args.bytes.now can (c.args.node.level - 1) up inv.first inv.at
    inv.fills few begun inv.reached (g.R.Region.memory c.make-pointer.new.region) (members c.make-pointer.new.blocks) c.make-pointer.result
    (rw c.slot_start.ensures at c.make-pointer.ensures.made) in
    let inside = in_size c.args.bytes.now can (c.args.node.level - 1) up inv.first inv.at
    inv.fills few begun inv.reached in
    record {
      first = inv.first;
      at = inv.at;
      reached = omega (arith, inv.reached);
      most = omega (arith, few);
      fills = fills_more (g.R.Region.memory c.store_past_head.new.self)
          can.index
          (length first.base / 512) inv.fills built c.store_past_head.ensures can.usable (omega (arith, length-current_words first)) can.some_block can.in_range can.outside
          few begun inside (can.aligned ∙ ap (λ l. can.index * span l) up) inv.at inv.reached;
      room = c.make-pointer.ensures.room ∙ inv.room;
    }

pub fill-returns-clause-fills : goal.fill-returns-clause-fills
fill-returns-clause-fills g t c =
    let up = some_level c.args.node.level c.if-node-eq0.false in
    let inv = c.loop-slot.invariant in
    let can = c.requires.can in
    let first = g.R.Region.memory c.args.region.now in
    fill_done c.args.bytes.now can (c.args.node.level - 1) up inv.first inv.at
    (g.R.Region.memory c.loop-slot.region) (members c.loop-slot.blocks) c.loop-slot.slot inv.fills inv.most
    (λ slot few begun. lt_of_lt_of_le (c.begun_slots-slot-end.ensures.all slot few begun) c.loop-slot-test.false)

pub make-returns-then-not-is_met-clause-made : goal.make-returns-then-not-is_met-clause-made
make-returns-then-not-is_met-clause-made g t c = null_builds _ _ c.args.bytes.now c.args.level c.args.start c.args.wanted.from c.args.wanted.to c.requires.can (ltb-false _ _ (sym c.is_met.ensures ∙ c.if-not-is_met.true))

pub make-fill-requires : goal.make-fill-requires
make-fill-requires g t c κs within =
    (omega (arith, c.decreases), (within, fill_can c.alloc_lowest-block.result c.requires.can c.alloc_lowest-block.ensures.first (ltb-true _ _ (sym c.is_met.ensures ∙ c.if-not-is_met.false))))

pub make-returns-clause-made : goal.make-returns-clause-made
make-returns-clause-made g t c =
    rw c.pointer_word.ensures (make_done c.alloc_lowest-block.result c.requires.can c.alloc_lowest-block.ensures.first (ltb-true _ _ (sym c.is_met.ensures ∙ c.if-not-is_met.false)) c.args.bytes.now _ _ c.fill.ensures.fills)
