use Rattle.std.proofs.Common.{rules, ◌≡◌, ◌≢◌, ℕ, suc, ◌+◌, ◌-◌, ◌*◌, ◌%◌, ◌<◌, ◌≤◌, false, length, get_or, refl, sym, ◌∙◌, ap, subst, arith, inl, inr}
use Rattle.std.proofs.lemmas.Bool.{cases_eq}
use Rattle.std.proofs.lemmas.Result.{err_from_is_err_and}
use Rattle.bp_free.specs.Set.{Set}
use Rattle.bp_layout.specs.Words.{word, block_count, block_of, height_of}
use Rattle.bp_layout.specs.Tree.{node, covered, IsLivePointer}
use Rattle.bp_layout.specs.Checks.{IsFollowed, Passes}
use Rattle.pm_region.specs.Memory.{current_words}
use Rattle.bp_layout.proofs.LoadedWords.{length-loaded, loaded_word}
use Rattle.bp_read.proofs.RegionWords.{length_now}
use Rattle.bp_walk.specs.Pointed.{RefusesPointed}
use Rattle.bp_walk.specs.Walk.{WalksBelow, IsPlace}
use Rattle.bp_walk.specs.Walk.FailsBelow.{bits}
use Rattle.bp_walk.proofs.Below.{rest, small_number, covered_most, child_below, child_of}
use Rattle.bp_walk.proofs.Pointers.{ReadsSlot, claimed_room, claimed_less, claimed_out, claimed_node, claimed_passes, claimed_step, claimed_leaf, claimed_present, claimed_fails, here, null_steps, refused_below, within_blocks}
use Rattle.bp_walk.proofs.TakenLaws.{clash}
use Rattle.bp_walk.proofs.LiveSlots.{covered_some}
use Rattle.bp_walk.proofs.walk.+take_below.Goals.{After-load_words-pointers, In-Ok, else-pointer-eq0-via-then-pointer-eq0+else-holes, else-pointer-eq0-via-else-pointer-eq0}
use Rattle.bp_walk.proofs.walk.+take_below.Given as given
use Rattle.bp_walk.proofs.walk.+take_below.Goals as goal

-- the node's own block is one of the image
own_block : (g : given.Over) (t : ℕ) (c : goal.After-load_words-pointers g t) →
    c.args.top.block < block_count (current_words (g.R.Region.memory c.args.region.now))
own_block g t c =
    let image = current_words (g.R.Region.memory c.args.region.now) in
    let inside = within_blocks image c.args.tree.root c.args.top.depth c.args.top.index c.requires.passes in
    subst (λ x. x < block_count image) c.requires.block inside

-- a slot that is live is the place of a pointer
child : (g : given.Over) (t : ℕ) (c : goal.After-load_words-pointers g t) (slot : ℕ) → slot < c.live_slots-live.result →
    IsPlace (current_words (g.R.Region.memory c.args.region.now)) 0 c.args.tree.root c.args.tree.size
    (suc c.args.top.depth) (512 * c.args.top.index + slot) (512 * c.args.top.block + slot)
child g t c slot below =
    let asked = c.requires in
    let low : slot < 512 = omega (arith, below, c.live_slots-live.ensures.most) in
    let image = current_words (g.R.Region.memory c.args.region.now) in
    let live = c.live_slots-live.ensures.live slot below in
    child_of image c.args.tree.root c.args.tree.size c.args.top.depth c.args.top.index slot c.args.top.block c.args.top.level low asked.above
    asked.height live asked.fits asked.followed asked.passes asked.block asked.present

-- the number of its pointer fits
number_fits : (g : given.Over) (t : ℕ) (c : goal.After-load_words-pointers g t) (slot : ℕ) → slot < c.live_slots-live.result →
    512 * c.args.top.index + slot < 18446744073709551616
number_fits g t c slot below =
    let some : 0 < covered c.args.top.level = covered_some c.args.top.level c.requires.above in
    let number : 512 * c.args.top.index + slot < c.args.tree.size =
    small_number (512 * c.args.top.index + slot) (covered c.args.top.level) c.args.tree.size some (c.live_slots-live.ensures.live slot below) in
    omega (arith, number, c.requires.fits, covered_most (suc (height_of c.args.tree.root)) (omega (arith, c.requires.low)))

-- what the code reads in a slot that is live is its pointer
read : (g : given.Over) (t : ℕ) (c : goal.After-load_words-pointers g t) (slot : ℕ) → slot < c.live_slots-live.result →
    get_or c.load_words-pointers.result.now slot 0 ≡ word (current_words (g.R.Region.memory c.args.region.now)) (512 * c.args.top.block + slot)
read g t c slot below =
    let image = current_words (g.R.Region.memory c.args.region.now) in
    loaded_word image c.load_words-pointers.result.now (512 * c.args.top.block) c.live_slots-live.result c.load_words-pointers.ensures slot below

-- as many pointers are read as are live
long : (g : given.Over) (t : ℕ) (c : goal.After-load_words-pointers g t) → length c.load_words-pointers.result.now ≡ c.live_slots-live.result
long g t c =
    let image = current_words (g.R.Region.memory c.args.region.now) in
    let live = c.live_slots-live.result in
    let some : c.args.top.block < block_count image = own_block g t c in
    let inside : 512 * c.args.top.block + live ≤ length image = omega (arith, some, c.live_slots-live.ensures.most, c.requires.whole) in
    length-loaded image c.load_words-pointers.result.now (512 * c.args.top.block) live c.load_words-pointers.ensures inside

-- the walk has come to a slot, and reads it
at_slot : (g : given.Over) (t : ℕ) (c : goal.After-load_words-pointers g t) (slot : ℕ) (now : Set) → slot < c.live_slots-live.result →
    WalksBelow (current_words (g.R.Region.memory c.args.region.now)) 0 c.args.tree.root c.args.tree.size c.args.holes
    c.args.top.depth c.args.top.index slot c.args.blocks.now now →
    ReadsSlot (current_words (g.R.Region.memory c.args.region.now)) c.args.tree.root c.args.tree.size c.args.holes
    c.args.top.depth c.args.top.index c.args.top.block slot c.args.blocks.now now (get_or c.load_words-pointers.result.now slot 0)
at_slot g t c slot now below walks = record {
  come = record {
    named = c.requires.block;
    low = omega (arith, below, c.live_slots-live.ensures.most);
    out = c.requires.taken;
    child = child g t c slot below;
    walks = walks;
  };
  stands = read g t c slot below;
  room = c.requires.room;
}

-- where nulls may not be, one that comes this far is none
full : (g : given.Over) (t : ℕ) (c : goal.In-Ok g t) → get_or c.load_words-pointers.result.now c.loop-slot.slot 0 ≡ 0 → c.args.holes ≡ false
full g t c none = elim c.else-pointer-eq0.branch [
  | else-pointer-eq0-via-then-pointer-eq0+else-holes w ↦ w.if-holes.false
  | else-pointer-eq0-via-else-pointer-eq0 w ↦ absurd (w.if-pointer-eq0.false none)
]

pub load_words-pointers-requires-clause-in_range : goal.load_words-pointers-requires-clause-in_range
load_words-pointers-requires-clause-in_range g t c =
    let image = current_words (g.R.Region.memory c.args.region.now) in
    let inside = within_blocks image c.args.tree.root c.args.top.depth c.args.top.index c.requires.passes in
    let some : c.args.top.block < block_count image = subst (λ x. x < block_count image) c.requires.block inside in
    omega (arith, some, c.live_slots-live.ensures.most, c.requires.whole, length_now (g.R.Region.memory c.args.region.now))

pub loop-slot-preserved-then-holes : goal.loop-slot-preserved-then-holes
loop-slot-preserved-then-holes g t c =
    let image = current_words (g.R.Region.memory c.args.region.now) in
    let read_all = (goal.at.loop-slot-preserved-then-holes g t c).After-load_words-pointers in
    let slot = c.loop-slot.slot in
    let next = c.past_nulls-slot.result in
    let block = c.args.top.block in
    let live = c.live_slots-live.result in
    let many : length c.load_words-pointers.result.now ≡ live = long g t read_all in
    let end : slot + (next - slot) ≡ next = omega (arith, c.past_nulls-slot.ensures.further) in
    let below : (r : ℕ) → r < slot + (next - slot) → r < live = λ r low. omega (arith, low, end, many, c.past_nulls-slot.ensures.most) in
    let null : (r : ℕ) → slot ≤ r → r < slot + (next - slot) → word image (512 * block + r) ≡ 0 =
    λ r order low. sym (read g t read_all r (below r low)) ∙ elim (cases_eq r slot) [
      | inl here ↦ ap (λ k. get_or c.load_words-pointers.result.now k 0) here ∙ c.if-pointer-eq0.true
      | inr apart ↦ c.past_nulls-slot.ensures.nulls r (omega (arith, order, apart)) (omega (arith, low, end))
    ] in
    let few : slot + (next - slot) ≤ 512 = omega (arith, end, many, c.past_nulls-slot.ensures.most, c.live_slots-live.ensures.most) in
    let over = null_steps c.requires.block c.requires.taken c.requires.room (own_block g t read_all) c.if-holes.true slot
    c.loop-slot.invariant.walks (next - slot) few (λ r order low. child g t read_all r (below r low)) null in
    let tree = c.args.tree in
    record {
      most = omega (arith, many, c.past_nulls-slot.ensures.most);
      walks = subst (λ t. WalksBelow image 0 tree.root tree.size c.args.holes c.args.top.depth c.args.top.index t c.args.blocks.now c.loop-slot.blocks) end over;
    }

pub returns-in_default-clause-err : goal.returns-in_default-clause-err
returns-in_default-clause-err g t c =
    let read_all = (goal.at.returns-in_default-clause-err g t c).After-load_words-pointers in
    let slot = at_slot g t read_all c.loop-slot.slot c.loop-slot.blocks c.loop-slot-test.true c.loop-slot.invariant.walks in
    bits slot.come.child (λ even. clash (c.in_default.ensures.form.1 (ap (λ x. x % 4096) (here slot) ∙ even)) refl)

pub returns-in_err-block-clause-err : goal.returns-in_err-block-clause-err
returns-in_err-block-clause-err g t c =
    let p = err_from_is_err_and c.from_residual.result c.from_residual.ensures.1 in
    let read_all = (goal.at.returns-in_err-block-clause-err g t c).After-load_words-pointers in
    let slot = at_slot g t read_all c.loop-slot.slot c.loop-slot.blocks c.loop-slot-test.true c.loop-slot.invariant.walks in
    let check = c.in_err-block.field-0.0.check in
    let refused : RefusesPointed (block_of (get_or c.load_words-pointers.result.now c.loop-slot.slot 0)) c.args.holes c.loop-slot.blocks check =
    subst (λ (x : ℕ). RefusesPointed x c.args.holes c.loop-slot.blocks check) c.in-Ok.ensures.block c.in_err-block.ensures.err in
    rw (p.1, p.2, c.in_err-block.ensures.place) (refused_below slot refused)

pub loop-slot-preserved-then-top-eq1 : goal.loop-slot-preserved-then-top-eq1
loop-slot-preserved-then-top-eq1 g t c =
    let read_all = (goal.at.loop-slot-preserved-then-top-eq1 g t c).After-load_words-pointers in
    let slot = at_slot g t read_all c.loop-slot.slot c.loop-slot.blocks c.loop-slot-test.true c.loop-slot.invariant.walks in
    let reads = sym c.in-Ok.ensures.block ∙ sym c.in_ok-block.ensures.named in
    record {
      most = omega (arith, c.loop-slot-test.true);
      walks = claimed_leaf slot reads c.in_ok-block.ensures.ok (omega (arith, c.requires.height, c.if-top-eq1.true)) (c.in-Ok.ensures.form.0 refl);
    }

pub overflow_add-index : goal.overflow_add-index
overflow_add-index g t c =
    let low = number_fits g t (goal.at.overflow_add-index g t c).After-load_words-pointers c.loop-slot.slot c.loop-slot-test.true in
    search (rules, low)

pub overflow_mul-index : goal.overflow_mul-index
overflow_mul-index g t c =
    let number = number_fits g t (goal.at.overflow_mul-index g t c).After-load_words-pointers c.loop-slot.slot c.loop-slot-test.true in
    let low : 512 * c.args.top.index < 18446744073709551616 = omega (arith, number) in
    search (rules, low)

pub take_below-requires : goal.take_below-requires
take_below-requires g t c κs within =
    let image = current_words (g.R.Region.memory c.args.region.now) in
    let root = c.args.tree.root in
    let size = c.args.tree.size in
    let read_all = (goal.at.take_below-requires g t c).After-load_words-pointers in
    let slot = at_slot g t read_all c.loop-slot.slot c.loop-slot.blocks c.loop-slot-test.true c.loop-slot.invariant.walks in
    let claims = c.in_ok-block.ensures.ok in
    let bits = c.in-Ok.ensures.form.0 refl in
    let reads = sym c.in-Ok.ensures.block ∙ sym c.in_ok-block.ensures.named in
    let index = 512 * c.args.top.index + c.loop-slot.slot in
    let up : suc c.args.top.depth ≡ c.args.top.depth + 1 = omega arith in
    let room = claimed_room claims ∙ slot.come.walks.takes.room ∙ c.requires.room in
    let first = slot.come.walks.takes.less 0 c.requires.not_first in
    let live : IsLivePointer root size (c.args.top.depth + 1) index = subst (λ (x : ℕ). IsLivePointer root size x index) up slot.come.child.live in
    let followed : IsFollowed image root size (c.args.top.depth + 1) index = subst (λ (x : ℕ). IsFollowed image root size x index) up slot.come.child.followed in
    let passes : Passes image root (c.args.top.depth + 1) index = subst (λ (x : ℕ). Passes image root x index) up (claimed_passes slot reads claims bits) in
    let named : node image root (c.args.top.depth + 1) index ≡ c.in_ok-block.block =
    subst (λ (x : ℕ). node image root x index ≡ c.in_ok-block.block) up (claimed_node slot reads claims) in
    let present : c.in_ok-block.block ≢ 0 = claimed_present slot reads claims bits (full g t (goal.at.take_below-requires g t c).In-Ok) in
    let out = claimed_out claims first in
    let not_first = claimed_less claims 0 first in
    let height : c.args.top.depth + 1 + (c.args.top.level - 1) ≡ height_of root = omega (arith, c.requires.height, c.requires.above) in
    let above : 1 ≤ c.args.top.level - 1 = omega (arith, c.requires.above, c.if-top-eq1.false) in
    let asked = c.requires in
    (omega (arith, c.decreases, asked.above), (within, (asked.whole, (asked.most, (room, (not_first, (height, (asked.low, (asked.fits, (above, (live, (followed, (passes, (named, (present, out)))))))))))))))

pub returns-in_err-take_below-clause-err : goal.returns-in_err-take_below-clause-err
returns-in_err-take_below-clause-err g t c =
    let p = err_from_is_err_and c.from_residual-in_err-take_below.result c.from_residual-in_err-take_below.ensures.1 in
    let path = goal.at.returns-in_err-take_below-clause-err g t c in
    let slot = at_slot g t path.After-load_words-pointers c.loop-slot.slot c.loop-slot.blocks c.loop-slot-test.true c.loop-slot.invariant.walks in
    let claims = c.in_ok-block.ensures.ok in
    let reads = sym c.in-Ok.ensures.block ∙ sym c.in_ok-block.ensures.named in
    let present : c.in_ok-block.block ≢ 0 = claimed_present slot reads claims (c.in-Ok.ensures.form.0 refl) (full g t path.In-Ok) in
    rw (p.1, p.2) (claimed_fails slot reads claims present c.in_err-take_below.ensures.err)

pub loop-slot-preserved : goal.loop-slot-preserved
loop-slot-preserved g t c =
    let image = current_words (g.R.Region.memory c.args.region.now) in
    let read_all = (goal.at.loop-slot-preserved g t c).After-load_words-pointers in
    let slot = at_slot g t read_all c.loop-slot.slot c.loop-slot.blocks c.loop-slot-test.true c.loop-slot.invariant.walks in
    let reads = sym c.in-Ok.ensures.block ∙ sym c.in_ok-block.ensures.named in
    let index = 512 * c.args.top.index + c.loop-slot.slot in
    let down : c.args.top.depth + 1 ≡ suc c.args.top.depth = omega arith in
    let tree = c.args.tree in
    let under = subst (λ (x : ℕ). WalksBelow image 0 tree.root tree.size c.args.holes x index 512 c.claim_pointed.new.blocks c.take_below.new.blocks) down
    c.in_ok-take_below.ensures.ok in
    record { most = omega (arith, c.loop-slot-test.true); walks = claimed_step slot reads c.in_ok-block.ensures.ok (c.in-Ok.ensures.form.0 refl) under }

pub returns-clause-ok : goal.returns-clause-ok
returns-clause-ok g t c =
    let image = current_words (g.R.Region.memory c.args.region.now) in
    let end : c.loop-slot.slot ≡ c.live_slots-live.result = omega (arith, c.loop-slot.invariant.most, c.loop-slot-test.false) in
    let tree = c.args.tree in
    let dead : (r : ℕ) → c.loop-slot.slot ≤ r → r < 512 → IsLivePointer tree.root tree.size (suc c.args.top.depth) (512 * c.args.top.index + r) → ⊥ =
    λ r order below live.
    let byte = child_below c.args.tree.root c.args.tree.size c.args.top.depth c.args.top.index r c.args.top.level c.requires.height live in
    absurd (omega (arith, end, order, c.live_slots-live.ensures.all r below byte)) in
    rest image 0 c.args.tree.root c.args.tree.size c.args.holes c.args.top.depth c.args.top.index c.loop-slot.slot c.args.blocks.now c.loop-slot.blocks
    (omega (arith, end, c.live_slots-live.ensures.most)) dead c.loop-slot.invariant.walks
