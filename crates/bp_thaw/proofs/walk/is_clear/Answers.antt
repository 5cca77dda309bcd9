use Rattle.std.proofs.Common.{◌≡◌, ℕ, ◌<◌, Bool, [], get_or, length, refl, sym, ◌∙◌, ap, arith, true≢false}
use Rattle.pm_region.specs.Memory.{current_words}
use Rattle.bp_free.specs.Set.{has}
use Rattle.bp_read.proofs.RegionWords.{length_now}
use Rattle.bp_thaw.specs.Prefixes.{found_on}
use Rattle.bp_thaw.proofs.FindSteps.{IsOnWay, found-passes, on_way, place_inside}
use Rattle.bp_thaw.proofs.OneWay.{snapshot_is_thawed, none_on_way}
use Rattle.bp_thaw.proofs.walk.is_clear.Given as given
use Rattle.bp_thaw.proofs.walk.is_clear.Goals.{After-block_of-block}
use Rattle.bp_thaw.proofs.walk.is_clear.Goals as goal

-- the pointer leads to the block that is read
looked : (g : given.Over) (c : After-block_of-block g) →
    IsOnWay (current_words (g.R.Region.memory c.args.parts.now.region)) c.args.way.now.items c.loop-depth.depth c.block_of-block.result
looked g c =
    let low : c.loop-depth.depth < length c.args.way.now.items = omega (arith, c.loop-depth-test.true, c.len-depth-end.ensures.value) in
    on_way _ c.requires.well_formed _ c.requires.way _ low (c.requires.there _ low) _ _ _ c.loop-depth.invariant.place c.load.ensures c.block_of-block.ensures

pub loop-depth-init : goal.loop-depth-init
loop-depth-init g c = record { none = refl; place = refl }

pub load-requires : goal.load-requires
load-requires g c =
    let low : c.loop-depth.depth < length c.args.way.now.items = omega (arith, c.loop-depth-test.true, c.len-depth-end.ensures.value) in
    let inside = place_inside _ c.requires.well_formed _ c.requires.way _ low (c.requires.there _ low) in
    omega (arith, inside, c.loop-depth.invariant.place, length_now (g.R.Region.memory c.args.parts.now.region))

pub overflow_cast-block : goal.overflow_cast-block
overflow_cast-block g c = omega (arith, (looked g (goal.at.overflow_cast-block g c).After-block_of-block).fits)

pub is_free-requires : goal.is_free-requires
is_free-requires g c = omega (arith, (looked g (goal.at.is_free-requires g c).After-block_of-block).inside, c.requires.snapshot_blocks)

pub returns-then-is_free : goal.returns-then-is_free
returns-then-is_free g c =
    let image = current_words (g.R.Region.memory c.args.parts.now.region) in
    let in_snapshot : ℕ → Bool = has c.args.parts.now.snapshot_blocks in
    let low : c.loop-depth.depth < length c.args.way.now.items = omega (arith, c.loop-depth-test.true, c.len-depth-end.ensures.value) in
    let is = (looked g (goal.at.returns-then-is_free g c).After-block_of-block).kept in_snapshot ∙ sym c.is_free.ensures ∙ c.if-is_free.true in
    (λ never. absurd (true≢false (sym never)), λ none. absurd (snapshot_is_thawed image in_snapshot c.args.way.now.items c.loop-depth.depth low is none))

pub overflow_add-place : goal.overflow_add-place
overflow_add-place g c =
    let at = looked g (goal.at.overflow_add-place g c).After-block_of-block in
    omega (arith, at.fits, at.slot, c.from.ensures ∙ ap (λ xs. get_or xs c.loop-depth.depth 0) c.deref.ensures.0)

pub loop-depth-preserved : goal.loop-depth-preserved
loop-depth-preserved g c =
    let image = current_words (g.R.Region.memory c.args.parts.now.region) in
    let in_snapshot : ℕ → Bool = has c.args.parts.now.snapshot_blocks in
    let d : ℕ = c.loop-depth.depth in
    let at = looked g (goal.at.loop-depth-preserved g c).After-block_of-block in
    let is = at.kept in_snapshot ∙ sym c.is_free.ensures ∙ c.if-is_free.false in
    record {
      none = found-passes image in_snapshot [] c.args.way.now.items d is ∙ c.loop-depth.invariant.none;
      place = omega (arith, at.next, c.from.ensures ∙ ap (λ xs. get_or xs d 0) c.deref.ensures.0);
    }

pub returns : goal.returns
returns g c =
    let image = current_words (g.R.Region.memory c.args.parts.now.region) in
    let in_snapshot : ℕ → Bool = has c.args.parts.now.snapshot_blocks in
    let way = c.args.way.now.items in
    let end : c.loop-depth.depth ≡ length way = omega (arith, c.loop-depth-test.false, c.loop-depth.auto.depth-end, c.len-depth-end.ensures.value) in
    let all : found_on image in_snapshot [] way (length way) ≡ [] = ap (λ n. found_on image in_snapshot [] way n) (sym end) ∙ c.loop-depth.invariant.none in
    (λ is. none_on_way image c.requires.well_formed in_snapshot way c.requires.way all, λ none. refl)
