use Rattle.std.proofs.Common.{◌≡◌, ℕ, ◌+◌, ◌-◌, ◌*◌, ◌<◌, Bool, false, get_or, length, map, take, refl, sym, ◌∙◌, ap, arith}
use Rattle.pm_region.specs.Memory.{current_words}
use Rattle.bp_free.specs.Set.{has}
use Rattle.bp_layout.specs.Thaw.{is_in_snapshot_at, is_there_now}
use Rattle.bp_layout.specs.WordPaths.{address}
use Rattle.bp_read.proofs.RegionWords.{length_now}
use Rattle.bp_thaw.specs.Prefixes.{found_on}
use Rattle.bp_thaw.proofs.FindSteps.{IsOnWay, add_step, found-ends, found-passes, on_way, place_inside}
use Rattle.bp_thaw.proofs.find.find_on.Given as given
use Rattle.bp_thaw.proofs.find.find_on.Goals as goal
use Rattle.bp_thaw.proofs.find.find_on.Goals.{After-block_of-block, then-is_free, else-is_free}

-- the pointer is there, and leads to the block that is read
looked : (g : given.Over) (c : After-block_of-block g) →
    IsOnWay (current_words (g.R.Region.memory c.args.region.now)) c.args.way.now.items c.loop-depth.depth c.block_of-block.result
looked g c =
    let low : c.loop-depth.depth < length c.args.way.now.items = omega (arith, c.loop-depth-test.true, c.len-end.ensures.value) in
    on_way _ c.requires.well_formed _ c.requires.way _ low (sym c.is_there.ensures ∙ c.if-not-is_there.false)
    _ _ _ c.loop-depth.invariant.place c.load.ensures c.block_of-block.ensures

pub loop-depth-init : goal.loop-depth-init
loop-depth-init g c = record { found = λ found e. e; place = refl; few = omega arith }

pub returns-then-not-is_there-clause-places : goal.returns-then-not-is_there-clause-places
returns-then-not-is_there-clause-places g c found e =
    let image = current_words (g.R.Region.memory c.args.region.now) in
    let in_snapshot : ℕ → Bool = has c.args.snapshot_blocks.now in
    let way = c.args.way.now.items in
    let d : ℕ = c.loop-depth.depth in
    let low : d < length way = omega (arith, c.loop-depth-test.true, c.len-end.ensures.value) in
    let none : is_there_now image (take d way) ≡ false = sym c.is_there.ensures ∙ c.if-not-is_there.true in
    let all : length way - d + d ≡ length way = omega (arith, low) in
    let ends = found-ends image c.requires.well_formed way c.requires.way in_snapshot found d (length way - d) low none (omega (arith, low)) in
    c.loop-depth.invariant.found found e ∙ ap (map (address image)) (sym ends ∙ ap (found_on image in_snapshot found way) all)

pub load-requires : goal.load-requires
load-requires g c =
    let low : c.loop-depth.depth < length c.args.way.now.items = omega (arith, c.loop-depth-test.true, c.len-end.ensures.value) in
    let inside = place_inside _ c.requires.well_formed _ c.requires.way _ low (sym c.is_there.ensures ∙ c.if-not-is_there.false) in
    omega (arith, inside, c.loop-depth.invariant.place, length_now (g.R.Region.memory c.args.region.now))

pub overflow_cast-block : goal.overflow_cast-block
overflow_cast-block g c = omega (arith, (looked g (goal.at.overflow_cast-block g c).After-block_of-block).fits)

pub is_free-requires : goal.is_free-requires
is_free-requires g c = omega (arith, (looked g (goal.at.is_free-requires g c).After-block_of-block).inside, c.requires.snapshot_blocks)

pub overflow_add-place : goal.overflow_add-place
overflow_add-place g c =
    let at = looked g (goal.at.overflow_add-place g c).After-block_of-block in
    omega (arith, at.fits, at.slot, c.from.ensures ∙ ap (λ xs. get_or xs c.loop-depth.depth 0) c.deref.ensures.0)

pub loop-depth-preserved : goal.loop-depth-preserved
loop-depth-preserved g c =
    let image = current_words (g.R.Region.memory c.args.region.now) in
    let in_snapshot : ℕ → Bool = has c.args.snapshot_blocks.now in
    let way = c.args.way.now.items in
    let d : ℕ = c.loop-depth.depth in
    let at = looked g (goal.at.loop-depth-preserved g c).After-block_of-block in
    let step = c.loop-depth.invariant in
    let is : is_in_snapshot_at image in_snapshot (take d way) ≡ c.is_free.result = at.kept in_snapshot ∙ sym c.is_free.ensures in
    let next : 512 * c.block_of-block.result + c.from.result ≡ address image (take (d + 1) way) =
    omega (arith, at.next, c.from.ensures ∙ ap (λ xs. get_or xs d 0) c.deref.ensures.0) in
    elim c.if-is_free.branch [
      | then-is_free w ↦
          rw w.places-is
          (record {
            found = λ found e.
                add_step image in_snapshot found way d _ _ _ (step.found found e) step.place (is ∙ w.if-is_free.true) w.add_place.ensures.old w.add_place.ensures.new;
            place = next;
            few = omega (arith, w.add_place.ensures.few, step.few);
          })
      | else-is_free w ↦
          rw w.places-is
          (record {
            found = λ found e. step.found found e ∙ ap (map (address image)) (sym (found-passes image in_snapshot found way d (is ∙ w.if-is_free.false)));
            place = next;
            few = omega (arith, step.few);
          })
    ]

pub returns-clause-places : goal.returns-clause-places
returns-clause-places g c found e =
    let image = current_words (g.R.Region.memory c.args.region.now) in
    let end : c.loop-depth.depth ≡ length c.args.way.now.items = omega (arith, c.loop-depth-test.false, c.loop-depth.auto.depth-end, c.len-end.ensures.value) in
    c.loop-depth.invariant.found found e ∙ ap (λ n. map (address image) (found_on image (has c.args.snapshot_blocks.now) found c.args.way.now.items n)) end
