use Rattle.std.proofs.Common.{◌≡◌, ◌<◌, ◌≤◌, ◌/◌, ◌+◌, sym, ◌∙◌, ap, subst, arith}
use Rattle.pm_region.specs.Memory.{current_words}
use Rattle.pm_region.proofs.MemoryLaws.{length-current_words}
use Rattle.bp_layout.specs.Words.{block_count}
use Rattle.bp_changes.specs.Trail.{block_on, trail_of}
use Rattle.bp_cow.specs.Cover.{end_path, BeginAlike}
use Rattle.bp_cow.proofs.CoverLaws.{at-next, at-start, at-word, some-ends}
use Rattle.bp_cow.proofs.covers.find_cover.Given.{Over}
use Rattle.bp_cow.proofs.covers.find_cover.Goals.{After-block_of-block}
use Rattle.bp_cow.proofs.covers.find_cover.Goals as goal

-- all paths begin alike for one slot more
longer : (g : Over) (c : After-block_of-block g) → BeginAlike c.args.touched.now (c.loop-found.found.len + 1)
longer g c = let more : c.loop-found.found.len + 1 ≤ c.alike-alike.result = omega (arith, c.loop-found-test.true) in (c.alike-alike.ensures (c.loop-found.found.len + 1)).0 more

-- the loaded pointer is the one there, and leads to a block of the image
leads : (g : Over) (c : After-block_of-block g) → c.block_of-block.result ≡ block_on (current_words (g.R.Region.memory c.args.region.now)) (trail_of (end_path c.args.touched.now 0) c.loop-found.found.len)
leads g c =
    let word_is = at-word (current_words (g.R.Region.memory c.args.region.now)) c.args.touched.now c.loop-found.found c.loop-found.invariant in
    c.block_of-block.ensures ∙ ap (λ w. w / 4096) (c.load.ensures ∙ word_is)

in_range : (g : Over) (c : After-block_of-block g) → c.block_of-block.result < block_count (current_words (g.R.Region.memory c.args.region.now))
in_range g c =
    let image = current_words (g.R.Region.memory c.args.region.now) in
    subst (λ b. b < block_count image) (sym (leads g c)) (c.requires.in_range c.loop-found.found.len (longer g c))

pub loop-found-init : goal.loop-found-init
loop-found-init g c = at-start (current_words (g.R.Region.memory c.args.region.now)) c.args.touched.now c.requires.some

pub load-requires : goal.load-requires
load-requires g c = omega (arith, c.loop-found.invariant.low, length-current_words (g.R.Region.memory c.args.region.now))

pub returns-then-block-eq0 : goal.returns-then-block-eq0
returns-then-block-eq0 g c =
    let image = current_words (g.R.Region.memory c.args.region.now) in
    record {
      at = c.loop-found.invariant;
      has = record {
        alike = c.loop-found.invariant.alike;
        exists = c.loop-found.invariant.exists;
        longest = λ more. ap (λ w. w / 4096) (sym (c.load.ensures ∙ at-word image c.args.touched.now c.loop-found.found c.loop-found.invariant)) ∙ sym c.block_of-block.ensures ∙ c.if-block-eq0.true;
      };
    }

pub end_slot-slot-requires-clause-i : goal.end_slot-slot-requires-clause-i
end_slot-slot-requires-clause-i g c = some-ends c.args.touched.now c.requires.touched

pub end_slot-slot-requires-clause-depth : goal.end_slot-slot-requires-clause-depth
end_slot-slot-requires-clause-depth g c =
    let more : c.loop-found.found.len + 1 ≤ c.alike-alike.result = omega (arith, c.loop-found-test.true) in
    let alike = (c.alike-alike.ensures (c.loop-found.found.len + 1)).0 more in
    omega (arith, alike.long 0 (some-ends c.args.touched.now c.requires.touched))

pub overflow_mul-found : goal.overflow_mul-found
overflow_mul-found g c =
    let range = in_range g (goal.at.overflow_mul-found g c).After-block_of-block in
    omega (arith, range, length-current_words (g.R.Region.memory c.args.region.now), c.words-words.ensures, c.words-words.type_inv)

pub overflow_add-found-in-loop-found : goal.overflow_add-found-in-loop-found
overflow_add-found-in-loop-found g c =
    let at = (goal.at.overflow_add-found-in-loop-found g c).After-block_of-block in
    let image = current_words (g.R.Region.memory c.args.region.now) in
    let next =
    at-next image c.args.touched.now c.loop-found.found c.requires.touched c.loop-found.invariant (longer g at) c.block_of-block.result c.end_slot-slot.result c.if-block-eq0.false (leads g at)
    (in_range g at) c.end_slot-slot.ensures in
    omega (arith, next.low, length-current_words (g.R.Region.memory c.args.region.now), c.words-words.ensures, c.words-words.type_inv)

pub loop-found-preserved : goal.loop-found-preserved
loop-found-preserved g c =
    let at = (goal.at.loop-found-preserved g c).After-block_of-block in
    let image = current_words (g.R.Region.memory c.args.region.now) in
    at-next image c.args.touched.now c.loop-found.found c.requires.touched c.loop-found.invariant (longer g at) c.block_of-block.result c.end_slot-slot.result c.if-block-eq0.false (leads g at)
    (in_range g at) c.end_slot-slot.ensures
