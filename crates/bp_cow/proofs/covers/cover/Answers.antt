use Rattle.std.proofs.Common.{◌≡◌, ◌<◌, ℕ, List, [], ◌∷◌, ◌++◌, length, take, ap, sym, ◌∙◌, arith}
use Rattle.std.proofs.lemmas.List.{take_more}
use Rattle.pm_region.specs.Memory.{current_words}
use Rattle.bp_cow.specs.Cover.{end_path}
use Rattle.bp_cow.proofs.CoverLaws.{some-ends, end-short, end-slots}
use Rattle.bp_cow.proofs.CoverOf.{cover_prefix}
use Rattle.bp_cow.proofs.covers.cover.Given.{Over}
use Rattle.bp_cow.proofs.covers.cover.Goals.{In-loop-depth}
use Rattle.bp_cow.proofs.covers.cover.Goals as goal

-- the cover is no longer than the first path
inside : (g : Over) (c : In-loop-depth g) → c.loop-depth.depth < length (end_path c.args.touched.now 0)
inside g c =
    let long = c.find_cover-found.ensures.at.alike.long 0 (some-ends c.args.touched.now c.requires.touched) in
    omega (arith, c.loop-depth-test.true, long)

pub end_slot-requires-clause-i : goal.end_slot-requires-clause-i
end_slot-requires-clause-i g c =
    some-ends c.args.touched.now c.requires.touched

pub end_slot-requires-clause-depth : goal.end_slot-requires-clause-depth
end_slot-requires-clause-depth g c = inside g (goal.at.end_slot-requires-clause-depth g c).In-loop-depth

pub overflow_cast-end_slot : goal.overflow_cast-end_slot
overflow_cast-end_slot g c =
    let touched = c.args.touched.now in
    let low = inside g (goal.at.overflow_cast-end_slot g c).In-loop-depth in
    omega (arith, c.end_slot.ensures, end-slots touched c.requires.touched 0 c.loop-depth.depth (some-ends touched c.requires.touched) low)

pub push-requires : goal.push-requires
push-requires g c =
    let touched = c.args.touched.now in
    let low = inside g (goal.at.push-requires g c).In-loop-depth in
    let short = end-short touched c.requires.touched 0 (some-ends touched c.requires.touched) in
    (omega arith, omega (arith, c.loop-depth.invariant.len, low, short))

pub loop-depth-preserved : goal.loop-depth-preserved
loop-depth-preserved g c =
    let path = end_path c.args.touched.now 0 in
    let depth = c.loop-depth.depth in
    let low = inside g (goal.at.loop-depth-preserved g c).In-loop-depth in
    let pushed = c.push.ensures.items ∙ ap (λ (p : List ℕ). p ++ c.end_slot.result ∷ []) c.loop-depth.invariant.path in
    record {
      path = pushed ∙ ap (λ s. take depth path ++ s ∷ []) c.end_slot.ensures ∙ sym (take_more path depth 0 low);
      len = omega (arith, c.push.ensures.len, c.loop-depth.invariant.len);
    }

pub returns : goal.returns
returns g c =
    let found = c.find_cover-found in
    let end : c.loop-depth.depth ≡ found.result.len = omega (arith, c.loop-depth-test.false, c.loop-depth.auto.depth-end) in
    c.loop-depth.invariant.path ∙ ap (λ n. take n (end_path c.args.touched.now 0)) end
    ∙ cover_prefix c.args.touched.now c.requires.touched (current_words (g.R.Region.memory c.args.region.now)) found.result.len found.ensures.has
