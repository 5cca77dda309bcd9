use Rattle.std.proofs.Common.{◌≡◌, ℕ, ◌+◌, ◌<◌, List, [], ◌∷◌, ◌++◌, get_or, length, map, take, refl, rules, sym, ◌∙◌, ap, arith}
use Rattle.std.proofs.lemmas.List.{take_more}
use Rattle.std.proofs.Math.Seq.{take-length}
use Rattle.arrayvec.specs.ArrayVec.{ArrayVec}
use Rattle.pm_region.specs.Memory.{current_words}
use Rattle.bp_free.specs.Set.{has}
use Rattle.bp_layout.specs.WordPaths.{WordPath, address}
use Rattle.bp_layout.proofs.MemberLaws.{has-map}
use Rattle.bp_thaw.specs.Prefixes.{found_in}
use Rattle.bp_thaw.proofs.CopySteps.{item_here, map-more}
use Rattle.bp_thaw.proofs.FindSteps.{found_in-more}
use Rattle.bp_thaw.proofs.find.find.Goals as goal

-- one more way
one_way : (ways : List (ArrayVec ℕ)) (i : ℕ) (way : ArrayVec ℕ) → i < length ways → get_or ways i way ≡ way → map (λ path. path.items) (take (i + 1) ways) ≡ map (λ (path : ArrayVec ℕ). path.items) (take i ways) ++ way.items ∷ []
one_way ways i way low is = ap (map (λ (path : ArrayVec ℕ). path.items)) (take_more ways i way low ∙ ap (λ x. take i ways ++ x ∷ []) is) ∙ map-more (λ (path : ArrayVec ℕ). path.items) (take i ways) way

pub loop-i-init : goal.loop-i-init
loop-i-init g c = rw c.new-places.ensures (record { found = refl; few = search rules })

pub find_on-requires-clause-way : goal.find_on-requires-clause-way
find_on-requires-clause-way g c =
    let ways = c.args.ways.now.items in
    let low : c.loop-i.i < length ways = omega (arith, c.loop-i-test.true, c.len-i-end.ensures.value) in
    let way = c.index-deref-i.result in
    let is : get_or ways c.loop-i.i way ≡ way = ap (λ ws. get_or ws c.loop-i.i way) (sym c.deref.ensures.0) ∙ sym c.index-deref-i.is in
    c.requires.ways way.items (has-map (λ (path : ArrayVec ℕ). path.items) ways way (item_here ways c.loop-i.i way way low is))

pub loop-i-preserved : goal.loop-i-preserved
loop-i-preserved g c =
    let image = current_words (g.R.Region.memory c.args.region.now) in
    let in_snapshot = has c.args.snapshot_blocks.now in
    let ways = c.args.ways.now.items in
    let low : c.loop-i.i < length ways = omega (arith, c.loop-i-test.true, c.len-i-end.ensures.value) in
    let way = c.index-deref-i.result in
    let is : get_or ways c.loop-i.i way ≡ way = ap (λ ws. get_or ws c.loop-i.i way) (sym c.deref.ensures.0) ∙ sym c.index-deref-i.is in
    let before : List WordPath = map (λ (path : ArrayVec ℕ). path.items) (take c.loop-i.i ways) in
    record {
      found = c.find_on.ensures.places (found_in image in_snapshot [] before) c.loop-i.invariant.found
          ∙ ap (map (address image)) (sym (found_in-more image in_snapshot [] before way.items))
          ∙ ap (λ ps. map (address image) (found_in image in_snapshot [] ps)) (sym (one_way ways c.loop-i.i way low is));
      few = omega (arith, c.find_on.ensures.few, c.loop-i.invariant.few);
    }

pub returns : goal.returns
returns g c =
    let ways = c.args.ways.now.items in
    let image = current_words (g.R.Region.memory c.args.region.now) in
    let end : c.loop-i.i ≡ length ways = omega (arith, c.loop-i-test.false, c.loop-i.auto.i-end, c.len-i-end.ensures.value) in
    c.loop-i.invariant.found ∙ ap (λ ps. map (address image) (found_in image (has c.args.snapshot_blocks.now) [] (map (λ path. path.items) ps))) (ap (λ n. take n ways) end ∙ take-length ways)
