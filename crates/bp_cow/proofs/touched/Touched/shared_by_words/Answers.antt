use Rattle.std.proofs.Common.{◌≡◌, ◌<◌, refl, subst, arith}
use Rattle.std.specs.Prelude.{◌↔◌}
use Rattle.bp_layout.specs.WordPaths.{WordPath}
use Rattle.bp_cow.specs.Touched.{above, path_of, word_paths}
use Rattle.bp_cow.specs.Ways.{IsShared}
use Rattle.bp_cow.proofs.SharedLaws.{AreAlike, shared-next, shared-none}
use Rattle.bp_cow.proofs.touched.Touched.shared_by_words.Goals as goal

pub loop-k-init : goal.loop-k-init
loop-k-init c = shared-none (λ k. above (path_of (word_paths c.args.self.now) k)) c.args.slots.now.items

pub loop-k-preserved : goal.loop-k-preserved
loop-k-preserved c d =
    let path = c.args.slots.now.items in
    let other = above (path_of (word_paths c.args.self.now) c.loop-k.k) in
    let n = c.common.result in
    let is : AreAlike c.as_slice.result.now c.word_way.result.now n = record {
      here = c.common.ensures.these;
      there = c.common.ensures.those;
      same = c.common.ensures.same;
      most = c.common.ensures.most;
    } in
    let alike : AreAlike path other n =
    subst (λ (p : WordPath). AreAlike p other n) c.as_slice.ensures.value
    (subst (λ (p : WordPath). AreAlike c.as_slice.result.now p n) c.word_way.ensures is) in
    let both = shared-next (λ k. above (path_of (word_paths c.args.self.now) k)) c.loop-k.k path other c.loop-k.shared n refl c.loop-k.invariant alike d in
    (λ low. both.0 (omega (arith, low, c.max-shared.ensures)), λ s. let low = both.1 s in omega (arith, low, c.max-shared.ensures))

pub returns : goal.returns
returns c d =
    let end : c.loop-k.k ≡ c.args.count = omega (arith, c.loop-k-test.false, c.loop-k.auto.k-end) in
    subst (λ n. (d < c.loop-k.shared) ↔ IsShared (λ k. above (path_of (word_paths c.args.self.now) k)) n c.args.slots.now.items d) end (c.loop-k.invariant d)
