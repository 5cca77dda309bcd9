use Rattle.std.proofs.Common.{◌≡◌, ℕ, ◌<◌, ◌≤◌, List, [], ◌∷◌, ◌++◌, length, take, sym, ◌∙◌, ap, arith}
use Rattle.std.specs.List.{slice_index}
use Rattle.std.proofs.lemmas.List.{take_all, take_more}
use Rattle.bp_cow.specs.Touched.{run_path, run_way}
use Rattle.bp_cow.proofs.CoverLaws.{run-slots}
use Rattle.bp_cow.proofs.RunLaws.{length-run_path, length-run_way, slot-run_way}
use Rattle.bp_cow.proofs.ways.Leaf.slots.Goals as goal

pub overflow_cast-slot : goal.overflow_cast-slot
overflow_cast-slot c =
    let run = c.args.self.now.run.now in
    let word = c.first_word-word.result in
    let low : c.loop-depth.depth < length (run_path run word) = omega (arith, c.loop-depth-test.true, c.len.ensures.value, length-run_path run word) in
    omega (arith, c.slot.ensures, run-slots run word c.loop-depth.depth c.requires.run low)

pub loop-depth-preserved : goal.loop-depth-preserved
loop-depth-preserved c =
    let run = c.args.self.now.run.now in
    let index = c.args.self.now.index in
    let depth = c.loop-depth.depth in
    let way : List ℕ = run_way run index in
    let low : depth < length way = omega (arith, c.loop-depth-test.true, c.len.ensures.value, length-run_way run index) in
    let slot : c.slot.result ≡ slice_index way depth = c.slot.ensures ∙ ap (λ w. slice_index (run_path run w) depth) c.first_word-word.ensures ∙ slot-run_way run index depth low in
    record {
      path = c.push.ensures.items ∙ ap (λ (p : List ℕ). p ++ c.slot.result ∷ []) c.loop-depth.invariant.path ∙ ap (λ s. take depth way ++ s ∷ []) slot ∙ sym (take_more way depth 0 low);
      len = omega (arith, c.push.ensures.len, c.loop-depth.invariant.len);
    }

pub returns : goal.returns
returns c =
    let run = c.args.self.now.run.now in
    let index = c.args.self.now.index in
    let past : length (run_way run index) ≤ c.loop-depth.depth = omega (arith, c.loop-depth-test.false, c.len.ensures.value, length-run_way run index) in
    c.loop-depth.invariant.path ∙ take_all c.loop-depth.depth (run_way run index) past
