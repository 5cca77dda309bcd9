use Rattle.std.proofs.Common.{◌≡◌, ℕ, ◌<◌, false, get_or, length, take, sym, ◌∙◌, ap, refl, arith}
use Rattle.std.proofs.Math.Seq.{take-length}
use Rattle.pm_region.specs.Memory.{current_words}
use Rattle.bp_read.proofs.RegionWords.{length_now}
use Rattle.bp_layout.specs.Words.{block_of}
use Rattle.bp_thaw.specs.Copies.{is_copied}
use Rattle.bp_thaw.proofs.AllStored.{any_source}
use Rattle.bp_thaw.proofs.CopySteps.{item_here, one_more_taken}
use Rattle.bp_thaw.proofs.LinkSteps.{not_copied_more}
use Rattle.bp_thaw.proofs.links.is_copied.Goals as goal

pub loop-i-init : goal.loop-i-init
loop-i-init g c = record { none = refl }

pub load-requires : goal.load-requires
load-requires g c =
    let copies = c.args.copies.now.items in
    let low : c.loop-i.i < length copies = omega (arith, c.loop-i-test.true, c.len-i-end.ensures.value) in
    omega (arith, c.requires _ (item_here copies c.loop-i.i (0, 0) _ low (ap (λ cs. get_or cs c.loop-i.i (0, 0)) (sym c.deref.ensures.0))), length_now (g.R.Region.memory c.args.region.now))

pub loop-i-preserved : goal.loop-i-preserved
loop-i-preserved g c =
    let copies = c.args.copies.now.items in
    let image = current_words (g.R.Region.memory c.args.region.now) in
    let low : c.loop-i.i < length copies = omega (arith, c.loop-i-test.true, c.len-i-end.ensures.value) in
    let item : ℕ × ℕ = get_or c.deref.result.now c.loop-i.i (0, 0) in
    let is : get_or copies c.loop-i.i (0, 0) ≡ item = ap (λ cs. get_or cs c.loop-i.i (0, 0)) (sym c.deref.ensures.0) in
    record {
      none = one_more_taken (λ cs. is_copied image cs c.args.block ≡ false) copies c.loop-i.i item low is
          (not_copied_more image (take c.loop-i.i copies) item c.args.block c.loop-i.invariant.none
          (λ e. c.if-block_of-block.false (c.block_of.ensures ∙ ap block_of c.load.ensures ∙ e)));
    }

pub returns-then-block_of-block : goal.returns-then-block_of-block
returns-then-block_of-block g c =
    let copies = c.args.copies.now.items in
    let image = current_words (g.R.Region.memory c.args.region.now) in
    let low : c.loop-i.i < length copies = omega (arith, c.loop-i-test.true, c.len-i-end.ensures.value) in
    let item : ℕ × ℕ = get_or c.deref.result.now c.loop-i.i (0, 0) in
    let is : get_or copies c.loop-i.i (0, 0) ≡ item = ap (λ cs. get_or cs c.loop-i.i (0, 0)) (sym c.deref.ensures.0) in
    sym (any_source image copies item c.args.block (item_here copies c.loop-i.i (0, 0) item low is)
    (sym (ap block_of c.load.ensures) ∙ sym c.block_of.ensures ∙ c.if-block_of-block.true))

pub returns : goal.returns
returns g c =
    let copies = c.args.copies.now.items in
    let end : c.loop-i.i ≡ length copies = omega (arith, c.loop-i-test.false, c.loop-i.auto.i-end, c.len-i-end.ensures.value) in
    sym c.loop-i.invariant.none ∙ ap (λ cs. is_copied (current_words (g.R.Region.memory c.args.region.now)) cs c.args.block) (ap (λ n. take n copies) end ∙ take-length copies)
