use Rattle.std.proofs.Common.{◌≡◌, ◌<◌, get_or, length, take, sym, ◌∙◌, ap, subst, arith}
use Rattle.std.proofs.Math.Seq.{take-length}
use Rattle.bp_thaw.proofs.CopySteps.{HasFilled, filled_next, filled_none, next_can}
use Rattle.bp_thaw.proofs.copies.fill_all.Goals as goal

pub loop-i-init : goal.loop-i-init
loop-i-init g c = record { filled = filled_none c.args.copies.now.items (g.R.Region.memory c.args.region.now) }

pub fill_copy-requires : goal.fill_copy-requires
fill_copy-requires g c =
    let low : c.loop-i.i < length c.args.copies.now.items = omega (arith, c.loop-i-test.true, c.len-i-end.ensures.value) in
    let next = next_can _ _ _ _ _ c.requires c.loop-i.invariant.filled low (ap (λ cs. get_or cs c.loop-i.i (0, 0)) (sym c.deref.ensures.0)) in
    record { apart = c.requires.places; place = next.place; present = next.present; block = next.block; copy = next.fills }

pub loop-i-preserved : goal.loop-i-preserved
loop-i-preserved g c =
    let low : c.loop-i.i < length c.args.copies.now.items = omega (arith, c.loop-i-test.true, c.len-i-end.ensures.value) in
    let is = ap (λ cs. get_or cs c.loop-i.i (0, 0)) (sym c.deref.ensures.0) in
    let reported = c.fill_copy.ensures in
    record { filled = filled_next _ _ _ _ _ c.requires c.loop-i.invariant.filled low is (g.R.Region.memory c.fill_copy.new.region) reported.fills reported.words }

pub returns : goal.returns
returns g c =
    let copies = c.args.copies.now.items in
    let end : c.loop-i.i ≡ length copies = omega (arith, c.loop-i-test.false, c.loop-i.auto.i-end, c.len-i-end.ensures.value) in
    let whole = ap (λ n. take n copies) end ∙ take-length copies in
    let all = subst (λ cs. HasFilled copies cs (g.R.Region.memory c.args.region.now) (g.R.Region.memory c.loop-i.region)) whole c.loop-i.invariant.filled in
    record { part = all.part; stored = all.stored; words = all.words }
