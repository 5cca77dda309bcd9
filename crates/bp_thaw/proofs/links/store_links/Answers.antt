use Rattle.std.proofs.Common.{◌≡◌, ℕ, ◌<◌, [], ◌∷◌, get_or, length, take, sym, ◌∙◌, ap, subst, arith}
use Rattle.std.proofs.Math.Seq.{take-length}
use Rattle.pm_epochs.specs.declared.event.Event.TheVariants.{Barrier}
use Rattle.pm_epochs.specs.May.{links_of}
use Rattle.pm_region.specs.Memory.{Adds}
use Rattle.pm_region.proofs.MemoryLaws.{adds_both, base-adds}
use Rattle.bp_read.proofs.RegionWords.{length_now}
use Rattle.bp_thaw.proofs.CopySteps.{item_here, length-taken, one_more_taken}
use Rattle.bp_thaw.proofs.LinkSteps.{room_stored, store_more}
use Rattle.bp_thaw.proofs.links.store_links.Goals as goal

pub loop-i-init : goal.loop-i-init
loop-i-init g c = record { adds = c.barrier.ensures }

pub store-requires-clause-in_range : goal.store-requires-clause-in_range
store-requires-clause-in_range g c =
    let links = c.args.links.now.items in
    let low : c.loop-i.i < length links = omega (arith, c.loop-i-test.true, c.len-i-end.ensures.value) in
    let here = item_here links c.loop-i.i (0, 0) _ low (ap (λ cs. get_or cs c.loop-i.i (0, 0)) (sym c.deref.ensures.0)) in
    let base = ap length (base-adds (g.R.Region.memory c.args.region.now) (g.R.Region.memory c.loop-i.region) _ c.loop-i.invariant.adds) in
    omega (arith, c.requires.places _ here, length_now (g.R.Region.memory c.args.region.now), base)

pub store-requires-clause-room : goal.store-requires-clause-room
store-requires-clause-room g c =
    let links = c.args.links.now.items in
    let low : c.loop-i.i < length links = omega (arith, c.loop-i-test.true, c.len-i-end.ensures.value) in
    let room = room_stored (g.R.Region.memory c.args.region.now) (g.R.Region.memory c.loop-i.region) (take c.loop-i.i links) c.loop-i.invariant.adds in
    omega (arith, c.requires.room, room, length-taken links c.loop-i.i (omega (arith, low)), low)

pub loop-i-preserved : goal.loop-i-preserved
loop-i-preserved g c =
    let links = c.args.links.now.items in
    let low : c.loop-i.i < length links = omega (arith, c.loop-i-test.true, c.len-i-end.ensures.value) in
    let item : ℕ × ℕ = get_or c.deref.result.now c.loop-i.i (0, 0) in
    let is : get_or links c.loop-i.i (0, 0) ≡ item = ap (λ cs. get_or cs c.loop-i.i (0, 0)) (sym c.deref.ensures.0) in
    record {
      adds = one_more_taken (λ cs. Adds (g.R.Region.memory c.args.region.now) (g.R.Region.memory c.store.new.self) (Barrier ∷ links_of cs)) links c.loop-i.i item low is
          (store_more (g.R.Region.memory c.args.region.now) (g.R.Region.memory c.loop-i.region) (g.R.Region.memory c.store.new.self) (take c.loop-i.i links) item c.loop-i.invariant.adds c.store.ensures);
    }

pub barrier-requires-2 : goal.barrier-requires-2
barrier-requires-2 g c =
    let links = c.args.links.now.items in
    let end : c.loop-i.i ≡ length links = omega (arith, c.loop-i-test.false, c.loop-i.auto.i-end, c.len-i-end.ensures.value) in
    let room = room_stored (g.R.Region.memory c.args.region.now) (g.R.Region.memory c.loop-i.region) (take c.loop-i.i links) c.loop-i.invariant.adds in
    omega (arith, c.requires.room, room, length-taken links c.loop-i.i (omega (arith, end)), end)

pub returns : goal.returns
returns g c =
    let links = c.args.links.now.items in
    let end : c.loop-i.i ≡ length links = omega (arith, c.loop-i-test.false, c.loop-i.auto.i-end, c.len-i-end.ensures.value) in
    let all : Adds (g.R.Region.memory c.args.region.now) (g.R.Region.memory c.loop-i.region) (Barrier ∷ links_of links) =
    subst (λ cs. Adds (g.R.Region.memory c.args.region.now) (g.R.Region.memory c.loop-i.region) (Barrier ∷ links_of cs)) (ap (λ n. take n links) end ∙ take-length links) c.loop-i.invariant.adds in
    adds_both (g.R.Region.memory c.args.region.now) (g.R.Region.memory c.loop-i.region) (g.R.Region.memory c.barrier-2.new.self) (Barrier ∷ links_of links) (Barrier ∷ []) all c.barrier-2.ensures
