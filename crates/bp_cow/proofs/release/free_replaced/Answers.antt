use Rattle.std.proofs.Common.{◌≡◌, ℕ, List, ◌+◌, ◌<◌, ◌∙◌, ap, sym, subst, arith, length, Bool}
use Rattle.bp_free.specs.Set.{TakesNumber, has}
use Rattle.pm_region.specs.Memory.{current_words}
use Rattle.bp_cow.specs.Job.{ways}
use Rattle.bp_cow.specs.Plan.{planned}
use Rattle.bp_cow.specs.Return.{IsBack, CanGive}
use Rattle.bp_cow.specs.Touched.{job_of}
use Rattle.bp_cow.proofs.ReturnLaws.{back_null, back_cover, cover_low, cover_used}
use Rattle.bp_cow.proofs.SkipLaws.{all-begun, back_skip}
use Rattle.bp_cow.proofs.release.free_replaced.Given.{Over}
use Rattle.bp_cow.proofs.release.free_replaced.Goals.{In-loop-i, then-top-ne0, else-top-ne0}
use Rattle.bp_cow.proofs.release.free_replaced.Goals as goal

-- there is another way
more : (g : Over) (c : In-loop-i g) → c.loop-i.i < ways (job_of c.args.touched.now)
more g c = subst (λ n. c.loop-i.i < n) c.ways-ways.ensures c.loop-i-test.true

pub give_loose-requires-clause-in_range : goal.give_loose-requires-clause-in_range
give_loose-requires-clause-in_range g c =
    omega (arith, c.requires.1.1.1.1.0, cover_low c.requires.1.1.0, c.requires.1.1.1.1.1.0)

pub give_loose-requires-clause-known : goal.give_loose-requires-clause-known
give_loose-requires-clause-known g c =
    omega (arith, c.requires.1.1.1.1.0, cover_low c.requires.1.1.0, c.requires.1.1.1.1.1.1.0.room)

pub give_loose-requires-clause-used : goal.give_loose-requires-clause-used
give_loose-requires-clause-used g c =
    let top = c.requires.1.1.1.1.0 in
    let used = cover_used c.requires.1.1.0 (λ null. c.if-top-ne0.true (top ∙ null)) in
    ap (λ (f : ℕ → Bool). f c.args.top) (sym c.requires.1.1.1.0) ∙ ap g.plan.free_after top ∙ used

pub loop-i-init : goal.loop-i-init
loop-i-init g c =
    let left = c.requires.1.1.0 in
    let taken : g.plan.free_after ≡ has c.args.blocks.now = c.requires.1.1.1.0 in
    let top = c.requires.1.1.1.1.0 in
    -- the set that reports what is in the snapshot has the block just if it is in the snapshot
    let reported = c.requires.1.1.1.1.1.1.0.same c.args.top ∙ ap g.plan.in_snapshot top in
    let Back = IsBack (planned g.plan c.args.touched.now) c.args.from 0 c.args.from g.plan.free_after in
    elim c.if-top-ne0.branch [
      | then-top-ne0 w ↦ record {
        back = subst (λ (bs : List Bool). Back (has bs)) (sym w.blocks-is)
            (back_cover left (λ null. w.if-top-ne0.true (top ∙ null))
            (λ loose.
            subst (TakesNumber (has w.give_loose.new.blocks) g.plan.free_after) top
            (subst (λ (f : ℕ → Bool). TakesNumber (has w.give_loose.new.blocks) f c.args.top) (sym taken) (w.give_loose.ensures.given (reported ∙ loose))))
            (λ kept. ap has (w.give_loose.ensures.stays (reported ∙ kept)) ∙ sym taken));
        size = ap (λ (bs : List Bool). length bs) w.blocks-is ∙ w.give_loose.ensures.size;
      }
      | else-top-ne0 w ↦ record {
        back = subst (λ (bs : List Bool). Back (has bs)) (sym w.blocks-is) (subst (λ (f : ℕ → Bool). Back f) taken (back_null left (sym top ∙ w.if-top-ne0.false)));
        size = ap (λ (bs : List Bool). length bs) w.blocks-is;
      }
    ]

pub ways-ways-requires-clause-ends : goal.ways-ways-requires-clause-ends
ways-ways-requires-clause-ends g c = c.requires.1.1.1.1.1.1.1.ends

pub adds_no_block-requires : goal.adds_no_block-requires
adds_no_block-requires g c = c.requires.1.1.1.1.1.1.1

pub way-requires-clause-i : goal.way-requires-clause-i
way-requires-clause-i g c = more g (goal.at.way-requires-clause-i g c).In-loop-i

pub way-requires-clause-shared : goal.way-requires-clause-shared
way-requires-clause-shared g c = c.requires.1.1.1.1.1.1.1

pub give_way-requires : goal.give_way-requires
give_way-requires g c κs within =
    let plan = planned g.plan c.args.touched.now in
    let now = current_words (g.R.Region.memory c.args.region.now) in
    let left = c.requires.1.1.0 in
    let here = more g (goal.at.give_way-requires g c).In-loop-i in
    let can : CanGive plan c.args.from c.loop-i.i c.args.from c.loop-i.blocks now = record {
      left = left;
      way = record { can = left.can; here = here; low = omega arith; high = left.can.below c.loop-i.i here };
      back = c.loop-i.invariant.back;
      fits = omega (arith, c.requires.1.1.1.1.1.0, c.loop-i.invariant.size);
    } in
    let can_give = subst (λ (n : ℕ). CanGive plan c.args.from n c.args.from c.loop-i.blocks now) (sym c.way.ensures.index) can in
    (within, (c.requires.1.0, (c.way.ensures.way, (can_give, (c.requires.1.1.1.1.0, c.requires.1.1.1.1.1.1.0)))))

pub loop-i-preserved-then-adds_no_block : goal.loop-i-preserved-then-adds_no_block
loop-i-preserved-then-adds_no_block g c =
    let touched = c.args.touched.now in
    let here = more g (goal.at.loop-i-preserved-then-adds_no_block g c).In-loop-i in
    let begun = all-begun touched c.args.from c.loop-i.i (c.adds_no_block.ensures.none c.if-adds_no_block.true) in
    record { back = back_skip (planned g.plan touched) c.args.from c.loop-i.i _ _ _ c.requires.1.1.0 here begun c.loop-i.invariant.back; size = c.loop-i.invariant.size }

pub loop-i-preserved : goal.loop-i-preserved
loop-i-preserved g c =
    let Back = λ (n : ℕ). IsBack (planned g.plan c.args.touched.now) c.args.from (n + 1) c.args.from g.plan.free_after (has c.give_way.new.blocks) in
    record { back = subst Back c.way.ensures.index c.give_way.ensures.back; size = c.give_way.ensures.size ∙ c.loop-i.invariant.size }

pub returns-clause-back : goal.returns-clause-back
returns-clause-back g c =
    let end : c.loop-i.i ≡ ways (job_of c.args.touched.now) = omega (arith, c.loop-i-test.false, c.loop-i.auto.i-end, c.ways-ways.ensures) in
    subst (λ n. IsBack (planned g.plan c.args.touched.now) c.args.from n c.args.from g.plan.free_after (has c.loop-i.blocks)) end c.loop-i.invariant.back
