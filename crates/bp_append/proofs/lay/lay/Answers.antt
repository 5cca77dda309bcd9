use Rattle.std.proofs.Common.{◌≡◌, ◌+◌, ◌-◌, ◌*◌, ◌/◌, ◌≤◌, [], ◌∷◌, refl, ◌∙◌, arith}
use Rattle.pm_region.specs.Memory.{current_words}
use Rattle.bp_append.specs.Given.{LaysIn}
use Rattle.bp_append.proofs.IntoLaws.{into_none, into_more}
use Rattle.bp_append.proofs.LaidRuns.{next_laid}
use Rattle.bp_append.proofs.lay.lay.Goals as goal

pub loop-index-init : goal.loop-index-init
loop-index-init g c =
    let old = g.R.Region.memory c.args.region.now in
    let lays = LaysIn (current_words old) c.args.block (c.args.low - c.args.start) (c.args.high - c.args.start) in
    record {
      most = omega (arith, c.requires.in_leaf, c.requires.order, c.requires.some);
      laid = record {
        stores = into_more [] [] lays lays 0 _ old old (λ b m. m) (λ w v m. m) (omega arith) (into_none lays old);
        into = λ less. absurd (omega (arith, less));
        begun = omega arith;
        bytes_are = λ i low high done. absurd (omega (arith, low, done));
        rest = λ k high. refl;
        base = refl;
        room = omega arith;
      };
    }

pub loop-index-preserved : goal.loop-index-preserved
loop-index-preserved g c =
    let place : c.args.block * 512 + c.loop-index.index ≡ 512 * c.args.block + c.loop-index.index = omega arith in
    let most : c.loop-index.index + c.lay_some-index.result ≤ (c.args.high - c.args.start + 7) / 8 = omega (arith, c.lay_some-index.ensures.most, c.loop-index-test.true) in
    record {
      most = omega (arith, most, c.requires.in_leaf);
      laid = next_laid
          c.loop-index.invariant.laid (rw place at c.lay_some-index.ensures.lays) c.requires.order c.lay_some-index.ensures.any (omega (arith, most, c.requires.in_leaf)) (omega (arith, most))
          (omega (arith, c.requires.in_range)) c.requires.room;
    }

pub returns : goal.returns
returns g c =
    let old = g.R.Region.memory c.args.region.now in
    let new = g.R.Region.memory c.loop-index.region in
    let May = LaysIn (current_words old) c.args.block (c.args.low - c.args.start) (c.args.high - c.args.start) in
    let inv = c.loop-index.invariant.laid in
    let few : c.loop-index.index - (c.args.low - c.args.start) / 8 ≤ 512 = omega (arith, c.loop-index.invariant.most) in
    record {
      lays = record {
        stores = into_more [] [] May May (c.loop-index.index - (c.args.low - c.args.start) / 8) 512 old new (λ b m. m) (λ w v m. m) few inv.stores;
        into = λ less.
            into_more (c.args.block ∷ []) (c.args.block ∷ []) May May (c.loop-index.index - (c.args.low - c.args.start) / 8) 512 old new (λ b m. m) (λ w v m. m) few
            (inv.into (omega (arith, less, c.loop-index-test.false, c.requires.order)));
        bytes_are = λ i low high. inv.bytes_are i low high (omega (arith, low, high, c.loop-index-test.false)) ∙ c.bytes_before-given.ensures.before (c.args.start + i) high;
      };
    }
