use Rattle.std.proofs.Common.{◌≡◌, length, refl, ◌∙◌, arith}
use Rattle.std.proofs.lemmas.List.{length-set}
use Rattle.bp_roles.proofs.SeenLaws.{stored_at-inside}
use Rattle.bp_roles.proofs.HeadLaws.{head-more, head-whole}
use Rattle.bp_roles.proofs.region.RegionByRoles.head_of.Goals as goal

pub loop-word-init : goal.loop-word-init
loop-word-init g c = (refl, refl)

pub load-requires : goal.load-requires
load-requires g c =
    let memory = g.R.Region.memory c.args.region.now in
    omega (arith, c.stored_at.ensures, stored_at-inside c.args.places.now (length memory.base) c.loop-word.word c.requires (omega (arith, c.loop-word-test.true, c.requires)))

pub loop-word-preserved : goal.loop-word-preserved
loop-word-preserved g c = (
  length-set c.loop-word.head c.loop-word.word c.swapped.result ∙ c.loop-word.invariant.0,
  head-more c.args.places.now (g.R.Region.memory c.args.region.now) c.requires c.loop-word.head c.loop-word.word c.stored_at.result c.load.result c.swapped.result
      c.loop-word-test.true c.loop-word.invariant.0 c.stored_at.ensures c.load.ensures c.swapped.ensures c.loop-word.invariant.1,
)

pub returns : goal.returns
returns g c =
    let end : c.loop-word.word ≡ 8 = omega (arith, c.loop-word-test.false, c.loop-word.auto.word-end) in
    head-whole c.args.places.now (g.R.Region.memory c.args.region.now) c.loop-word.head c.loop-word.word end c.loop-word.invariant.0 c.loop-word.invariant.1
