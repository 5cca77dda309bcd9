use Rattle.std.proofs.Common.{◌∙◌, sym, arith, ltb-true, ltb-false}
use Rattle.bp_append.specs.Visited.{links_in}
use Rattle.bp_append.proofs.LinkLaws.{no_links_done, links_done}
use Rattle.bp_append.proofs.prepare.link.Goals.{then-hangs-via-then-hangs, then-hangs-via-else-hangs+then-roots}
use Rattle.bp_append.proofs.prepare.link.Goals as goal

pub returns-then-hangs : goal.returns-then-hangs
returns-then-hangs g c =
    links_done (g.R.Region.memory c.args.region.now) (g.R.Region.memory c.barrier.new.self) (g.R.Region.memory c.change_hung-hangs.new.region) (g.R.Region.memory c.change-roots.new.region) (links_in c.args.hung) c.args.place c.args.root
    c.barrier.ensures c.change_hung-hangs.ensures.adds c.change-roots.ensures.adds (g.R.Region.memory c.barrier-then-hangs.new.self) c.barrier-then-hangs.ensures
    (elim c.then-hangs.branch [
      | then-hangs-via-then-hangs w ↦ let some = ltb-true _ _ (sym c.change_hung-hangs.ensures.reports ∙ w.if-hangs.true) in omega (arith, some)
      | then-hangs-via-else-hangs+then-roots w ↦ let some = ltb-true _ _ (sym c.change-roots.ensures.reports ∙ w.if-roots.true) in omega (arith, some)
    ])

pub returns-else-roots : goal.returns-else-roots
returns-else-roots g c =
    no_links_done (g.R.Region.memory c.args.region.now) (g.R.Region.memory c.barrier.new.self) (g.R.Region.memory c.change_hung-hangs.new.region) (g.R.Region.memory c.change-roots.new.region) (links_in c.args.hung) c.args.place c.args.root
    c.barrier.ensures c.change_hung-hangs.ensures.adds c.change-roots.ensures.adds (ltb-false _ _ (sym c.change_hung-hangs.ensures.reports ∙ c.if-hangs.false)) (ltb-false _ _ (sym c.change-roots.ensures.reports ∙ c.if-roots.false))
