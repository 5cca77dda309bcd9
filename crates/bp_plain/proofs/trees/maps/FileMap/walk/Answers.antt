use Rattle.std.proofs.Common.{sym, ◌∙◌}
use Rattle.bp_plain.proofs.PathLaws.{in_file, is_missing, walks_on}
use Rattle.bp_plain.proofs.trees.maps.FileMap.walk.Goals as goal

pub returns-then-not-is_dir : goal.returns-then-not-is_dir
returns-then-not-is_dir c =
    sym (in_file c.args.self.now.nodes c.args.path.now c.loop-depth.depth c.loop-depth-test.true (sym c.is_dir.ensures ∙ c.if-not-is_dir.true)) ∙ c.loop-depth.invariant

pub returns-then-not-has : goal.returns-then-not-has
returns-then-not-has c =
    sym (is_missing c.args.self.now.nodes c.args.path.now c.loop-depth.depth c.loop-depth-test.true (sym c.is_dir.ensures ∙ c.if-not-is_dir.false) (sym c.has.ensures ∙ c.if-not-has.true))
    ∙ c.loop-depth.invariant

pub loop-depth-preserved : goal.loop-depth-preserved
loop-depth-preserved c =
    walks_on c.args.self.now.nodes c.args.path.now c.loop-depth.depth c.loop-depth-test.true (sym c.is_dir.ensures ∙ c.if-not-is_dir.false) (sym c.has.ensures ∙ c.if-not-has.false)
    ∙ c.loop-depth.invariant
