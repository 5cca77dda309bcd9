use Rattle.bp_plain.proofs.Kept.{same_bytes}
use Rattle.bp_plain.proofs.Renamed.{name_added}
use Rattle.bp_plain.proofs.paths.add_names.Goals as goal

pub loop-name-preserved : goal.loop-name-preserved
loop-name-preserved c =
    name_added c.loop-name.path.items c.push.new.self.items c.args.names.now c.loop-name.name-index c.name-item.result c.in_ok-clone.field-0 _
    c.loop-name-test.true c.name-item.is c.in_ok-push.ensures.items (same_bytes _ _ c.in_ok-clone.ensures.cases) c.loop-name.invariant
