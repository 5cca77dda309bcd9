use Rattle.std.proofs.Common.{refl}
use Rattle.bp_roles.specs.Mounted.{by_roles}
use Rattle.bp_shell.proofs.ExportingLaws.{export_stopped, export_reported, stands_for_tree}
use Rattle.bp_shell.proofs.OpeningLaws.{stays_equal}
use Rattle.bp_shell.proofs.export.export_file.Goals as goal

pub returns-in-Ok-clause-outcome : goal.returns-in-Ok-clause-outcome
returns-in-Ok-clause-outcome g c = λ source.
    let found = c.in-Ok.ensures.holds in
    let stood = stands_for_tree (by_roles c.in-Ok.region.memory.base) found.well_formed in
    export_reported _ _ (record { left = refl; file = stays_equal _ _ (c.examine.ensures.reads.kept c.args.name.now) }) c.examine.ensures.flushed refl stood.0 _
    (record { image = c.in-Ok.region.memory.base; found = found; stands = stood.1 }) (c.report_tree.ensures stood.0 stood.1) c.in-Ok.ensures.cause.same

pub returns-in-Err-clause-outcome : goal.returns-in-Err-clause-outcome
returns-in-Err-clause-outcome g c = λ source.
    export_stopped _ _ (record { left = refl; file = stays_equal _ _ (c.examine.ensures.reads.kept c.args.name.now) }) c.examine.ensures.flushed refl _ _ c.in-Err.ensures.reason c.in-Err.ensures.cause.failed c.in-Err.ensures.cause.others c.report_stop.ensures
