use Rattle.std.proofs.Common.{◌≡◌, ◌+◌, ◌-◌, ◌++◌, sym, ap, subst, arith, slice_index}
use Rattle.std.specs.Prelude.{All}
use Rattle.std.proofs.lemmas.Result.{err_from_is_err_and}
use Rattle.bp_layout.specs.Inode.{attributes_of}
use Rattle.bp_layout.specs.Reached.IsReached.{inode_file}
use Rattle.bp_layout.proofs.Reached.{reached-in_file}
use Rattle.bp_plain.specs.Export.{set_of}
use Rattle.bp_script.specs.Export.{FitsText}
use Rattle.pm_region.specs.Memory.{current_words}
use Rattle.pm_region.proofs.MemoryLaws.{length-current_words}
use Rattle.bp_export.specs.Report.{attribute_call}
use Rattle.bp_export.proofs.AttributeLines.{loaded, place_low}
use Rattle.bp_export.proofs.CallsInRow.{all_at, calls_from, calls_until, one_more, split_round}
use Rattle.bp_export.proofs.ReportLaws.{fails_before, reports_as, reports_same, reports_then}
use Rattle.bp_export.proofs.attributes.export_each.Goals as goal

pub place-first-requires-clause-sound : goal.place-first-requires-clause-sound
place-first-requires-clause-sound g c = c.requires.inode.well_formed.sound 0 inode_file

pub place-first-requires-clause-there : goal.place-first-requires-clause-there
place-first-requires-clause-there g c = reached-in_file (current_words (g.R.Region.memory c.args.region.now)) c.requires.inode.well_formed c.args.ino c.requires.inode.reached

pub load-value-requires : goal.load-value-requires
load-value-requires g c =
    let image = current_words (g.R.Region.memory c.args.region.now) in
    let there = reached-in_file image c.requires.inode.well_formed c.args.ino c.requires.inode.reached in
    omega (
      arith,
      place_low image c.args.ino c.place-first.result c.place-first.ensures.place (c.requires.inode.well_formed.sound 0 inode_file) there c.loop-number.number (omega (arith, c.loop-number-test.true)),
      length-current_words (g.R.Region.memory c.args.region.now),
    )

pub export_attribute-requires : goal.export_attribute-requires
export_attribute-requires g c =
    let image = current_words (g.R.Region.memory c.args.region.now) in
    let value : c.load-value.result ≡ slice_index (attributes_of image c.args.ino) c.loop-number.number =
    loaded image c.args.ino c.place-first.result c.loop-number.number c.load-value.result c.place-first.ensures.place c.requires.inode.some (omega (arith, c.loop-number-test.true)) (sym c.requires.inode.known) c.load-value.ensures (omega arith) in
    subst (λ w. All FitsText (attribute_call c.args.path.now c.loop-number.number w)) (sym value)
    (all_at (set_of c.args.path.now (attributes_of image c.args.ino)) FitsText c.loop-number.number 3 (omega (arith, c.loop-number-test.true)) c.requires.short)

pub returns-in_err-export_attribute : goal.returns-in_err-export_attribute
returns-in_err-export_attribute g c =
    let image = current_words (g.R.Region.memory c.args.region.now) in
    let sets = set_of c.args.path.now (attributes_of image c.args.ino) in
    let k = c.loop-number.number in
    let value : c.load-value.result ≡ slice_index (attributes_of image c.args.ino) c.loop-number.number =
    loaded image c.args.ino c.place-first.result k c.load-value.result c.place-first.ensures.place c.requires.inode.some (omega (arith, c.loop-number-test.true)) (sym c.requires.inode.known) c.load-value.ensures (omega arith) in
    let p = err_from_is_err_and c.from_residual.result c.from_residual.ensures.1 in
    rw p.1 (
    reports_same _ _ _ _ _ _ _ (split_round sets k 3 (omega (arith, c.loop-number-test.true)))
    (fails_before _ _ (calls_until sets k ++ sets k) (calls_from sets (k + 1) (3 - (k + 1))) _ _ _ _ _
    (reports_then _ _ (calls_until sets k) (sets k) _ _ _ _ _ _ c.loop-number.invariant
    (reports_same _ _ _ _ _ _ _ (ap (attribute_call c.args.path.now k) value) c.in_err-export_attribute.ensures)))
    )

pub loop-number-preserved : goal.loop-number-preserved
loop-number-preserved g c =
    let image = current_words (g.R.Region.memory c.args.region.now) in
    let sets = set_of c.args.path.now (attributes_of image c.args.ino) in
    let k = c.loop-number.number in
    let value : c.load-value.result ≡ slice_index (attributes_of image c.args.ino) c.loop-number.number =
    loaded image c.args.ino c.place-first.result k c.load-value.result c.place-first.ensures.place c.requires.inode.some (omega (arith, c.loop-number-test.true)) (sym c.requires.inode.known) c.load-value.ensures (omega arith) in
    reports_same _ _ _ _ _ _ _ (sym (one_more sets k))
    (reports_then _ _ (calls_until sets k) (sets k) _ _ _ _ _ _ c.loop-number.invariant
    (reports_as _ _ _ _ _ _ _ (reports_same _ _ _ _ _ _ _ (ap (attribute_call c.args.path.now k) value) c.in_ok-export_attribute.ensures)))
