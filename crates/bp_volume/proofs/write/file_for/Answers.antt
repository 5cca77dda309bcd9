use Rattle.std.proofs.Common.{◌≡◌, ◌∙◌, ap, arith}
use Rattle.std.proofs.lemmas.Result.{err_from_is_err_and}
use Rattle.bp_layout.specs.Formatted.{version_of}
use Rattle.bp_limits.specs.CallLimits.{greatest_write}
use Rattle.pm_region.specs.Memory.{current_words}
use Rattle.bp_volume.proofs.FileLaws.{write_stops, write_too_long}
use Rattle.bp_volume.proofs.WalkingLaws.{ok_was}
use Rattle.bp_volume.proofs.write.file_for.Goals as goal

pub returns-then-bytes-greatest_write-clause-refused : goal.returns-then-bytes-greatest_write-clause-refused
returns-then-bytes-greatest_write-clause-refused g c =
    let limit : c.greatest_write.result ≡ greatest_write (version_of (current_words (g.R.Region.memory c.args.region.now))) = c.greatest_write.ensures.write ∙ ap greatest_write c.version.ensures in
    λ offset. write_too_long _ c.args.text.now offset c.args.bytes.now _ (ok_was _ c.parse.result _ c.in_ok-path.ensures.cases c.parse.ensures.ok) (omega (arith, limit))

pub returns-clause-short : goal.returns-clause-short
returns-clause-short g c =
    let limit : c.greatest_write.result ≡ greatest_write (version_of (current_words (g.R.Region.memory c.args.region.now))) = c.greatest_write.ensures.write ∙ ap greatest_write c.version.ensures in
    omega (arith, limit)

pub returns-in_err-file-clause-refused : goal.returns-in_err-file-clause-refused
returns-in_err-file-clause-refused g c =
    let p = err_from_is_err_and c.from_residual-in_err-file.result c.from_residual-in_err-file.ensures.1 in
    let limit : c.greatest_write.result ≡ greatest_write (version_of (current_words (g.R.Region.memory c.args.region.now))) = c.greatest_write.ensures.write ∙ ap greatest_write c.version.ensures in
    rw (p.1, p.2) (λ offset. write_stops _ c.args.text.now offset c.args.bytes.now _ _ (ok_was _ c.parse.result _ c.in_ok-path.ensures.cases c.parse.ensures.ok) (omega (arith, limit)) c.in_err-file.ensures.refused)
