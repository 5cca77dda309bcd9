use Rattle.std.proofs.Common.{◌∙◌, arith, length, subst, sym}
use Rattle.bp_layout.specs.WellFormed.{IsWellFormed}
use Rattle.bp_layout.specs.Words.{Image}
use Rattle.bp_plain.specs.Calls.Call.{read}
use Rattle.bp_scan.proofs.BothScans.{snapshot_words}
use Rattle.bp_read.proofs.RegionWords.{length_now}
use Rattle.bp_volume.specs.Seen.{read_answer_of}
use Rattle.bp_volume.specs.Queries.{Answers}
use Rattle.bp_volume.proofs.SafeLaws.{long_words}
use Rattle.bp_volume.proofs.SnapshotAsking.{no_read, second_read}
use Rattle.bp_volume.proofs.snapshot.do_snap_read.Goals as goal

pub returns-then-not-has_second-clause-reported : goal.returns-then-not-has_second-clause-reported
returns-then-not-has_second-clause-reported g c = no_read _ (sym c.has_second.ensures ∙ c.if-not-has_second.true) c.args.text.now _ c.no_snapshot.ensures c.args.offset (length c.args.into.now)

pub second-second-requires : goal.second-second-requires
second-second-requires g c = omega (arith, long_words _ c.requires, length_now (g.R.Region.memory c.args.region.now))

pub do_read-requires-clause-well_formed : goal.do_read-requires-clause-well_formed
do_read-requires-clause-well_formed g c =
    subst IsWellFormed (sym (snapshot_words _ (g.R.Region.memory c.args.region.now) c.second-second.ensures)) (c.requires.second (sym c.has_second.ensures ∙ c.if-not-has_second.false))

pub returns-clause-reported : goal.returns-clause-reported
returns-clause-reported g c =
    second_read _ c.requires (sym c.has_second.ensures ∙ c.if-not-has_second.false) c.args.text.now c.args.offset (length c.args.into.now) (read_answer_of c.do_read.result c.do_read.new.into)
    (subst (λ (image : Image). Answers image (read c.args.text.now c.args.offset (length c.args.into.now)) (read_answer_of c.do_read.result c.do_read.new.into)) (snapshot_words _ (g.R.Region.memory c.args.region.now) c.second-second.ensures) c.do_read.ensures.reported)
