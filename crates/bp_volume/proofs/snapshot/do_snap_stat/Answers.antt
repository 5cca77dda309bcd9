use Rattle.std.proofs.Common.{◌∙◌, arith, subst, sym}
use Rattle.bp_layout.specs.WellFormed.{IsWellFormed}
use Rattle.bp_layout.specs.Words.{Image}
use Rattle.bp_plain.specs.Calls.Call.{stat}
use Rattle.bp_scan.proofs.BothScans.{snapshot_words}
use Rattle.bp_read.proofs.RegionWords.{length_now}
use Rattle.bp_volume.specs.Seen.{stat_answer_of}
use Rattle.bp_volume.specs.Queries.{Answers}
use Rattle.bp_volume.proofs.SafeLaws.{long_words}
use Rattle.bp_volume.proofs.SnapshotAsking.{no_stat, second_stat}
use Rattle.bp_volume.proofs.snapshot.do_snap_stat.Goals as goal

pub returns-then-not-has_second : goal.returns-then-not-has_second
returns-then-not-has_second g c = no_stat _ (sym c.has_second.ensures ∙ c.if-not-has_second.true) c.args.text.now _ c.no_snapshot.ensures

pub second-second-requires : goal.second-second-requires
second-second-requires g c = omega (arith, long_words _ c.requires, length_now (g.R.Region.memory c.args.region.now))

pub do_stat-requires-clause-well_formed : goal.do_stat-requires-clause-well_formed
do_stat-requires-clause-well_formed g c =
    subst IsWellFormed (sym (snapshot_words _ (g.R.Region.memory c.args.region.now) c.second-second.ensures)) (c.requires.second (sym c.has_second.ensures ∙ c.if-not-has_second.false))

pub returns : goal.returns
returns g c =
    second_stat _ c.requires (sym c.has_second.ensures ∙ c.if-not-has_second.false) c.args.text.now (stat_answer_of c.do_stat.result)
    (subst (λ (image : Image). Answers image (stat c.args.text.now) (stat_answer_of c.do_stat.result)) (snapshot_words _ (g.R.Region.memory c.args.region.now) c.second-second.ensures) c.do_stat.ensures.reported)
