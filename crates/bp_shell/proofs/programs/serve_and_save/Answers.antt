use Rattle.std.proofs.Common.{refl}
use Rattle.pm_region.specs.Memory.{Memory}
use Rattle.bp_session.proofs.OthersLaws.{others_then}
use Rattle.bp_session.proofs.SavingLaws.{stays_attached}
use Rattle.bp_session.specs.Changed.{dirty_in}
use Rattle.bp_session.specs.Serving.{Moment, moment, with_dirty}
use Rattle.bp_shell.proofs.ProgramLaws.{broken_reads, read_now, run_served, run_unsaved, run_whole}
use Rattle.bp_shell.proofs.programs.serve_and_save.Goals as goal

pub returns-in-Err-clause-outcome : goal.returns-in-Err-clause-outcome
returns-in-Err-clause-outcome g c = λ before name image mounted.
    let begun : Moment Memory = with_dirty (dirty_in c.none-dirty.result) (moment (g.V.StoredFileSystem.memory c.args.system.now) (g.F.Files.view c.args.files.now) (g.K.Sink.view c.args.out.now)) in
    let held = read_now begun name image mounted.starts mounted.holds in
    rw c.from.ensures (run_served _ _ before begun _ name image mounted.found mounted.starts held mounted.flushed mounted.calm c.in-Err.broken c.in-Err.ensures.outcome)

pub returns-in-Err-clause-unread : goal.returns-in-Err-clause-unread
returns-in-Err-clause-unread g c unread = absurd (broken_reads c.in-Err.broken (rw c.from.ensures at unread))

pub returns-in-Ok-clause-outcome : goal.returns-in-Ok-clause-outcome
returns-in-Ok-clause-outcome g c = λ before name image mounted.
    let begun : Moment Memory = with_dirty (dirty_in c.none-dirty.result) (moment (g.V.StoredFileSystem.memory c.args.system.now) (g.F.Files.view c.args.files.now) (g.K.Sink.view c.args.out.now)) in
    let held = read_now begun name image mounted.starts mounted.holds in
    let served = c.in_default.ensures.outcome in
    let reported = (served.whole refl).4 image in
    run_whole _ _ before begun _ name image mounted.found mounted.starts held mounted.flushed mounted.calm (g.F.Files.view c.sync_and_save.new.files) served
    (c.in-Ok.ensures.saved name reported.after (reported.file name held)).bytes c.in-Ok.ensures.flushed c.in-Ok.ensures.cause.same

pub returns-in-Err-sync_and_save-clause-outcome : goal.returns-in-Err-sync_and_save-clause-outcome
returns-in-Err-sync_and_save-clause-outcome g c = λ before name image mounted.
    let begun : Moment Memory = with_dirty (dirty_in c.none-dirty.result) (moment (g.V.StoredFileSystem.memory c.args.system.now) (g.F.Files.view c.args.files.now) (g.K.Sink.view c.args.out.now)) in
    let held = read_now begun name image mounted.starts mounted.holds in
    let served = c.in_default.ensures.outcome in
    run_unsaved _ _ before begun _ name image mounted.found mounted.starts held mounted.flushed mounted.calm (g.F.Files.view c.sync_and_save.new.files) served _ c.sync_and_save.ensures.drained
    (λ was file. (c.in-Err-sync_and_save.ensures.partly name was file).bytes) c.in-Err-sync_and_save.ensures.cause.failed

pub sync_and_save-requires : goal.sync_and_save-requires
sync_and_save-requires g c = c.serve_gathered.ensures.again.ready

-- ---- what is left of the files

pub returns-in-Err-clause-attached : goal.returns-in-Err-clause-attached
returns-in-Err-clause-attached g c = c.serve_gathered.ensures.outcome.keeps.attached

pub returns-in-Err-clause-others : goal.returns-in-Err-clause-others
returns-in-Err-clause-others g c = c.serve_gathered.ensures.outcome.keeps.others

pub returns-in-Ok-clause-attached : goal.returns-in-Ok-clause-attached
returns-in-Ok-clause-attached g c = stays_attached _ _ _ c.serve_gathered.ensures.outcome.keeps.attached c.sync_and_save.ensures.attached

pub returns-in-Ok-clause-others : goal.returns-in-Ok-clause-others
returns-in-Ok-clause-others g c =
    let keeps = c.serve_gathered.ensures.outcome.keeps in
    others_then (g.F.Files.view c.args.files.now) (g.F.Files.view c.serve_gathered.new.files) (g.F.Files.view c.sync_and_save.new.files) keeps.attached keeps.others c.sync_and_save.ensures.others

pub returns-in-Err-sync_and_save-clause-attached : goal.returns-in-Err-sync_and_save-clause-attached
returns-in-Err-sync_and_save-clause-attached g c = stays_attached _ _ _ c.serve_gathered.ensures.outcome.keeps.attached c.sync_and_save.ensures.attached

pub returns-in-Err-sync_and_save-clause-others : goal.returns-in-Err-sync_and_save-clause-others
returns-in-Err-sync_and_save-clause-others g c =
    let keeps = c.serve_gathered.ensures.outcome.keeps in
    others_then (g.F.Files.view c.args.files.now) (g.F.Files.view c.serve_gathered.new.files) (g.F.Files.view c.sync_and_save.new.files) keeps.attached keeps.others c.sync_and_save.ensures.others
