use Rattle.std.proofs.Common.{sym, ◌∙◌}
use Rattle.pm_region.specs.Memory.{current_words}
use Rattle.bp_walk.proofs.Pointers.{on_ok_then}
use Rattle.bp_scan.proofs.InodeFaults.{err_then}
use Rattle.bp_scan.proofs.Inside.{inodes_sound, inodes_full}
use Rattle.bp_scan.proofs.EntryLaws.{in_room, fails_in_inode, now_inside, now_less, totals_few}
use Rattle.bp_scan.proofs.directories.read_named.Goals as goal

pub is_free-requires : goal.is_free-requires
is_free-requires g c =
    let image = current_words (g.R.Region.memory c.args.region.now) in
    in_room image c.args.work.now c.args.directory c.args.slot.number c.requires.inside c.requires.live c.args.slot.named c.requires.named c.requires.some
    c.requires.there

pub read_again-requires-clause-entered : goal.read_again-requires-clause-entered
read_again-requires-clause-entered g c = sym c.is_free.ensures ∙ c.if-not-is_free.true

pub enter-requires-clause-sound : goal.enter-requires-clause-sound
enter-requires-clause-sound g c =
    inodes_sound (current_words (g.R.Region.memory c.args.region.now)) c.args.work.now c.args.directory.inode c.args.slot.number c.requires.inside.at.reading

pub enter-requires-clause-full : goal.enter-requires-clause-full
enter-requires-clause-full g c =
    inodes_full (current_words (g.R.Region.memory c.args.region.now)) c.args.work.now c.args.directory.inode c.args.slot.number c.requires.inside.at.reading

pub enter-requires-clause-few : goal.enter-requires-clause-few
enter-requires-clause-few g c = totals_few (current_words (g.R.Region.memory c.args.region.now)) c.args.work.now c.args.directory c.args.slot.number c.requires.inside

pub returns-clause-inside : goal.returns-clause-inside
returns-clause-inside g c =
    let image = current_words (g.R.Region.memory c.args.region.now) in
    on_ok_then c.enter.result (λ enters. now_inside image c.args.work.now c.args.directory c.args.slot.number c.requires.inside c.requires.live c.args.slot.named c.requires.named c.requires.some
    c.requires.there (sym c.is_free.ensures ∙ c.if-not-is_free.false) c.claim.new.self c.claim.ensures c.set.new.self c.set.ensures c.enter.new.work c.enter.ensures.room enters) c.enter.ensures.ok

pub returns-clause-steps : goal.returns-clause-steps
returns-clause-steps g c =
    let image = current_words (g.R.Region.memory c.args.region.now) in
    on_ok_then c.enter.result (λ enters. now_less image c.args.work.now c.args.directory c.args.slot.number c.requires.inside c.requires.live c.args.slot.named c.requires.named c.requires.some
    c.requires.there (sym c.is_free.ensures ∙ c.if-not-is_free.false) c.claim.new.self c.claim.ensures c.set.new.self c.set.ensures c.enter.new.work c.enter.ensures.room enters) c.enter.ensures.ok

pub returns-clause-fault : goal.returns-clause-fault
returns-clause-fault g c =
    let image = current_words (g.R.Region.memory c.args.region.now) in
    err_then c.enter.result (λ f fails.
    fails_in_inode image c.args.work.now c.args.directory c.args.slot.number c.requires.inside c.requires.live c.args.slot.named c.requires.named c.requires.some
    c.requires.there (sym c.is_free.ensures ∙ c.if-not-is_free.false) f.check f.place fails) c.enter.ensures.err
