use Rattle.std.proofs.Common.{◌≡◌, length, set, ◌+◌, ◌*◌, ◌≤◌, sym, ◌∙◌, ap, arith}
use Rattle.std.specs.List.{slice_index}
use Rattle.bp_layout.specs.Fields.{kind_word}
use Rattle.bp_layout.specs.Inode.{kind_of}
use Rattle.pm_region.specs.Memory.{current_words}
use Rattle.bp_scan.proofs.Inside.{inodes_sound}
use Rattle.bp_scan.proofs.EntryLaws.{fails_again, in_counts, names_few, passes_again, right_kind, tree_full, tree_sound}
use Rattle.bp_scan.proofs.directories.read_again.Goals as goal

pub get-requires-clause-sound : goal.get-requires-clause-sound
get-requires-clause-sound g c = inodes_sound (current_words (g.R.Region.memory c.args.region.now)) c.args.work.now c.args.directory.inode c.args.slot.number c.requires.inside.at.reading

pub get-requires-clause-least : goal.get-requires-clause-least
get-requires-clause-least g c =
    (right_kind (current_words (g.R.Region.memory c.args.region.now)) c.args.work.now c.args.directory c.args.slot.number c.requires.inside c.requires.live c.args.slot.named c.requires.named c.requires.some c.requires.there c.requires.entered).0

pub get-requires-clause-most : goal.get-requires-clause-most
get-requires-clause-most g c =
    (right_kind (current_words (g.R.Region.memory c.args.region.now)) c.args.work.now c.args.directory c.args.slot.number c.requires.inside c.requires.live c.args.slot.named c.requires.named c.requires.some c.requires.there c.requires.entered).1

pub names-names-requires : goal.names-names-requires
names-names-requires g c =
    let image = current_words (g.R.Region.memory c.args.region.now) in
    in_counts image c.args.work.now c.args.directory c.args.slot.number c.requires.inside c.requires.live c.args.slot.named c.requires.named c.requires.some c.requires.there

pub set-requires : goal.set-requires
set-requires g c =
    let image = current_words (g.R.Region.memory c.args.region.now) in
    in_counts image c.args.work.now c.args.directory c.args.slot.number c.requires.inside c.requires.live c.args.slot.named c.requires.named c.requires.some c.requires.there

pub overflow_add-names : goal.overflow_add-names
overflow_add-names g c =
    let image = current_words (g.R.Region.memory c.args.region.now) in
    let few : 32 * slice_index c.args.work.now.counts c.args.slot.named ≤ length image =
    names_few image c.args.work.now c.args.directory c.args.slot.number c.requires.inside c.requires.live c.args.slot.named c.requires.named c.requires.some c.requires.there in
    let sized = c.requires.inside.at.reading.ready.formatted.sized in
    omega (arith, few, c.names-names.ensures, sized.whole, sized.at_most)

pub returns-in-File-clause-inside : goal.returns-in-File-clause-inside
returns-in-File-clause-inside g c =
    let image = current_words (g.R.Region.memory c.args.region.now) in
    let file : kind_of image c.args.slot.named ≡ 1 = sym c.get.ensures.kind ∙ ap kind_word c.in-File.is in
    passes_again image c.args.work.now c.args.directory c.args.slot.number c.requires.inside c.requires.live c.args.slot.named c.requires.named c.requires.some c.requires.there c.requires.entered file c.set.new.self
    (c.set.ensures ∙ ap (λ n. set c.args.work.now.counts c.args.slot.named (n + 1)) c.names-names.ensures)

pub entry_fault-requires-clause-sound : goal.entry_fault-requires-clause-sound
entry_fault-requires-clause-sound g c = tree_sound (current_words (g.R.Region.memory c.args.region.now)) c.args.work.now c.args.directory c.args.slot.number c.requires.inside

pub entry_fault-requires-clause-full : goal.entry_fault-requires-clause-full
entry_fault-requires-clause-full g c = tree_full (current_words (g.R.Region.memory c.args.region.now)) c.args.work.now c.args.directory c.args.slot.number c.requires.inside

pub returns-in-Dir-clause-fault : goal.returns-in-Dir-clause-fault
returns-in-Dir-clause-fault g c =
    let image = current_words (g.R.Region.memory c.args.region.now) in
    let directory : kind_of image c.args.slot.named ≡ 2 = sym c.get.ensures.kind ∙ ap kind_word c.in-Dir.is in
    rw c.entry_fault.ensures.check
    (fails_again image c.args.work.now c.args.directory c.args.slot.number c.requires.inside c.requires.live c.args.slot.named c.requires.named c.requires.some c.requires.there
    c.entry_fault.result.place c.entry_fault.ensures.place c.requires.entered directory)
