use Rattle.std.proofs.Common.{◌≢◌, ◌≤◌, slice_index, length, ◌∙◌, ap, arith}
use Rattle.std.proofs.lemmas.List.FromFn.{length-map-range_with_len}
use Rattle.bp_layout.specs.Fields.{name_byte}
use Rattle.bp_layout.specs.Inode.{kind_of}
use Rattle.pm_region.specs.Memory.{current_words}
use Rattle.bp_calls.proofs.CommitResults.{ok_one}
use Rattle.bp_calls.proofs.ReadingLaws.{inode_file_sound}
use Rattle.bp_calls.proofs.RowLaws.{inode_of, short_of, one_seen}
use Rattle.bp_calls.proofs.listing.list_entry.Goals as goal

pub overflow_cast-ino : goal.overflow_cast-ino
overflow_cast-ino g c =
    let some : slice_index c.args.view.words.now 0 ≢ 0 = rw (← c.ino-ino.ensures) c.if-ino-eq0.false in
    let inode = inode_of _ c.requires.well_formed _ c.requires.entry some in
    omega (arith, c.ino-ino.ensures, inode.few)

pub get-kind-requires-clause-sound : goal.get-kind-requires-clause-sound
get-kind-requires-clause-sound g c = inode_file_sound _ c.requires.well_formed

pub get-kind-requires-clause-there : goal.get-kind-requires-clause-there
get-kind-requires-clause-there g c =
    let some : slice_index c.args.view.words.now 0 ≢ 0 = rw (← c.ino-ino.ensures) c.if-ino-eq0.false in
    rw c.ino-ino.ensures (inode_of _ c.requires.well_formed _ c.requires.entry some).high

pub get-kind-requires-clause-least : goal.get-kind-requires-clause-least
get-kind-requires-clause-least g c =
    let some : slice_index c.args.view.words.now 0 ≢ 0 = rw (← c.ino-ino.ensures) c.if-ino-eq0.false in
    rw c.ino-ino.ensures (inode_of _ c.requires.well_formed _ c.requires.entry some).least

pub get-kind-requires-clause-most : goal.get-kind-requires-clause-most
get-kind-requires-clause-most g c =
    let some : slice_index c.args.view.words.now 0 ≢ 0 = rw (← c.ino-ino.ensures) c.if-ino-eq0.false in
    rw c.ino-ino.ensures (inode_of _ c.requires.well_formed _ c.requires.entry some).most

pub read_name-requires : goal.read_name-requires
read_name-requires g c =
    let some : slice_index c.args.view.words.now 0 ≢ 0 = rw (← c.ino-ino.ensures) c.if-ino-eq0.false in
    short_of _ c.requires.well_formed c.args.view.words.now c.requires.entry some

pub push-requires : goal.push-requires
push-requires g c =
    let words = c.args.view.words.now in
    let some : slice_index words 0 ≢ 0 = rw (← c.ino-ino.ensures) c.if-ino-eq0.false in
    omega (arith, short_of _ c.requires.well_formed words c.requires.entry some, ap length c.read_name.ensures, length-map-range_with_len (name_byte words) 0 (slice_index words 1))

pub returns : goal.returns
returns g c =
    let words = c.args.view.words.now in
    let image = current_words (g.R.Region.memory c.args.region.now) in
    let some : slice_index words 0 ≢ 0 = rw (← c.ino-ino.ensures) c.if-ino-eq0.false in
    let short : slice_index words 1 ≤ 240 = short_of _ c.requires.well_formed words c.requires.entry some in
    let kind = c.get-kind.ensures.kind ∙ ap (kind_of image) c.ino-ino.ensures in
    ok_one c.push.result c.push.ensures.pushed
    (λ pushed i slot has. rw (one_seen image i slot words has c.get-kind.result.kind some short kind) (rw c.read_name.ensures at pushed))
