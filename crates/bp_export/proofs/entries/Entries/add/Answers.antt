use Rattle.std.proofs.Common.{◌≢◌, slice_index, length, ap, arith}
use Rattle.std.proofs.lemmas.List.FromFn.{length-map-range_with_len}
use Rattle.bp_layout.specs.Fields.{name_byte}
use Rattle.bp_export.proofs.RowLaws.{one_named}
use Rattle.bp_export.proofs.entries.Entries.add.Goals as goal

pub push-requires : goal.push-requires
push-requires c =
    let words = c.args.view.words.now in
    let some : slice_index words 0 ≢ 0 = rw (← c.ino-ino.ensures) c.if-ino-eq0.false in
    omega (arith, c.requires.short some, ap length c.read_name.ensures, length-map-range_with_len (name_byte words) 0 (slice_index words 1))

pub returns : goal.returns
returns c image i slot has =
    let words = c.args.view.words.now in
    let some : slice_index words 0 ≢ 0 = rw (← c.ino-ino.ensures) c.if-ino-eq0.false in
    rw (one_named image i slot words has some (c.requires.short some)) (rw (c.read_name.ensures, c.ino-ino.ensures) at c.push.ensures)
