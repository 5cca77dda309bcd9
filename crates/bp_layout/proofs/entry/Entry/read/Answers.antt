use Rattle.std.proofs.Common.{◌∙◌, sym, ap, arith, length}
use Rattle.std.proofs.lemmas.List.FromFn.{length-map-range_with_len, map-range_with_len_more}
use Rattle.bp_layout.specs.Fields.{name_byte}
use Rattle.bp_layout.proofs.entry.Entry.read.Goals as goal

pub push-requires : goal.push-requires
push-requires c =
    let count = ap length c.loop-offset.invariant ∙ length-map-range_with_len (name_byte c.args.words.now) 0 c.loop-offset.offset in
    omega (arith, count, c.loop-offset-test.true, c.requires.most)

pub loop-offset-preserved : goal.loop-offset-preserved
loop-offset-preserved c =
    rw (c.push.ensures.items, c.loop-offset.invariant, c.byte.ensures)
    (sym (map-range_with_len_more (name_byte c.args.words.now) 0 c.loop-offset.offset c.loop-offset.offset (omega arith)))
