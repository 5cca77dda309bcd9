use Rattle.std.proofs.Common.{◌∙◌, sym, arith}
use Rattle.memchr.specs.Find.{is_byte2}
use Rattle.bp_text.proofs.Blocks.{block_reported, lowest_bit, no_bit}
use Rattle.bp_text.proofs.first_in_block.Goals as goal

pub returns-then-places-eq0 : goal.returns-then-places-eq0
returns-then-places-eq0 c =
    let p = is_byte2 c.args.one c.args.other in
    let text = c.args.text.now in
    no_bit p text 16 c.requires (omega arith) (sym (block_reported c.args.one c.args.other 16 text c.requires (omega arith)) ∙ c.if-places-eq0.true)

pub returns-else-places-eq0 : goal.returns-else-places-eq0
returns-else-places-eq0 c =
    let p = is_byte2 c.args.one c.args.other in
    let text = c.args.text.now in
    let reported = block_reported c.args.one c.args.other 16 text c.requires (omega arith) in
    rw reported (lowest_bit p text 16 c.requires (omega arith) (omega (arith, reported, c.if-places-eq0.false)))
