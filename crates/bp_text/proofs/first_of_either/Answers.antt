use Rattle.std.proofs.Common.{◌+◌, length, Some, arith}
use Rattle.memchr.specs.Find.{is_byte2}
use Rattle.bp_text.proofs.Places.{first_is_position, found_after, further, none_after}
use Rattle.bp_text.proofs.first_of_either.Goals as goal

pub returns-in-Some : goal.returns-in-Some
returns-in-Some c =
    let p = is_byte2 c.args.one c.args.other in
    let text = c.args.text.now in
    first_is_position p text (Some (c.loop-at.at + c.in-Some.place)) (found_after p text 0 c.loop-at.at 16 c.in-Some.place (omega arith) (omega arith) c.loop-at.invariant.quiet c.in-Some.ensures)

pub loop-at-preserved : goal.loop-at-preserved
loop-at-preserved c =
    let p = is_byte2 c.args.one c.args.other in
    record {
      within = omega arith;
      quiet = none_after p c.args.text.now 0 c.loop-at.at 16 (omega arith) c.loop-at.invariant.quiet c.in-None.ensures;
    }

pub returns : goal.returns
returns c =
    let p = is_byte2 c.args.one c.args.other in
    first_is_position p c.args.text.now _ (further p c.args.text.now c.loop-at.at (length c.args.text.now) _ c.loop-at.invariant.quiet c.first_in_rest.ensures)
