use Rattle.std.proofs.Common.{◌+◌, length, Some, arith}
use Rattle.memchr.specs.Find.{is_byte2}
use Rattle.bp_text.proofs.Places.{found_after, further, none_after, one_is_position}
use Rattle.bp_text.proofs.first_of.Goals as goal

pub returns-in-Some : goal.returns-in-Some
returns-in-Some c =
    let p = is_byte2 c.args.byte c.args.byte in
    let text = c.args.text.now in
    one_is_position c.args.byte text (Some (c.loop-at.at + c.in-Some.place)) (found_after p text 0 c.loop-at.at 16 c.in-Some.place (omega arith) (omega arith) c.loop-at.invariant.quiet c.in-Some.ensures)

pub loop-at-preserved : goal.loop-at-preserved
loop-at-preserved c =
    let p = is_byte2 c.args.byte c.args.byte in
    record {
      within = omega arith;
      quiet = none_after p c.args.text.now 0 c.loop-at.at 16 (omega arith) c.loop-at.invariant.quiet c.in-None.ensures;
    }

pub returns-then-text-at-ge-LANES-2 : goal.returns-then-text-at-ge-LANES-2
returns-then-text-at-ge-LANES-2 c =
    let p = is_byte2 c.args.byte c.args.byte in
    one_is_position c.args.byte c.args.text.now _ (further p c.args.text.now c.loop-at.at (length c.args.text.now) _ c.loop-at.invariant.quiet c.first_far.ensures)

pub returns-else-text-at-ge-LANES-2 : goal.returns-else-text-at-ge-LANES-2
returns-else-text-at-ge-LANES-2 c =
    let p = is_byte2 c.args.byte c.args.byte in
    one_is_position c.args.byte c.args.text.now _ (further p c.args.text.now c.loop-at.at (length c.args.text.now) _ c.loop-at.invariant.quiet c.first_in_rest.ensures)
