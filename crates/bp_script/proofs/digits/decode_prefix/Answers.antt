use Rattle.std.proofs.Common.{◌+◌, ◌*◌, ◌/◌, Some, length, refl, arith}
use lib.Lanes.{put_chunk}
use Rattle.bp_script.proofs.DigitRuns.{bytes, prefix_reported, run_added, run_reported}
use Rattle.bp_script.proofs.TwoRuns.{one_added, two_added}
use Rattle.bp_script.proofs.digits.decode_prefix.Goals as goal

pub loop-i-init : goal.loop-i-init
unfolding bytes
loop-i-init c = refl

pub returns-then-not-is_first-clause-prefix : goal.returns-then-not-is_first-clause-prefix
returns-then-not-is_first-clause-prefix c =
    prefix_reported c.args.text.now c.loop-i.into (2 * c.loop-i.i) (16 * (2 * c.loop-i.i)) (omega arith) (omega arith) c.loop-i.invariant

pub returns-then-not-is_second-clause-prefix : goal.returns-then-not-is_second-clause-prefix
returns-then-not-is_second-clause-prefix c =
    let s = c.args.text.now in
    let i = c.loop-i.i in
    let out = c.loop-i.into in
    let q = c.decode_run-is_first.result.0 in
    let reported = run_reported s (32 * (2 * i)) (Some q) (omega arith) (rw c.if-not-is_first.false at c.decode_run-is_first.ensures.bytes) in
    let more = run_added s out q (2 * i) c.decode_run-is_first.ensures.len (omega arith) (omega arith) reported c.loop-i.invariant in
    prefix_reported s (put_chunk (16 * (2 * i)) out q) (2 * i + 1) (16 * (2 * i + 1)) (omega arith) (omega arith) more

pub loop-i-preserved : goal.loop-i-preserved
loop-i-preserved c =
    let s = c.args.text.now in
    let i = c.loop-i.i in
    let first = run_reported s (32 * (2 * i)) (Some c.decode_run-is_first.result.0) (omega arith) (rw c.if-not-is_first.false at c.decode_run-is_first.ensures.bytes) in
    let second = run_reported s (32 * (2 * i + 1)) (Some c.decode_run-is_second.result.0) (omega arith) (rw c.if-not-is_second.false at c.decode_run-is_second.ensures.bytes) in
    two_added s c.loop-i.into c.decode_run-is_first.result.0 c.decode_run-is_second.result.0 i
    c.decode_run-is_first.ensures.len c.decode_run-is_second.ensures.len (omega arith) (omega arith) first second c.loop-i.invariant

pub returns-then-text-run-clause-prefix : goal.returns-then-text-run-clause-prefix
returns-then-text-run-clause-prefix c =
    prefix_reported c.args.text.now c.loop-i.into (2 * c.loop-i.i) (16 * (2 * (length c.args.text.now / 64))) (omega arith) (omega arith) c.loop-i.invariant

pub returns-then-not-is_right-clause-prefix : goal.returns-then-not-is_right-clause-prefix
returns-then-not-is_right-clause-prefix c =
    prefix_reported c.args.text.now c.loop-i.into (2 * c.loop-i.i) (16 * (2 * (length c.args.text.now / 64))) (omega arith) (omega arith) c.loop-i.invariant

pub returns-clause-prefix : goal.returns-clause-prefix
returns-clause-prefix c =
    let s = c.args.text.now in
    let k = length s / 64 in
    let out = c.loop-i.into in
    let q = c.decode_run-is_right.result.0 in
    let reported = run_reported s (32 * (2 * k)) (Some q) (omega arith) (rw c.if-not-is_right.false at c.decode_run-is_right.ensures.bytes) in
    let more = one_added s out q c.loop-i.i k (omega arith) c.decode_run-is_right.ensures.len (omega arith) (omega arith) reported c.loop-i.invariant in
    prefix_reported s (put_chunk (16 * (2 * k)) out q) (2 * k + 1) (16 * (2 * k + 1)) (omega arith) (omega arith) more
