use Rattle.std.proofs.Common.{◌*◌, ◌/◌, length}
use Rattle.bp_script.proofs.EncodedRuns.{encoded_parted}
use Rattle.bp_script.proofs.digits.encode_digits.Goals as goal

pub returns : goal.returns
returns c =
    rw (c.encode_runs.ensures, c.encode_bytes.ensures, c.split_at.ensures.front, c.split_at.ensures.back)
    (encoded_parted (length c.args.content.now / 16 * 16) c.args.content.now)
