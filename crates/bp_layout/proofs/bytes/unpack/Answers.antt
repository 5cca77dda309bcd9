use Rattle.std.proofs.Common.{◌≡◌, ◌+◌, ◌-◌, ◌*◌, ◌/◌, length, drop, take, refl, sym, ◌∙◌, ap, subst, arith}
use Rattle.std.proofs.lemmas.List.{length-drop, length-take}
use Rattle.bp_layout.specs.Bytes.{stored_byte, stored_bytes}
use Rattle.bp_layout.proofs.Ranges.{filled, grown}
use Rattle.bp_layout.proofs.StoredBytes.{run_part}
use Rattle.bp_layout.proofs.bytes.unpack.Goals as goal

pub loop-line-preserved : goal.loop-line-preserved
loop-line-preserved c =
    let words = c.args.words.now in
    let k = c.loop-line.line in
    let done : 64 * k ≡ 8 * (8 * k) = omega arith in
    let next : 64 * (k + 1) ≡ 8 * (8 * k + 8) = omega arith in
    let size : 8 * (8 * k + 8) - 8 * (8 * k) ≡ 64 = omega arith in
    rw next (grown (stored_byte words) 0 (8 * (8 * k)) (8 * (8 * k)) (8 * (8 * k + 8)) c.loop-line.into c.unpack_line.new.into
    (omega arith) (omega (arith, c.loop-line-test.true, c.loop-line.auto.into)) (subst (λ n. take n c.loop-line.into ≡ stored_bytes words 0 n) done c.loop-line.invariant) (omega arith)
    (c.unpack_line.ensures ∙ run_part words _ (8 * k) 8 64 refl (omega arith) ∙ ap (stored_bytes words (8 * (8 * k))) (sym size)))

pub returns : goal.returns
returns c =
    let words = c.args.words.now in
    let n = length c.args.into.now in
    let lines = n / 64 in
    let end : 64 * c.loop-line.line ≡ 8 * (8 * (n / 64)) = omega (arith, c.loop-line-test.false, c.loop-line.auto.line-end) in
    let count = length words - 8 * lines in
    let same : count ≡ 8 * lines + count - 8 * lines = omega arith in
    let rest = drop (8 * (8 * lines)) c.loop-line.into in
    let left : length (take (n - 8 * (8 * lines)) rest) ≡ n - 8 * (8 * lines) =
    omega (arith, length-take (n - 8 * (8 * lines)) rest, length-drop (8 * (8 * lines)) c.loop-line.into, c.loop-line.auto.into) in
    filled (stored_byte words) 0 (8 * (8 * lines)) (8 * (8 * lines)) n c.loop-line.into c.unpack_few.new.into
    (omega arith) c.loop-line.auto.into (subst (λ m. take m c.loop-line.into ≡ stored_bytes words 0 m) end c.loop-line.invariant) (omega arith)
    (c.unpack_few.ensures ∙ ap (stored_bytes (take count (drop (8 * lines) words)) 0) left
    ∙ run_part words (take count (drop (8 * lines) words)) (8 * lines) count (n - 8 * (8 * lines)) (ap (λ m. take m (drop (8 * lines) words)) same) (omega (arith, c.requires)))
