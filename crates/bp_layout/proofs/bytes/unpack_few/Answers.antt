use Rattle.std.proofs.Common.{◌∙◌, ◌*◌, ◌/◌, ◌%◌, ◌+◌, ◌-◌, ◌≤◌, ◌≡◌, length, take, refl, sym, ap, arith}
use Rattle.std.specs.Int.{w64, to_le_bytes}
use Rattle.bp_layout.specs.Words.{word}
use Rattle.bp_layout.specs.Bytes.{stored_byte, stored_bytes}
use Rattle.bp_layout.proofs.Ranges.{grown, filled}
use Rattle.bp_layout.proofs.StoredBytes.{whole_word, word_part}
use Rattle.bp_layout.proofs.bytes.unpack_few.Goals as goal

pub loop-i-preserved : goal.loop-i-preserved
loop-i-preserved c =
    let words = c.args.words.now in
    let i = c.loop-i.i in
    let next : 8 * (c.loop-i.i + 1) ≡ 8 * c.loop-i.i + 8 = omega arith in
    let eight : 8 * c.loop-i.i + 8 - 8 * c.loop-i.i ≡ 8 = omega arith in
    let within : 8 * c.loop-i.i + 8 ≤ length c.args.into.now = omega arith in
    record {
      within = omega arith;
      bytes = rw next (grown (stored_byte words) 0 (8 * i) (8 * i) (8 * i + 8) c.loop-i.into c.copy_from_slice.new.self
          (omega arith) (omega arith) c.loop-i.invariant.bytes (omega arith)
          (c.copy_from_slice.ensures.after ∙ c.to_le_bytes.ensures ∙ whole_word words i _ refl ∙ ap (stored_bytes words (8 * i)) (sym eight)));
    }

pub returns-then-done-end : goal.returns-then-done-end
returns-then-done-end c =
    let words = c.args.words.now in
    let n = length c.args.into.now in
    let done = n - n % 8 in
    let at : 8 * c.loop-i.i ≡ n - n % 8 = omega (arith, c.loop-i-test.false, c.loop-i.auto) in
    let few : 0 + (n - (n - n % 8)) ≤ 8 = omega arith in
    let same : n - (n - n % 8) ≡ 0 + (n - (n - n % 8)) - 0 = omega arith in
    let place : 8 * ((n - n % 8) / 8) + 0 ≡ n - n % 8 = omega arith in
    filled (stored_byte words) 0 done done n c.loop-i.into c.copy_from_slice-then-done-end.new.self
    (omega arith) (omega arith) (rw at at c.loop-i.invariant.bytes) (omega arith)
    (c.copy_from_slice-then-done-end.ensures.after
    ∙ ap (take (n - done)) c.to_le_bytes-bytes.ensures
    ∙ ap (λ k. take k (to_le_bytes w64 (word words (done / 8)))) same
    ∙ word_part words (done / 8) 0 (n - done) _ few refl
    ∙ ap (λ p. stored_bytes words p (n - done)) place)
