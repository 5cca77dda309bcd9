use Rattle.std.proofs.Common.{◌≡◌, ℕ, List, ◌+◌, ◌-◌, ◌*◌, refl, sym, ◌∙◌, ap, arith}
use Rattle.bp_layout.specs.Bytes.{stored_byte, stored_bytes}
use Rattle.bp_layout.proofs.Ranges.{grown}
use Rattle.bp_layout.proofs.StoredBytes.{whole_word}
use Rattle.bp_layout.proofs.bytes.unpack_line.Goals as goal

pub loop-i-preserved : goal.loop-i-preserved
loop-i-preserved c =
    let words = c.args.words.now in
    let line = c.copy_from_slice.new.self in
    let i = c.loop-i.i in
    let next : 8 * (c.loop-i.i + 1) ≡ 8 * c.loop-i.i + 8 = omega arith in
    let eight : 8 * c.loop-i.i + 8 - 8 * c.loop-i.i ≡ 8 = omega arith in
    rw next (grown (stored_byte words) 0 (8 * i) (8 * i) (8 * i + 8) c.loop-i.into c.copy_from_slice-in-loop-i.new.self
    (omega arith) (omega (arith, c.loop-i-test.true, c.loop-i.auto.into, c.requires.into)) c.loop-i.invariant (omega arith)
    (c.copy_from_slice-in-loop-i.ensures.after ∙ c.to_le_bytes.ensures ∙ whole_word line i _ refl ∙ ap (λ (ws : List ℕ). stored_bytes ws (8 * i) 8) c.copy_from_slice.ensures.after ∙ ap (stored_bytes words (8 * i)) (sym eight)))
