use Rattle.std.proofs.Common.{arith, refl, ap, ◌∙◌, ◌≡◌, ◌*◌, ◌+◌, ◌++◌, ◌-◌, get_or, take, length, sym}
use borrow.Rule.Slice.PartMut.{same_len_mid}
use Rattle.std.proofs.lemmas.Slice.{take-put_mid}
use Rattle.std.proofs.Math.Seq.{take-length}
use Rattle.bp_session.proofs.BlockLaws.{one_more}
use Rattle.bp_session.proofs.blocks.encode.Goals as goal
use Rattle.bp_layout.specs.Bytes.{image_bytes}
use Rattle.pm_words.specs.Bytes.{word_bytes}

pub loop-k-init : goal.loop-k-init
unfolding image_bytes
loop-k-init c = record { size = c.requires; bytes = refl }

pub loop-k-preserved : goal.loop-k-preserved
loop-k-preserved c =
    let k = c.loop-k.k in
    let words = c.args.words.now in
    let bytes = c.copy_from_slice.new.self in
    let written : bytes ≡ word_bytes (get_or words k 0) = c.copy_from_slice.ensures.after ∙ c.write_word.ensures in
    let long : length bytes ≡ 8 = ap length written in
    record {
      size = same_len_mid _ _ _ _ c.copy_from_slice.ensures.len ∙ c.loop-k.invariant.size;
      bytes = take-put_mid (8 * k) ((8 * k + 8) - 8 * k) c.loop-k.into bytes (8 * (k + 1)) (omega (arith, long)) (omega (arith, c.loop-k.invariant.size))
          ∙ ap (λ l. take (8 * k) c.loop-k.into ++ l) written ∙ ap (λ l. l ++ word_bytes (get_or words k 0)) c.loop-k.invariant.bytes
          ∙ sym (one_more words k (omega (arith, c.requires)));
    }

pub returns : goal.returns
returns c =
    let words = c.args.words.now in
    let all : c.loop-k.k ≡ length words = omega arith in
    let bytes : take (8 * length words) c.loop-k.into ≡ c.loop-k.into = rw (← c.loop-k.invariant.size) (take-length c.loop-k.into) in
    sym bytes ∙ rw all at c.loop-k.invariant.bytes ∙ ap image_bytes (take-length words)
