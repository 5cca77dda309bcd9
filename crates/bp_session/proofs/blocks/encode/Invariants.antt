use Rattle.std.proofs.Common.{◌≡◌, ◌*◌, take, length}
use Rattle.bp_layout.specs.Bytes.{image_bytes}
use Rattle.bp_session.proofs.blocks.encode.Given as goal

-- the bytes of the first words are there
abbrev pub invariant-loop-k : goal.invariant-loop-k
invariant-loop-k l =
    record {
      size : length l.into ≡ 8 * length l.words;
      bytes : take (8 * l.k) l.into ≡ image_bytes (take l.k l.words);
    }
