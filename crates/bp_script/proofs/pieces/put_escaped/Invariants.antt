use Rattle.std.proofs.Common.{take, ◌++◌}
use Rattle.percent_encoding.specs.Iter.{encoded_text}
use Rattle.percent_encoding.specs.Percent.{percent_encode}
use Rattle.bp_script.proofs.WrittenPieces.{IsWritten}
use Rattle.bp_script.proofs.pieces.put_escaped.Given as goal

abbrev pub invariant-loop-piece : goal.invariant-loop-piece
invariant-loop-piece l = IsWritten l.fn.into (take l.fn.at l.fn.into ++ percent_encode l.fn.escaped l.fn.bytes) (encoded_text l.piece-iterator) l.into l.end
