-- The contents of the memory of a run: a line and its answer, and the bytes that were read.
use Rattle.std.specs.Prelude.{ℕ, List, length, nat_lt, Option, Some, None, if◌then◌else◌}
use Rattle.bp_limits.specs.Limits.{max_line}
use Rattle.bp_plain.specs.Calls.{Answer}
use Rattle.bp_replies.specs.Gathering.{waiting}
use Rattle.bp_session.specs.declared.work.LineBuffers.{LineBuffers}
use Rattle.bp_session.specs.declared.work.Work.{Work}

-- The line, or the first 2,200,001 bytes of a longer one.
abbrev pub line_in : LineBuffers → List ℕ
line_in buffers = buffers.line.items

-- The answer of the last call.
abbrev pub answer_in : LineBuffers → Answer
answer_in buffers = buffers.reply.answer

-- The replies that wait for a sink.
abbrev pub waiting_in : LineBuffers → List ℕ
waiting_in buffers = waiting buffers.replies

-- The replies of a run that wait for a sink.
abbrev pub held_replies : Work → List ℕ
held_replies work = waiting_in work.buffers

-- The line of a run.
abbrev pub held_line : Work → List ℕ
held_line work = line_in work.buffers

-- The bytes that were read last, in a buffer of 65,536 bytes.
abbrev pub read_piece : Work → List ℕ
read_piece work = work.piece.items

-- The line, if it is not too long.
abbrev pub line_of : List ℕ → Option (List ℕ)
line_of held = if nat_lt max_line (length held) then None else Some held
