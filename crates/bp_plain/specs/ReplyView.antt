-- The abstract view of a reply in contracts.
use Rattle.std.specs.Prelude.{ℕ, List, length}
use Rattle.std.specs.List.{refill}
use Rattle.bp_plain.specs.Calls.{Answer}
use Rattle.bp_plain.specs.Calls.Answer.{done}

-- the answer, and the bytes of the buffer that is lent for the bytes of an answer
pub record ReplyView : Type 0 where
  pub answer : Answer
  pub buffer : List ℕ

-- the reply after its buffer was lent and ended with these bytes; its answer is `done`
abbrev pub lent_out : ReplyView → List ℕ → ReplyView
lent_out reply last = record { answer = done; buffer = refill (length reply.buffer) reply.buffer last }
