-- The program's answers as those of the definitions.
use Rattle.std.specs.Prelude.{ℕ, ◌≡◌, ◌≤◌, List, length, take}
use Rattle.std.specs.Vec.{vec_len}
use Rattle.bp_limits.specs.Limits.{max_read}
use Rattle.bp_plain.specs.declared.replies.Answer.{Answer as GivenAnswer}
use Rattle.bp_plain.specs.declared.replies.Answer.TheVariants as given
use Rattle.bp_plain.specs.declared.replies.Held.{Held}
use Rattle.bp_plain.specs.declared.replies.Held.TheVariants as held
use Rattle.bp_plain.specs.declared.replies.Reply.TheInside.{Inside}
use Rattle.bp_plain.specs.Calls.{Answer}
use Rattle.bp_plain.specs.Calls.Answer.{done, bytes, file_of, dir_of, names, links_of, attribute_of, refused}
use Rattle.bp_plain.specs.ReplyView.{ReplyView}
use Rattle.bp_plain.specs.Seen.{refusal_of}

abbrev pub answer_seen : GivenAnswer → Answer
answer_seen given.Done = done
answer_seen (given.Bytes content) = bytes content.now
answer_seen (given.FileOf size) = file_of size
answer_seen (given.DirOf count) = dir_of count
answer_seen (given.Names listing) = names listing.now
answer_seen (given.LinksOf count) = links_of count
answer_seen (given.AttributeOf value) = attribute_of value
answer_seen (given.Refused error) = refused (refusal_of error)

-- the answer that a reply holds; for an answer of bytes, the first `count` bytes of its buffer
abbrev pub held_answer : Held → List ℕ → Answer
held_answer held.Done buffer = done
held_answer (held.Bytes count) buffer = bytes (take count buffer)
held_answer (held.FileOf size) buffer = file_of size
held_answer (held.DirOf count) buffer = dir_of count
held_answer (held.Names listing) buffer = names listing
held_answer (held.LinksOf count) buffer = links_of count
held_answer (held.AttributeOf value) buffer = attribute_of value
held_answer (held.Refused error) buffer = refused (refusal_of error)

abbrev pub reply_seen : Inside → ReplyView
reply_seen reply = record { answer = held_answer reply.held reply.buffer.items; buffer = reply.buffer.items }

-- an answer of bytes has at most as many bytes as one call reads
abbrev pub IsShortAnswer : GivenAnswer → Type 0
IsShortAnswer (given.Bytes content) = length content.now ≤ max_read
IsShortAnswer _ = Unit {0}

abbrev pub HeldFits : Held → Type 0
HeldFits (held.Bytes count) = count ≤ max_read
HeldFits _ = Unit {0}

-- the buffer has as many bytes as one call reads, and an answer of bytes is no longer
pub record FitsBuffer (reply : Inside) : Type 0 where
  pub whole : vec_len reply.buffer ≡ max_read
  pub few : HeldFits reply.held
