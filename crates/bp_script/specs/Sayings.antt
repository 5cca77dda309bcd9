-- The text of each line that the program writes.
use Rattle.std.specs.Prelude.{ℕ, ◌≤◌, List, length, codes, decimal, ◌++◌}
use Rattle.bp_limits.specs.CallLimits.{max_name}
use Rattle.bp_plain.specs.declared.replies.Answer.{Answer}
use Rattle.bp_plain.specs.declared.replies.Answer.TheVariants as answer
use Rattle.bp_plain.specs.Seen.{call_of}
use Rattle.bp_plain.specs.SeenAnswers.{answer_seen, IsShortAnswer}
use Rattle.bp_script.specs.declared.replies.Said.{Said}
use Rattle.bp_script.specs.declared.replies.Said.TheVariants as said
use Rattle.bp_script.specs.declared.notices.Notice.{Notice}
use Rattle.bp_script.specs.declared.notices.Notice.TheVariants as notice
use Rattle.bp_script.specs.Export.{FitsText, call_line}
use Rattle.bp_script.specs.Texts.{answer_text, done_text, entry_text, end_text, space_text, kept_text, log_text, syntax_text, long_line_text, choice_text, pair_text}

abbrev pub said_text : Said → List ℕ
said_text (said.Answer given) = answer_text (answer_seen given)
said_text (said.Name kind name) = entry_text (kind, name.now)
said_text said.End = end_text
said_text said.Synced = done_text
said_text (said.Space free live) = space_text free live
said_text (said.Kept c n) = kept_text c n
said_text (said.Log events barriers calls) = log_text events barriers calls
said_text said.Syntax = syntax_text
said_text said.LongLine = long_line_text
said_text said.BadChoice = choice_text
said_text (said.Call call) = call_line (call_of call) ++ codes "\n"

-- An answer of one line, with no more bytes than one call reads.
abbrev pub IsLine : Answer → Type 0
IsLine (answer.Names listing) = ⊥
IsLine given = IsShortAnswer given

-- The line fits into the room of a reply: an answer has one line, a name has at most `max_name` bytes, and a call is
-- one of an export.
abbrev pub FitsReply : Said → Type 0
FitsReply (said.Answer given) = IsLine given
FitsReply (said.Name kind name) = length name.now ≤ max_name
FitsReply (said.Call call) = FitsText (call_of call)
FitsReply _ = Unit {0}

-- The line of a clean image, from the digits of its numbers.
abbrev pub clean_line : List ℕ → List ℕ → List ℕ → List ℕ → List ℕ → List ℕ
clean_line files dirs bytes live free = codes "clean " ++ files ++ codes " " ++ dirs ++ codes " " ++ bytes ++ codes " "
    ++ live ++ codes " " ++ free ++ codes "\n"

abbrev pub clean_text : ℕ → ℕ → ℕ → ℕ → ℕ → List ℕ
clean_text files dirs bytes live free =
    clean_line (decimal files) (decimal dirs) (decimal bytes) (decimal live) (decimal free)

abbrev pub notice_text : Notice → List ℕ
notice_text (notice.Formatted blocks free) = pair_text (codes "formatted ") blocks free
notice_text notice.NotFormatted = codes "err 30 notformatted\n"
notice_text (notice.BadSize found wanted) = pair_text (codes "err 31 badsize ") found wanted
notice_text (notice.Damaged check place) = pair_text (codes "err 32 damaged ") check place
notice_text (notice.Clean files dirs bytes live free) = clean_text files dirs bytes live free
notice_text notice.NoFile = codes "err 34 nofile\n"
notice_text notice.Deep = codes "err 40 deep\n"
notice_text notice.Usage =
    codes "usage: bpfs format FILE --blocks N [--version V] / run FILE / check FILE / play FILE --seed S --count C / export FILE\n"
