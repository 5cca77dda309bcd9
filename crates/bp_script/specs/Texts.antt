-- The lines of replies. Each ends with a newline.
use Rattle.std.specs.Prelude.{ℕ, List, [], ◌∷◌, ◌++◌, Bool, ◌==◌, ◌||◌, nat_le, codes, decimal, flat_map, if◌then◌else◌}
use Rattle.hex.specs.Hex.{encode_lower}
use Rattle.percent_encoding.specs.Percent.{percent_encode_byte}
use Rattle.bp_layout.specs.Paths.{Name}
use Rattle.bp_layout.specs.declared.fields.Kind.{Kind}
use Rattle.bp_layout.specs.declared.fields.Kind.TheVariants.{File, Dir}
use Rattle.bp_plain.specs.Calls.{Answer, Refusal}
use Rattle.bp_plain.specs.Calls.Answer.{done, bytes, file_of, dir_of, names, links_of, attribute_of, refused}
use Rattle.bp_plain.specs.Calls.Refusal.{no_space}
use Rattle.bp_plain.specs.Refusals.{refusal_number, refusal_word}

-- ---- names

-- Whether a byte is escaped: control bytes, the space, `%`, `/` and all bytes outside ASCII are.
abbrev pub is_escaped : ℕ → Bool
is_escaped b = nat_le b 32 || b == 37 || b == 47 || nat_le 127 b

-- The text of a name: each escaped byte is written as `%` and two upper-case digits.
abbrev pub name_text : Name → List ℕ
name_text name = flat_map (λ b. if is_escaped b then percent_encode_byte b else b ∷ []) name

abbrev pub kind_letter : Kind → List ℕ
kind_letter File = codes "f"
kind_letter Dir = codes "d"

-- ---- one line each

abbrev pub done_text : List ℕ
done_text = codes "ok\n"

-- The hexadecimal digits of bytes; `-` for no bytes.
abbrev pub digits_or_dash : List ℕ → List ℕ
digits_or_dash [] = codes "-"
digits_or_dash (b ∷ content) = encode_lower (b ∷ content)

abbrev pub data_text : List ℕ → List ℕ
data_text content = codes "data " ++ digits_or_dash content ++ codes "\n"

abbrev pub entry_text : Kind × Name → List ℕ
entry_text (kind, name) = codes "entry " ++ kind_letter kind ++ codes " " ++ name_text name ++ codes "\n"

abbrev pub end_text : List ℕ
end_text = codes "end\n"

abbrev pub file_text : ℕ → List ℕ
file_text size = codes "file " ++ decimal size ++ codes "\n"

abbrev pub dir_text : ℕ → List ℕ
dir_text count = codes "dir " ++ decimal count ++ codes "\n"

abbrev pub links_text : ℕ → List ℕ
links_text count = codes "links " ++ decimal count ++ codes "\n"

abbrev pub attribute_text : ℕ → List ℕ
attribute_text value = codes "attr " ++ decimal value ++ codes "\n"

-- A line of two numbers.
abbrev pub pair_text : List ℕ → ℕ → ℕ → List ℕ
pair_text prefix first second = prefix ++ decimal first ++ codes " " ++ decimal second ++ codes "\n"

-- The line with the numbers of free and of live blocks.
abbrev pub space_text : ℕ → ℕ → List ℕ
space_text free live = pair_text (codes "space ") free live

-- The line with the number of calls that survived a crash, and the number of calls before it.
abbrev pub kept_text : ℕ → ℕ → List ℕ
kept_text count total = codes "kept " ++ decimal count ++ codes " of " ++ decimal total ++ codes "\n"

-- The line with the numbers of events, barriers and calls of the log.
abbrev pub log_text : ℕ → ℕ → ℕ → List ℕ
log_text events barriers calls =
    codes "log " ++ decimal events ++ codes " " ++ decimal barriers ++ codes " " ++ decimal calls ++ codes "\n"

-- The numbers after the word of a refusal.
abbrev pub details : Refusal → List ℕ
details (no_space need free) = codes " " ++ decimal need ++ codes " " ++ decimal free
details _ = []

abbrev pub refusal_text : Refusal → List ℕ
refusal_text refusal = codes "err " ++ decimal (refusal_number refusal) ++ codes " " ++ refusal_word refusal
    ++ details refusal ++ codes "\n"

abbrev pub syntax_text : List ℕ
syntax_text = codes "err 20 syntax\n"

abbrev pub long_line_text : List ℕ
long_line_text = codes "err 21 line\n"

abbrev pub choice_text : List ℕ
choice_text = codes "err 23 choice\n"

-- ---- replies

pub data LineReply : Type 0 where
  answered : Answer → LineReply
  synced : LineReply
  -- The numbers of free and of live blocks.
  space_of : ℕ → ℕ → LineReply
  -- The number of calls that survived a crash, and the number of calls before it.
  kept_of : ℕ → ℕ → LineReply
  -- The numbers of events, barriers and calls of the log.
  log_of : ℕ → ℕ → ℕ → LineReply
  syntax : LineReply
  long : LineReply
  -- The log does not allow such a crash.
  bad_choice : LineReply

abbrev pub listing_text : List (Kind × Name) → List ℕ
listing_text entries = flat_map entry_text entries ++ end_text

abbrev pub answer_text : Answer → List ℕ
answer_text done = done_text
answer_text (bytes content) = data_text content
answer_text (file_of size) = file_text size
answer_text (dir_of count) = dir_text count
answer_text (names entries) = listing_text entries
answer_text (links_of count) = links_text count
answer_text (attribute_of value) = attribute_text value
answer_text (refused refusal) = refusal_text refusal

abbrev pub reply_text : LineReply → List ℕ
reply_text (answered answer) = answer_text answer
reply_text synced = done_text
reply_text (space_of free live) = space_text free live
reply_text (kept_of count total) = kept_text count total
reply_text (log_of events barriers calls) = log_text events barriers calls
reply_text syntax = syntax_text
reply_text long = long_line_text
reply_text bad_choice = choice_text
