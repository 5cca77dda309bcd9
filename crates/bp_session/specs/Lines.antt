-- The lines of an input, and the commands that they ask for.
use Rattle.std.specs.Prelude.{◌≡◌, ℕ, List, [], ◌∷◌, ◌++◌, map, flat_map, if◌then◌else◌}
use Rattle.std.proofs.Common.{nat_eq}
use Rattle.bp_script.specs.Commands.{Command, command_of}
use Rattle.bp_script.specs.Texts.{LineReply, reply_text}

-- The line that ends the input without a newline, unless it is empty.
abbrev pub last_line : List ℕ → List (List ℕ)
last_line [] = []
last_line (b ∷ bytes) = (b ∷ bytes) ∷ []

-- The lines of the bytes read of a line, followed by this input; each without its newline, byte 10.
abbrev pub lines_from : List ℕ → List ℕ → List (List ℕ)
lines_from held [] = last_line held
lines_from held (b ∷ bytes) = if nat_eq b 10 then held ∷ lines_from [] bytes else lines_from (held ++ b ∷ []) bytes

-- The commands of the bytes read of a line, followed by this input.
unfoldable pub commands_from : List ℕ → List ℕ → List Command
commands_from held input = map command_of (lines_from held input)

-- These bytes end no line: if the first list was read of a line before them, the second was read of it after them.
abbrev pub EndsNoLine : List ℕ → List ℕ → List ℕ → Type 0
EndsNoLine held bytes held_now = (rest : List ℕ) → commands_from held (bytes ++ rest) ≡ commands_from held_now rest

-- The texts of replies, one after the other.
unfoldable pub text_of : List LineReply → List ℕ
text_of replies = flat_map reply_text replies
