-- The lines of calls, and the script that makes an abstract tree.
use Rattle.std.specs.Prelude.{◌≡◌, ◌≤◌, ◌<◌, ◌^◌, ◌==◌, ◌&&◌, ℕ, List, [], ◌∷◌, ◌++◌, length, map, flat_map, not, true, codes, decimal, if◌then◌else◌}
use Rattle.std.specs.List.{list_all}
use Rattle.percent_encoding.specs.Percent.{percent_encode_byte}
use Rattle.bp_limits.specs.Limits.{attributes, max_line, max_read, max_text}
use Rattle.bp_plain.specs.Calls.{Call}
use Rattle.bp_plain.specs.Calls.Call.{create, mkdir, unlink, rmdir, list, stat, read, write, truncate, rename, link, links, upgrade, upgrade_to_three, snap, unsnap, snap_list, snap_stat, snap_read, batch, attribute, set_attribute}
use Rattle.bp_plain.specs.Export.{are_bytes, export_calls}
use Rattle.bp_plain.specs.PlainTree.{FileTree}
use Rattle.bp_script.specs.Commands.{command_of}
use Rattle.bp_script.specs.Commands.Command.{file_call}
use Rattle.bp_script.specs.Texts.{digits_or_dash, is_escaped}

-- The field of a path: each byte except `/` is written as in the text of a name.
abbrev pub path_word : List ℕ → List ℕ
path_word text = flat_map (λ b. if is_escaped b && not (b == 47) then percent_encode_byte b else b ∷ []) text

-- The line that asks for a call.
abbrev pub call_line : Call → List ℕ
call_line (create text) = codes "create " ++ path_word text
call_line (mkdir text) = codes "mkdir " ++ path_word text
call_line (unlink text) = codes "unlink " ++ path_word text
call_line (rmdir text) = codes "rmdir " ++ path_word text
call_line (list text) = codes "list " ++ path_word text
call_line (stat text) = codes "stat " ++ path_word text
call_line (read text offset len) = codes "read " ++ path_word text ++ codes " " ++ decimal offset ++ codes " " ++ decimal len
call_line (write text offset new) =
    codes "write " ++ path_word text ++ codes " " ++ decimal offset ++ codes " " ++ digits_or_dash new
call_line (truncate text size) = codes "truncate " ++ path_word text ++ codes " " ++ decimal size
call_line (rename from to) = codes "rename " ++ path_word from ++ codes " " ++ path_word to
call_line (link from to) = codes "link " ++ path_word from ++ codes " " ++ path_word to
call_line (links text) = codes "links " ++ path_word text
call_line upgrade = codes "upgrade"
call_line upgrade_to_three = codes "upgrade 3"
call_line snap = codes "snap"
call_line unsnap = codes "unsnap"
call_line (snap_list text) = codes "slist " ++ path_word text
call_line (snap_stat text) = codes "sstat " ++ path_word text
call_line (snap_read text offset len) =
    codes "sread " ++ path_word text ++ codes " " ++ decimal offset ++ codes " " ++ decimal len
call_line (attribute text number) = codes "attr " ++ path_word text ++ codes " " ++ decimal number
call_line (set_attribute text number value) =
    codes "setattr " ++ path_word text ++ codes " " ++ decimal number ++ codes " " ++ decimal value
-- The line of a batch is not defined.
call_line (batch pieces) = []

-- ---- the calls that can be spelled

-- A text that a field can spell: one or more bytes.
pub record IsWord (text : List ℕ) : Type 0 where
  pub some : 1 ≤ length text
  pub bytes : are_bytes text ≡ true

-- A call that a line can spell: its paths are not empty and consist of bytes, its numbers are below 2 ^ 64, a read is
-- of at most `max_read` bytes, and the number of an attribute is below `attributes`. A batch is none.
abbrev pub IsSpelled : Call → Type 0
IsSpelled (create text) = IsWord text
IsSpelled (mkdir text) = IsWord text
IsSpelled (unlink text) = IsWord text
IsSpelled (rmdir text) = IsWord text
IsSpelled (list text) = IsWord text
IsSpelled (stat text) = IsWord text
IsSpelled (read text offset len) = IsWord text × (offset < 2 ^ 64) × (len ≤ max_read)
IsSpelled (write text offset new) = IsWord text × (offset < 2 ^ 64) × (are_bytes new ≡ true)
IsSpelled (truncate text size) = IsWord text × (size < 2 ^ 64)
IsSpelled (rename from to) = IsWord from × IsWord to
IsSpelled (link from to) = IsWord from × IsWord to
IsSpelled (links text) = IsWord text
IsSpelled upgrade = Unit {0}
IsSpelled upgrade_to_three = Unit {0}
IsSpelled snap = Unit {0}
IsSpelled unsnap = Unit {0}
IsSpelled (snap_list text) = IsWord text
IsSpelled (snap_stat text) = IsWord text
IsSpelled (snap_read text offset len) = IsWord text × (offset < 2 ^ 64) × (len ≤ max_read)
IsSpelled (attribute text number) = IsWord text × (number < attributes)
IsSpelled (set_attribute text number value) = IsWord text × (number < attributes) × (value < 2 ^ 64)
IsSpelled (batch pieces) = ⊥

-- The line of the call is at most as long as a line may be.
abbrev pub FitsLine : Call → Type 0
FitsLine call = length (call_line call) ≤ max_line

-- A call of an export whose line, with its newline, fits into the room of a reply.
abbrev pub FitsText : Call → Type 0
FitsText (create text) = length (call_line (create text)) < max_text
FitsText (mkdir text) = length (call_line (mkdir text)) < max_text
FitsText (write text offset new) = length (call_line (write text offset new)) < max_text
FitsText (truncate text size) = length (call_line (truncate text size)) < max_text
FitsText (link from to) = length (call_line (link from to)) < max_text
FitsText (set_attribute text number value) = length (call_line (set_attribute text number value)) < max_text
FitsText call = ⊥

-- No byte of the line is a newline, byte 10.
abbrev pub IsOneLine : List ℕ → Type 0
IsOneLine line = list_all (λ b. not (b == 10)) line ≡ true

-- Each of these calls is the command of its line.
abbrev pub AreRead : List Call → Type 0
AreRead calls = map (λ call. command_of (call_line call)) calls ≡ map file_call calls

-- The lines of calls, each with its newline.
abbrev pub call_lines : List Call → List ℕ
call_lines calls = flat_map (λ call. call_line call ++ codes "\n") calls

-- The script that makes the tree.
abbrev pub export_text : FileTree → List ℕ
export_text tree = call_lines (export_calls tree)
