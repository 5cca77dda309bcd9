-- The lines of a script, and the command that each asks for.
use Rattle.std.specs.Prelude.{ℕ, List, [], ◌∷◌, length, map, Bool, ◌==◌, ◌&&◌, nat_le, nat_lt, bytes_eq, codes, Option, None, Some, if◌then◌else◌}
use Rattle.std.specs.List.{slice_split, join_by, list_all, list_any}
use Rattle.std.specs.Char.{is_ascii_digit}
use Rattle.std.specs.Str.Parse.{digits_value}
use Rattle.std.specs.Result.{result_ok}
use Rattle.hex.specs.Hex.{decode_of}
use Rattle.percent_encoding.specs.Percent.{percent_decode}
use Rattle.bp_limits.specs.Limits.{attributes, max_line, max_pieces, max_read}
use Rattle.bp_plain.specs.Calls.{Call, Piece}
use Rattle.bp_plain.specs.Served.{IsServed}
use Rattle.bp_plain.specs.Calls.Call.{create, mkdir, unlink, rmdir, list, stat, read, write, truncate, rename, link, links, upgrade, upgrade_to_three, snap, unsnap, snap_list, snap_stat, snap_read, batch, attribute, set_attribute}
use Rattle.bp_replay.specs.Wanted.{Wanted}
use Rattle.bp_replay.specs.Wanted.Wanted.{all, nothing, at}

pub data Command : Type 0 where
  file_call : Call → Command
  sync : Command
  -- Asks for the numbers of free and of live blocks.
  space : Command
  -- A crash at a given point, with the given stores surviving.
  crash : Wanted → Command
  -- A crash whose point and surviving stores are drawn from a seed.
  storm : ℕ → Command
  -- A crash that keeps the stores that simulated caches wrote back, in a run drawn from a seed.
  cache : ℕ → Command
  -- Asks for the numbers of events, barriers and calls of the log.
  log : Command
  -- A line that is not in the table of commands.
  bad_syntax : Command
  -- A line with too many bytes.
  too_long : Command

-- The fields of a line: the parts between single spaces.
abbrev pub words_of : List ℕ → List (List ℕ)
words_of line = slice_split (λ b. b == 32) line

-- A decoded byte of a path part. A `/` that an escape gave becomes byte 0, which no name may contain.
abbrev pub unslashed : ℕ → ℕ
unslashed b = if b == 47 then 0 else b

abbrev pub part_bytes : List ℕ → List ℕ
part_bytes part = map unslashed (percent_decode part)

-- The path that a field spells: its parts between each `/` are decoded one by one.
abbrev pub path_bytes : List ℕ → List ℕ
path_bytes word = join_by part_bytes (47 ∷ []) (slice_split (λ b. b == 47) word)

-- ---- numbers

-- Whether a field has one to twenty decimal digits. The first digits may be zeros.
abbrev pub is_numeral : List ℕ → Bool
is_numeral word = nat_le 1 (length word) && nat_le (length word) 20 && list_all is_ascii_digit word

-- The number that a field of digits spells, if it is below 2 ^ 64.
abbrev pub number_spelled : List ℕ → Option ℕ
number_spelled word =
    if is_numeral word && nat_lt (digits_value 10 word) 18446744073709551616 then Some (digits_value 10 word) else None

-- A length, if one call can read as much.
abbrev pub short_length : Option ℕ → Option ℕ
short_length (Some len) = if nat_le len max_read then Some len else None
short_length None = None

-- The length of a read that a field spells.
abbrev pub length_spelled : List ℕ → Option ℕ
length_spelled word = short_length (number_spelled word)

-- ---- bytes

-- The bytes that a field of hexadecimal digits spells, two digits of either case for each byte; `-` spells none.
abbrev pub bytes_spelled : List ℕ → Option (List ℕ)
bytes_spelled word = if bytes_eq word (codes "-") then Some [] else result_ok (decode_of word)

-- ---- the table, with paths as they are written

abbrev pub read_command : List ℕ → Option ℕ → Option ℕ → Command
read_command path (Some offset) (Some len) = file_call (read path offset len)
read_command path offset len = bad_syntax

-- A read of a file of the snapshot.
abbrev pub snap_read_command : List ℕ → Option ℕ → Option ℕ → Command
snap_read_command path (Some offset) (Some len) = file_call (snap_read path offset len)
snap_read_command path offset len = bad_syntax

-- A write. The call itself refuses an offset or bytes that are too large.
abbrev pub write_command : List ℕ → Option ℕ → Option (List ℕ) → Command
write_command path (Some offset) (Some new) = file_call (write path offset new)
write_command path offset new = bad_syntax

abbrev pub truncate_command : List ℕ → Option ℕ → Command
truncate_command path (Some size) = file_call (truncate path size)
truncate_command path None = bad_syntax

-- The number of an attribute, if there is such an attribute.
abbrev pub attribute_number : Option ℕ → Option ℕ
attribute_number (Some number) = if nat_lt number attributes then Some number else None
attribute_number None = None

abbrev pub attribute_command : List ℕ → Option ℕ → Command
attribute_command path (Some number) = file_call (attribute path number)
attribute_command path None = bad_syntax

abbrev pub set_attribute_command : List ℕ → Option ℕ → Option ℕ → Command
set_attribute_command path (Some number) (Some value) = file_call (set_attribute path number value)
set_attribute_command path number value = bad_syntax

-- A crash that keeps all stores, or only the durable ones.
abbrev pub whole_crash : List ℕ → Command
whole_crash word =
    if bytes_eq word (codes "all") then crash all
    else if bytes_eq word (codes "none") then crash nothing
    else bad_syntax

-- A crash after a given number of events, with an epoch and a mask of its stores.
abbrev pub masked_crash : Option ℕ → Option ℕ → Option (List ℕ) → Command
masked_crash (Some moment) (Some epoch) (Some mask) = crash (at moment epoch mask)
masked_crash moment epoch mask = bad_syntax

-- A piece of a batch, if its offset is a number and its bytes are hexadecimal digits.
abbrev pub piece_spelled : List ℕ → Option ℕ → Option (List ℕ) → Option Piece
piece_spelled path (Some offset) (Some bytes) = Some (record { path = path; offset = offset; bytes = bytes })
piece_spelled path offset bytes = None

abbrev pub and_pieces : Option Piece → Option (List Piece) → Option (List Piece)
and_pieces (Some piece) (Some pieces) = Some (piece ∷ pieces)
and_pieces piece pieces = None

-- The pieces that fields spell, three fields each: a path, an offset and bytes.
abbrev pub piece_words : List (List ℕ) → Option (List Piece)
piece_words [] = Some []
piece_words (path ∷ offset ∷ bytes ∷ words) =
    and_pieces (piece_spelled path (number_spelled offset) (bytes_spelled bytes)) (piece_words words)
piece_words words = None

-- A batch of 1 to `max_pieces` pieces. The call itself refuses pieces that are too large.
abbrev pub batch_of : Option (List Piece) → Command
batch_of (Some pieces) =
    if nat_le 1 (length pieces) && nat_le (length pieces) max_pieces then file_call (batch pieces) else bad_syntax
batch_of None = bad_syntax

abbrev pub storm_command : Option ℕ → Command
storm_command (Some seed) = storm seed
storm_command None = bad_syntax

abbrev pub cache_command : Option ℕ → Command
cache_command (Some seed) = cache seed
cache_command None = bad_syntax

-- An upgrade with a field. The field is `3`, the number of the new version; no other number is allowed.
abbrev pub upgrade_command : List ℕ → Command
upgrade_command word = if bytes_eq word (codes "3") then file_call upgrade_to_three else bad_syntax

-- Lines of one, of two, of three and of four fields.
abbrev pub bare_call : List ℕ → Command
bare_call verb =
    if bytes_eq verb (codes "upgrade") then file_call upgrade
    else if bytes_eq verb (codes "snap") then file_call snap
    else if bytes_eq verb (codes "unsnap") then file_call unsnap
    else bad_syntax

abbrev pub bare_command : List ℕ → Command
bare_command verb =
    if bytes_eq verb (codes "sync") then sync
    else if bytes_eq verb (codes "space") then space
    else if bytes_eq verb (codes "log") then log
    else bare_call verb

abbrev pub path_command : List ℕ → List ℕ → Command
path_command verb path =
    if bytes_eq verb (codes "create") then file_call (create path)
    else if bytes_eq verb (codes "mkdir") then file_call (mkdir path)
    else if bytes_eq verb (codes "unlink") then file_call (unlink path)
    else if bytes_eq verb (codes "rmdir") then file_call (rmdir path)
    else if bytes_eq verb (codes "list") then file_call (list path)
    else if bytes_eq verb (codes "stat") then file_call (stat path)
    else if bytes_eq verb (codes "links") then file_call (links path)
    else if bytes_eq verb (codes "slist") then file_call (snap_list path)
    else if bytes_eq verb (codes "sstat") then file_call (snap_stat path)
    else bad_syntax

-- A line of two fields. The second is a path, except after `crash`, `storm`, `cache` and `upgrade`.
abbrev pub word_command : List ℕ → List ℕ → Command
word_command verb word =
    if bytes_eq verb (codes "crash") then whole_crash word
    else if bytes_eq verb (codes "storm") then storm_command (number_spelled word)
    else if bytes_eq verb (codes "cache") then cache_command (number_spelled word)
    else if bytes_eq verb (codes "upgrade") then upgrade_command word
    else path_command verb word

abbrev pub pair_command : List ℕ → List ℕ → List ℕ → Command
pair_command verb first second =
    if bytes_eq verb (codes "truncate") then truncate_command first (number_spelled second)
    else if bytes_eq verb (codes "rename") then file_call (rename first second)
    else if bytes_eq verb (codes "link") then file_call (link first second)
    else if bytes_eq verb (codes "attr") then attribute_command first (attribute_number (number_spelled second))
    else bad_syntax

abbrev pub long_command : List ℕ → List ℕ → List ℕ → List ℕ → Command
long_command verb first second third =
    if bytes_eq verb (codes "read") then read_command first (number_spelled second) (length_spelled third)
    else if bytes_eq verb (codes "write") then write_command first (number_spelled second) (bytes_spelled third)
    else if bytes_eq verb (codes "crash") then masked_crash (number_spelled first) (number_spelled second)
    (bytes_spelled third)
    else if bytes_eq verb (codes "sread") then snap_read_command first (number_spelled second) (length_spelled third)
    else if bytes_eq verb (codes "setattr") then set_attribute_command first (attribute_number (number_spelled second))
    (number_spelled third)
    else bad_syntax

-- The command of a verb and the fields after it, by their number.
abbrev pub row_command : List ℕ → List (List ℕ) → Command
row_command verb [] = bare_command verb
row_command verb (word ∷ []) = word_command verb word
row_command verb (first ∷ second ∷ []) = pair_command verb first second
row_command verb (first ∷ second ∷ third ∷ []) = long_command verb first second third
row_command verb words = bad_syntax

-- The table of commands, by the fields of a line. The functions above have the verbs with no field,
-- with one, two and three. Only `batch` has more: PATH, OFF and HEX, 1 to 16 times.
abbrev pub command_by_words : List (List ℕ) → Command
command_by_words (verb ∷ words) =
    if bytes_eq verb (codes "batch") then batch_of (piece_words words) else row_command verb words
command_by_words [] = bad_syntax

-- ---- the command of a line

-- The mask of a command; empty for a command without one.
abbrev pub mask_in : Command → List ℕ
mask_in (crash (at moment epoch mask)) = mask
mask_in command = []

abbrev pub is_empty_word : List ℕ → Bool
is_empty_word word = length word == 0

-- The command of fields: a row of the table, if none of them is empty.
abbrev pub asked_by : List (List ℕ) → Command
asked_by words = if list_any is_empty_word words then bad_syntax else command_by_words words

-- The command of a line in the table, with paths as they are written.
abbrev pub written_command : List ℕ → Command
written_command line = asked_by (words_of line)

-- A piece with its path decoded.
abbrev pub decoded_piece : Piece → Piece
decoded_piece piece = record piece { path = path_bytes piece.path }

-- A call with its paths decoded.
abbrev pub decoded_call : Call → Call
decoded_call (create path) = create (path_bytes path)
decoded_call (mkdir path) = mkdir (path_bytes path)
decoded_call (unlink path) = unlink (path_bytes path)
decoded_call (rmdir path) = rmdir (path_bytes path)
decoded_call (list path) = list (path_bytes path)
decoded_call (stat path) = stat (path_bytes path)
decoded_call (read path offset len) = read (path_bytes path) offset len
decoded_call (write path offset new) = write (path_bytes path) offset new
decoded_call (truncate path size) = truncate (path_bytes path) size
decoded_call (rename from to) = rename (path_bytes from) (path_bytes to)
decoded_call (link from to) = link (path_bytes from) (path_bytes to)
decoded_call (links path) = links (path_bytes path)
decoded_call (snap_list path) = snap_list (path_bytes path)
decoded_call (snap_stat path) = snap_stat (path_bytes path)
decoded_call (snap_read path offset len) = snap_read (path_bytes path) offset len
decoded_call (attribute path number) = attribute (path_bytes path) number
decoded_call (set_attribute path number value) = set_attribute (path_bytes path) number value
decoded_call (batch pieces) = batch (map decoded_piece pieces)
-- The other calls have no path.
decoded_call call = call

abbrev pub decoded : Command → Command
decoded (file_call call) = file_call (decoded_call call)
decoded command = command

-- The command of a batch with these fields.
abbrev pub asked_batch : List (List ℕ) → Command
asked_batch words = decoded (asked_by (codes "batch" ∷ words))

-- The command of a line in the table, with paths decoded.
abbrev pub in_grammar : List ℕ → Command
in_grammar line = decoded (written_command line)

-- A volume carries out the call of a command, if the command has one.
abbrev pub IsServedCommand : Command → Type 0
IsServedCommand (file_call call) = IsServed call
IsServedCommand command = Unit {0}

-- The command of any line.
abbrev pub command_of : List ℕ → Command
command_of line = if nat_lt max_line (length line) then too_long else in_grammar line
